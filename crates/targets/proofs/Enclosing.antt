-- The bank of a text of the form `bank[..]`, test by test.
use Rattle.std.specs.Prelude.{Some, None}
use mathlib.Core.Path.{◌≡◌, refl, ◌∙◌}
use mathlib.Core.Bool.{Bool, true, false, ◌&&◌, cond, and-false}
use mathlib.Core.List.{List, [], ◌∷◌}
use Prim.Native.Nat.{ℕ, ◌-◌, ◌≤◌, ◌<◌}
use native.Mathlib.Decide.{dec_lt}
use native.Mathlib.Omega.{arith}
use lib.Dec.{eqb, leb}
use lib.ListN.{length, get_or}
use borrow.Author.Tests.{le-leb, lt-leb, eq-eqb, ne_eqb, eqb-true}
use Rattle.words.specs.Ascii.{byte}
use Rattle.memory.specs.declared.Bank.{Bank}
use Rattle.memory.specs.Names.{letter_bank}
use Rattle.text.specs.Targets.{stored_bank, is_enclosed}
use Rattle.targets.specs.Found.{enclosed_bank}

-- one byte is not both brackets
both : (c : ℕ) (t : Bool) → eqb c (byte "[") ≡ t → (t && eqb c (byte "]")) ≡ false
both c true e = let z = eqb-true c (byte "[") e in ne_eqb c (byte "]") (λ q. omega arith)
both c false e = refl

no-brackets : (s : List ℕ) → length s < 3 → is_enclosed s ≡ false
no-brackets [] h = refl
no-brackets (a ∷ []) h = refl
no-brackets (a ∷ c ∷ []) h = both c (eqb c (byte "[")) refl
no-brackets (a ∷ c ∷ d ∷ s) h = absurd (omega arith)

module _ (s : List ℕ) where
  unenclosed : is_enclosed s ≡ false → None ≡ enclosed_bank s
  unenclosed e = rw (e, and-false (leb (length s) 1024))

  pub too_long : 1024 < length s → None ≡ enclosed_bank s
  too_long h = rw (lt-leb (length s) 1024 h)

  pub too_short : length s < 3 → None ≡ enclosed_bank s
  too_short h = unenclosed (no-brackets s h)

  pub unopened : (get_or s 1 0 ≡ byte "[" → ⊥) → None ≡ enclosed_bank s
  unopened h = unenclosed (rw (ne_eqb (get_or s 1 0) (byte "[") h))

  pub unclosed : (get_or s (length s - 1) 0 ≡ byte "]" → ⊥) → None ≡ enclosed_bank s
  unclosed h = unenclosed (rw (ne_eqb (get_or s (length s - 1) 0) (byte "]") h, and-false (eqb (get_or s 1 0) (byte "["))))

  pub enclosed : length s ≤ 1024 → get_or s 1 0 ≡ byte "[" → get_or s (length s - 1) 0 ≡ byte "]" → stored_bank (letter_bank (get_or s 0 0)) ≡ enclosed_bank s
  enclosed h a z = rw (le-leb (length s) 1024 h, eq-eqb (get_or s 1 0) (byte "[") a, eq-eqb (get_or s (length s - 1) 0) (byte "]") z)

  -- a bank is found only where something may stand between the brackets
  pub long-enough : {b : Bank} → enclosed_bank s ≡ Some b → 3 ≤ length s
  long-enough {b} e = by (dec_lt (length s) 3)
    where
      by : Dec (length s < 3) → 3 ≤ length s
      by (yes h) = let f = too_short h ∙ e in let z : ◌≡◌ {A = ℕ} 0 1 = cc in absurd (omega arith)
      by (no h) = omega arith
