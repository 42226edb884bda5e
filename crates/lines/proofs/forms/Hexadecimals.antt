-- Eight hexadecimal digits make a pattern of 32 bits, and are read as a formula's. Assumes nothing.
use Rattle.std.specs.Prelude.{Some, None, Ok, Err}
use mathlib.Core.Path.{◌≡◌, refl, sym, ap, subst, ◌∙◌}
use mathlib.Core.Bool.{Bool, true, false, ◌&&◌, cond}
use mathlib.Core.List.{List, [], ◌∷◌}
use Prim.Native.Nat.{ℕ, suc, ◌+◌, ◌-◌, ◌*◌, ◌^◌, ◌≤◌, ◌<◌}
use native.Mathlib.Nat.{lt_of_lt_of_le, mul-le-mul_right, mul_assoc, mul-one, one-mul, pow-succ'}
use native.Mathlib.Omega.{arith}
use lib.Dec.{eqb}
use lib.ListN.{length, get_or, take, drop, length-drop}
use lib.Seq.{take_all}
use borrow.Author.Tests.{eq-eqb, eqb-true}
use Rattle.values.specs.declared.Value.TheVariants.{Int}
use Rattle.values.specs.Patterns.{signed_of}
use Rattle.values.proofs.patterns.Readings.{low_signed}
use Rattle.words.proofs.Tests.{both}
use Rattle.tokens.specs.declared.Token.TheVariants.{Number}
use Rattle.tokens.specs.Bytes.{all, is_hex}
use Rattle.tokens.specs.Numerals.{non_empty, hex_digit, hex_from, hex_of, is_hex_run}
use Rattle.tokens.proofs.Tests.{hex-small}
use Rattle.lines.specs.Forms.{hex_form}
use Rattle.lines.specs.private.Steps.{scanned_form}
use Rattle.lines.proofs.forms.Integers.{picked}

-- ---- digits after those that make n
bound : (n : ℕ) (cs : List ℕ) → all is_hex cs ≡ true → hex_from n cs < (n + 1) * 16 ^ length cs
bound n [] e = rw mul-one (omega arith)
bound n (c ∷ cs) e =
    let h = both (is_hex c) (all is_hex cs) e in
    let d : n * 16 + hex_digit c + 1 ≤ (n + 1) * 16 = omega (arith, hex-small c h.0) in
    rw (pow-succ', ← mul_assoc) (lt_of_lt_of_le (bound (n * 16 + hex_digit c) cs h.1) (mul-le-mul_right (16 ^ length cs) d))

eight : (cs : List ℕ) → length cs ≡ 8 → all is_hex cs ≡ true → hex_from 0 cs < 2 ^ 32
eight cs l e = rw (one-mul, l) at (bound 0 cs e)

some_of : (cs : List ℕ) → 0 < length cs → non_empty cs ≡ true
some_of [] h = absurd (omega arith)
some_of (c ∷ cs) h = refl

-- ---- the digits after `0x`
digits : (cs : List ℕ) → length cs ≡ 8 → scanned_form (hex_of cs) ≡ cond (all is_hex cs) (Some (hex_from 0 cs)) None
digits cs l = rw (some_of cs (omega arith), l) (by (all is_hex cs) refl)
  where
    by : (t : Bool) → all is_hex cs ≡ t
        → scanned_form (cond t (Ok (Number (Int (signed_of 32 (hex_from 0 cs))))) (Err 4)) ≡ cond t (Some (hex_from 0 cs)) None
    by true e = ap Some (low_signed 32 (hex_from 0 cs) (eight cs l e))
    by false e = refl

-- ---- the text
shape : (s : List ℕ) → 2 ≤ length s → get_or s 0 0 ≡ 48 → get_or s 1 0 ≡ 120 → s ≡ 48 ∷ 120 ∷ drop 2 s
shape [] l a b = absurd (omega arith)
shape (c ∷ []) l a b = absurd (omega arith)
shape (c ∷ d ∷ cs) l a b = cc

-- the digits to the end
rest : (s : List ℕ) → take (length s - 2) (drop 2 s) ≡ drop 2 s
rest s = take_all (length s - 2) (drop 2 s) (rw length-drop (omega arith))

pub pattern : (s : List ℕ) → 2 ≤ length s → get_or s 0 0 ≡ 48 → get_or s 1 0 ≡ 120 → length (take (length s - 2) (drop 2 s)) ≡ 8
    → scanned_form (hex_of (take (length s - 2) (drop 2 s))) ≡ hex_form s
pattern s m a b k =
    let n : length (drop 2 s) ≡ 8 = ap length (sym (rest s)) ∙ k in
    let e = shape s m a b in
    let t : eqb (suc (suc (length (drop 2 s)))) 10 ≡ true = eq-eqb (suc (suc (length (drop 2 s)))) 10 (omega arith) in
    ap (λ (x : List ℕ). scanned_form (hex_of x)) (rest s) ∙ subst (λ (x : List ℕ). scanned_form (hex_of (drop 2 x)) ≡ hex_form x) (sym e)
    (rw t (digits (drop 2 s) n))

pub below : (cs : List ℕ) (n : ℕ) → hex_form cs ≡ Some n → n < 2 ^ 32
below cs n e =
    let h = picked (is_hex_run cs && eqb (length cs) 10 && all is_hex (drop 2 cs)) (hex_from 0 (drop 2 cs)) n (sym e) in
    let g = both (is_hex_run cs && eqb (length cs) 10) (all is_hex (drop 2 cs)) h.0 in
    let k = eqb-true (length cs) 10 (both (is_hex_run cs) (eqb (length cs) 10) g.0).1 in
    subst (λ (x : ℕ). x < 2 ^ 32) h.1 (eight (drop 2 cs) (rw length-drop (omega (arith, k))) g.1)
