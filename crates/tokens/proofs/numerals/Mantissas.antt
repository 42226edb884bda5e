-- A mantissa at the front of some bytes: how it is found, and what the rules for numerals make of it and of what follows it.
use Rattle.std.specs.Prelude.{Result, Err}
use mathlib.Core.Path.{◌≡◌, refl, sym, ap, ◌∙◌}
use mathlib.Core.Bool.{true, false, cond, and-false, or-true}
use mathlib.Core.List.{List, [], ◌∷◌, ◌++◌, append_assoc}
use Prim.Native.Nat.{ℕ, zero, suc, ◌+◌}
use native.Mathlib.Omega.{arith}
use lib.Dec.{eqb}
use lib.ListN.{length, get_or, take, drop, length-append}
use lib.Seq.{drop-append_seam}
use borrow.Author.Tests.{ne_eqb}
use Rattle.memory.specs.Names.{is_digit, all_digits, digits_of, decimal_value}
use Rattle.memory.proofs.names.Decimals.{digit-range}
use Rattle.tokens.specs.Bytes.{is_run, all}
use Rattle.tokens.specs.Numerals.{non_empty, decimal_digits, is_hex_run, behind_digits, has_part}
use Rattle.tokens.specs.Numerals.{fraction_digits, behind_mantissa, is_exponent, is_negative, exponent_size, literal_of, real_of}
use Rattle.tokens.specs.Numerals.{numeral_of, tail_len, numeral_len}
use Rattle.tokens.proofs.Tests.{by-test, both, no}
use Rattle.tokens.specs.declared.Token.{Token}

-- ---- digits
pub digits_of_lem : (ds x : List ℕ) → all_digits ds ≡ true → is_digit (get_or x 0 0) ≡ false → digits_of (ds ++ x) ≡ ds
digits_of_lem [] [] e f = refl
digits_of_lem [] (c ∷ cs) e f = rw f
digits_of_lem (d ∷ ds) x e f = let h = both (is_digit d) (all_digits ds) e in rw (h.0, digits_of_lem ds x h.1 f)

behind-of : (ds x : List ℕ) → all_digits ds ≡ true → is_digit (get_or x 0 0) ≡ false → behind_digits (ds ++ x) ≡ x
behind-of ds x e f = ap (λ (k : List ℕ). drop (length k) (ds ++ x)) (digits_of_lem ds x e f) ∙ drop-append_seam ds x

pub digits-stop : (cs : List ℕ) → is_digit (get_or (behind_digits cs) 0 0) ≡ false
digits-stop [] = refl
digits-stop (c ∷ cs) = by-test (is_digit c) (λ e. rw e (digits-stop cs)) (λ e. rw (e, e))

every : (ds : List ℕ) → decimal_digits ds ≡ true → all_digits ds ≡ true
every ds e = (both (non_empty ds) (all_digits ds) e).1

pub runs : (ds : List ℕ) → all_digits ds ≡ true → all is_run ds ≡ true
runs [] e = refl
runs (d ∷ ds) e = let h = both (is_digit d) (all_digits ds) e in rw (h.0, or-true, runs ds h.1)

-- ---- a mantissa and what follows it
-- m is the digits ds, or ds, a dot and the digits ps; x does not go on with it
pub data Splits (m ds ps x : List ℕ) : Type 0 where
  whole : m ≡ ds → ps ≡ [] → decimal_digits ds ≡ true → is_digit (get_or x 0 0) ≡ false → has_part x ≡ false → Splits m ds ps x
  dotted : m ≡ ds ++ (46 ∷ ps) → decimal_digits ds ≡ true → decimal_digits ps ≡ true → is_digit (get_or x 0 0) ≡ false → Splits m ds ps x

-- how the rules split the bytes cs
pub record Parts (cs ds ps x : List ℕ) : Type 0 where
  pub digits : digits_of cs ≡ ds
  pub part : fraction_digits cs ≡ ps
  pub rest : behind_mantissa cs ≡ x

has_part_lem : (ps x : List ℕ) → decimal_digits ps ≡ true → is_digit (get_or x 0 0) ≡ false → has_part (46 ∷ (ps ++ x)) ≡ true
has_part_lem ps x e f = rw (digits_of_lem ps x (every ps e) f) (both (non_empty ps) (all_digits ps) e).0

pub parts : {m ds ps x : List ℕ} → Splits m ds ps x → Parts (m ++ x) ds ps x
parts {m} {ds} {ps} {x} (whole q z e f n) =
    let b = behind-of ds x (every ds e) f in
    rw (q, z) (record { digits = digits_of_lem ds x (every ds e) f; part = rw (b, n); rest = rw (b, n) })
parts {m} {ds} {ps} {x} (dotted q e g f) =
    let b : behind_digits (ds ++ (46 ∷ (ps ++ x))) ≡ 46 ∷ (ps ++ x) = behind-of ds (46 ∷ (ps ++ x)) (every ds e) refl in
    let h = has_part_lem ps x g f in
    rw (q, append_assoc ds (46 ∷ ps) x) (record {
      digits = digits_of_lem ds (46 ∷ (ps ++ x)) (every ds e) refl;
      part = rw (b, h, digits_of_lem ps x (every ps g) f);
      rest = rw (b, h, behind-of ps x (every ps g) f);
    })

-- ---- as much of what follows as belongs to the run
first-kept : (k : ℕ) (x : List ℕ) → is_digit (get_or x 0 0) ≡ false → is_digit (get_or (take k x) 0 0) ≡ false
first-kept zero x f = refl
first-kept (suc k) [] f = refl
first-kept (suc k) (c ∷ cs) f = f

no-digits : (k : ℕ) (x : List ℕ) → non_empty (digits_of x) ≡ false → non_empty (digits_of (take k x)) ≡ false
no-digits zero x f = refl
no-digits (suc k) [] f = refl
no-digits (suc k) (c ∷ cs) f = by-test (is_digit c) (λ e. no (sym (rw e at f))) (λ e. rw e)

no_part : (k : ℕ) (x : List ℕ) → has_part x ≡ false → has_part (take k x) ≡ false
no_part zero x f = refl
no_part (suc k) [] f = refl
no_part (suc k) (c ∷ cs) f = by-test (eqb c 46) (λ e. rw (e, no-digits k cs (rw e at f))) (λ e. rw e)

pub shorter : {m ds ps x : List ℕ} (k : ℕ) → Splits m ds ps x → Splits m ds ps (take k x)
shorter {x = x} k (whole q z e f n) = whole q z e (first-kept k x f) (no_part k x n)
shorter {x = x} k (dotted q e g f) = dotted q e g (first-kept k x f)

pub take_past : (m x : List ℕ) (k : ℕ) → take (length m + k) (m ++ x) ≡ m ++ take k x
take_past [] x k = ap (λ (i : ℕ). take i x) (let z : 0 + k ≡ k = omega arith in z)
take_past (c ∷ m) x k =
    let z : suc (length m) + k ≡ suc (length m + k) = omega arith in
    rw z (ap (λ (l : List ℕ). c ∷ l) (take_past m x k))

module _ {m ds ps x : List ℕ} (s : Splits m ds ps x) where
  pub length-is : numeral_len (m ++ x) ≡ length m + tail_len x
  length-is = rw ((parts s).rest, length-append) (omega arith)

  pub run_is : take (numeral_len (m ++ x)) (m ++ x) ≡ m ++ take (tail_len x) x
  run_is = rw length-is (take_past m x (tail_len x))

-- ---- neither decimal nor hexadecimal
pub not-all : (ds : List ℕ) (c : ℕ) (x : List ℕ) → is_digit c ≡ false → all_digits (ds ++ (c ∷ x)) ≡ false
not-all [] c x f = rw f
not-all (d ∷ ds) c x f = rw (not-all ds c x f, and-false)

not-hex : (ds : List ℕ) (c : ℕ) (x : List ℕ) → decimal_digits ds ≡ true → eqb c 120 ≡ false → is_hex_run (ds ++ (c ∷ x)) ≡ false
not-hex [] c x e n = no e
not-hex (d ∷ []) c x e n = rw (n, and-false)
not-hex (d ∷ b ∷ ds) c x e n =
    let h = digit-range b (both (is_digit b) (all_digits ds) (both (is_digit d) (all_digits (b ∷ ds)) e).1).0 in
    rw (ne_eqb b 120 (λ q. omega arith), and-false)

-- a literal of these digits and this exponent
abbrev pub literal : List ℕ → List ℕ → List ℕ → Result Token ℕ
literal ds ps x = cond (is_exponent x) (literal_of (decimal_value (ds ++ ps)) (length (ds ++ ps)) (length ps) (is_negative x) (exponent_size x)) (Err 4)

pub real-is : {cs ds ps x : List ℕ} → Parts cs ds ps x → real_of cs ≡ literal ds ps x
real-is {cs} {ds} {ps} p =
    ap (λ (l : List ℕ). literal l (fraction_digits cs) (behind_mantissa cs)) p.digits ∙ ap (λ (l : List ℕ). literal ds l (behind_mantissa cs)) p.part
    ∙ ap (literal ds ps) p.rest

pub numeral-is : {cs ds ps x : List ℕ} → Parts cs ds ps x → decimal_digits cs ≡ false → is_hex_run cs ≡ false → numeral_of cs ≡ literal ds ps x
numeral-is p n h = rw (n, h) (real-is p)

pub dotted-is : (m ds ps x : List ℕ) → Parts (m ++ x) ds ps x → m ≡ ds ++ (46 ∷ ps) → decimal_digits ds ≡ true → numeral_of (m ++ x) ≡ literal ds ps x
dotted-is m ds ps x p q e =
    let a : m ++ x ≡ ds ++ (46 ∷ (ps ++ x)) = rw (q, append_assoc) in
    numeral-is p (rw (a, not-all ds 46 (ps ++ x) refl, and-false)) (rw (a, not-hex ds 46 (ps ++ x) e refl))

-- x begins with c, which is no digit and not `x`
pub followed-is : {m ds ps : List ℕ} (c : ℕ) (x : List ℕ) → Splits m ds ps (c ∷ x) → eqb c 120 ≡ false → numeral_of (m ++ (c ∷ x)) ≡ literal ds ps (c ∷ x)
followed-is {m} {ds} c x (whole q z e f n) k =
    numeral-is (parts (whole q z e f n)) (rw (q, not-all ds c x f, and-false)) (rw (q, not-hex ds c x e k))
followed-is {m} {ds} {ps} c x (dotted q e g f) k = dotted-is m ds ps (c ∷ x) (parts (dotted q e g f)) q e
