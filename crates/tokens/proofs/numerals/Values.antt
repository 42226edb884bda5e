-- The value of a real literal: it is the decimal, rounded, and at most nine digits and an exponent of at most 20 give a finite single.
use Rattle.std.specs.Prelude.{Result, Ok, Err}
use mathlib.Core.Path.{◌≡◌, refl, sym, ap, subst}
use mathlib.Core.Bool.{Bool, true, false, ◌&&◌, cond}
use mathlib.Core.List.{List, [], ◌∷◌}
use Prim.Native.Nat.{ℕ, zero, suc, ◌+◌, ◌-◌, ◌^◌, ◌≤◌, ◌<◌}
use native.Mathlib.Omega.{arith}
use native.Mathlib.Nat.{lt_of_lt_of_le}
use lib.Dec.{leb, ltb, lit<, lit≤}
use lib.IntN.{ℤ, pos, negsuc, sub_ℕ, ◌-ℤ◌}
use lib.Ieee.{Float}
use lib.ListN.{length, drop}
use borrow.Author.Tests.{le-leb, lt-ltb, ltb-true}
use Rattle.reals.specs.Singles.{Single}
use Rattle.reals.specs.Rounding.{Rounds}
use Rattle.values.specs.declared.Value.{Value}
use Rattle.values.specs.declared.Value.TheVariants.{Int, Real}
use Rattle.values.specs.Patterns.{signed_of}
use Rattle.literals.specs.Literals.{scaled_decimal, nearest_decimal, is_scale}
use Rattle.literals.proofs.Laws.{literal-laws}
use Rattle.memory.specs.Names.{is_digit, all_digits, decimal_value}
use Rattle.tokens.specs.declared.Token.TheVariants.{Number}
use Rattle.tokens.specs.Bytes.{is_hex, all}
use Rattle.tokens.specs.Numerals.{non_empty, decimal_digits, hex_from, is_hex_run, behind_mantissa, is_exponent, mantissa_digits, exponent_size, scale_of}
use Rattle.tokens.specs.Numerals.{literal_number, literal_scale, real_of, numeral_of}
use Rattle.tokens.proofs.Tests.{by-test, both, digit-small}
use Rattle.tokens.proofs.Readings.{decimals, below}
use Rattle.tokens.specs.declared.Token.{Token}

-- ---- a run that is real is its literal
differ : {z : ℤ} {x : Float} → ◌≡◌ {A = Result Token ℕ} (Ok (Number (Int z))) (Ok (Number (Real x))) → ⊥
differ q = let z : ◌≡◌ {A = ℕ} 0 1 = cc in omega arith

no-real : {a : ℕ} {x : Float} → Err a ≡ Ok (Number (Real x)) → ⊥
no-real q = let z : ◌≡◌ {A = ℕ} 0 1 = cc in omega arith

module _ (w : List ℕ) (x : Float) where
  literal-is : real_of w ≡ Ok (Number (Real x)) → nearest_decimal (literal_number w) (literal_scale w) ≡ x
  literal-is = by (is_exponent (behind_mantissa w)) (leb (length (mantissa_digits w)) 9 && leb (exponent_size (behind_mantissa w)) 20)
    where
      by : (s t : Bool) → cond {A = Result Token ℕ} s (cond t (Ok (Number (Real (nearest_decimal (literal_number w) (literal_scale w))))) (Err 5)) (Err 4)
          ≡ Ok (Number (Real x)) → nearest_decimal (literal_number w) (literal_scale w) ≡ x
      by true true q = cc
      by true false q = absurd (no-real q)
      by false t q = absurd (no-real q)

  no-hex : (z : ℤ) (s t : Bool) → cond {A = Result Token ℕ} s (cond t (Ok (Number (Int z))) (Err 5)) (Err 4) ≡ Ok (Number (Real x)) → ⊥
  no-hex z true true q = differ q
  no-hex z true false q = no-real q
  no-hex z false t q = no-real q

  no-decimal : (z : ℤ) (t : Bool) → cond {A = Result Token ℕ} t (Ok (Number (Int z))) (Err 5) ≡ Ok (Number (Real x)) → ⊥
  no-decimal z true q = differ q
  no-decimal z false q = no-real q

  is-literal : numeral_of w ≡ Ok (Number (Real x)) → nearest_decimal (literal_number w) (literal_scale w) ≡ x
  is-literal q =
      by-test (decimal_digits w) (λ e. absurd (no-decimal (pos (decimal_value w)) (leb (decimal_value w) 2147483647) (rw e at q)))
      (λ e. by-test (is_hex_run w) (λ h. absurd (no-hex (signed_of 32 (hex_from 0 (drop 2 w))) (non_empty (drop 2 w) && all is_hex (drop 2 w))
      (leb (length (drop 2 w)) 8) (rw (e, h) at q))) (λ h. literal-is (rw (e, h) at q)))

pub real_literal : (w : List ℕ) (x : Float) → numeral_of w ≡ Ok (Number (Real x)) → Rounds (scaled_decimal (literal_number w) (literal_scale w)) x
real_literal w x q = subst (Rounds (scaled_decimal (literal_number w) (literal_scale w))) (is-literal w x q)
    (literal-laws.rounds (literal_number w) (literal_scale w))

-- ---- the number of at most nine digits
pub as-all : (ds : List ℕ) → all_digits ds ≡ true → all is_digit ds ≡ true
as-all [] e = refl
as-all (d ∷ ds) e = let h = both (is_digit d) (all_digits ds) e in rw (h.0, as-all ds h.1)

pub nine-digits : (ds : List ℕ) → all_digits ds ≡ true → length ds ≤ 9 → decimal_value ds < 2 ^ 32
nine-digits ds e h = lt_of_lt_of_le (below decimals digit-small 9 ds (lit< tt) (as-all ds e) h) (lit≤ tt)

-- ---- the scale of an exponent of at most 20 and at most eight digits behind the dot
at_least : (n : ℕ) → n ≤ 27 → is_scale (negsuc n) ≡ true
at_least n h = rw (le-leb n 27 h)

at_most : (n : ℕ) → n ≤ 20 → is_scale (pos n) ≡ true
at_most n h = rw (le-leb n 20 h)

less : (e k : ℕ) → e ≤ 20 → k ≤ 28 → is_scale (sub_ℕ e k) ≡ true
less e k h l =
    by-test (ltb e k) (λ t. rw t (at_least (k - suc e) (omega (arith, ltb-true e k t)))) (λ t. rw t (at_most (e - k) (omega arith)))

positive : (e k : ℕ) → e ≤ 20 → k ≤ 8 → is_scale (pos e -ℤ pos k) ≡ true
positive e zero h l = at_most (e + 0) (omega arith)
positive e (suc k) h l = less e (suc k) h (omega arith)

negative : (e k : ℕ) → e ≤ 19 → k ≤ 8 → is_scale (negsuc e -ℤ pos k) ≡ true
negative e zero h l = less 0 (suc e) (omega arith) (omega arith)
negative e (suc k) h l = at_least (suc (e + k)) (omega arith)

minus : (e : ℕ) → pos 0 -ℤ pos (suc e) ≡ negsuc e
minus e = let z : suc e - 1 ≡ e = omega arith in rw (lt-ltb 0 (suc e) (omega arith)) (ap negsuc z)

pub scale-range : (s : Bool) (e k : ℕ) → e ≤ 20 → k ≤ 8 → is_scale (scale_of s e k) ≡ true
scale-range false e k h l = positive e k h l
scale-range true zero k h l = positive 0 k h l
scale-range true (suc e) k h l = subst (λ (z : ℤ). is_scale (z -ℤ pos k) ≡ true) (sym (minus e)) (negative e k (omega arith) l)

pub literal-single : (s : Bool) (ds : List ℕ) (e k : ℕ) → all_digits ds ≡ true → length ds ≤ 9 → e ≤ 20 → k ≤ 8
    → Single (nearest_decimal (decimal_value ds) (scale_of s e k))
literal-single s ds e k d n h l = literal-laws.single (decimal_value ds) (scale_of s e k) (nine-digits ds d n) (scale-range s e k h l)

-- ---- a numeral is a number, or 4 or 5
pub data NumberOrRefused : Result Token ℕ → Type 0 where
  number : (v : Value) → NumberOrRefused (Ok (Number v))
  refused : (a : ℕ) → 4 ≤ a → a ≤ 5 → NumberOrRefused (Err a)

pub number-or-refused : (cs : List ℕ) → NumberOrRefused (numeral_of cs)
number-or-refused cs =
    either (decimal_digits cs) (either (leb (decimal_value cs) 2147483647) (number _) five)
    (either (is_hex_run cs) (either (non_empty (drop 2 cs) && all is_hex (drop 2 cs)) (either (leb (length (drop 2 cs)) 8) (number _) five) four)
    (either (is_exponent (behind_mantissa cs)) (either (leb (length (mantissa_digits cs)) 9 && leb (exponent_size (behind_mantissa cs)) 20) (number _) five) four))
  where
    four : NumberOrRefused (Err 4)
    four = refused 4 (omega arith) (omega arith)

    five : NumberOrRefused (Err 5)
    five = refused 5 (omega arith) (omega arith)

    either : (t : Bool) {x y : (Result Token ℕ)} → NumberOrRefused x → NumberOrRefused y → NumberOrRefused (cond t x y)
    either true f g = f
    either false f g = g
