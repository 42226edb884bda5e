-- What the toolchain's operations on singles give, in paper 01's words: proofs/Laws.antt proves this record. So a reader
-- believes Singles, Rounding and `exact_result`, and no algorithm.
use Rattle.std.specs.Prelude.{◌≡◌, ◌↔◌, Bool, true, false, not, cond, ℕ, ◌+◌, ◌-◌, ◌*◌, ◌/◌, ◌%◌, ◌^◌, ◌≤◌, ◌<◌, ℤ, pos, nat_abs, ◌*ℤ◌, T, leb, eqb, Float}
use Rattle.std.specs.Int.Signed.{lt_z, le_z}
use Rattle.std.specs.Float.Ieee as Ieee
use Rattle.std.specs.Float.{inf, fin, binary32}
use Rattle.std.specs.Float.Ieee.Scale.{finite}
use Rattle.reals.specs.declared.ArithOp.{ArithOp}
use Rattle.reals.specs.declared.ArithOp.TheVariants.{Rem}
use Rattle.reals.specs.Singles.{Single, negative, unit_count, signed, signed_units, Has, Size}
use Rattle.reals.specs.Rounding.{Fraction, Closest, Rounds, overflow_units, ClosestWhole}
use Rattle.reals.specs.Operations.{ieee, exact_result, sign_of, divides}

-- the size that a pattern's lower 31 bits stand for: 23 digits, with a leading one unless the exponent's field is 0
abbrev pub pattern_units : ℕ → ℕ
pattern_units b = cond (eqb (b % 2 ^ 31 / 2 ^ 23) 0) (b % 2 ^ 23) ((2 ^ 23 + b % 2 ^ 23) * 2 ^ (b % 2 ^ 31 / 2 ^ 23 - 1))

-- the integer z, in units
abbrev pub integer_fraction : ℤ → Fraction
integer_fraction z = record { sign = sign_of false z; num = nat_abs z * 2 ^ 149; den = 1 }

pub record RealLaws : Type 0 where
  -- a pattern whose exponent's field is not all ones is a finite single, of that sign and size
  pub pattern : (b : ℕ) → b % 2 ^ 31 / 2 ^ 23 < 255 → Has (leb (2 ^ 31) b) (pattern_units b) (Ieee.of_bits binary32 b)
  -- the singles: one for each sign and size
  pub size : (x : Float) → Single x → Size (unit_count x)
  pub each : (s : Bool) (n : ℕ) → Size n → (x : Float) × Has s n x
  pub only : (s : Bool) (n : ℕ) (x y : Float) → Has s n x → Has s n y → x ≡ y
  -- rounding has one result, never falls where the fraction rises, and is an infinity exactly from the end of the range on
  pub one : (q : Fraction) (x y : Float) → 0 < q.den → Rounds q x → Rounds q y → x ≡ y
  pub rising : (a c b : ℕ) (x y : Float) → 0 < b → a ≤ c → Single x → Single y → Closest a b x → Closest c b y → unit_count x ≤ unit_count y
  pub infinite : (q : Fraction) (x : Float) → Rounds q x → (x ≡ inf q.sign) ↔ (overflow_units * q.den ≤ q.num)
  -- every operation of two finite singles gives its exact result, rounded once; a remainder is exact
  pub rounds : (o : ArithOp) (x y : Float) → Single x → Single y → (T (divides o) → 0 < unit_count y) → Rounds (exact_result o x y) (ieee o x y)
  pub remainder : (x y : Float) → Single x → Single y → 0 < unit_count y → Has (negative x) (unit_count x % unit_count y) (ieee Rem x y)
  -- negation changes the sign alone
  pub neg : (x : Float) → Single x → Has (not (negative x)) (unit_count x) (Ieee.neg x)
  -- order and equality are those of the values; so -0.0 equals 0.0
  pub less : (x y : Float) → Single x → Single y → Ieee.lt x y ≡ lt_z (signed_units x) (signed_units y)
  pub less_equal : (x y : Float) → Single x → Single y → Ieee.le x y ≡ le_z (signed_units x) (signed_units y)
  pub equal : (x y : Float) → Single x → Single y → T (Ieee.eq x y) ↔ (signed_units x ≡ signed_units y)
  -- an integer's promotion is the nearest single: a finite one for 32 bits, the integer itself up to 2 ^ 24, and it keeps the order
  pub promote : (z : ℤ) → Rounds (integer_fraction z) (Ieee.of_int binary32 z)
  pub promote_single : (z : ℤ) → nat_abs z ≤ 2 ^ 31 → Single (Ieee.of_int binary32 z)
  pub same : (z : ℤ) → nat_abs z ≤ 2 ^ 24 → signed_units (Ieee.of_int binary32 z) ≡ z *ℤ pos (2 ^ 149)
  pub ordered : (y z : ℤ) → nat_abs y ≤ 2 ^ 31 → nat_abs z ≤ 2 ^ 31 → T (le_z y z)
      → T (le_z (signed_units (Ieee.of_int binary32 y)) (signed_units (Ieee.of_int binary32 z)))
  -- the library's rounding of any fraction num / den is the nearest single
  pub fraction : (s : Bool) (num den : ℕ) → 0 < den → Rounds (record { sign = s; num = num * 2 ^ 149; den = den }) (Ieee.round binary32 s num den)
  -- 1.0
  pub unit : Has false (2 ^ 149) (fin false 1 (pos 0))
  -- (2 * a + b) / (2 * b) is a / b to the nearest whole number, halves up
  pub halves : (a b : ℕ) → 0 < b → ClosestWhole a b ((2 * a + b) / (2 * b))
  -- a finite single and its 32 bits are found from each other, and no other bits are a finite single's: so the last bit that decides a tie is the last
  -- digit that `pattern` gives
  pub encode_below : (x : Float) → Single x → Ieee.to_bits binary32 x < 2 ^ 32
  pub decode_encode : (x : Float) → Single x → Ieee.of_bits binary32 (Ieee.to_bits binary32 x) ≡ x
  pub encode_decode : (b : ℕ) → b < 2 ^ 32 → b % 2 ^ 31 / 2 ^ 23 < 255 → Ieee.to_bits binary32 (Ieee.of_bits binary32 b) ≡ b
  pub decode_special : (b : ℕ) → b % 2 ^ 31 / 2 ^ 23 ≡ 255 → T (finite (Ieee.of_bits binary32 b)) → ⊥
