-- The machine's bitwise operations are the rules': they have the digits that `digit_of` makes of the operands' digits.
use Rattle.std.proofs.Common.{◌≡◌, ℕ, zero, suc, ◌+◌, ◌*◌, ◌/◌, ◌%◌, ◌^◌, ◌<◌, ℤ, sym, refl, ap, ◌∙◌, ap₂, le_of_suc-le-suc, lt_of_le_of_lt, mod-lt, mod-eq_of_lt, arith, lit<, w32, SFits, to_z, of_z}
use native.Mathlib.Nat.{min-le_left, max-le}
use lib.Arith.{digits_mod}
use lib.Bits.{differ, bit_and, bit_or, bit_xor, and_step, or_step, xor_step, and_shr, or_shr, xor_shr, and_lt, or_lt, xor_lt}
use mir.ValLaws.{of_z_fits}
use Rattle.values.specs.declared.BitOp.{BitOp}
use Rattle.values.specs.declared.BitOp.TheVariants.{And, Or, Xor}
use Rattle.values.specs.Patterns.{signed_of, digit, from_digits, digit_of, bitwise_int}
use Rattle.values.proofs.patterns.Digits.{digit_lt, number_digits, number_same}
use Rattle.values.proofs.patterns.Readings.{low-of_z, signed-to_z}

-- ---- one digit
differ-sum : (x y : ℕ) → x < 2 → y < 2 → differ x y ≡ (x + y) % 2
differ-sum zero y p q = omega arith
differ-sum (suc zero) zero p q = refl
differ-sum (suc zero) (suc zero) p q = refl
differ-sum (suc zero) (suc (suc y)) p q = omega arith
differ-sum (suc (suc x)) y p q = omega arith

digit_of-lt : (o : BitOp) (x y : ℕ) → x < 2 → y < 2 → digit_of o x y < 2
digit_of-lt And x y p q = lt_of_le_of_lt (min-le_left x y) p
digit_of-lt Or x y p q = omega (arith, max-le {k = 1} (le_of_suc-le-suc p) (le_of_suc-le-suc q))
digit_of-lt Xor x y p q = mod-lt (x + y) (lit< tt)

-- ---- the three operations
abbrev pub bits_of : BitOp → ℕ → ℕ → ℕ
bits_of And = bit_and
bits_of Or = bit_or
bits_of Xor = bit_xor

step : (o : BitOp) (a b : ℕ) → bits_of o a b ≡ bits_of o (a / 2) (b / 2) * 2 + digit_of o (a % 2) (b % 2)
step And a b = and_step a b
step Or a b = or_step a b
step Xor a b =
    xor_step a b
    ∙ ap (λ (x : ℕ). bit_xor (a / 2) (b / 2) * 2 + x) (differ-sum (a % 2) (b % 2) (mod-lt a (lit< tt)) (mod-lt b (lit< tt)))

shifted : (o : BitOp) (a b k : ℕ) → bits_of o a b / 2 ^ k ≡ bits_of o (a / 2 ^ k) (b / 2 ^ k)
shifted And = and_shr
shifted Or = or_shr
shifted Xor = xor_shr

bounded : (o : BitOp) (k a b : ℕ) → a < 2 ^ k → b < 2 ^ k → bits_of o a b < 2 ^ k
bounded And = and_lt
bounded Or = or_lt
bounded Xor = xor_lt

-- ---- and their digits
pub digit-bits : (o : BitOp) (a b i : ℕ) → digit (bits_of o a b) i ≡ digit_of o (digit a i) (digit b i)
digit-bits o a b i =
    ap (λ (x : ℕ). x % 2) (shifted o a b i ∙ step o (a / 2 ^ i) (b / 2 ^ i))
    ∙ digits_mod (bits_of o (a / 2 ^ i / 2) (b / 2 ^ i / 2)) (digit_of-lt o (digit a i) (digit b i) (digit_lt a i) (digit_lt b i))

pub number-bits : (o : BitOp) (k a b : ℕ) → bits_of o a b % 2 ^ k ≡ from_digits k (λ i. digit_of o (digit a i) (digit b i))
number-bits o k a b = sym (number_digits (bits_of o a b) k) ∙ number_same k _ _ (digit-bits o a b)

-- so at 32 bits the operation reads as the rule
pub bitwise-read : (o : BitOp) (a b : ℤ) → SFits w32 a → SFits w32 b → to_z w32 (bits_of o (of_z w32 a) (of_z w32 b)) ≡ bitwise_int o a b
bitwise-read o a b F G =
    let x = of_z w32 a in
    let y = of_z w32 b in
    sym (signed-to_z w32 (bits_of o x y))
    ∙ ap (signed_of 32) (sym (mod-eq_of_lt (bounded o 32 x y (of_z_fits w32 a F).fits (of_z_fits w32 b G).fits)) ∙ number-bits o 32 x y)
    ∙ sym (ap₂ (λ (x y : ℕ). signed_of 32 (from_digits 32 (λ i. digit_of o (digit x i) (digit y i)))) (low-of_z w32 a F) (low-of_z w32 b G))
