-- One law for each class of operator, over the operator inside the class: what it gives from operands with the property Q.
use mathlib.Core.Path.{◌≡◌, refl}
use mathlib.Core.Bool.{Bool, true, false, ◌&&◌, and-true, cond}
use Prim.Native.Nat.{ℕ, zero, suc, ◌-◌, ◌*◌, ◌/◌, ◌%◌, ◌^◌}
use native.Mathlib.Omega.{arith}
use lib.Dec.{T, ltb}
use lib.IntN.{ℤ, pos, negsuc, nat_abs, ◌+ℤ◌, ◌-ℤ◌, ◌*ℤ◌}
use lib.Signed.{lt_z, quot_z, rem_z}
use lib.Ieee.{Float, lt, eq}
use borrow.Author.Tests.{ltb-true, ltb-false, le-leb}
use Rattle.reals.specs.declared.ArithOp.{ArithOp}
use Rattle.reals.specs.declared.ArithOp.TheVariants.{Add, Sub, Mul, Div, Rem}
use Rattle.reals.specs.Operations.{ieee, divides}
use Rattle.values.specs.declared.Kind.TheVariants as K
use Rattle.values.specs.declared.Value.{Value}
use Rattle.values.specs.declared.Value.TheVariants.{Int, Real}
use Rattle.values.specs.declared.Fault.TheVariants.{DividedByZero, OutOfRange}
use Rattle.values.specs.declared.Outcome.{Outcome}
use Rattle.values.specs.declared.Outcome.TheVariants.{Done}
use Rattle.values.specs.declared.BitOp.{BitOp}
use Rattle.values.specs.declared.ShiftOp.{ShiftOp}
use Rattle.values.specs.declared.ShiftOp.TheVariants.{Left, Right, RightZero}
use Rattle.values.specs.declared.ChoiceOp.{ChoiceOp}
use Rattle.values.specs.declared.ChoiceOp.TheVariants.{Max, Min}
use Rattle.values.specs.Values.{kind_of}
use Rattle.values.specs.Integers.{in_range, equal_z, int_arith, exponent, pow_z, choice_int, between}
use Rattle.values.specs.Patterns.{low_bits, signed_of, digit, from_digits, digit_of, bitwise_int, complement_int, shifted, shift_int}
use Rattle.values.specs.Singles.{zero_real, one_real, settle, real_arith, times_real, real_product, choice_real}
use Rattle.operators.specs.Operators.{power_rule, from_bool}
use Rattle.operators.specs.Kinds.{is_int}
use Rattle.operators.proofs.Gives.{Gives, int, real, stopped, Closed, picked, exact-gives, settle-gives}

-- every pattern of 32 bits stands for an integer in range
signed_range : (n : ℕ) → in_range (signed_of 32 n) ≡ true
signed_range n = go (ltb n (2 ^ 31)) refl
  where
    go : (t : Bool) → ltb n (2 ^ 31) ≡ t → in_range (cond t (pos n) (negsuc (2 ^ 32 - suc n))) ≡ true
    go true e = le-leb n 2147483647 (omega (arith, ltb-true n (2 ^ 31) e))
    go false e = rw and-true (le-leb (2 ^ 32 - suc n) 2147483647 (omega (arith, ltb-false n (2 ^ 31) e)))

module _ (Q : Value → Type 0) (closed : Closed Q) where
  -- ---- arithmetic
  pub int-arith : (o : ArithOp) (a b : ℤ) → Gives Q K.Int (int_arith o a b)
  int-arith Add a b = exact-gives Q closed (a +ℤ b)
  int-arith Sub a b = exact-gives Q closed (a -ℤ b)
  int-arith Mul a b = exact-gives Q closed (a *ℤ b)
  int-arith Div a b = picked (Gives Q K.Int) (equal_z b (pos 0)) _ _ (λ e. stopped K.Int DividedByZero) (exact-gives Q closed (quot_z a b))
  int-arith Rem a b = picked (Gives Q K.Int) (equal_z b (pos 0)) _ _ (λ e. stopped K.Int DividedByZero) (exact-gives Q closed (rem_z a b))

  operated : (o : ArithOp) (x y : Float) → Q (Real x) → Q (Real y) → Gives Q K.Real (settle (ieee o x y))
  operated o x y p q = settle-gives Q (ieee o x y) (closed.operated o x y p q)

  pub real-arith : (o : ArithOp) (x y : Float) → Q (Real x) → Q (Real y) → Gives Q K.Real (real_arith o x y)
  real-arith o x y p q = picked (Gives Q K.Real) (divides o && eq y zero_real) _ _ (λ e. stopped K.Real DividedByZero) (operated o x y p q)

  -- ---- powers
  times : (x : Float) (o : Outcome) → Q (Real x) → Gives Q K.Real o → Gives Q K.Real (times_real o x)
  times x o q (real p h) = operated Mul p x h q
  times x o q (stopped k f) = stopped K.Real f

  product : (x : Float) (n : ℕ) → Q (Real x) → Gives Q K.Real (real_product x n)
  product x zero q = real one_real closed.unit
  product x (suc n) q = times x (real_product x n) q (product x n q)

  pub power : (a n : Value) → T (is_int (kind_of n)) → Q a → Gives Q (kind_of a) (power_rule a n)
  power (Int a) (Int n) t q = picked (Gives Q K.Int) (exponent n) _ _ (λ e. exact-gives Q closed (pow_z a (nat_abs n))) (stopped K.Int OutOfRange)
  power (Real x) (Int n) t q = picked (Gives Q K.Real) (exponent n) _ _ (λ e. product x (nat_abs n) q) (stopped K.Real OutOfRange)
  power (Int a) (Real y) t q = absurd t
  power (Real x) (Real y) t q = absurd t

  -- ---- patterns
  pub of-pattern : (n : ℕ) → Q (Int (signed_of 32 n))
  of-pattern n = closed.ranged (signed_of 32 n) (signed_range n)

  pub bits : (o : BitOp) (a b : ℤ) → Gives Q K.Int (Done (Int (bitwise_int o a b)))
  bits o a b = int (bitwise_int o a b) (of-pattern (from_digits 32 (λ i. digit_of o (digit (low_bits 32 a) i) (digit (low_bits 32 b) i))))

  pub complement : (a : ℤ) → Gives Q K.Int (Done (Int (complement_int a)))
  complement a = int (complement_int a) (of-pattern (from_digits 32 (λ i. 1 - digit (low_bits 32 a) i)))

  moved : (o : ShiftOp) (a : ℤ) (s : ℕ) → Q (Int a) → Q (Int (shifted o a s))
  moved Left a s q = of-pattern (low_bits 32 a * 2 ^ s % 2 ^ 32)
  moved Right a s q = closed.shifted a s q
  moved RightZero a s q = of-pattern (low_bits 32 a / 2 ^ s)

  pub shift : (o : ShiftOp) (a s : ℤ) → Q (Int a) → Gives Q K.Int (shift_int o a s)
  shift o a s q = picked (Gives Q K.Int) (between (pos 0) (pos 31) s) _ _ (λ e. int _ (moved o a (nat_abs s) q)) (stopped K.Int OutOfRange)

  -- ---- comparisons and choices
  pub truth : (t : Bool) → Gives Q K.Int (Done (from_bool t))
  truth true = int (pos 1) (closed.ranged (pos 1) refl)
  truth false = int (pos 0) (closed.ranged (pos 0) refl)

  pub choice-ints : (o : ChoiceOp) (a b : ℤ) → Q (Int a) → Q (Int b) → Q (Int (choice_int o a b))
  choice-ints Max a b p q = picked (λ z. Q (Int z)) (lt_z a b) b a (λ e. q) p
  choice-ints Min a b p q = picked (λ z. Q (Int z)) (lt_z b a) b a (λ e. q) p

  pub choice-reals : (o : ChoiceOp) (x y : Float) → Q (Real x) → Q (Real y) → Q (Real (choice_real o x y))
  choice-reals Max x y p q = picked (λ z. Q (Real z)) (lt x y) y x (λ e. q) p
  choice-reals Min x y p q = picked (λ z. Q (Real z)) (lt y x) y x (λ e. q) p
