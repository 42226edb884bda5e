-- Every operator's rule, where its operands' kinds are taken: a value of the kind known from the text, with the property Q, or a fault.
use Rattle.std.specs.Prelude.{Option, Some, None, ℤ}
use mathlib.Core.Bool.{not}
use Prim.Native.Nat.{ℕ, ◌+◌, ◌*◌, ◌/◌, ◌^◌}
use lib.Dec.{T}
use lib.IntN.{pos, neg_ℤ, nat_abs, ◌-ℤ◌}
use lib.Ieee.Scale.{finite}
use Rattle.reals.specs.declared.ArithOp.TheVariants.{Rem}
use Rattle.reals.specs.Singles.{negative, unit_count, signed}
use Rattle.values.specs.declared.Kind.TheVariants as K
use Rattle.values.specs.declared.Value.{Value}
use Rattle.values.specs.declared.Value.TheVariants.{Int, Real}
use Rattle.values.specs.declared.Fault.TheVariants.{OutOfRange}
use Rattle.values.specs.declared.Outcome.TheVariants.{Done}
use Rattle.values.specs.Values.{kind_of}
use Rattle.values.specs.Integers.{in_range, int_arith, choice_int}
use Rattle.values.specs.Patterns.{low_bits, shift_int, bitwise_int, since_int}
use Rattle.values.specs.Singles.{one_real, real_neg, real_abs, real_arith, choice_real}
use Rattle.values.specs.Convert.{cut, cut_by}
use Rattle.operators.specs.declared.BinaryOp.{BinaryOp}
use Rattle.operators.specs.declared.BinaryOp.TheVariants.{Arith, Power, Shift, Compare, Bits, Choice}
use Rattle.operators.specs.declared.UnaryOp.{UnaryOp}
use Rattle.operators.specs.declared.UnaryOp.TheVariants.{Neg, Complement, Not, Abs, ToReal, Trunc, Round, Frac}
use Rattle.operators.specs.Operators.{as_real, compare_rule, truth_rule, cut_outcome, cutting, unary_rule, since_rule, binary_rule}
use Rattle.operators.specs.Kinds.{is_int, unary_kind, unary_takes, binary_kind, binary_takes}
use Rattle.operators.proofs.Gives.{Gives, int, real, stopped, Closed, picked, exact-gives, real_of, promoting-gives, on-ints-gives}
use Rattle.operators.proofs.Classes.{int-arith, real-arith, power, of-pattern, bits, complement, shift, truth, choice-ints, choice-reals}

module _ (Q : Value → Type 0) (closed : Closed Q) where
  cutting-gives : (f : ℕ → ℕ) (v : Value) → Q v → Gives Q K.Int (cutting (cut_by f) v)
  cutting-gives f (Int z) q = int z q
  cutting-gives f (Real x) q =
      let P : Option ℤ → Type 0 = λ c. Gives Q K.Int (cut_outcome c) in
      let z = signed (negative x) (f (unit_count x)) in
      let out : P None = stopped K.Int OutOfRange in
      picked P (finite x) (cut z) None (λ h. picked P (in_range z) (Some z) None (λ e. int z (closed.ranged z e)) out) out

  pub unary-gives : (o : UnaryOp) (v : Value) → T (unary_takes o (kind_of v)) → Q v → Gives Q (unary_kind o (kind_of v)) (unary_rule o v)
  unary-gives Neg (Int z) t q = exact-gives Q closed (neg_ℤ z)
  unary-gives Neg (Real x) t q = real (real_neg x) (closed.negated x q)
  unary-gives Complement (Int z) t q = complement Q closed z
  unary-gives Complement (Real x) t q = absurd t
  unary-gives Not v t q = truth Q closed (not (truth_rule v))
  unary-gives Abs (Int z) t q = exact-gives Q closed (pos (nat_abs z))
  unary-gives Abs (Real x) t q = real (real_abs x) (closed.unsigned x q)
  unary-gives ToReal v t q = real (as_real v) (real_of Q closed v q)
  unary-gives Trunc v t q = cutting-gives (λ n. n / 2 ^ 149) v q
  unary-gives Round v t q = cutting-gives (λ n. (2 * n + 2 ^ 149) / (2 * 2 ^ 149)) v q
  unary-gives Frac v t q = real-arith Q closed Rem (as_real v) one_real (real_of Q closed v q) closed.unit

  pub since-gives : (t : ℕ) (v : Value) → T (is_int (kind_of v)) → Gives Q K.Int (since_rule t v)
  since-gives t (Int z) h = int (since_int t z) (of-pattern Q closed (low_bits 32 (pos t -ℤ z)))
  since-gives t (Real x) h = absurd h

  pub binary-gives : (o : BinaryOp) (a b : Value) → T (binary_takes o (kind_of a) (kind_of b)) → Q a → Q b
      → Gives Q (binary_kind o (kind_of a) (kind_of b)) (binary_rule o a b)
  binary-gives (Arith o) a b t p q =
      promoting-gives Q closed (Gives Q) (int_arith o) (real_arith o) (λ i j h k. int-arith Q closed o i j) (real-arith Q closed o) a b p q
  binary-gives Power a b t p q = power Q closed a b t p
  binary-gives (Shift o) a b t p q = on-ints-gives Q (shift_int o) (shift Q closed o) a b t p
  binary-gives (Compare o) a b t p q = truth Q closed (compare_rule o a b)
  binary-gives (Bits o) a b t p q = on-ints-gives Q (λ i j. Done (Int (bitwise_int o i j))) (λ i j h. bits Q closed o i j) a b t p
  binary-gives (Choice o) a b t p q =
      promoting-gives Q closed (λ k v. Gives Q k (Done v))
      (λ i j. Int (choice_int o i j)) (λ x y. Real (choice_real o x y))
      (λ i j h k. int (choice_int o i j) (choice-ints Q closed o i j h k)) (λ x y h k. real (choice_real o x y) (choice-reals Q closed o x y h k)) a b p q
