-- A rule of whose operands' kinds one is not taken gives `WrongKind`.
use mathlib.Core.Path.{◌≡◌, refl}
use mathlib.Core.Bool.{false, ◌&&◌, true≢false}
use Prim.Native.Nat.{ℕ}
use lib.IntN.{ℤ}
use Rattle.values.specs.declared.Value.{Value}
use Rattle.values.specs.declared.Value.TheVariants.{Int, Real}
use Rattle.values.specs.declared.Outcome.{Outcome}
use Rattle.values.specs.declared.Outcome.TheVariants.{Done, WrongKind}
use Rattle.values.specs.Values.{kind_of}
use Rattle.values.specs.Patterns.{shift_int, bitwise_int}
use Rattle.operators.specs.declared.BinaryOp.{BinaryOp}
use Rattle.operators.specs.declared.BinaryOp.TheVariants.{Arith, Power, Shift, Compare, Bits, Choice}
use Rattle.operators.specs.declared.UnaryOp.{UnaryOp}
use Rattle.operators.specs.declared.UnaryOp.TheVariants.{Neg, Complement, Not, Abs, ToReal, Trunc, Round, Frac}
use Rattle.operators.specs.Operators.{on_ints, unary_rule, since_rule, binary_rule}
use Rattle.operators.specs.Kinds.{is_int, unary_takes, binary_takes}

on-ints-wrong : (f : ℤ → ℤ → Outcome) (a b : Value) → (is_int (kind_of a) && is_int (kind_of b)) ≡ false → on_ints f a b ≡ WrongKind
on-ints-wrong f (Int a) (Int b) e = absurd (true≢false e)
on-ints-wrong f (Int a) (Real y) e = refl
on-ints-wrong f (Real x) b e = refl

pub unary_wrong : (o : UnaryOp) (v : Value) → unary_takes o (kind_of v) ≡ false → unary_rule o v ≡ WrongKind
unary_wrong Neg v e = absurd (true≢false e)
unary_wrong Complement (Int z) e = absurd (true≢false e)
unary_wrong Complement (Real x) e = refl
unary_wrong Not v e = absurd (true≢false e)
unary_wrong Abs v e = absurd (true≢false e)
unary_wrong ToReal v e = absurd (true≢false e)
unary_wrong Trunc v e = absurd (true≢false e)
unary_wrong Round v e = absurd (true≢false e)
unary_wrong Frac v e = absurd (true≢false e)

pub since_wrong : (t : ℕ) (v : Value) → is_int (kind_of v) ≡ false → since_rule t v ≡ WrongKind
since_wrong t (Int z) e = absurd (true≢false e)
since_wrong t (Real x) e = refl

pub binary_wrong : (o : BinaryOp) (a b : Value) → binary_takes o (kind_of a) (kind_of b) ≡ false → binary_rule o a b ≡ WrongKind
binary_wrong (Arith o) a b e = absurd (true≢false e)
binary_wrong Power a (Int n) e = absurd (true≢false e)
binary_wrong Power a (Real y) e = refl
binary_wrong (Shift o) a b e = on-ints-wrong (shift_int o) a b e
binary_wrong (Compare o) a b e = absurd (true≢false e)
binary_wrong (Bits o) a b e = on-ints-wrong (λ i j. Done (Int (bitwise_int o i j))) a b e
binary_wrong (Choice o) a b e = absurd (true≢false e)
