-- `numbered::of_singles` meets its contract: each arm is its operator on two reals, or takes none.
use mathlib.Core.Path.{ap, ◌∙◌}
use lib.IntN.{ℤ}
use lib.Ieee.{Float}
use Rattle.reals.specs.declared.ArithOp.TheVariants.{Add, Sub, Mul, Div, Rem}
use Rattle.values.specs.declared.BitOp.TheVariants.{And, Or, Xor}
use Rattle.values.specs.declared.ShiftOp.TheVariants.{Left, Right, RightZero}
use Rattle.values.specs.declared.CompareOp.TheVariants.{Lt, Gt, Le, Ge, Eq, Ne}
use Rattle.values.specs.declared.ChoiceOp.{ChoiceOp}
use Rattle.values.specs.declared.ChoiceOp.TheVariants.{Max, Min}
use Rattle.values.specs.declared.Value.{Value}
use Rattle.values.specs.declared.Value.TheVariants.{Int, Real}
use Rattle.values.specs.declared.Outcome.TheVariants.{Done}
use Rattle.values.specs.Integers.{int_arith, compare_int, choice_int}
use Rattle.values.specs.Singles.{real_arith, compare_real, choice_real}
use Rattle.values.specs.Patterns.{bitwise_int, shift_int}
use Rattle.operators.specs.Operators.{from_bool}
use Rattle.operators.proofs.Cases.{as-reals}
use Rattle.operators.proofs.numbered.Operands.{not-ints}
use Rattle.operators.proofs.numbered.of_singles.Goals as goal

abbrev ints : ChoiceOp → ℤ → ℤ → Value
ints o a b = Int (choice_int o a b)

abbrev reals : ChoiceOp → Float → Float → Value
reals o x y = Real (choice_real o x y)

pub returns-in-0 : goal.returns-in-0
returns-in-0 c = λ a b e p. absurd (p c.in-0.is)

pub returns-in-1 : goal.returns-in-1
returns-in-1 c = λ a b e p. rw c.in-1.is (as-reals (int_arith Mul) (real_arith Mul) a b e c.arith.ensures)

pub returns-in-2 : goal.returns-in-2
returns-in-2 c = λ a b e p. rw c.in-2.is (as-reals (int_arith Div) (real_arith Div) a b e c.arith-in-2.ensures)

pub returns-in-3 : goal.returns-in-3
returns-in-3 c = λ a b e p. rw c.in-3.is (as-reals (int_arith Rem) (real_arith Rem) a b e c.arith-in-3.ensures)

pub returns-in-4 : goal.returns-in-4
returns-in-4 c = λ a b e p. rw c.in-4.is (as-reals (int_arith Add) (real_arith Add) a b e c.arith-in-4.ensures)

pub returns-in-5 : goal.returns-in-5
returns-in-5 c = λ a b e p. rw c.in-5.is (as-reals (int_arith Sub) (real_arith Sub) a b e c.arith-in-5.ensures)

pub returns-in-6 : goal.returns-in-6
returns-in-6 c = λ a b e p. rw c.in-6.is (not-ints (shift_int Left) a b e)

pub returns-in-7 : goal.returns-in-7
returns-in-7 c = λ a b e p. rw c.in-7.is (not-ints (shift_int Right) a b e)

pub returns-in-8 : goal.returns-in-8
returns-in-8 c = λ a b e p. rw c.in-8.is (not-ints (shift_int RightZero) a b e)

pub returns-in-9 : goal.returns-in-9
returns-in-9 c = λ a b e p.
    rw c.in-9.is
    (ap Done (c.from_bool.ensures ∙ ap from_bool (as-reals (compare_int Lt) (compare_real Lt) a b e c.compare.ensures)))

pub returns-in-10 : goal.returns-in-10
returns-in-10 c = λ a b e p.
    rw c.in-10.is
    (ap Done (c.from_bool-in-10.ensures ∙ ap from_bool (as-reals (compare_int Gt) (compare_real Gt) a b e c.compare-in-10.ensures)))

pub returns-in-11 : goal.returns-in-11
returns-in-11 c = λ a b e p.
    rw c.in-11.is
    (ap Done (c.from_bool-in-11.ensures ∙ ap from_bool (as-reals (compare_int Le) (compare_real Le) a b e c.compare-in-11.ensures)))

pub returns-in-12 : goal.returns-in-12
returns-in-12 c = λ a b e p.
    rw c.in-12.is
    (ap Done (c.from_bool-in-12.ensures ∙ ap from_bool (as-reals (compare_int Ge) (compare_real Ge) a b e c.compare-in-12.ensures)))

pub returns-in-13 : goal.returns-in-13
returns-in-13 c = λ a b e p.
    rw c.in-13.is
    (ap Done (c.from_bool-in-13.ensures ∙ ap from_bool (as-reals (compare_int Eq) (compare_real Eq) a b e c.compare-in-13.ensures)))

pub returns-in-14 : goal.returns-in-14
returns-in-14 c = λ a b e p.
    rw c.in-14.is
    (ap Done (c.from_bool-in-14.ensures ∙ ap from_bool (as-reals (compare_int Ne) (compare_real Ne) a b e c.compare-in-14.ensures)))

pub returns-in-15 : goal.returns-in-15
returns-in-15 c = λ a b e p. rw c.in-15.is (not-ints (λ i j. Done (Int (bitwise_int And i j))) a b e)

pub returns-in-16 : goal.returns-in-16
returns-in-16 c = λ a b e p. rw c.in-16.is (not-ints (λ i j. Done (Int (bitwise_int Xor i j))) a b e)

pub returns-in-17 : goal.returns-in-17
returns-in-17 c = λ a b e p. rw c.in-17.is (not-ints (λ i j. Done (Int (bitwise_int Or i j))) a b e)

pub returns-in-18 : goal.returns-in-18
returns-in-18 c = λ a b e p. rw c.in-18.is (ap Done (as-reals (ints Max) (reals Max) a b e (ap Real c.choose.ensures)))

pub returns-in-19 : goal.returns-in-19
returns-in-19 c = λ a b e p. rw c.in-19.is (ap Done (as-reals (ints Min) (reals Min) a b e (ap Real c.choose-in-19.ensures)))
