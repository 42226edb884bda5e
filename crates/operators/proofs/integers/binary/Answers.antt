-- `integers::binary` meets its contract: each arm is its operator on two integers.
use mathlib.Core.Path.{refl, ap, ◌∙◌}
use lib.IntN.{ℤ}
use mir.Syntax.{w32}
use mir.Val.{SFits}
use mir.ValLaws.{to_z-of_z}
use borrow.Author.Rules.{rules}
use Rattle.reals.specs.declared.ArithOp.TheVariants.{Add, Sub, Mul, Div, Rem}
use Rattle.values.specs.declared.BitOp.TheVariants.{And, Or, Xor}
use Rattle.values.specs.declared.ShiftOp.TheVariants.{Left, Right, RightZero}
use Rattle.values.specs.declared.CompareOp.{CompareOp}
use Rattle.values.specs.declared.CompareOp.TheVariants.{Lt, Gt, Le, Ge, Eq, Ne}
use Rattle.values.specs.declared.BitOp.{BitOp}
use Rattle.values.specs.declared.ChoiceOp.{ChoiceOp}
use Rattle.values.specs.declared.ChoiceOp.TheVariants.{Max, Min}
use Rattle.values.specs.declared.Value.TheVariants.{Int}
use Rattle.values.specs.declared.Outcome.{Outcome}
use Rattle.values.specs.declared.Outcome.TheVariants.{Done}
use Rattle.values.specs.Integers.{int_arith, compare_int, choice_int, int_power}
use Rattle.values.specs.Patterns.{bitwise_int, shift_int}
use Rattle.operators.specs.Operators.{from_bool}
use Rattle.operators.proofs.integers.Operands.{of-ints}
use Rattle.operators.proofs.integers.binary.Goals as goal

abbrev compared : CompareOp → ℤ → ℤ → Outcome
compared o a b = Done (from_bool (compare_int o a b))

abbrev bitwise : BitOp → ℤ → ℤ → Outcome
bitwise o a b = Done (Int (bitwise_int o a b))

abbrev chosen : ChoiceOp → ℤ → ℤ → Outcome
chosen o a b = Done (Int (choice_int o a b))

pub returns-in-0 : goal.returns-in-0
returns-in-0 c =
    let s = c in
    of-ints 0 int_power s.ranges.i s.ranges.j c.in-0.is (λ a b. refl) c.power.ensures

pub returns-in-1 : goal.returns-in-1
returns-in-1 c =
    let s = c in
    of-ints 1 (int_arith Mul) s.ranges.i s.ranges.j c.in-1.is (λ a b. refl) c.arith.ensures

pub returns-in-2 : goal.returns-in-2
returns-in-2 c =
    let s = c in
    of-ints 2 (int_arith Div) s.ranges.i s.ranges.j c.in-2.is (λ a b. refl) c.arith-in-2.ensures

pub returns-in-3 : goal.returns-in-3
returns-in-3 c =
    let s = c in
    of-ints 3 (int_arith Rem) s.ranges.i s.ranges.j c.in-3.is (λ a b. refl) c.arith-in-3.ensures

pub returns-in-4 : goal.returns-in-4
returns-in-4 c =
    let s = c in
    of-ints 4 (int_arith Add) s.ranges.i s.ranges.j c.in-4.is (λ a b. refl) c.arith-in-4.ensures

pub returns-in-5 : goal.returns-in-5
returns-in-5 c =
    let s = c in
    of-ints 5 (int_arith Sub) s.ranges.i s.ranges.j c.in-5.is (λ a b. refl) c.arith-in-5.ensures

pub returns-in-6 : goal.returns-in-6
returns-in-6 c =
    let s = c in
    of-ints 6 (shift_int Left) s.ranges.i s.ranges.j c.in-6.is (λ a b. refl) c.shift.ensures

pub returns-in-7 : goal.returns-in-7
returns-in-7 c =
    let s = c in
    of-ints 7 (shift_int Right) s.ranges.i s.ranges.j c.in-7.is (λ a b. refl) c.shift-in-7.ensures

pub returns-in-8 : goal.returns-in-8
returns-in-8 c =
    let s = c in
    of-ints 8 (shift_int RightZero) s.ranges.i s.ranges.j c.in-8.is (λ a b. refl) c.shift-in-8.ensures

pub returns-in-9 : goal.returns-in-9
returns-in-9 c =
    let s = c in
    of-ints 9 (compared Lt) s.ranges.i s.ranges.j c.in-9.is (λ a b. refl)
    (ap Done (c.from_bool.ensures ∙ ap from_bool c.compare.ensures))

pub returns-in-10 : goal.returns-in-10
returns-in-10 c =
    let s = c in
    of-ints 10 (compared Gt) s.ranges.i s.ranges.j c.in-10.is (λ a b. refl)
    (ap Done (c.from_bool-in-10.ensures ∙ ap from_bool c.compare-in-10.ensures))

pub returns-in-11 : goal.returns-in-11
returns-in-11 c =
    let s = c in
    of-ints 11 (compared Le) s.ranges.i s.ranges.j c.in-11.is (λ a b. refl)
    (ap Done (c.from_bool-in-11.ensures ∙ ap from_bool c.compare-in-11.ensures))

pub returns-in-12 : goal.returns-in-12
returns-in-12 c =
    let s = c in
    of-ints 12 (compared Ge) s.ranges.i s.ranges.j c.in-12.is (λ a b. refl)
    (ap Done (c.from_bool-in-12.ensures ∙ ap from_bool c.compare-in-12.ensures))

pub returns-in-13 : goal.returns-in-13
returns-in-13 c =
    let s = c in
    of-ints 13 (compared Eq) s.ranges.i s.ranges.j c.in-13.is (λ a b. refl)
    (ap Done (c.from_bool-in-13.ensures ∙ ap from_bool c.compare-in-13.ensures))

pub returns-in-14 : goal.returns-in-14
returns-in-14 c =
    let s = c in
    of-ints 14 (compared Ne) s.ranges.i s.ranges.j c.in-14.is (λ a b. refl)
    (ap Done (c.from_bool-in-14.ensures ∙ ap from_bool c.compare-in-14.ensures))

pub returns-in-15 : goal.returns-in-15
returns-in-15 c =
    let s = c in
    let R : SFits w32 c.bitwise.result = search rules in
    of-ints 15 (bitwise And) s.ranges.i s.ranges.j c.in-15.is (λ a b. refl)
    (ap (λ z. Done (Int z)) (to_z-of_z w32 c.bitwise.result R ∙ c.bitwise.ensures))

pub returns-in-16 : goal.returns-in-16
returns-in-16 c =
    let s = c in
    let R : SFits w32 c.bitwise-in-16.result = search rules in
    of-ints 16 (bitwise Xor) s.ranges.i s.ranges.j c.in-16.is (λ a b. refl)
    (ap (λ z. Done (Int z)) (to_z-of_z w32 c.bitwise-in-16.result R ∙ c.bitwise-in-16.ensures))

pub returns-in-17 : goal.returns-in-17
returns-in-17 c =
    let s = c in
    let R : SFits w32 c.bitwise-in-17.result = search rules in
    of-ints 17 (bitwise Or) s.ranges.i s.ranges.j c.in-17.is (λ a b. refl)
    (ap (λ z. Done (Int z)) (to_z-of_z w32 c.bitwise-in-17.result R ∙ c.bitwise-in-17.ensures))

pub returns-in-18 : goal.returns-in-18
returns-in-18 c =
    let s = c in
    let R : SFits w32 c.choose.result = search rules in
    of-ints 18 (chosen Max) s.ranges.i s.ranges.j c.in-18.is (λ a b. refl)
    (ap (λ z. Done (Int z)) (to_z-of_z w32 c.choose.result R ∙ c.choose.ensures))

pub returns-in-19 : goal.returns-in-19
returns-in-19 c =
    let s = c in
    let R : SFits w32 c.choose-in-19.result = search rules in
    of-ints 19 (chosen Min) s.ranges.i s.ranges.j c.in-19.is (λ a b. refl)
    (ap (λ z. Done (Int z)) (to_z-of_z w32 c.choose-in-19.result R ∙ c.choose-in-19.ensures))
