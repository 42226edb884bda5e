-- `compiler::judge_in` meets its contract.
use native.Mathlib.Omega.{arith}
use mathlib.Core.Path.{refl}
use Rattle.compiler.proofs.Answers.{sized, not-sized}
use Rattle.compiler.proofs.judge_in.Goals as goal

pub returns-then-not-is_sized : goal.returns-then-not-is_sized
returns-then-not-is_sized c = let a = c.args in rw (not-sized a.text.now c.is_sized.ensures c.if-not-is_sized.true a.reals a.opened) refl

pub judge_within-requires : goal.judge_within-requires
judge_within-requires c = (sized c.args.text.now c.is_sized.ensures c.if-not-is_sized.false, omega arith, omega arith)

pub returns-then-text-lt64 : goal.returns-then-text-lt64
returns-then-text-lt64 c = c.judge_within.ensures

pub judge_within-requires-2 : goal.judge_within-requires-2
judge_within-requires-2 c =
    let s = sized c.args.text.now c.is_sized.ensures c.if-not-is_sized.false in
    (s, omega (arith, s.short), omega arith)

pub returns : goal.returns
returns c = c.judge_within-2.ensures
