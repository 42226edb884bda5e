-- `integers::index` meets its contract: a number lies below zero, below the bank's count, or beyond.
use borrow.Author.Rules.{rules}
use mir.Syntax.{w32}
use mir.Val.{SFits}
use Rattle.values.proofs.integers.Counts.{cast-natural}
use Rattle.operators.proofs.Positions.{natural, below, within, beyond}
use Rattle.operators.proofs.integers.index.Goals as goal

pub returns-then-z-lt0 : goal.returns-then-z-lt0
returns-then-z-lt0 c = below c.args.z (search rules) c.args.elements c.if-z-lt0.true

pub overflow_cast-i : goal.overflow_cast-i
overflow_cast-i c =
    let z = c.args.z in
    let F : SFits w32 z = search rules in
    cast-natural z F (natural z F c.if-z-lt0.false)

pub returns-then-i-elements : goal.returns-then-i-elements
returns-then-i-elements c =
    let a = c.args in
    within a.z (search rules) a.elements c.if-z-lt0.false c.if-i-elements.true

pub returns-else-i-elements : goal.returns-else-i-elements
returns-else-i-elements c =
    let a = c.args in
    beyond a.z (search rules) a.elements c.if-z-lt0.false c.if-i-elements.false
