-- `lists::fill_answers` meets its contract: the answers before stand behind the operation's own.
use Rattle.formula_c.proofs.lists.Filling.{start, next, end}
use Rattle.formula_c.proofs.lists.fill_answers.Goals as goal

pub loop-i-init : goal.loop-i-init
loop-i-init c = start _ _

pub loop-i-preserved : goal.loop-i-preserved
loop-i-preserved c = next c.loop-i-test.true c.requires c.loop-i.invariant

pub returns : goal.returns
returns c = end c.loop-i-test.false c.requires c.loop-i.invariant
