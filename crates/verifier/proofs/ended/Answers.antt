-- `verifier::ended` meets its contract: one value, or not.
use Rattle.std.specs.Prelude.{Some}
use mathlib.Core.Path.{ap, ◌∙◌}
use Rattle.verifier.proofs.Stepping.{end-one, end-other}
use Rattle.verifier.proofs.ended.Goals as goal

pub returns-then-held-eq1 : goal.returns-then-held-eq1
returns-then-held-eq1 c = ap Some c.kind.ensures ∙ end-one c.args.held c.lowest.ensures
    c.if-held-eq1.true

pub returns : goal.returns
returns c = end-other c.args.held c.if-held-eq1.false
