-- `pattern` meets its contract: digits that make 0 are 0 at every scale.
use Rattle.literals.proofs.Scales.{zero_pattern}
use Rattle.literals.proofs.pattern.Goals as goal

pub returns-then-n-eq0 : goal.returns-then-n-eq0
returns-then-n-eq0 c = zero_pattern _ c.args.scale c.if-n-eq0.true
