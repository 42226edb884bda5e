-- `verifier::accepts_in` meets its contract: the verdict is the only right one.
use mathlib.Core.Path.{ap, ◌∙◌}
use Rattle.verifier.specs.Verdicts.{is_accepted}
use Rattle.verifier.proofs.Profile.{profile-verdicts}
use Rattle.verifier.proofs.accepts_in.Goals as goal

pub returns-then-n-lt129 : goal.returns-then-n-lt129
returns-then-n-lt129 c = c.is_accepted.ensures ∙ ap is_accepted (profile-verdicts.determined _ _ _ _ c.short.ensures)

pub returns-else-n-lt129 : goal.returns-else-n-lt129
returns-else-n-lt129 c = c.is_accepted-else-n-lt129.ensures ∙ ap is_accepted (profile-verdicts.determined _ _ _ _ c.long.ensures)
