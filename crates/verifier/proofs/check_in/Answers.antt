-- `verifier::check_in` meets its contract: short code or long, and the verdict is the only right one.
use Rattle.verifier.proofs.Profile.{profile-verdicts}
use Rattle.verifier.proofs.check_in.Goals as goal

pub returns-then-n-lt129 : goal.returns-then-n-lt129
returns-then-n-lt129 c = profile-verdicts.determined _ _ _ _ c.short.ensures

pub returns-else-n-lt129 : goal.returns-else-n-lt129
returns-else-n-lt129 c = profile-verdicts.determined _ _ _ _ c.long.ensures
