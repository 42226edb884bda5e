-- `operators::truth_in` meets its contract: the full truth, or an integer's; a real is none of the profile's.
use Rattle.operators.proofs.Admitted.{no-real}
use Rattle.operators.proofs.truth_in.Goals as goal

pub returns-in-Real : goal.returns-in-Real
returns-in-Real c h =
    let a = c.args in
    no-real a.reals a.v c.if-reals.false c.in-Real.is h
