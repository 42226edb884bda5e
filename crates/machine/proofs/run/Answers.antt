-- `run` meets its contract: with reals the run is the full box's.
use Rattle.machine.proofs.Profile.{with-reals}
use Rattle.machine.proofs.run.Goals as goal

pub returns : goal.returns
returns c =
    let a = c.args in
    with-reals a.tick a.code.now a.n a.image.now c.run_in.ensures
