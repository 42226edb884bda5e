-- `power` meets its contract.
use Rattle.literals.proofs.Decimals.{power-of-ten}
use Rattle.literals.proofs.power.Goals as goal

pub returns : goal.returns
returns c = power-of-ten c.args.k c.requires
