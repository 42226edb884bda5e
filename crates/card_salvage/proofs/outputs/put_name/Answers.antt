-- `outputs::put_name` meets its contract.
use Rattle.card_salvage.proofs.outputs.Taken.{name-long, put-name, kept-name}
use native.Mathlib.Omega.{arith}
use Rattle.card_salvage.proofs.outputs.put_name.Goals as goal

pub put_lines-requires : goal.put_lines-requires
put_lines-requires c = omega (
  arith,
  c.requires,
  name-long c.args.first c.args.size
      c.in-Err.is,
)

pub returns-in-Ok : goal.returns-in-Ok
returns-in-Ok c = kept-name c.args.out.now c.args.at c.args.first
    c.args.size c.in-Ok.is

pub returns-in-Err : goal.returns-in-Err
returns-in-Err c = put-name c.args.first c.args.size c.in-Err.is c.put_lines.ensures
