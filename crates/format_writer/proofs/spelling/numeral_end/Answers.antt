-- `spelling::numeral_end` meets its contract.
use native.Mathlib.Omega.{arith}
use Rattle.format_writer.proofs.spelling.Ends.{numeral}
use Rattle.format_writer.proofs.spelling.numeral_end.Goals as goal

pub digits-d-requires : goal.digits-d-requires
digits-d-requires c = (c.requires, omega arith)

pub part_end-requires : goal.part_end-requires
part_end-requires c = c.digits-d.ensures.end_value.1

pub tail_end-requires : goal.tail_end-requires
tail_end-requires c = c.part_end.ensures.1

pub returns : goal.returns
returns c =
    let p = c.part_end.ensures in
    let t = c.tail_end.ensures in
    (numeral c.args.text.now c.args.at _ _ _ c.requires c.digits-d.ensures.end_value.0 p.0 p.1 p.2 t.0, t.1)
