-- `outputs::put_lines` meets its contract: seven texts, one behind the other.
use Rattle.card_salvage.proofs.outputs.Writing.{lines_of}
use Rattle.lines.proofs.Stores.{then, as-text}
use native.Mathlib.Omega.{arith}
use Rattle.card_salvage.proofs.outputs.put_lines.Goals as goal

pub put_decimal-b-requires : goal.put_decimal-b-requires
put_decimal-b-requires c = omega (arith, c.requires, c.put_all-a.ensures.end)

pub put_all-c-requires : goal.put_all-c-requires
put_all-c-requires c = omega (
  arith,
  c.requires,
  c.put_all-a.ensures.end,
  c.put_decimal-b.ensures.value,
)

pub put_decimal-d-requires : goal.put_decimal-d-requires
put_decimal-d-requires c = omega (
  arith,
  c.requires,
  c.put_all-a.ensures.end,
  c.put_decimal-b.ensures.value,
  c.put_all-c.ensures.end,
)

pub put_all-e-requires : goal.put_all-e-requires
put_all-e-requires c = omega (
  arith,
  c.requires,
  c.put_all-a.ensures.end,
  c.put_decimal-b.ensures.value,
  c.put_all-c.ensures.end,
  c.put_decimal-d.ensures.value,
)

pub put_decimal-f-requires : goal.put_decimal-f-requires
put_decimal-f-requires c = omega (
  arith,
  c.requires,
  c.put_all-a.ensures.end,
  c.put_decimal-b.ensures.value,
  c.put_all-c.ensures.end,
  c.put_decimal-d.ensures.value,
  c.put_all-e.ensures.end,
)

pub put_all-requires : goal.put_all-requires
put_all-requires c = omega (
  arith,
  c.requires,
  c.put_all-a.ensures.end,
  c.put_decimal-b.ensures.value,
  c.put_all-c.ensures.end,
  c.put_decimal-d.ensures.value,
  c.put_all-e.ensures.end,
  c.put_decimal-f.ensures.value,
)

pub returns : goal.returns
returns c =
    as-text (lines_of c.args.first c.args.size c.args.answer) (then (then (then (then (then (then
    c.put_all-a.ensures c.put_decimal-b.ensures.puts) c.put_all-c.ensures)
    c.put_decimal-d.ensures.puts) c.put_all-e.ensures)
    c.put_decimal-f.ensures.puts) c.put_all.ensures)
