-- `put_card` meets its contract: the card line, the two lines, their check from what stands in the buffer.
use Rattle.card_write.proofs.Putting.{put-part, put_length, lines-size, digits_of, card-of}
use Rattle.card_laws.proofs.Reading.{card-size}
use Rattle.lines.proofs.Stores.{then, as-text}
use native.Mathlib.Omega.{arith}
use Rattle.card_write.proofs.put_card.Goals as goal

pub put_decimal-b-requires : goal.put_decimal-b-requires
put_decimal-b-requires c = omega (arith, card-size c.args.number c.args.target.now c.args.expr.now, c.requires, c.put_all-a.ensures.end)

pub put_all-d-requires : goal.put_all-d-requires
put_all-d-requires c = omega (
  arith,
  card-size c.args.number c.args.target.now c.args.expr.now,
  lines-size c.args.target.now c.args.expr.now,
  c.requires,
  c.put_all-a.ensures.end,
  c.put_decimal-b.ensures.value,
  c.put_all-lines.ensures.end,
  c.put_lines-end.ensures.end,
  c.put_all-c.ensures.end,
)

pub put_all-requires : goal.put_all-requires
put_all-requires c = omega (
  arith,
  card-size c.args.number c.args.target.now c.args.expr.now,
  lines-size c.args.target.now c.args.expr.now,
  c.requires,
  c.put_all-a.ensures.end,
  c.put_decimal-b.ensures.value,
  c.put_all-lines.ensures.end,
  c.put_lines-end.ensures.end,
  c.put_all-c.ensures.end,
  c.put_all-d.ensures.end,
)

pub returns : goal.returns
returns c = as-text (card-of c.args.number
    c.args.target.now c.args.expr.now _
    (digits_of c.args.target.now c.args.expr.now
    (put-part c.put_lines-end.ensures (omega (
      arith,
      put_length (then (then c.put_all-a.ensures c.put_decimal-b.ensures.puts) c.put_all-lines.ensures),
      card-size c.args.number c.args.target.now c.args.expr.now,
      lines-size c.args.target.now c.args.expr.now,
      c.requires,
      c.put_all-a.ensures.end,
      c.put_decimal-b.ensures.value,
      c.put_all-lines.ensures.end,
    )))
    c.sum_of.ensures
    c.digits_of-digits.ensures))
    (then (then (then (then (then (then c.put_all-a.ensures c.put_decimal-b.ensures.puts)
    c.put_all-lines.ensures)
    c.put_lines-end.ensures) c.put_all-c.ensures) c.put_all-d.ensures) c.put_all.ensures)
