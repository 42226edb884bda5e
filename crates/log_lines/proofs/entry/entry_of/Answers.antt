-- `entry_of` meets its contract.
use mathlib.Core.Path.{refl, sym, ◌∙◌}
use native.Mathlib.Omega.{arith}
use lib.Seq.{length-take-le}
use Rattle.log_lines.proofs.Entries.{no_key, tick-line, run-line, cell-line, inside_too}
use Rattle.program.proofs.case.Effects.{value_of}
use Rattle.log_lines.proofs.entry.entry_of.Goals as goal

pub returns-then-k-line : goal.returns-then-k-line
returns-then-k-line c =
    let pair = inside_too c.args.line.now
    (no_key c.args.line.now c.until-k.ensures.0 (omega (arith, c.if-k-line.true))) in
    record { value = pair.0; entry_inside = pair.1 }

pub slice_bounds-key-end : goal.slice_bounds-key-end
slice_bounds-key-end c = sym (length-take-le c.until-k.result c.args.line.now
    c.until-k.ensures.1)

pub returns-then-same_bytes : goal.returns-then-same_bytes
returns-then-same_bytes c =
    let pair = inside_too c.args.line.now
    (tick-line c.args.line.now
    c.until-k.ensures.0
    (omega (
      arith,
      c.until-k.ensures.1,
      c.if-k-line.false,
    ))
    (value_of c.args.line.now
    c.until-k.result) (sym c.if-same_bytes.true ∙ c.same_bytes.ensures)
    c.tick_entry.ensures) in
    record { value = pair.0; entry_inside = pair.1 }

pub returns-then-same_bytes-2 : goal.returns-then-same_bytes-2
returns-then-same_bytes-2 c =
    let pair = inside_too c.args.line.now
    (run-line c.args.line.now
    c.until-k.ensures.0
    (omega (
      arith,
      c.until-k.ensures.1,
      c.if-k-line.false,
    ))
    (value_of c.args.line.now
    c.until-k.result)
    (sym c.if-same_bytes.false ∙ c.same_bytes.ensures)
    (sym c.if-same_bytes-2.true ∙ c.same_bytes-2.ensures) c.run_entry.ensures) in
    record { value = pair.0; entry_inside = pair.1 }

pub returns-in-Some : goal.returns-in-Some
returns-in-Some c =
    let pair = inside_too c.args.line.now (cell-line c.args.line.now c.until-k.ensures.0 (omega (
      arith,
      c.until-k.ensures.1,
      c.if-k-line.false,
    ))
    (value_of c.args.line.now c.until-k.result)
    (sym c.if-same_bytes.false
    ∙ c.same_bytes.ensures)
    (sym c.if-same_bytes-2.false ∙ c.same_bytes-2.ensures)
    (sym c.in-Some.is ∙ c.cell_named.ensures) c.change_entry.ensures) in
    record { value = pair.0; entry_inside = pair.1 }

pub returns-in-None : goal.returns-in-None
returns-in-None c =
    let pair = inside_too c.args.line.now (cell-line c.args.line.now
    c.until-k.ensures.0
    (omega (
      arith,
      c.until-k.ensures.1,
      c.if-k-line.false,
    ))
    (value_of c.args.line.now
    c.until-k.result)
    (sym c.if-same_bytes.false ∙ c.same_bytes.ensures)
    (sym c.if-same_bytes-2.false ∙ c.same_bytes-2.ensures)
    (sym c.in-None.is ∙ c.cell_named.ensures) refl) in
    record { value = pair.0; entry_inside = pair.1 }
