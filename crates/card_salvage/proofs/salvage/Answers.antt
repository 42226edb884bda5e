-- `salvage` meets its contract: too long, or written.
use Rattle.card_salvage.proofs.Results.{too_long, rooms, written}
use mathlib.Core.Path.{sym, ◌∙◌}
use Rattle.card_salvage.proofs.salvage.Goals as goal

pub returns-then-not-fit : goal.returns-then-not-fit
returns-then-not-fit c =
    let pair = too_long c.args.file.now c.args.kept.now
    c.args.named.now (sym c.if-not-fit.true ∙ c.fit.ensures) in
    record { value = pair.0; kept_after = pair.1.0; named_after = pair.1.1 }

pub write-requires : goal.write-requires
write-requires c =
    let pair = rooms c.args.file.now c.args.kept.now c.args.named.now (sym c.if-not-fit.false ∙ c.fit.ensures) in
    record { file_in_bounds = pair.0; file_in_bounds_2 = pair.1 }

pub returns : goal.returns
returns c =
    let pair = written c.args.file.now c.args.kept.now c.args.named.now (sym c.if-not-fit.false
    ∙ c.fit.ensures) c.write.result
    (c.write.ensures.answer_value, (c.write.ensures.puts, c.write.ensures.puts_2)) in
    record { value = pair.0; kept_after = pair.1.0; named_after = pair.1.1 }
