-- `write` meets its contract: too long, or judged and put so.
use Rattle.card_write.proofs.Sizes.{all_rows}
use Rattle.card_write.proofs.Putting.{too_long, few, small, judged-so}
use mathlib.Core.Path.{sym, ◌∙◌}
use lib.Seq.{length-take-le}
use Rattle.card_write.proofs.write.Goals as goal

pub returns-then-not-fits : goal.returns-then-not-fits
returns-then-not-fits c =
    let b = all_rows c.args.texts.now c.args.cards.now c.as_chunks.ensures.front in
    let r = too_long c.args.out.now c.args.texts.now c.args.cards.now _ b (sym c.if-not-fits.true ∙ c.fits.ensures) in
    record { value = r.0; out_after = r.1 }

pub slice_bounds-put_cards-end : goal.slice_bounds-put_cards-end
slice_bounds-put_cards-end c =
    let b = all_rows c.args.texts.now c.args.cards.now c.as_chunks.ensures.front in
    sym (length-take-le _ _ (few c.args.out.now c.args.texts.now c.args.cards.now _ b (sym c.if-not-fits.false ∙ c.fits.ensures)
    c.judge_cards-judged.ensures))

pub put_cards-requires : goal.put_cards-requires
put_cards-requires c =
    let b = all_rows c.args.texts.now c.args.cards.now c.as_chunks.ensures.front in
    small c.args.out.now c.args.texts.now c.args.cards.now _ b (sym c.if-not-fits.false ∙ c.fits.ensures) c.judge_cards-judged.ensures

pub returns : goal.returns
returns c =
    let b = all_rows c.args.texts.now c.args.cards.now c.as_chunks.ensures.front in
    let r = judged-so c.args.out.now c.args.texts.now c.args.cards.now _ b (sym c.if-not-fits.false ∙ c.fits.ensures) c.judge_cards-judged.ensures
    c.put_cards.ensures in
    record { value = r.0; out_after = r.1 }
