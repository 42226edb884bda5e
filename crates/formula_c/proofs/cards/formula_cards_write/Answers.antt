-- `cards::formula_cards_write` meets its contract.
use Rattle.card_write.specs.Given.{writing}
use Rattle.formula_c.proofs.cards.Written.{three}
use Rattle.formula_c.proofs.cards.formula_cards_write.Goals as goal

pub returns-clause-res_after : goal.returns-clause-res_after
returns-clause-res_after c = three c.write-w.result (writing c.args.texts.now c.args.cards.now c.args.out.now) c.write-w.ensures.value
