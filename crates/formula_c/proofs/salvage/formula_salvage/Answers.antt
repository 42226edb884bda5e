-- `salvage::formula_salvage` meets its contract.
use lib.ListN.{length}
use Rattle.card_laws.specs.Formulas.{formula_answer}
use Rattle.salvage_laws.specs.Salvage.{salvage}
use Rattle.formula_c.proofs.salvage.Three.{three}
use Rattle.formula_c.proofs.salvage.formula_salvage.Goals as goal

pub returns-clause-res_after : goal.returns-clause-res_after
returns-clause-res_after c =
    let s = c.args in
    three c.salvage-s.result (salvage formula_answer (length s.kept.now) (length s.named.now) s.file.now) c.salvage-s.ensures.value
