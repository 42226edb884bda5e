-- `write` meets its contract.
use mathlib.Core.Path.{subst}
use Rattle.token_table.specs.private.Table.{Fills}
use Rattle.formatter.proofs.Whole.{whole-position, whole_says, whole-some, no-wrong}
use Rattle.formatter.proofs.write.Goals as goal

pub formula-requires : goal.formula-requires
formula-requires c =
    let g = subst (Fills _ _) c.in-Ok.is c.fill.ensures.fills in
    (whole-position _ _ g (c.fill.ensures.token_words c.requires.text_len_bound.2), whole-some _ _ g c.requires.accepted)

pub returns-in-Ok : goal.returns-in-Ok
returns-in-Ok c =
    let g = subst (Fills _ _) c.in-Ok.is c.fill.ensures.fills in
    record { counted = c.formula.ensures.counted; holds = λ t e. c.formula.ensures.by_index _ _ _ (whole_says _ _ g e) }

pub returns-in-Err : goal.returns-in-Err
returns-in-Err c = absurd (no-wrong _ _ c.requires.accepted (subst (Fills _ _) c.in-Err.is c.fill.ensures.fills))
