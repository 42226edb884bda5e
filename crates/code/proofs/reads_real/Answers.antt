-- `code::reads_real` meets its contract: an arm for each class that reads a bank, and one for the others.
use mathlib.Core.Path.{refl, ◌∙◌}
use mathlib.Core.Logic.{inl, inr}
use Rattle.code.specs.declared.Class.TheVariants.{Load, LoadIndexed, Total, Match}
use Rattle.code.proofs.Reals.{by-class, load-reads, indexed-reads, total-reads, match-reads, other-reads}
use Rattle.code.proofs.reads_real.Goals as goal

pub returns-in-Load : goal.returns-in-Load
returns-in-Load c =
    let number = c.from.ensures ∙ c.number_of.ensures in
    elim c.in-Load.is [
      | inl e ↦ by-class _ Load c.class_of.ensures e (load-reads _ c.bank_kind.ensures number)
      | inr e ↦ by-class _ LoadIndexed c.class_of.ensures e (indexed-reads _ c.bank_kind.ensures number)
    ]

pub returns-in-Total : goal.returns-in-Total
returns-in-Total c =
    let kind = c.bank_kind-in-Total.ensures in
    let bank = c.from-in-Total.ensures ∙ c.range_bank.ensures in
    let word = c.word_of.ensures in
    elim c.in-Total.is [
      | inl e ↦ by-class _ Total c.class_of.ensures e (total-reads _ kind bank word)
      | inr e ↦ by-class _ Match c.class_of.ensures e (match-reads _ kind bank word)
    ]

pub returns-in_default : goal.returns-in_default
returns-in_default c =
    let d = c.in_default in
    by-class _ _ c.class_of.ensures refl (other-reads _ _ d.not-Load d.not-LoadIndexed d.not-Total d.not-Match)
