-- `interval_of` meets its contract, class by class.
use mathlib.Core.Path.{◌≡◌, refl, sym, subst}
use mathlib.Core.Logic.{inl, inr}
use Rattle.code.specs.declared.Class.{Class}
use Rattle.code.specs.declared.Class.TheVariants as Class
use Rattle.read_set.proofs.Classes.{Silent, push-int, push-real, jump, jump-if-false, jump-if-true, tick, since, unary, binary, unknown}
use Rattle.read_set.proofs.Classes.{of-class, of-silent}
use Rattle.read_set.proofs.interval_of.Goals as goal

quiet : {d k : Class} → d ≡ k → Silent k → Silent d
quiet e s = subst Silent (sym e) s

pub returns-in-PushInt : goal.returns-in-PushInt
returns-in-PushInt c =
    let s : Silent c.class_of.result = elim c.in-PushInt.is [
      | inl e ↦ quiet e push-int
      | inr other ↦ elim other [ inl e ↦ quiet e push-real | inr last ↦ elim last [ inl e ↦ quiet e tick | inr e ↦ quiet e since ] ]
    ] in
    of-silent _ c.class_of.result _ c.class_of.ensures refl s c.nothing.ensures

pub returns-in-Jump : goal.returns-in-Jump
returns-in-Jump c =
    let s : Silent c.class_of.result = elim c.in-Jump.is [
      | inl e ↦ quiet e jump
      | inr other ↦ elim other [ inl e ↦ quiet e jump-if-false | inr e ↦ quiet e jump-if-true ]
    ] in
    of-silent _ c.class_of.result _ c.class_of.ensures refl s c.nothing-in-Jump.ensures

pub returns-in-Load : goal.returns-in-Load
returns-in-Load c = of-class _ Class.Load _ c.class_of.ensures c.in-Load.is c.one_cell.ensures

pub returns-in-LoadIndexed : goal.returns-in-LoadIndexed
returns-in-LoadIndexed c = of-class _ Class.LoadIndexed _ c.class_of.ensures c.in-LoadIndexed.is c.whole_bank.ensures

pub returns-in-Unary : goal.returns-in-Unary
returns-in-Unary c =
    let s : Silent c.class_of.result = elim c.in-Unary.is [ inl e ↦ quiet e unary | inr e ↦ quiet e binary ] in
    of-silent _ c.class_of.result _ c.class_of.ensures refl s c.nothing-in-Unary.ensures

pub returns-in-Total : goal.returns-in-Total
returns-in-Total c = of-class _ Class.Total _ c.class_of.ensures c.in-Total.is c.total.ensures

pub returns-in-Match : goal.returns-in-Match
returns-in-Match c = of-class _ Class.Match _ c.class_of.ensures c.in-Match.is c.matching.ensures

pub returns-in-Unknown : goal.returns-in-Unknown
returns-in-Unknown c = of-silent _ Class.Unknown _ c.class_of.ensures c.in-Unknown.is unknown c.nothing-in-Unknown.ensures
