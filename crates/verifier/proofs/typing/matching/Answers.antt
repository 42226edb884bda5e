-- `verifier::typing::matching` meets its contract: the expression is replaced by a value of the operator's kind, or the range is barred.
use mathlib.Core.Path.{refl, sym, ◌∙◌, subst}
use Rattle.verifier.specs.private.Shapes.{kinds_of, Leaves, stops}
use Rattle.verifier.proofs.Reading.{match-silent, match-barred}
use Rattle.verifier.proofs.Held.{one-taken, match-short}
use Rattle.verifier.proofs.typing.matching.Goals as goal

pub returns-then-is_barred : goal.returns-then-is_barred
returns-then-is_barred c =
    rw (match-barred c.args.reals c.args.w (kinds_of c.args.held) (sym c.is_barred.ensures ∙ c.if-is_barred.true)) (stops refl refl)

pub returns : goal.returns
returns c =
    let e = one-taken c.args.reals (match-silent c.args.reals c.args.w (sym c.is_barred.ensures ∙ c.if-is_barred.false)) c.args.held.height
    c.args.held.bits c.requires.admitted (match-short c.args.w) (c.match_kind.ensures _) in
    subst (Leaves _ _ c.replace.result) (sym e) c.replace.ensures
