-- `draft::applied` meets its contract.
use Rattle.grammar.specs.Functions.{function_operator}
use Rattle.draft.proofs.Numbers.{unary-at}
use Rattle.draft.proofs.Typed.{unary-typed, unary-function}
use Rattle.draft.proofs.applied.Goals as goal

pub returns : goal.returns
returns c =
    let n = function_operator c.args.f in
    let h = unary-function c.args.f c.requires.0 in
    let t = unary-typed n h c.operator-op.ensures c.kind_of.ensures.result_value c.unary_kind-kind.ensures in
    record { result_value = cc t.1; draft_after = cc (unary-at n h) }
