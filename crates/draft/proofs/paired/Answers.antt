-- `draft::paired` meets its contract.
use Rattle.grammar.specs.Functions.{function_operator}
use Rattle.draft.proofs.Numbers.{binary-at}
use Rattle.draft.proofs.Typed.{binary-typed, binary-function}
use Rattle.draft.proofs.paired.Goals as goal

pub returns : goal.returns
returns c =
    let n = function_operator c.args.f in
    let h = binary-function c.args.f c.requires.0 in
    let t = binary-typed n h c.operator-op.ensures c.kind_of.ensures.result_value c.kind_of-2.ensures.result_value c.binary_kind-kind.ensures in
    record { result_value = cc t.1; draft_after = cc (binary-at n h) }
