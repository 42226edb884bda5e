-- `draft::since` meets its contract.
use Rattle.draft.proofs.Typed.{integer-typed}
use Rattle.draft.proofs.since.Goals as goal

pub returns : goal.returns
returns c =
    let t = integer-typed c.kind_of.ensures.result_value c.of_integer-kind.ensures in
    record { result_value = cc t; draft_after = cc }
