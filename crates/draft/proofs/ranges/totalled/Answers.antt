-- `draft::ranges::totalled` meets its contract.
use Rattle.grammar.specs.Functions.{function_operator}
use Rattle.token_table.specs.private.Table.{word_operand}
use Rattle.draft.proofs.Numbers.{bank-at, total-at}
use Rattle.draft.proofs.Typed.{total-function}
use Rattle.draft.proofs.ranges.Spans.{total-typed}
use borrow.Author.Rules.{rules}
use Rattle.draft.proofs.ranges.totalled.Goals as goal

pub done-requires : goal.done-requires
done-requires c =
    let n = function_operator c.args.f in
    let m = word_operand c.args.first in
    let h = total-function c.args.f c.requires.0 in
    let t = total-typed n m c.requires.1.few c.operator-op.ensures c.operand_of.ensures h c.total_kind-kind.ensures in
    (search rules, search rules, t.1, search rules)

pub returns : goal.returns
returns c =
    let n = function_operator c.args.f in
    let m = word_operand c.args.first in
    let h = total-function c.args.f c.requires.0 in
    let t = total-typed n m c.requires.1.few c.operator-op.ensures c.operand_of.ensures h c.total_kind-kind.ensures in
    record { result_value = cc t.0; draft_after = cc (total-at n h, bank-at m c.requires.1.few) }
