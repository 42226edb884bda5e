-- `draft::chosen` meets its contract.
use native.Mathlib.Omega.{arith}
use Rattle.operators.specs.Kinds.{number_kind}
use Rattle.draft.proofs.Words.{chosen-way, few}
use Rattle.draft.proofs.Typed.{joined-kind}
use borrow.Author.Rules.{rules}
use Rattle.draft.proofs.chosen.Goals as goal

pub overflow_add-k : goal.overflow_add-k
overflow_add-k c = omega (arith, c.skipped.ensures, (few (number_kind c.kind_of-a.result) (number_kind c.kind_of-b.result)).0)

pub overflow_cast-k : goal.overflow_cast-k
overflow_cast-k c = omega (arith, c.skipped.ensures, (few (number_kind c.kind_of-a.result) (number_kind c.kind_of-b.result)).0)

pub done-requires : goal.done-requires
done-requires c = (
  search rules,
  omega (arith, c.promoted-end.ensures.value, (few (number_kind c.kind_of-a.result) (number_kind c.kind_of-b.result)).1),
  (joined-kind c.kind_of-a.ensures.result_value c.kind_of-b.ensures.result_value c.joined.ensures).1,
  search rules,
)

pub returns : goal.returns
returns c =
    let k = joined-kind c.kind_of-a.ensures.result_value c.kind_of-b.ensures.result_value c.joined.ensures in
    record {
      result_value = cc k.0;
      draft_after = chosen-way c.args.draft.now c.end_of-j.ensures.value c.end_of-k.ensures.value c.kind_of-a.ensures.result_value
          c.kind_of-b.ensures.result_value c.skipped.ensures c.put.ensures c.promoted-end.ensures.draft_after;
    }
