-- `draft::joined` meets its contract.
use Prim.Native.Nat.{◌≤◌, ◌<◌}
use native.Mathlib.Omega.{arith}
use borrow.Author.Tests.{lt-ltb, le-ltb}
use Rattle.token_table.specs.private.Table.{word_operand}
use Rattle.draft.proofs.Numbers.{binary-at}
use Rattle.draft.proofs.Typed.{binary-typed}
use Rattle.draft.proofs.Words.{which}
use Rattle.draft.proofs.joined.Goals as goal

pub settle-requires : goal.settle-requires
settle-requires c =
    let n = word_operand c.args.w in
    let l : 18 ≤ n = omega arith in
    let h = rw (le-ltb n 18 l) at c.requires.1 in
    (omega arith, omega arith, omega arith)

pub returns-then-n-ge-AND : goal.returns-then-n-ge-AND
returns-then-n-ge-AND c =
    let n = word_operand c.args.w in
    let l : 18 ≤ n = omega arith in
    rw (le-ltb n 18 l) (record { result_value = cc; draft_after = cc (which n l c.requires.0) })

pub returns : goal.returns
returns c =
    let n = word_operand c.args.w in
    let l : n < 18 = omega arith in
    let t = binary-typed n c.requires.0 c.operand_of-n.ensures c.kind_of.ensures.result_value c.kind_of-2.ensures.result_value
    c.binary_kind-kind.ensures in
    rw (lt-ltb n 18 l) (record { result_value = cc (t.0, t.1); draft_after = cc (binary-at n c.requires.0) })
