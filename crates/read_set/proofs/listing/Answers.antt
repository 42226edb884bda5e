-- `listing` meets its contract. The invariant: what is left to list, behind what is listed, is the whole list.
use mathlib.Core.Path.{◌≡◌, refl}
use Prim.Native.Nat.{◌+◌}
use native.Mathlib.Omega.{arith}
use lib.ListN.{get_or}
use borrow.Author.Rules.{rules}
use Rattle.read_set.specs.private.Reaches.{reached_to, larger}
use Rattle.read_set.proofs.Numbering.{begins, reached, listed, skipped, all-counted, all-written}
use Rattle.read_set.proofs.listing.Goals as goal
use Rattle.read_set.proofs.listing.Goals.{then-number-end, else-number-end}

pub loop-number-init : goal.loop-number-init
unfolding reached_to
loop-number-init c = (omega arith, c.requires, refl, begins _ _)

pub loop-number-preserved : goal.loop-number-preserved
loop-number-preserved c =
    let l = c.loop-number in
    let more : c.max-end.result ≡ larger l.end (l.number + get_or c.args.reaches.now l.number 0) = search rules in
    let r = reached c.args.reaches.now l.number l.invariant.2 more in
    elim c.if-number-end.branch [
      | then-number-end w ↦ rw (w.found-is, w.list-is)
          (omega arith, l.invariant.1, r, listed l.invariant.3 c.loop-number-test.true r w.if-number-end.true w.put.ensures)
      | else-number-end w ↦ rw (w.found-is, w.list-is)
          (omega arith, l.invariant.1, r, skipped l.invariant.3 c.loop-number-test.true r w.if-number-end.false)
    ]

pub returns : goal.returns
returns c = record {
  value = all-counted c.loop-number.invariant.3 c.loop-number-test.false;
  list_after = all-written c.loop-number.invariant.3 c.loop-number-test.false;
}
