-- `verifier::places::Brought::blank` meets its contract: each top and the bits of each place are 0.
use native.Mathlib.Omega.{arith}
use Rattle.verifier.proofs.places.Brought.blank.Goals as goal

pub invariant_of-result : goal.invariant_of-result
invariant_of-result c =
    let b = c.requires in
    record {
      room = b.room;
      sizes = b.sizes;
      low = λ q. rw (b.no-tops q) (omega arith);
      few = λ q. rw (b.no-tops q, b.no-bits q) (omega arith);
    }

pub returns-clause-nothing : goal.returns-clause-nothing
returns-clause-nothing c = λ q. rw (c.requires.no-tops q)
