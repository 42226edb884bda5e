-- `verifier::places::Brought::merge` meets its contract: jumps brought nothing before, or something.
use native.Mathlib.Omega.{arith}
use Rattle.verifier.proofs.Bits.{agree}
use Rattle.verifier.proofs.Merging.{merges-none, merges-same}
use Rattle.verifier.proofs.places.Brought.merge.Goals as goal

pub returns-in-Some-clause-merges : goal.returns-in-Some-clause-merges
returns-in-Some-clause-merges c = merges-same _ (rw c.in-Some.is at c.at.ensures) (agree c.args.held.now c.in-Some.earlier c.eq.ensures)

pub returns-in-None-clause-merges : goal.returns-in-None-clause-merges
returns-in-None-clause-merges c =
    let before = c.args.self.now in
    merges-none before.tops.now before.bits.now c.args.target c.args.held.now.height c.args.held.now.bits (omega (arith, before.room, c.requires))
    (omega (arith, before.room, before.sizes, c.requires))
    (rw c.in-None.is at c.at.ensures)
