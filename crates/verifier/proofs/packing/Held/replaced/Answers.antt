-- `verifier::packing::Held::replaced` meets its contract: the lowest bit is another.
use Rattle.verifier.proofs.Bits.{few-replaced}
use Rattle.verifier.proofs.packing.Held.replaced.Goals as goal

pub invariant_of-result : goal.invariant_of-result
invariant_of-result c =
    let w = c.args.self in
    record { low = w.low; few = rw c.with_lowest.ensures (few-replaced w.height w.bits w.few c.args.n c.requires.1 c.requires.0) }
