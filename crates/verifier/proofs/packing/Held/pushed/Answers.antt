-- `verifier::packing::Held::pushed` meets its contract: there is room for one more bit.
use Rattle.verifier.proofs.Bits.{room}
use Rattle.verifier.proofs.packing.Held.pushed.Goals as goal

pub with_bit-requires : goal.with_bit-requires
with_bit-requires c =
    let w = c.args.self in
    (room w.height w.bits w.few c.requires.0, c.requires.1)
