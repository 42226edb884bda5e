-- `images::unpack_bits` meets its contract. The invariant: i bytes are there.
use mathlib.Core.Path.{◌≡◌}
use native.Mathlib.Omega.{arith}
use Rattle.images.proofs.Filling.{filled-all}
use Rattle.images.proofs.unpack_bits.Invariants.{bit_at}
use Rattle.images.proofs.unpack_bits.Goals as goal

pub returns : goal.returns
returns c =
    let l = c.loop-i in
    let all : l.i ≡ 128 = omega (arith, c.loop-i-test.false) in
    filled-all (bit_at c.args.image.now) c.args.old.now 128 (omega (arith, c.requires.1)) (rw all at l.invariant)
