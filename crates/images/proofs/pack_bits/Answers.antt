-- `images::pack_bits` meets its contract. The invariant: k bytes are there.
use mathlib.Core.Path.{◌≡◌}
use native.Mathlib.Omega.{arith}
use Rattle.images.proofs.Filling.{filled-all}
use Rattle.images.proofs.pack_bits.Invariants.{eight}
use Rattle.images.proofs.pack_bits.Goals as goal

pub returns : goal.returns
returns c =
    let l = c.loop-k in
    let all : l.k ≡ 16 = omega (arith, c.loop-k-test.false) in
    filled-all (eight c.args.old.now) c.args.image.now 16 (omega (arith, c.requires.1)) (rw all at l.invariant)
