-- `images::pack` meets its contract: the sizes, then the bits, then what stands behind them.
use Prim.Native.Nat.{◌*◌}
use native.Mathlib.Omega.{arith}
use lib.ListN.{drop}
use Rattle.images.specs.Conversions.{byte_of, packed_of}
use Rattle.images.proofs.Answering.{refused-old, refused-new, done, joined}
use Rattle.images.proofs.pack.Goals as goal

pub returns-then-old-ne-OLD_SIZE : goal.returns-then-old-ne-OLD_SIZE
returns-then-old-ne-OLD_SIZE c =
    let a = c in
    refused-old a.args.old.now a.args.image.now a.args.image.now (packed_of a.args.old.now) (λ e. c.if-old-ne-OLD_SIZE.true (omega (arith, e)))

pub returns-then-image-ne-IMAGE_SIZE : goal.returns-then-image-ne-IMAGE_SIZE
returns-then-image-ne-IMAGE_SIZE c =
    let a = c in
    refused-new a.args.old.now a.args.image.now a.args.image.now (packed_of a.args.old.now)
    (omega (arith, c.if-old-ne-OLD_SIZE.false)) (λ e. c.if-image-ne-IMAGE_SIZE.true (omega (arith, e)))

pub pack_bits-requires : goal.pack_bits-requires
pack_bits-requires c = (omega (arith, c.if-old-ne-OLD_SIZE.false), omega (arith, c.if-image-ne-IMAGE_SIZE.false))

pub copy_rest-requires : goal.copy_rest-requires
copy_rest-requires c =
    let s = c in
    (omega (arith, s.if-old-ne-OLD_SIZE.false, s.if-image-ne-IMAGE_SIZE.false), omega (arith, s.if-old-ne-OLD_SIZE.false, s.if-image-ne-IMAGE_SIZE.false))

pub returns : goal.returns
returns c =
    let a = c.args in
    done a.old.now a.image.now a.image.now (packed_of a.old.now)
    (omega (arith, c.if-old-ne-OLD_SIZE.false)) (omega (arith, c.if-image-ne-IMAGE_SIZE.false))
    (joined (λ k. byte_of a.old.now (8 * k) 8) 16 (drop 16 a.image.now) (drop 128 a.old.now)
    c.pack_bits.ensures c.copy_rest.ensures)
