-- `images::unpack` meets its contract: the sizes, then the bits, then what stands behind them.
use Prim.Native.Nat.{◌/◌, ◌%◌}
use native.Mathlib.Omega.{arith}
use lib.ListN.{get_or, drop}
use Rattle.words.specs.Bits.{bit}
use Rattle.images.specs.Conversions.{unpacked_of}
use Rattle.images.proofs.Answering.{refused-old, refused-new, done, joined}
use Rattle.images.proofs.unpack.Goals as goal

pub returns-then-old-ne-OLD_SIZE : goal.returns-then-old-ne-OLD_SIZE
returns-then-old-ne-OLD_SIZE c =
    let a = c in
    refused-old a.args.old.now a.args.image.now a.args.old.now (unpacked_of a.args.image.now) (λ e. c.if-old-ne-OLD_SIZE.true (omega (arith, e)))

pub returns-then-image-ne-IMAGE_SIZE : goal.returns-then-image-ne-IMAGE_SIZE
returns-then-image-ne-IMAGE_SIZE c =
    let a = c in
    refused-new a.args.old.now a.args.image.now a.args.old.now (unpacked_of a.args.image.now)
    (omega (arith, c.if-old-ne-OLD_SIZE.false)) (λ e. c.if-image-ne-IMAGE_SIZE.true (omega (arith, e)))

pub unpack_bits-requires : goal.unpack_bits-requires
unpack_bits-requires c = (omega (arith, c.if-image-ne-IMAGE_SIZE.false), omega (arith, c.if-old-ne-OLD_SIZE.false))

pub copy_rest-requires : goal.copy_rest-requires
copy_rest-requires c =
    let s = c in
    (omega (arith, s.if-old-ne-OLD_SIZE.false, s.if-image-ne-IMAGE_SIZE.false), omega (arith, s.if-old-ne-OLD_SIZE.false, s.if-image-ne-IMAGE_SIZE.false))

pub returns : goal.returns
returns c =
    let a = c.args in
    done a.old.now a.image.now a.old.now (unpacked_of a.image.now)
    (omega (arith, c.if-old-ne-OLD_SIZE.false)) (omega (arith, c.if-image-ne-IMAGE_SIZE.false))
    (joined (λ i. bit (get_or a.image.now (i / 8) 0) (i % 8)) 128 (drop 128 a.old.now) (drop 16 a.image.now)
    c.unpack_bits.ensures c.copy_rest.ensures)
