-- `convert::nearest` meets its contract: up to 2 ^ 24 the cast is exact, and above it the product of two exact casts is.
use Rattle.std.proofs.Common.{◌≡◌, ◌-◌, ◌^◌, ap, ◌∙◌, pow_pos, pow_mono}
use lib.Count.{count_leading_zeros}
use lib.Ieee.Nearest.{closest}
use Rattle.values.proofs.convert.Digits.{Digits, digits}
use Rattle.values.proofs.convert.Promotion.{in-float, kept-lt, closest-le, product_is}
use Rattle.values.proofs.convert.nearest.Goals as goal

-- past the test m has more than 24 digits
pub divided-n-requires : goal.divided-n-requires
divided-n-requires c =
    let m = c.args.m in
    let d = 8 - count_leading_zeros 32 m in
    let h : Digits m d = digits m c.if-m-le16777216.false c.ranges.m.fits in
    rw c.unit_of-unit.ensures (pow_pos d, pow_mono {i = d} {j = 8} h.most, kept-lt h)

pub int_to_float-result-2 : goal.int_to_float-result-2
int_to_float-result-2 c =
    let m = c.args.m in
    let h : Digits m (8 - count_leading_zeros 32 m) = digits m c.if-m-le16777216.false c.ranges.m.fits in
    in-float _ (rw (c.divided-n.ensures, c.unit_of-unit.ensures) (closest-le h))

pub returns : goal.returns
returns c =
    let m = c.args.m in
    let d = 8 - count_leading_zeros 32 m in
    let h : Digits m d = digits m c.if-m-le16777216.false c.ranges.m.fits in
    let u : c.unit_of-unit.result ≡ 2 ^ d = c.unit_of-unit.ensures in
    let n : c.divided-n.result ≡ closest m (2 ^ d) = c.divided-n.ensures ∙ ap (closest m) u in
    rw (n, u) (product_is h)
