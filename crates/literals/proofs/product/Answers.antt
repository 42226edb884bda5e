-- `product` meets its contract: n over 2 ^ 58, times the two powers of ten.
use native.Mathlib.Omega.{arith}
use Rattle.literals.proofs.Decimals.{times, second-le, second_fits, product-fits, product-pos, product_is}
use Rattle.literals.proofs.product.Goals as goal

pub times-y-requires : goal.times-y-requires
times-y-requires c =
    let N = c.ranges.n.fits in
    let E = c.requires.1 in
    let F = c.power.ensures in
    let G = c.power-2.ensures in
    let r = times _ c.split.ensures c.times-x.ensures in
    let l = second-le N E F G in
    rw (r.b-is, r.a-is) (omega (arith, l), omega (arith, l), second_fits N E F G r)

pub encode-requires : goal.encode-requires
encode-requires c =
    let N = c.ranges.n.fits in
    let E = c.requires.1 in
    let F = c.power.ensures in
    let G = c.power-2.ensures in
    let r = times _ (times _ c.split.ensures c.times-x.ensures) c.times-y.ensures in
    (product-fits N E F G r, rw (r.b-is, r.a-is) (product-pos N E F G c.requires.0 r), omega arith)

pub returns : goal.returns
returns c =
    let F = c.power.ensures in
    let G = c.power-2.ensures in
    let r = times _ (times _ c.split.ensures c.times-x.ensures) c.times-y.ensures in
    rw (r.b-is, r.a-is, product_is c.ranges.n.fits c.requires.1 F G r) at c.encode.ensures
