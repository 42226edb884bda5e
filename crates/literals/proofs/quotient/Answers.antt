-- `quotient` meets its contract: n over one power of ten, doubled, or over two.
use mathlib.Core.Path.{ap, ◌∙◌}
use lib.Ieee.{binary32, to_bits}
use Rattle.literals.proofs.Decimals.{short-is, low-pos, high-pos, low-le, high_le, quotient_is}
use Rattle.literals.proofs.quotient.Goals as goal

pub returns-then-number-ge-WIDE : goal.returns-then-number-ge-WIDE
returns-then-number-ge-WIDE c =
    let a = c.args in
    let r = c.doubled-number.ensures in
    rw (r.b-is, r.a-is) at (c.rounded.ensures.is a.n (rw (r.b-is, r.a-is) r.is)) ∙ ap (to_bits binary32) (short-is a.d a.n)

pub split-requires : goal.split-requires
split-requires c =
    let D = c.requires.2 in
    let A = c.power-a.ensures in
    let B = c.power-b.ensures in
    (high-pos D A B, low-pos D A B, high_le D A B, low-le D A B)

pub returns : goal.returns
returns c =
    let r = c.split.ensures in
    rw (r.b-is, r.a-is, quotient_is c.requires.2 c.power-a.ensures c.power-b.ensures r) at c.encode.ensures
