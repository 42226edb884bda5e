-- `walk::signs` meets its contract. The invariant: the operators up to i are written.
use mathlib.Core.Path.{◌≡◌, refl, ◌∙◌}
use native.Mathlib.Omega.{arith}
use Rattle.formatter.proofs.Steps.{sign-here}
use Rattle.formatter.proofs.Pieces.{no-signs-yet, signs-more}
use Rattle.formatter.proofs.walk.signs.Goals as goal

pub loop-i-init : goal.loop-i-init
loop-i-init c = let s = c in (omega arith, s.requires.1.ahead, refl, s.requires.0, no-signs-yet s.requires.2)

pub token-end-requires : goal.token-end-requires
token-end-requires c =
    let l = c.loop-i in
    let h = sign-here _ _ l.i l.invariant.3 (c.requires.1.each l.i l.invariant.0
    c.loop-i-test.true) in
    (omega (arith, l.invariant.4.counted, l.invariant.2), rw c.word_at.ensures h.2.stands)

pub loop-i-preserved : goal.loop-i-preserved
loop-i-preserved c =
    let l = c.loop-i in
    let t = c.token-end in
    let h = sign-here _ _ l.i l.invariant.3 (c.requires.1.each l.i l.invariant.0 c.loop-i-test.true) in (
      omega (arith, l.invariant.0),
      omega arith,
      t.auto.out ∙ l.invariant.2,
      h.2.next,
      signs-more l.invariant.4 c.word_at.ensures l.invariant.2 t.ensures.counted t.ensures.by_index,
    )

pub returns : goal.returns
returns c =
    let l = c.loop-i in
    let e : l.i ≡ c.args.first = omega (arith, l.invariant.1) in
    rw e at l.invariant.4
