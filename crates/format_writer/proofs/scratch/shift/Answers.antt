-- `scratch::shift` meets its contract. The invariant: a byte is carried to the place i.
use mathlib.Core.Path.{refl}
use native.Mathlib.Omega.{arith}
use lib.ListN.{length-set}
use Rattle.format_writer.proofs.Holding.{carries-first, carries-on, carries-last}
use Rattle.format_writer.proofs.scratch.shift.Goals as goal

pub loop-i-init : goal.loop-i-init
loop-i-init c = (refl, λ o x e q. carries-first _ _ _ o x c.requires e q)

pub bounds-out-i : goal.bounds-out-i
bounds-out-i c = omega (arith, c.loop-i.invariant.0)

pub bounds-out-i-in-loop-i : goal.bounds-out-i-in-loop-i
bounds-out-i-in-loop-i c = omega (arith, c.loop-i.invariant.0)

pub loop-i-preserved : goal.loop-i-preserved
loop-i-preserved c =
    let l = c.loop-i in
    let t = c.loop-i-test.true in
    (simp length-set l.invariant.0, λ o x e q. (omega arith, carries-on _ _ _ _ _ t (omega (arith, l.invariant.0)) (l.invariant.1 o x e q).1))

pub bounds-out-n : goal.bounds-out-n
bounds-out-n c = omega (arith, c.loop-i.invariant.0)

pub returns : goal.returns
returns c =
    let l = c.loop-i in
    λ o x e q. carries-last _ _ _ _ _ (l.invariant.1 o x e q).0 (omega arith) (omega (arith, l.invariant.0)) (l.invariant.1 o x e q).1
