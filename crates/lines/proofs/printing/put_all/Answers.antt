-- `printing::put_all` meets its contract. The loop's invariant: the bytes from k on are left to put.
use mathlib.Core.Path.{refl}
use native.Mathlib.Nat.{add-zero}
use native.Mathlib.Omega.{arith}
use Rattle.lines.proofs.Stores.{start}
use Rattle.lines.proofs.printing.Texts.{inside, next, whole}
use Rattle.lines.proofs.printing.put_all.Goals as goal

pub loop-k-init : goal.loop-k-init
loop-k-init c = rw add-zero (start _ _ _ c.requires)

pub overflow_add-out : goal.overflow_add-out
overflow_add-out c = omega (arith, inside _ _ _ c.loop-k.invariant (omega (arith, c.loop-k-test.true)))

pub bounds-out-at : goal.bounds-out-at
bounds-out-at c = omega (arith, c.loop-k-test.true, inside _ _ _ c.loop-k.invariant (omega (arith, c.loop-k-test.true)))

pub loop-k-preserved : goal.loop-k-preserved
loop-k-preserved c = next _ _ _ c.loop-k.invariant c.loop-k-test.true

pub returns : goal.returns
returns c = record { bytes = whole _ _ _ c.loop-k.invariant c.loop-k-test.false; end = refl }
