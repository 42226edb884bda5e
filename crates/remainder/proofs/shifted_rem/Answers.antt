-- `remainder::shifted_rem` meets its contract. The invariant: what is left to do gives the whole remainder.
use mathlib.Core.Path.{◌≡◌}
use Prim.Native.Nat.{◌+◌, ◌-◌, ◌*◌, ◌%◌, ◌^◌, ◌<◌}
use native.Mathlib.Nat.{lt_trans, mod-lt}
use native.Mathlib.Omega.{arith}
use lib.Pow.{shl_exact}
use Rattle.remainder.proofs.Shifts.{places-first}
use Rattle.remainder.proofs.shifted_rem.Goals as goal

pub loop-preserved : goal.loop-preserved
loop-preserved c =
    let s = c.loop in
    let d = c.args.d in
    let w = c.args.w in
    let p : 0 < w = omega arith in
    let q : w < 2 ^ 24 = omega arith in
    let less : d - 8 * (s.counter + 1) ≡ d - 8 * s.counter - 8 = omega arith in
    (lt_trans (mod-lt _ p) q, rw less (places-first s.n _ 8 (d - 8 * s.counter) w _ (omega arith) (omega (arith, c.loop-test.true)) s.invariant.1))

pub returns : goal.returns
returns c =
    let s = c.loop in
    let d = c.args.d in
    let left : d - 8 * s.counter ≡ d % 8 = omega (arith, c.loop-test.false) in
    rw (shl_exact 24 (d % 8) 32 s.invariant.0 (omega arith)) (rw left at s.invariant.1)
