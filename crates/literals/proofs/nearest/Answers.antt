-- `nearest` meets its contract: a law for each side of the half, and two for the half itself.
use Prim.Native.Nat.{◌*◌}
use native.Mathlib.Nat.{div-le_self}
use native.Mathlib.Omega.{arith}
use Rattle.literals.proofs.Halves.{below, above, just-above, tied}
use Rattle.literals.proofs.nearest.Goals as goal

pub returns-then-last-half : goal.returns-then-last-half
returns-then-last-half c = record { is = λ d rest R same. below _ _ d rest c.requires.0 R c.if-last-half.true }

pub overflow_add-result : goal.overflow_add-result
overflow_add-result c = let s = c in record { fits = omega (arith, s.requires.2, div-le_self s.args.w (2 * s.args.half)) }

pub returns-then-half-last : goal.returns-then-half-last
returns-then-half-last c = record { is = λ d rest R same. above _ _ d rest c.requires.0 R c.if-half-last.true }

pub overflow_add-result-then-left-gt0 : goal.overflow_add-result-then-left-gt0
overflow_add-result-then-left-gt0 c = let s = c in record { fits = omega (arith, s.requires.2, div-le_self s.args.w (2 * s.args.half)) }

pub returns-then-left-gt0 : goal.returns-then-left-gt0
returns-then-left-gt0 c = record { is = λ d rest R same. just-above _ _ d rest c.requires.0 R (omega arith) (λ z. omega (arith, same.1 z)) }

pub overflow_add-result-2 : goal.overflow_add-result-2
overflow_add-result-2 c = let s = c in record { fits = omega (arith, s.requires.2, div-le_self s.args.w (2 * s.args.half)) }

pub returns : goal.returns
returns c = record { is = λ d rest R same. tied _ _ d rest c.requires.0 R (omega arith) (same.0 (omega arith)) }
