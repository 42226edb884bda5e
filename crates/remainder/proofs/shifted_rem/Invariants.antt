-- `remainder::shifted_rem` meets its contract. The invariant: what is left to do gives the whole remainder.
use mathlib.Core.Path.{◌≡◌}
use Prim.Native.Nat.{◌-◌, ◌*◌, ◌%◌, ◌^◌, ◌<◌}
use Rattle.remainder.proofs.shifted_rem.Given as goal

abbrev pub invariant-loop : goal.invariant-loop
invariant-loop l = (l.n < 2 ^ 24) × (l.n * 2 ^ (l.d - 8 * l.counter) % l.w ≡ l.m * 2 ^ l.d % l.w)
