-- `scratch::shift` meets its contract. The invariant: a byte is carried to the place i.
use mathlib.Core.Path.{◌≡◌}
use mathlib.Core.List.{List, ◌∷◌, ◌++◌}
use Prim.Native.Nat.{ℕ, ◌≤◌}
use lib.ListN.{length, take}
use Rattle.words.specs.Ascii.{byte}
use Rattle.format_writer.proofs.Holding.{Carries}
use Rattle.format_writer.proofs.scratch.shift.Given as goal

abbrev pub invariant-loop-i : goal.invariant-loop-i
invariant-loop-i l =
    (length l.out ≡ length l.initial.out)
    × ((o x : List ℕ) → take l.n l.initial.out ≡ o ++ x → l.start ≡ length o → (l.i ≤ l.n) × Carries l.out l.carried l.i l.n (o ++ (byte "(" ∷ x)))
