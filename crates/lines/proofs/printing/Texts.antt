-- A text put byte by byte: how it goes on, and how it ends. Assumes nothing.
use mathlib.Core.Path.{◌≡◌}
use mathlib.Core.List.{List}
use Prim.Native.Nat.{ℕ, suc, ◌+◌, ◌≤◌, ◌<◌}
use native.Mathlib.Numerals.{add-one}
use native.Mathlib.Omega.{arith}
use lib.ListN.{length, get_or, drop, set, length-drop, drop_of_length-le}
use lib.Seq.{drop-cons}
use Rattle.lines.proofs.Stores.{Left, first, done}

module _ {goal m : List ℕ} (at : ℕ) (text : List ℕ) (k : ℕ) (l : Left goal m (at + k) (drop k text)) where
  pub inside : k ≤ length text → at + length text ≤ length m
  inside h = omega (arith, rw length-drop at l.room)

  pub next : k < length text → Left goal (set m (at + k) (get_or text k 0)) (at + (k + 1)) (drop (k + 1) text)
  next h =
      let e : at + k + 1 ≡ at + (k + 1) = omega arith in
      rw (← e, add-one k) (first (get_or text k 0) (drop (suc k) text) (rw (drop-cons text k 0 h) at l))

  pub whole : length text ≤ k → m ≡ goal
  whole h = done (rw (drop_of_length-le text h) at l)
