-- `ahead::signs_end` meets its contract. The loop's invariant: unary operators stand from `at` up to i.
use Prim.Native.Nat.{ℕ, ◌≤◌, ◌<◌}
use Rattle.token_table.specs.private.Table.{word_at}
use Rattle.draft.specs.private.Words.{prefix_number}
use Rattle.draft.proofs.ahead.signs_end.Given as goal

abbrev pub invariant-loop-i : goal.invariant-loop-i
invariant-loop-i l = (k : ℕ) → k < l.i → l.at ≤ k → prefix_number (word_at l.table k) < 3
