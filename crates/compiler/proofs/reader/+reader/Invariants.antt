-- The measure is the cost: the words left, then the rank of the function.
use Rattle.std.proofs.Common.{◌≡◌, ℕ, ◌+◌, ◌-◌, ◌*◌, true, List, length}
use Rattle.draft.specs.private.Results.{is_done, read_next, read_of}
use Rattle.compiler.proofs.reader.Signing.{Operand}
use Rattle.compiler.proofs.reader.Climbing.{Climb}
use Rattle.compiler.proofs.reader.+reader.Given as goal

abbrev pub decreases-arguments : goal.decreases-arguments
decreases-arguments l = (length l.table.now - (l.opener + 1)) * 8 + 6

abbrev pub decreases-bracket : goal.decreases-bracket
decreases-bracket l = (length l.table.now - l.at) * 8 + 0

abbrev pub decreases-branches : goal.decreases-branches
decreases-branches l = (length l.table.now - read_next l.condition) * 8 + 5

abbrev pub decreases-call : goal.decreases-call
decreases-call l = (length l.table.now - l.at) * 8 + 0

abbrev pub decreases-enclosed : goal.decreases-enclosed
decreases-enclosed l = (length l.table.now - l.at) * 8 + 4

abbrev pub decreases-expression : goal.decreases-expression
decreases-expression l = (length l.table.now - l.at) * 8 + 3

abbrev pub decreases-operand : goal.decreases-operand
decreases-operand l = (length l.table.now - l.at) * 8 + 2

abbrev pub decreases-pair : goal.decreases-pair
decreases-pair l = (length l.table.now - (l.opener + 1)) * 8 + 5

abbrev pub decreases-primary : goal.decreases-primary
decreases-primary l = (length l.table.now - l.at) * 8 + 1

-- a loop knows the draft only from its own start on: so, whatever the draft was that the operand was written into
abbrev pub invariant-expression-loop-at : goal.invariant-expression-loop-at
invariant-expression-loop-at l = record {
  done : is_done (read_of l.left) ≡ true;
  climbs :
      (o : List ℕ) → Operand l.room l.table l.at l.pc o l.initial.draft (read_of l.initial.left) → Climb l.room l.level l.table l.at l.pc o l.draft l.left;
}

abbrev pub decreases-expression-loop-at : goal.decreases-expression-loop-at
decreases-expression-loop-at l = length l.table - read_next l.left
