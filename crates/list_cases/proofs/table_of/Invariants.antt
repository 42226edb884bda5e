-- `list_cases::table_of` is safe: a piece begins before the bytes that are still to come.
use Rattle.std.proofs.Common.{◌≤◌}
use Rattle.list_cases.proofs.table_of.Given as goal

abbrev pub invariant-loop-i : goal.invariant-loop-i
invariant-loop-i l = l.from ≤ l.i
