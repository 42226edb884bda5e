-- `levels` meets its contract. The invariant: the most so far, or the most from here on, is the most.
use mathlib.Core.Path.{◌≡◌}
use Prim.Native.Nat.{◌≤◌, max}
use lib.ListN.{drop}
use Rattle.format_laws.specs.Formatted.{levels_from, levels}
use Rattle.formatter.proofs.levels.Given as goal

abbrev pub invariant-loop-b : goal.invariant-loop-b
invariant-loop-b l = (l.depth ≤ l.b-index) × (l.depth ≤ l.most) × (max l.most (levels_from l.depth (drop l.b-index l.text)) ≡ levels l.text)
