-- The invariant of `lists::fill_answers`: the answers before stand behind the operation's own. The measure is how many are left.
use Prim.Native.Nat.{◌-◌}
use lib.ListN.{get_or}
use Rattle.formula_c.proofs.lists.Filling.{Filled}
use Rattle.formula_c.proofs.lists.fill_answers.Given as goal

abbrev pub invariant-loop-i : goal.invariant-loop-i
invariant-loop-i l = Filled (get_or l.initial.words 0 0) l.answers l.words l.i

abbrev pub decreases-loop-i : goal.decreases-loop-i
decreases-loop-i l = 40 - l.i
