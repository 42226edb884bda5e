-- `memory::names::digits` meets its contract. The invariant: the digits before i make the value, cut at the limit.
use Rattle.memory.proofs.names.Decimals.{Reads}
use Rattle.memory.proofs.names.digits.Given as goal

abbrev pub invariant-loop-i : goal.invariant-loop-i
invariant-loop-i l = Reads l.text l.at l.n l.i l.value
