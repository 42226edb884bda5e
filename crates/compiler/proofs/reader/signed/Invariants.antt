-- `compiler::reader::signed` meets its contract. The invariant: the operators from i on are behind the operand.
use Prim.Native.Nat.{◌≤◌}
use Rattle.draft.proofs.Signing.{Signed}
use Rattle.compiler.proofs.reader.signed.Given as goal

abbrev pub invariant-loop-i : goal.invariant-loop-i
invariant-loop-i l = (l.at ≤ l.i) × (l.i ≤ l.first) × Signed l.table l.first l.initial.draft l.inner l.i l.draft l.read
