-- `first_real` meets its contract.
use Rattle.token_table.specs.private.Table.{listed}
use Rattle.profile_text.specs.Tokens.{first_real}
use Rattle.real_tokens.proofs.Words.{Seeks}
use Rattle.real_tokens.proofs.first_real.Given as goal

abbrev pub invariant-loop-w : goal.invariant-loop-w
invariant-loop-w l = Seeks l.table (first_real (listed l.table)) l.w-index
