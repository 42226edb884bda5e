-- `symbols::equals` meets its contract.
use mathlib.Core.Path.{sym}
use borrow.Author.Tests.{ne_eqb}
use Rattle.token_table.proofs.symbols.Cases.{equals-once}
use Rattle.token_table.proofs.symbols.equals.Goals as goal

pub returns-then-b-eq61 : goal.returns-then-b-eq61
returns-then-b-eq61 c = λ d. rw c.if-b-eq61.true c.symbol.ensures

pub returns-else-b-eq61 : goal.returns-else-b-eq61
returns-else-b-eq61 c =
    λ d. rw (← equals-once c.args.b d (ne_eqb _ _ (λ e. c.if-b-eq61.false (sym e)))) (c.refused.ensures _)
