-- `symbols::less` meets its contract.
use mathlib.Core.Path.{sym}
use borrow.Author.Tests.{ne_eqb}
use Rattle.token_table.proofs.symbols.Cases.{less-once}
use Rattle.token_table.proofs.symbols.less.Goals as goal

pub returns-then-b-eq60 : goal.returns-then-b-eq60
returns-then-b-eq60 c = λ d. rw c.if-b-eq60.true c.symbol.ensures

pub returns : goal.returns
returns c =
    λ d. rw (← less-once c.args.b d (ne_eqb _ _ (λ e. c.if-b-eq60.false (sym e)))) c.doubled.ensures
