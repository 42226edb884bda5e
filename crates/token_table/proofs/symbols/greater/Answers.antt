-- `symbols::greater` meets its contract.
use mathlib.Core.Path.{sym}
use borrow.Author.Tests.{ne_eqb}
use Rattle.token_table.proofs.symbols.Cases.{greater-once, greater-twice}
use Rattle.token_table.proofs.symbols.greater.Goals as goal

pub returns-then-b-ne62 : goal.returns-then-b-ne62
returns-then-b-ne62 c = rw (← greater-once c.args.b c.args.c (ne_eqb _ _ (λ e. c.if-b-ne62.true (sym e))))
    c.doubled.ensures

pub returns-then-c-eq62 : goal.returns-then-c-eq62
returns-then-c-eq62 c = rw (c.if-b-ne62.false, c.if-c-eq62.true) c.symbol.ensures

pub returns-else-c-eq62 : goal.returns-else-c-eq62
returns-else-c-eq62 c = rw (c.if-b-ne62.false, ← greater-twice c.args.c (ne_eqb _ _ (λ e. c.if-c-eq62.false (sym e))))
    c.symbol-else-c-eq62.ensures
