-- `totals::tables::match_kind` meets its contract: counts, then sums, over a bank.
use Rattle.std.specs.Prelude.{Option}
use mathlib.Core.Path.{◌≡◌, sym, ◌∙◌}
use borrow.Author.Tests.{le-ltb}
use Rattle.memory.specs.Numbers.{bank_numbered, bank_typed}
use Rattle.totals.specs.Numbers.{match_of, match_typed}
use Rattle.totals.proofs.Numbers.{match_none, of-bank, counts, sums}
use Rattle.totals.proofs.tables.match_kind.Goals as goal
use Rattle.memory.specs.declared.Bank.{Bank}

pub returns-then-kind-eq-NOT_TAKEN : goal.returns-then-kind-eq-NOT_TAKEN
returns-then-kind-eq-NOT_TAKEN c =
    match_none (match_of c.args.op) (bank_numbered c.args.bank) (sym c.bank_kind-kind.ensures ∙ c.if-kind-eq-NOT_TAKEN.true)

pub returns-then-op-lt-COUNTS : goal.returns-then-op-lt-COUNTS
returns-then-op-lt-COUNTS c =
    of-bank (λ (b : (Option Bank)). 0 ≡ match_typed (match_of c.args.op) b) (counts c.if-op-lt-COUNTS.true) _
    (λ e. c.if-kind-eq-NOT_TAKEN.false (c.bank_kind-kind.ensures ∙ e))

pub returns-then-op-lt-END : goal.returns-then-op-lt-END
returns-then-op-lt-END c =
    c.bank_kind-kind.ensures ∙ of-bank (λ (b : (Option Bank)). bank_typed b ≡ match_typed
    (match_of c.args.op) b) (sums c.if-op-lt-COUNTS.false c.if-op-lt-END.true) _
    (λ e. c.if-kind-eq-NOT_TAKEN.false (c.bank_kind-kind.ensures ∙ e))

pub returns-else-op-lt-END : goal.returns-else-op-lt-END
returns-else-op-lt-END c = rw (le-ltb c.args.op 12 c.if-op-lt-END.false)
