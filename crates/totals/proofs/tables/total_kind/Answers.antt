-- `totals::tables::total_kind` meets its contract: an arm for each total of the list, over a bank.
use Rattle.std.specs.Prelude.{Option, Some}
use mathlib.Core.Path.{◌≡◌, refl, sym, ◌∙◌}
use Rattle.values.specs.declared.ChoiceOp.TheVariants.{Max, Min}
use Rattle.memory.specs.Numbers.{bank_numbered, bank_typed}
use Rattle.totals.specs.declared.TotalOp.TheVariants as T'
use Rattle.totals.specs.Numbers.{total_of, total_typed}
use Rattle.totals.proofs.Numbers.{total-none, of-bank}
use Rattle.totals.proofs.tables.total_kind.Goals as goal
use Rattle.memory.specs.declared.Bank.{Bank}

pub returns-then-kind-eq-NOT_TAKEN : goal.returns-then-kind-eq-NOT_TAKEN
returns-then-kind-eq-NOT_TAKEN c =
    total-none (total_of c.args.op) (bank_numbered c.args.bank) (sym c.bank_kind-kind.ensures ∙ c.if-kind-eq-NOT_TAKEN.true)

pub returns-in-0 : goal.returns-in-0
returns-in-0 c =
    rw c.in-0.is (c.bank_kind-kind.ensures
    ∙ of-bank (λ (b : (Option Bank)). bank_typed b ≡ total_typed (Some (T'.Sum)) b) (λ b. refl) (bank_numbered c.args.bank)
    (λ e. c.if-kind-eq-NOT_TAKEN.false (c.bank_kind-kind.ensures ∙ e)))

pub returns-in-1 : goal.returns-in-1
returns-in-1 c =
    rw c.in-1.is (of-bank (λ (b : (Option Bank)). 1 ≡ total_typed (Some T'.Average) b) (λ b. refl)
    (bank_numbered c.args.bank) (λ e. c.if-kind-eq-NOT_TAKEN.false (c.bank_kind-kind.ensures ∙ e)))

pub returns-in-2 : goal.returns-in-2
returns-in-2 c =
    rw c.in-2.is (c.bank_kind-kind.ensures
    ∙ of-bank (λ (b : (Option Bank)). bank_typed b ≡ total_typed (Some (T'.Choice Max)) b) (λ b. refl) (bank_numbered c.args.bank)
    (λ e. c.if-kind-eq-NOT_TAKEN.false (c.bank_kind-kind.ensures ∙ e)))

pub returns-in-3 : goal.returns-in-3
returns-in-3 c =
    rw c.in-3.is (c.bank_kind-kind.ensures
    ∙ of-bank (λ (b : (Option Bank)). bank_typed b ≡ total_typed (Some (T'.Choice Min)) b) (λ b. refl) (bank_numbered c.args.bank)
    (λ e. c.if-kind-eq-NOT_TAKEN.false (c.bank_kind-kind.ensures ∙ e)))
