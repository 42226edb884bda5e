-- `stored_bank` meets its contract: every bank but X.
use Rattle.std.specs.Prelude.{Option, Some, None}
use mathlib.Core.Path.{◌≡◌, refl, sym, ◌∙◌}
use mathlib.Core.Bool.{cond}
use mathlib.Core.List.{[], ◌∷◌}
use Prim.Native.Nat.{ℕ}
use lib.Dec.{eqb}
use denote.Enum.Declared.{tag_of}
use Rattle.operators.proofs.Keys.{by-keys}
use Rattle.memory.specs.declared.Bank.{Bank}
use Rattle.memory.specs.declared.Bank.TheVariants.{X, C, «V», N, D, R}
use Rattle.memory.specs.contracts.Bank.{the_type}
use Rattle.text.specs.Targets.{stored_bank}
use borrow.Author.Rules.{rules}
use Rattle.targets.proofs.stored_bank.Goals as goal

-- the bank or none, by its place among the banks
abbrev stored_at : Option Bank → ℕ → Option Bank
stored_at l k = cond (eqb k 0) None l

placed : (b : Bank) → stored_at (Some b) (tag_of the_type b) ≡ stored_bank (Some b)
placed X = refl
placed C = refl
placed «V» = refl
placed N = refl
placed D = refl
placed R = refl

pub returns-in-X : goal.returns-in-X
returns-in-X c =
    rw (sym c.in_ok-bank.ensures, c.in-X.is)

pub returns-in_err-bank : goal.returns-in_err-bank
returns-in_err-bank c = rw (sym c.in_err-bank.ensures) c.from_residual.ensures
