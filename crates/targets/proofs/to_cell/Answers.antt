-- `to_cell` meets its contract.
use mathlib.Core.Path.{sym, ◌∙◌}
use Rattle.targets.proofs.Indexing.{cell-taken, cell-lost}
use borrow.Author.Rules.{rules}
use Rattle.targets.proofs.to_cell.Goals as goal

pub returns : goal.returns
returns c = cell-taken c.args.reals c.args.bank (sym c.in_ok-b.ensures) c.args.element

pub returns-in_err-b : goal.returns-in_err-b
returns-in_err-b c = c.from_residual.ensures ∙ cell-lost c.args.reals c.args.bank (sym c.in_err-b.ensures) c.args.element
