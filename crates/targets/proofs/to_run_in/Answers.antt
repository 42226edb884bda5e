-- `to_run_in` meets its contract: a bank letter alone, or a cell.
use mathlib.Core.Path.{sym, ap, ◌∙◌}
use native.Mathlib.Omega.{arith}
use Rattle.profile_text.specs.Targets.{bank_in}
use Rattle.targets.specs.Found.{by_letter, taken_found}
use Rattle.targets.proofs.Indexing.{taken-other, letter-taken}
use Rattle.targets.proofs.Running.{named, lettered}
use borrow.Author.Rules.{rules}
use Rattle.targets.proofs.to_run_in.Goals as goal

pub returns-then-target-ne1 : goal.returns-then-target-ne1
returns-then-target-ne1 c =
    c.to_cell.ensures ∙ ap (taken_found c.args.reals) (named c.args.k c.args.target.now c.if-target-ne1.true (sym c.in_ok-bank.ensures))

pub returns-in_err-bank : goal.returns-in_err-bank
returns-in_err-bank c =
    c.from_residual.ensures ∙ taken-other c.args.reals
    ∙ ap (taken_found c.args.reals) (named c.args.k c.args.target.now c.if-target-ne1.true (sym c.in_err-bank.ensures))

pub returns : goal.returns
returns c =
    ap (by_letter c.args.k) c.in_ok-bank-2.ensures ∙ letter-taken c.args.reals c.args.k _
    ∙ ap (taken_found c.args.reals) (lettered c.args.k c.args.target.now c.if-target-ne1.false (sym c.stored_bank.ensures))

pub returns-in_err-bank-2 : goal.returns-in_err-bank-2
returns-in_err-bank-2 c =
    c.from_residual-in_err-bank-2.ensures ∙ ap (by_letter c.args.k) c.in_err-bank-2.ensures ∙ letter-taken c.args.reals c.args.k _
    ∙ ap (taken_found c.args.reals) (lettered c.args.k c.args.target.now c.if-target-ne1.false (sym c.stored_bank.ensures))
