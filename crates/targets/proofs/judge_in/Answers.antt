-- `judge_in` meets its contract: a cell, or an indexed bank.
use mathlib.Core.Path.{sym, ◌∙◌}
use Rattle.text.specs.Targets.{target_of}
use Rattle.targets.proofs.Indexing.{to-cell-is}
use borrow.Author.Rules.{rules}
use Rattle.targets.proofs.judge_in.Goals as goal

pub returns-in-Some : goal.returns-in-Some
unfolding target_of
returns-in-Some c = rw (sym c.target_of.ensures ∙ c.in-Some.is)
    (c.to_cell.ensures ∙ to-cell-is c.args.reals _ _)

pub returns-in-None : goal.returns-in-None
unfolding target_of
returns-in-None c = rw (sym c.target_of.ensures ∙ c.in-None.is) c.judge_indexed.ensures
