-- `compile_in` meets its contract: a cell, whose code stays as it was, or an indexed bank with its index compiled.
use mathlib.Core.Path.{sym, ◌∙◌}
use Rattle.text.specs.Targets.{target_of}
use Rattle.targets.proofs.Indexing.{to-cell-is, cell-code}
use Rattle.targets.proofs.compile_in.Goals as goal

pub returns-in-Some : goal.returns-in-Some
unfolding target_of
returns-in-Some c =
    record {
      value = rw (sym c.target_of.ensures ∙ c.in-Some.is) (c.to_cell.ensures ∙ to-cell-is c.args.reals _ _);
      code_after = rw (sym c.target_of.ensures ∙ c.in-Some.is) (cell-code c.args.reals _ _ c.args.code.now);
    }

pub returns-in-None : goal.returns-in-None
unfolding target_of
returns-in-None c =
    record {
      value = rw (sym c.target_of.ensures ∙ c.in-None.is) c.compile_indexed.ensures.value;
      code_after = rw (sym c.target_of.ensures ∙ c.in-None.is) c.compile_indexed.ensures.code_after;
    }
