-- `keep` meets its contract.
use mathlib.Core.Path.{◌∙◌}
use Rattle.log_window.proofs.Moves.{copied, count}
use Rattle.log_window.proofs.keep.Goals as goal

pub returns : goal.returns
returns c =
    record {
      bytes = c.copy_within.ensures.after ∙ copied c.args.window.now c.args.from c.args.end c.requires.0 c.requires.1;
      end = count c.args.window.now c.args.from c.args.end c.requires.0 c.requires.1;
    }
