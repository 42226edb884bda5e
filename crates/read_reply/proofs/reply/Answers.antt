-- `reply` meets its contract: the cells of what was compiled, or the refusal.
use mathlib.Core.Path.{ap, ◌∙◌}
use native.Mathlib.Omega.{arith}
use Rattle.lines.proofs.Stores.{as-text}
use Rattle.program.specs.Reply.{report_text}
use Rattle.read_reply.proofs.Replies.{cells, refusal}
use Rattle.read_reply.proofs.reply.Goals as goal

pub returns-in-Ok : goal.returns-in-Ok
returns-in-Ok c = record { puts = as-text (cells c.in-Ok.ensures) c.put_cells.ensures.puts; upper_bound = c.put_cells.ensures.upper_bound }

pub returns-in-Err : goal.returns-in-Err
returns-in-Err c =
    record {
      puts = as-text (ap report_text c.reported.ensures ∙ refusal c.in-Err.ensures) c.put_report.ensures.puts;
      upper_bound = omega (arith, c.put_report.ensures.upper_bound);
    }
