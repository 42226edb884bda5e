-- `entry_at` meets its contract.
use mathlib.Core.Path.{sym, ap, ◌∙◌}
use native.Mathlib.Omega.{arith}
use lib.Seq.{length-take-le}
use Rattle.log_lines.specs.private.Steps.{entry_in}
use Rattle.log_lines.proofs.Entries.{bad-inside}
use Rattle.log_lines.proofs.Cuts.{entry-text, entry-bad}
use Rattle.log_lines.proofs.entry_at.Goals as goal

pub returns-then-rest-k : goal.returns-then-rest-k
returns-then-rest-k c = record { value = ap entry_in (entry-bad c.args.rest.now c.requires c.if-rest-k.true); entry_inside = bad-inside }

pub slice_bounds-entry_of-end : goal.slice_bounds-entry_of-end
slice_bounds-entry_of-end c = sym (length-take-le c.args.k c.args.rest.now
    (omega (arith, c.if-rest-k.false)))

pub returns : goal.returns
returns c = record {
  value = c.entry_of.ensures.value ∙ ap entry_in (entry-text c.args.rest.now c.requires c.if-rest-k.false);
  entry_inside = c.entry_of.ensures.entry_inside;
}
