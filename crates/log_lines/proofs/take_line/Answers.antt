-- `take_line` meets its contract.
use mathlib.Core.Path.{sym, ap, ◌∙◌}
use native.Mathlib.Omega.{arith}
use Rattle.std.specs.Prelude.{Some}
use Rattle.log_lines.specs.private.Steps.{cards_in}
use Rattle.log_lines.proofs.Steps.{has-cell, changed, ticked, played, stopped, none-taken}
use Rattle.log_lines.proofs.take_line.Goals as goal

pub returns-in_err-entry : goal.returns-in_err-entry
returns-in_err-entry c =
    λ e q. none-taken c.from_residual.ensures
    (stopped (cards_in c.args.cards.now) c.args.memory.now c.args.tick c.args.out.now c.args.at e (sym c.in_err-entry.was ∙ q))

pub put-requires : goal.put-requires
put-requires c = (
  has-cell c.args.memory.now c.in-Change.bank c.in-Change.element c.requires.memory_len.0
      (c.requires.memory_len.2.inside (c.in_ok-entry.was ∙ ap Some c.in-Change.is)),
  c.requires.memory_len.2.holds (c.in_ok-entry.was ∙ ap Some c.in-Change.is),
)

pub returns-in-Change : goal.returns-in-Change
returns-in-Change c =
    λ e q. changed (cards_in c.args.cards.now) c.args.memory.now c.args.tick c.args.out.now c.args.at c.put.ensures e
    (ap Some (sym c.in-Change.is) ∙ sym c.in_ok-entry.was ∙ q)

pub returns-in-Tick : goal.returns-in-Tick
returns-in-Tick c =
    λ e q. ticked (cards_in c.args.cards.now) c.args.memory.now c.args.tick c.args.out.now c.args.at e
    (ap Some (sym c.in-Tick.is) ∙ sym c.in_ok-entry.was ∙ q)

pub returns-in-Run : goal.returns-in-Run
returns-in-Run c =
    λ e q. played (cards_in c.args.cards.now) c.args.memory.now c.args.tick c.args.out.now c.args.at (omega arith)
    c.run_card-m.ensures c.put_all-end.ensures e (ap Some (sym c.in-Run.is) ∙ sym c.in_ok-entry.was ∙ q)
