-- `run_entry` meets its contract.
use Rattle.log_lines.proofs.Entries.{run_none, run_is}
use Rattle.log_lines.proofs.entry.run_entry.Goals as goal

pub returns-then-k-eq0 : goal.returns-then-k-eq0
returns-then-k-eq0 c = run_none c.args.value.now c.card_number-k.ensures c.if-k-eq0.true

pub returns : goal.returns
returns c = run_is c.args.value.now c.card_number-k.result c.card_number-k.ensures c.if-k-eq0.false
