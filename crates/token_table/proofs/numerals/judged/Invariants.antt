-- `numerals::judged` meets its contract: its run is one of letters, digits and dots.
use Rattle.tokens.specs.Bytes.{is_run}
use Rattle.token_table.proofs.numerals.judged.Given as goal

abbrev pub ghost-run_end : goal.ghost-run_end
ghost-run_end a = is_run
