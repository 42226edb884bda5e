-- `spelling::run_end` meets its contract: its run is one of letters, digits and dots.
use Rattle.tokens.specs.Bytes.{is_run}
use Rattle.format_writer.proofs.spelling.run_end.Given as goal

abbrev pub ghost-run_end : goal.ghost-run_end
ghost-run_end a = is_run
