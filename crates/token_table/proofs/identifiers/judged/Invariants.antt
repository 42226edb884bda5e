-- `identifiers::judged` meets its contract: its run is one of letters and digits.
use Rattle.tokens.specs.Bytes.{is_word}
use Rattle.token_table.proofs.identifiers.judged.Given as goal

abbrev pub ghost-run_end : goal.ghost-run_end
ghost-run_end a = is_word
