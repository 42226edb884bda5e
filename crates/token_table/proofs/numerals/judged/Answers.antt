-- `numerals::judged` meets its contract: the whole run is one numeral, or refused.
use Rattle.token_table.proofs.numerals.Forms.{rest-run}
use Rattle.token_table.proofs.numerals.judged.Goals as goal

pub returns : goal.returns
returns c = rest-run c.args.text.now c.args.at
    c.requires c.run_end-end.ensures.0 c.other_numeral.ensures
    c.hexadecimal.ensures
