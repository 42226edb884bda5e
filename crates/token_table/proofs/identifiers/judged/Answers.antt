-- `identifiers::judged` meets its contract: a letter alone, or the word of the function that is named.
use Rattle.token_table.proofs.identifiers.Words.{a-name, no_name}
use Rattle.token_table.proofs.identifiers.judged.Goals as goal

pub returns-then-f-ge-COUNT : goal.returns-then-f-ge-COUNT
returns-then-f-ge-COUNT c = no_name c.args.text.now
    c.args.at c.requires.0
    c.requires.1 c.run_end-end.ensures.0
    c.run_end-end.ensures.1 c.if-end-at.false c.function-f.ensures
    c.if-f-ge-COUNT.true c.refused.ensures

pub returns : goal.returns
returns c = a-name c.args.text.now
    c.args.at c.requires.0
    c.requires.1 c.run_end-end.ensures.0
    c.run_end-end.ensures.1 c.if-end-at.false c.function-f.ensures
    c.if-f-ge-COUNT.false c.word.ensures
