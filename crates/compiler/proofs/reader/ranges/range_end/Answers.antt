-- `compiler::reader::ranges::range_end` meets its contract: a law for each token.
use mathlib.Core.Path.{sym, ap, ◌∙◌}
use Rattle.token_table.specs.private.Table.{word_class}
use Rattle.compiler.proofs.reader.Binding.{met, unmet}
use Rattle.compiler.proofs.reader.Ranging.{no_cell, no-comma, no-count, no-close, all_there}
use Rattle.compiler.proofs.reader.ranges.range_end.Goals as goal

pub returns-then-class_of-ne-CELL : goal.returns-then-class_of-ne-CELL
returns-then-class_of-ne-CELL c =
    no_cell c.args.table.now c.args.at c.requires.0 c.requires.1
    (λ e. c.if-class_of-ne-CELL.true (c.class_of.ensures ∙ ap word_class c.word_at.ensures ∙ e))

pub returns-then-not-expected : goal.returns-then-not-expected
returns-then-not-expected c =
    no-comma c.args.table.now c.args.at c.requires.0 (sym (c.class_of.ensures ∙ ap word_class c.word_at.ensures) ∙ c.if-class_of-ne-CELL.false)
    (unmet c.expected.ensures c.if-not-expected.true)

pub returns-then-class_of-ne-INTEGER : goal.returns-then-class_of-ne-INTEGER
returns-then-class_of-ne-INTEGER c =
    no-count c.args.table.now c.args.at c.requires.0 (sym (c.class_of.ensures ∙ ap word_class c.word_at.ensures)
    ∙ c.if-class_of-ne-CELL.false) (met c.expected.ensures
    c.if-not-expected.false) (λ e. c.if-class_of-ne-INTEGER.true (c.class_of-2.ensures ∙ ap word_class c.word_at-2.ensures ∙ e))

pub returns-then-not-expected-2 : goal.returns-then-not-expected-2
returns-then-not-expected-2 c =
    no-close c.args.table.now c.args.at c.requires.0 (sym (c.class_of.ensures ∙ ap word_class c.word_at.ensures) ∙ c.if-class_of-ne-CELL.false)
    (met c.expected.ensures c.if-not-expected.false) (sym (c.class_of-2.ensures ∙ ap word_class c.word_at-2.ensures)
    ∙ c.if-class_of-ne-INTEGER.false) (unmet c.expected-2.ensures c.if-not-expected-2.true)

pub returns : goal.returns
returns c =
    all_there c.args.table.now c.args.at c.requires.0 (sym (c.class_of.ensures ∙ ap word_class c.word_at.ensures) ∙ c.if-class_of-ne-CELL.false)
    (met c.expected.ensures c.if-not-expected.false) (sym (c.class_of-2.ensures ∙ ap word_class c.word_at-2.ensures)
    ∙ c.if-class_of-ne-INTEGER.false) (met c.expected-2.ensures c.if-not-expected-2.false)
