-- `compiler::reader::formula` meets its contract.
use mathlib.Core.Path.{sym, ◌∙◌}
use Rattle.compiler.proofs.reader.Binding.{met, unmet}
use Rattle.compiler.proofs.reader.Whole.{refused-way, more-way, wrong-way, done-way}
use Rattle.compiler.proofs.reader.formula.Goals as goal

pub returns-then-not-is_done : goal.returns-then-not-is_done
returns-then-not-is_done c = refused-way c.args.opened _ c.room_behind.ensures c.args.table.now c.expression-whole.result c.requires.tokens
    c.expression-whole.ensures c.args.size (unmet c.is_done.ensures c.if-not-is_done.true) c.refusal_of.ensures
    c.next_of-at.ensures.value c.place_at.ensures

pub returns-then-class_of-ne-NONE : goal.returns-then-class_of-ne-NONE
returns-then-class_of-ne-NONE c = λ x l. more-way c.args.opened _ c.room_behind.ensures c.args.table.now c.expression-whole.result c.requires.tokens
    c.expression-whole.ensures (met c.is_done.ensures c.if-not-is_done.false) c.next_of-at.ensures.value c.word_at-w.ensures
    (λ e. c.if-class_of-ne-NONE.true (c.class_of.ensures ∙ e)) c.place_of.ensures x

pub returns-then-wrong-lt-CLEAR : goal.returns-then-wrong-lt-CLEAR
returns-then-wrong-lt-CLEAR c = λ x l. wrong-way c.args.opened _ c.room_behind.ensures c.args.table.now c.expression-whole.result c.requires.tokens
    c.expression-whole.ensures (met c.is_done.ensures c.if-not-is_done.false) c.next_of-at.ensures.value c.word_at-w.ensures
    (sym c.class_of.ensures ∙ c.if-class_of-ne-NONE.false)
    c.wrong_of-wrong.ensures.result_value c.if-wrong-lt-CLEAR.true c.place_part.ensures c.answer_part.ensures x

pub returns : goal.returns
returns c = λ x l. done-way c.args.opened _ c.room_behind.ensures c.args.table.now c.expression-whole.result c.requires.tokens
    c.expression-whole.ensures (met c.is_done.ensures c.if-not-is_done.false) c.next_of-at.ensures.value c.word_at-w.ensures
    (sym c.class_of.ensures ∙ c.if-class_of-ne-NONE.false) c.wrong_of-wrong.ensures.result_value c.if-wrong-lt-CLEAR.false c.end_of.ensures.value x
