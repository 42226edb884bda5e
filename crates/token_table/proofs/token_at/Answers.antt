-- `token_table::token_at` meets its contract: the first byte's class tells what begins there.
use mathlib.Core.Path.{◌≡◌, sym, ◌∙◌}
use mathlib.Core.Bool.{false}
use lib.ListN.{get_or}
use Rattle.memory.specs.Names.{is_digit}
use Rattle.tokens.specs.Bytes.{is_letter}
use Rattle.token_table.proofs.Lexemes.{at-digit, at-letter, at_other, below-digits}
use Rattle.token_table.proofs.token_at.Goals as goal
use Rattle.token_table.proofs.token_at.Goals.{then-b-ge48+else-is_digit+else-is_letter, else-b-ge48}

pub numeral_at-requires : goal.numeral_at-requires
numeral_at-requires c = (c.requires.0, sym c.is_digit.ensures ∙ c.if-is_digit.true)

pub returns-then-is_digit : goal.returns-then-is_digit
returns-then-is_digit c = rw (← at-digit _ _ c.requires.0
    (sym c.is_digit.ensures ∙ c.if-is_digit.true)) c.numeral_at.ensures

pub word_at-requires : goal.word_at-requires
word_at-requires c = (c.requires.0, sym c.is_letter.ensures ∙ c.if-is_letter.true)

pub returns-then-is_letter : goal.returns-then-is_letter
returns-then-is_letter c = rw (← at-letter _ _ c.requires.0
    (sym c.is_digit.ensures ∙ c.if-is_digit.false)
    (sym c.is_letter.ensures ∙ c.if-is_letter.true)) c.word_at.ensures

pub returns : goal.returns
returns c =
    let b = get_or c.args.text.now c.args.at 0 in
    let other : (is_digit b ≡ false) × (is_letter b ≡ false) = elim c.if-b-ge48.branch [
      | then-b-ge48+else-is_digit+else-is_letter w ↦ (sym w.is_digit.ensures ∙ w.if-is_digit.false, sym w.is_letter.ensures ∙ w.if-is_letter.false)
      | else-b-ge48 w ↦ below-digits b w.if-b-ge48.false
    ] in
    rw (← at_other _ _ c.requires.0 other.0 other.1) c.symbol_at.ensures
