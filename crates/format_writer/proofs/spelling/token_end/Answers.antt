-- `spelling::token_end` meets its contract.
use mathlib.Core.Path.{sym, ◌∙◌}
use native.Mathlib.Omega.{arith}
use Rattle.format_writer.proofs.spelling.Ends.{lies, inside, numeral-ends, word-ends, symbol-is, symbol-known}
use Rattle.format_writer.proofs.spelling.token_end.Goals as goal

pub bounds-text-at : goal.bounds-text-at
bounds-text-at c = inside c.requires

pub numeral_end-requires : goal.numeral_end-requires
numeral_end-requires c = omega (arith, inside c.requires)

pub returns-then-is_digit : goal.returns-then-is_digit
returns-then-is_digit c =
    let h = c.requires in
    let d = sym c.is_digit.ensures ∙ c.if-is_digit.true in
    let n = c.numeral_end.ensures in
    let e = numeral-ends h d n.0 in
    ((λ k. numeral-ends k d n.0), omega (arith, e, (lies h).some), n.1)

pub word_end-requires : goal.word_end-requires
word_end-requires c = omega (arith, inside c.requires)

pub returns-then-is_letter : goal.returns-then-is_letter
returns-then-is_letter c =
    let h = c.requires in
    let d = sym c.is_digit.ensures ∙ c.if-is_digit.false in
    let l = sym c.is_letter.ensures ∙ c.if-is_letter.true in
    let n = c.word_end.ensures in
    let e = word-ends h d l n.0 in
    ((λ k. word-ends k d l n.0), omega (arith, e, (lies h).some), n.1)

pub symbol_length-requires : goal.symbol_length-requires
symbol_length-requires c = symbol-known c.requires
    (sym c.is_digit.ensures ∙ c.if-is_digit.false) (sym c.is_letter.ensures ∙ c.if-is_letter.false)

pub overflow_add-result : goal.overflow_add-result
overflow_add-result c =
    let h = c.requires in
    let d = sym c.is_digit.ensures ∙ c.if-is_digit.false in
    let l = sym c.is_letter.ensures ∙ c.if-is_letter.false in
    omega (arith, c.symbol_length.ensures, (symbol-is h d l).1, (lies h).inside)

pub returns : goal.returns
returns c =
    let h = c.requires in
    let d = sym c.is_digit.ensures ∙ c.if-is_digit.false in
    let l = sym c.is_letter.ensures ∙ c.if-is_letter.false in
    let n = c.symbol_length.ensures in
    ((λ k. omega (arith, n, (symbol-is k d l).1)), omega arith, omega (arith, n, (symbol-is h d l).1, (lies h).inside))
