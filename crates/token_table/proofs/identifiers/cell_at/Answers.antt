-- `identifiers::cell_at` meets its contract: the digits behind the letter are the rest of the run, or the word is refused.
use mathlib.Core.Path.{◌≡◌, refl, sym, ap, ◌∙◌}
use mathlib.Core.Bool.{true}
use Prim.Native.Nat.{ℕ, ◌+◌, ◌<◌}
use native.Mathlib.Omega.{arith}
use lib.ListN.{get_or}
use Rattle.memory.specs.declared.Layout.{Layout}
use Rattle.memory.specs.Layout.{layout_of}
use Rattle.memory.specs.Names.{is_digit}
use Rattle.memory.proofs.names.Decimals.{digit-range}
use Rattle.token_table.specs.private.Table.{pack_fields}
use Rattle.token_table.proofs.Lexemes.{lexes-as}
use Rattle.token_table.proofs.identifiers.Cells.{second, value_of, end_of, longer, beyond, zero-first, cell}
use Rattle.token_table.proofs.identifiers.cell_at.Goals as goal
use Rattle.token_table.proofs.identifiers.cell_at.Goals.{Start, then-first-eq48+else-end-at, else-first-eq48}

digit : (c : Start) → is_digit (get_or c.args.text.now (c.args.at + 1) 0) ≡ true
digit c = ap is_digit (sym c.requires.first_value.0) ∙ c.requires.first_value.1

pub overflow_sub-first : goal.overflow_sub-first
overflow_sub-first c = (digit-range _ c.requires.first_value.1).0

pub digits-d-requires : goal.digits-d-requires
digits-d-requires c = (
  let l = second c.args.text.now c.args.at c.requires.at_in_bounds.1.0 (digit (goal.at.digits-d-requires c).Start) in omega (arith, l),
  omega (arith, digit-range c.args.first c.requires.first_value.1),
)

pub returns-then-is_word : goal.returns-then-is_word
returns-then-is_word c =
    longer c.args.text.now c.args.at
    c.requires.at_in_bounds.1.0 (digit (goal.at.returns-then-is_word c).Start)
    c.args.bank c.requires.at_in_bounds.1.1
    (value_of c.args.text.now c.args.at
    c.requires.at_in_bounds.1.0 (digit (goal.at.returns-then-is_word c).Start)
    c.requires.first_value.0 c.digits-d.ensures.value_value)
    (end_of c.args.text.now c.args.at
    c.requires.at_in_bounds.1.0 (digit (goal.at.returns-then-is_word c).Start)
    c.digits-d.ensures.end_value.0) c.digits-d.ensures.next_value
    (sym c.is_word.ensures ∙ c.if-is_word.true) c.refused.ensures

pub returns-then-layout_of-element : goal.returns-then-layout_of-element
returns-then-layout_of-element c =
    beyond c.args.text.now
    c.args.at
    c.requires.at_in_bounds.1.0
    (digit (goal.at.returns-then-layout_of-element c).Start)
    c.args.bank
    c.requires.at_in_bounds.1.1
    (value_of c.args.text.now
    c.args.at
    c.requires.at_in_bounds.1.0
    (digit (goal.at.returns-then-layout_of-element c).Start)
    c.requires.first_value.0
    c.digits-d.ensures.value_value)
    (end_of c.args.text.now
    c.args.at
    c.requires.at_in_bounds.1.0
    (digit (goal.at.returns-then-layout_of-element c).Start)
    c.digits-d.ensures.end_value.0)
    c.digits-d.ensures.next_value
    (sym c.is_word.ensures ∙ c.if-is_word.false)
    (omega (arith, c.if-layout_of-element.true, ap (λ (x : Layout). x.elements) c.layout_of.ensures)) c.refused-then-layout_of-element.ensures

pub returns-then-end-at : goal.returns-then-end-at
returns-then-end-at c =
    zero-first c.args.text.now
    c.args.at
    c.requires.at_in_bounds.1.0
    (digit (goal.at.returns-then-end-at c).Start)
    c.args.bank
    c.requires.at_in_bounds.1.1
    (value_of c.args.text.now
    c.args.at
    c.requires.at_in_bounds.1.0
    (digit (goal.at.returns-then-end-at c).Start)
    c.requires.first_value.0
    c.digits-d.ensures.value_value)
    (end_of c.args.text.now
    c.args.at
    c.requires.at_in_bounds.1.0
    (digit (goal.at.returns-then-end-at c).Start)
    c.digits-d.ensures.end_value.0)
    c.digits-d.ensures.next_value
    (sym c.is_word.ensures ∙ c.if-is_word.false)
    (sym c.requires.first_value.0 ∙ c.if-first-eq48.true)
    c.if-end-at.true c.refused-then-end-at.ensures

pub returns : goal.returns
returns c =
    let l : c.digits-d.result.value < (layout_of
    c.args.bank).elements =
    omega (arith, c.if-layout_of-element.false, ap (λ (x : Layout). x.elements) c.layout_of.ensures) in
    lexes-as (c.word.ensures ∙ ap (λ (k : ℕ). pack_fields 3 k c.digits-d.result.value 0)
    c.from.ensures) refl
    (cell c.args.text.now
    c.args.at
    c.requires.at_in_bounds.1.0
    (digit (goal.at.returns c).Start)
    c.args.bank
    c.requires.at_in_bounds.1.1
    (value_of c.args.text.now
    c.args.at
    c.requires.at_in_bounds.1.0
    (digit (goal.at.returns c).Start)
    c.requires.first_value.0
    c.digits-d.ensures.value_value)
    (end_of c.args.text.now
    c.args.at
    c.requires.at_in_bounds.1.0
    (digit (goal.at.returns c).Start)
    c.digits-d.ensures.end_value.0)
    c.digits-d.ensures.next_value
    (sym c.is_word.ensures ∙ c.if-is_word.false) l
    (elim c.if-first-eq48.branch [
      | then-first-eq48+else-end-at w ↦ λ _. omega arith
      | else-first-eq48 w ↦ λ z. absurd (w.if-first-eq48.false (c.requires.first_value.0 ∙ z))
    ]))
