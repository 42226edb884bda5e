-- `token_table::fill` meets its contract. The invariant: what fills the rest, behind the words that are written, fills the whole.
use Rattle.std.specs.Prelude.{Ok, Err}
use mathlib.Core.Path.{refl, sym, ◌∙◌}
use native.Mathlib.Omega.{arith}
use lib.ListN.{set}
use borrow.Author.Rules.{rules}
use Rattle.token_table.proofs.symbols.Cases.{no-token, past-space}
use Rattle.token_table.proofs.Filling.{Promised, begin, ends, skips, stops, has_room, moves-on, goes_on}
use Rattle.token_table.specs.private.Table.{word_number}
use Rattle.token_table.proofs.fill.Goals as goal
use Rattle.token_table.specs.Refusals.{refusal}

pub loop-at-init : goal.loop-at-init
loop-at-init c = begin _ _

pub returns-then-not-is_space : goal.returns-then-not-is_space
returns-then-not-is_space c =
    let p : Promised c.args.text.now c.args.table.now c.loop-at.table (Err (refusal 4 c.loop-at.at)) =
    stops c.loop-at.invariant c.requires.0 c.requires.1 c.loop-at-test.true (sym c.is_space.ensures ∙ c.if-not-is_space.true)
    (no-token _ _ c.loop-at-test.true c.if-b-le32.true) refl in
    record { table_len_unchanged = p.0; fills = p.1.0; token_words = p.1.1 }

pub loop-at-smaller-then-b-le32 : goal.loop-at-smaller-then-b-le32
loop-at-smaller-then-b-le32 c = omega (arith, c.loop-at-test.true)

pub loop-at-preserved-then-b-le32 : goal.loop-at-preserved-then-b-le32
loop-at-preserved-then-b-le32 c = skips c.loop-at.invariant c.requires.0
    c.requires.1 c.loop-at-test.true
    (sym c.is_space.ensures ∙ c.if-not-is_space.false)

pub token_at-lex-requires : goal.token_at-lex-requires
token_at-lex-requires c = (c.loop-at-test.true, c.requires.0)

pub returns-then-class_of-eq-NONE : goal.returns-then-class_of-eq-NONE
returns-then-class_of-eq-NONE c =
    let p : Promised c.args.text.now c.args.table.now c.loop-at.table (Err (refusal (word_number c.token_at-lex.result.word) c.loop-at.at)) =
    stops c.loop-at.invariant c.requires.0 c.requires.1 c.loop-at-test.true (past-space _ c.if-b-le32.false) c.token_at-lex.ensures
    (sym c.class_of.ensures ∙ c.if-class_of-eq-NONE.true) in
    rw c.number_of.ensures record { table_len_unchanged = p.0; fills = p.1.0; token_words = p.1.1 }

pub overflow_add-table : goal.overflow_add-table
overflow_add-table c = omega (
  arith,
  has_room c.loop-at.invariant
      c.requires.0
      c.requires.1 c.loop-at-test.true
      (past-space _ c.if-b-le32.false) c.token_at-lex.ensures
      (λ z. c.if-class_of-eq-NONE.false (c.class_of.ensures ∙ z)) (search rules),
)

pub loop-at-smaller : goal.loop-at-smaller
loop-at-smaller c = moves-on c.loop-at.invariant
    c.requires.0
    c.requires.1 c.loop-at-test.true
    (past-space _ c.if-b-le32.false) c.token_at-lex.ensures
    (λ z. c.if-class_of-eq-NONE.false (c.class_of.ensures ∙ z))

pub loop-at-preserved : goal.loop-at-preserved
loop-at-preserved c = goes_on c.loop-at.invariant
    c.requires.0
    c.requires.1 c.loop-at-test.true
    (past-space _ c.if-b-le32.false) c.token_at-lex.ensures
    (λ z. c.if-class_of-eq-NONE.false (c.class_of.ensures ∙ z))

pub returns : goal.returns
returns c =
    let p : Promised c.args.text.now c.args.table.now (set c.loop-at.table c.loop-at.n 0) (Ok tt) =
    ends c.loop-at.invariant c.requires.0 c.requires.1 c.loop-at-test.false in
    record { table_len_unchanged = p.0; fills = p.1.0; token_words = p.1.1 }
