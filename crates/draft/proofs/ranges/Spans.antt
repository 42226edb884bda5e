-- What is told of a range by the words of its first cell and of its count, as the code has their parts.
use mathlib.Core.Path.{◌≡◌, refl, sym, ◌∙◌}
use mathlib.Core.Bool.{Bool}
use Prim.Native.Nat.{ℕ, ◌<◌}
use native.Mathlib.Omega.{arith}
use borrow.Author.Tests.{lt-ltb}
use Rattle.operators.specs.Kinds.{number_kind}
use Rattle.operators.proofs.Typed.{kind-small}
use Rattle.memory.specs.Layout.{layout_of}
use Rattle.memory.specs.Numbers.{bank_numbered, bank_elements}
use Rattle.totals.specs.Totals.{total_kind, match_kind, range_within, span_within, good_count}
use Rattle.totals.specs.Numbers.{total_of, match_of, total_typed, match_typed}
use Rattle.totals.proofs.Laws.{total-laws}
use Rattle.token_table.specs.private.Table.{word_operand, word_number}
use Rattle.draft.specs.private.Words.{bank_at}
use Rattle.draft.specs.private.Ranges.{total_at, match_at, cell_bank, count_of, CellWord, range_span}
use Rattle.draft.proofs.Typed.{number-kind}

-- ---- the count in the code, and whether the range is good
module _ (first count : ℕ) (w : CellWord first) where
  pub small : (word_number first < 256) × (range_span first count < 65536)
  small =
      let h = total-laws.range_small (cell_bank first) (word_number first) (range_span first count)
      (total-laws.span_good (cell_bank first) (word_number first) (count_of count) w.inside) in
      (omega (arith, h.0, h.1), omega (arith, h.1))

  module _ {m r i n : ℕ} (bank : m ≡ word_operand first) (elements : r ≡ bank_elements (bank_numbered m)) (element : i ≡ word_number first)
      (number : n ≡ word_number count) where
    many : r ≡ (layout_of (cell_bank first)).elements
    many = elements ∙ rw (bank, lt-ltb (word_operand first) 6 w.few) refl

    pub span-is : {x : ℕ} → x ≡ span_within r i n → x ≡ range_span first count
    span-is q = q ∙ rw (many, element, number) (sym (total-laws.typed_span (cell_bank first) (word_number first) (word_number count)))

    pub good-is : {b : Bool} → b ≡ range_within r i n → b ≡ good_count (cell_bank first) (word_number first) (count_of count)
    good-is q = q ∙ rw (many, element, number) (sym (total-laws.typed_good (cell_bank first) (word_number first) (word_number count)))

-- ---- the kind of a total
module _ (n m : ℕ) (few : m < 6) {a b r : ℕ} (op : a ≡ n) (bank : b ≡ m) where
  pub total-typed : n < 4 → r ≡ total_typed (total_of a) (bank_numbered b) → (number_kind r ≡ total_kind (total_at n) (bank_at m)) × (r < 2)
  total-typed h q = rw (q, op, bank, lt-ltb n 4 h, lt-ltb m 6 few) (
    number-kind (total_kind (total_at n) (bank_at m)),
    kind-small (total_kind (total_at n) (bank_at m)),
  )

  pub match-typed : n < 12 → r ≡ match_typed (match_of a) (bank_numbered b) → (number_kind r ≡ match_kind (match_at n) (bank_at m)) × (r < 2)
  match-typed h q = rw (q, op, bank, lt-ltb n 12 h, lt-ltb m 6 few)
      (number-kind (match_kind (match_at n) (bank_at m)), kind-small (match_kind (match_at n) (bank_at m)))
