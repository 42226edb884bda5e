-- A law for each way through the functions of the module `ranges`.
use mathlib.Core.Path.{◌≡◌, refl, sym, ap, subst, ◌∙◌}
use mathlib.Core.Bool.{true, false}
use mathlib.Core.List.{List, ◌∷◌}
use Prim.Native.Nat.{ℕ, suc, ◌+◌, ◌≤◌, ◌<◌}
use native.Mathlib.Omega.{arith}
use lib.IntN.{ℤ}
use lib.ListN.{length}
use borrow.Author.Tests.{lt-ltb}
use Rattle.values.specs.declared.Value.TheVariants.{Int}
use Rattle.memory.specs.declared.Bank.{Bank}
use Rattle.totals.specs.Totals.{total_kind, match_kind}
use Rattle.tokens.specs.declared.Token.{Token}
use Rattle.tokens.specs.declared.Token.TheVariants.{Number, Cell}
use Rattle.tokens.specs.Scan.{Tok}
use Rattle.token_table.specs.private.Table.{Is, word_class, word_operand, word_number, word_place, token_of, entry_of, word_at, tokens_from, Sound, TokenWord}
use Rattle.token_table.specs.private.Table.{blank, token, TokenWords}
use Rattle.token_table.proofs.Laws.{tok, token_class, token_operand, token_number, class-packed, operand-packed, number-packed, from_is}
use Rattle.grammar.specs.Tree.{Tree, total, matching, earlier}
use Rattle.grammar.specs.Symbols.{close_paren, comma}
use Rattle.grammar.specs.Parse.{Result, ok, bad, expect, expect_cell, expect_count, expect_range}
use Rattle.code.specs.declared.Instr.TheVariants.{Total, Match}
use Rattle.draft.specs.private.Results.{Read, Done, Bad, read_next, read_end, read_wrong}
use Rattle.draft.specs.private.Words.{is_mark}
use Rattle.draft.specs.private.Draft.{put_instr}
use Rattle.draft.specs.private.Ranges.{function_total, function_match, cell_bank, count_of, CellWord, range_span, range_wrong}
use Rattle.compiler.specs.private.Reading.{same_done, same_bad, span_done, span_bad, ReaderAgrees, RangeFrom}
use Rattle.compiler.specs.private.Reading.{whole, broken, Matching}
use Rattle.compiler.proofs.reader.Looking.{bank-back, Splits, head_is, Look, nothing, stands, look, mark, There, there}
use Rattle.compiler.proofs.reader.Binding.{expect-past, expect-other}
use Rattle.compiler.proofs.reader.Meaning.{means-total, means-matching}

-- what k makes of the range from `at` on, given the place and the value of its count; and with both from the count's word
abbrev behind : (Bank → ℕ → ℕ → ℤ → Tree) → List ℕ → ℕ → ℕ → ℤ → Tree
behind k s at p z = k (cell_bank (word_at s at)) (word_number (word_at s at)) p z

abbrev over : (Bank → ℕ → ℕ → ℤ → Tree) → List ℕ → ℕ → Tree
over k s at = behind k s at (word_place (word_at s (at + 2))) (count_of (word_at s (at + 2)))

-- ---- a cell
cell-word : {w : ℕ} → TokenWord w → word_class w ≡ 3 → CellWord w
cell-word blank c = absurd (omega arith)
cell-word (token t p k lt) c = by k (sym (class-packed k p lt) ∙ c) (operand-packed k p lt) (number-packed k p lt)
  where
    by : {t : Token} {w : ℕ} → Sound t → token_class t ≡ 3 → word_operand w ≡ token_operand t → word_number w ≡ token_number t → CellWord w
    by (Sound.int z h) c o n = absurd (omega arith)
    by (Sound.real x h) c o n = absurd (omega arith)
    by (Sound.cell b i h) c o n =
        let (e, few) = bank-back b in
        record { few = rw o few; inside = rw (o, n, e) h }
    by (Sound.letter b) c o n = absurd (omega arith)
    by (Sound.name f) c o n = absurd (omega arith)
    by (Sound.symbol m h) c o n = absurd (omega arith)

splits : {s : List ℕ} {i : ℕ} {x : Tok} → (i < length s) × (tokens_from s i ≡ x ∷ tokens_from s (suc i)) → Splits s i x
splits {s} {i} {x} (h, e) = let next : suc i ≡ i + 1 = omega arith in record { within = h; split = e ∙ ap (λ (j : ℕ). x ∷ tokens_from s j) next }

cell-there : {s : List ℕ} {at : ℕ} → CellWord (word_at s at) → word_class (word_at s at) ≡ 3
    → Splits s at (tok (Cell (cell_bank (word_at s at)) (word_number (word_at s at))) (word_place (word_at s at)))
unfolding token_of
cell-there {s} {at} w c =
    let e : entry_of (word_at s at) ≡ Is (Cell (cell_bank (word_at s at)) (word_number (word_at s at))) (word_place (word_at s at)) =
    rw (c, lt-ltb (word_operand (word_at s at)) 6 w.few) refl in
    splits (from_is s at e)

cell-none : {X : Type 0} {s : List ℕ} {at w : ℕ} (k : Bank → ℕ → List Tok → Result X) → Look s at w → (word_class w ≡ 3 → ⊥)
    → expect_cell (tokens_from s at) k ≡ bad (tokens_from s at)
cell-none k (nothing e) n = rw e refl
cell-none {s = s} {at} k (stands {p = p} g lt x) n = by g x (λ e. n (class-packed g p lt ∙ e))
  where
    by : {t : Token} → Sound t → Splits s at (tok t p) → (token_class t ≡ 3 → ⊥) → expect_cell (tokens_from s at) k ≡ bad (tokens_from s at)
    by (Sound.int z h) x n = rw x.split refl
    by (Sound.real y h) x n = rw x.split refl
    by (Sound.cell b i h) x n = absurd (n refl)
    by (Sound.letter b) x n = rw x.split refl
    by (Sound.name f) x n = rw x.split refl
    by (Sound.symbol m h) x n = rw x.split refl

-- ---- a count
count-there : {s : List ℕ} {at : ℕ} → word_class (word_at s at) ≡ 1 → Splits s at (tok (Number (Int (count_of (word_at s at)))) (word_place (word_at s at)))
unfolding token_of
count-there {s} {at} c =
    let e : entry_of (word_at s at) ≡ Is (Number (Int (count_of (word_at s at)))) (word_place (word_at s at)) = rw c refl in
    splits (from_is s at e)

count_none : {X : Type 0} {s : List ℕ} {at w : ℕ} (k : ℕ → ℤ → List Tok → Result X) → Look s at w → (word_class w ≡ 1 → ⊥)
    → expect_count (tokens_from s at) k ≡ bad (tokens_from s at)
count_none k (nothing e) n = rw e refl
count_none {s = s} {at} k (stands {p = p} g lt x) n = by g x (λ e. n (class-packed g p lt ∙ e))
  where
    by : {t : Token} → Sound t → Splits s at (tok t p) → (token_class t ≡ 1 → ⊥) → expect_count (tokens_from s at) k ≡ bad (tokens_from s at)
    by (Sound.int z h) x n = absurd (n refl)
    by (Sound.real y h) x n = rw x.split refl
    by (Sound.cell b i h) x n = rw x.split refl
    by (Sound.letter b) x n = rw x.split refl
    by (Sound.name f) x n = rw x.split refl
    by (Sound.symbol m h) x n = rw x.split refl

-- ---- a range, token by token
module _ (s : List ℕ) (at : ℕ) (t : TokenWords s) where
  other : (n i : ℕ) → is_mark n (word_at s i) ≡ false → head_is n (tokens_from s i) ≡ false
  other n i m = sym (mark (look {s = s} {at = i} t refl) n) ∙ m

  pub no_cell : at ≤ length s → (word_class (word_at s at) ≡ 3 → ⊥) → RangeFrom s at at
  no_cell l n = broken {j = at} (omega arith) l (λ k. cell-none (λ b i r. expect comma r
      (λ q. expect_count q (λ p z u. expect close_paren u (λ v. ok (k b i p z) v)))) (look {s = s} {at = at} t refl) n)

  module _ (c : word_class (word_at s at) ≡ 3) where
    cell : CellWord (word_at s at)
    cell = cell-word (t at) c

    first : Splits s at (tok (Cell (cell_bank (word_at s at)) (word_number (word_at s at))) (word_place (word_at s at)))
    first = cell-there cell c

    behind-cell : (k : Bank → ℕ → ℕ → ℤ → Tree) → expect_range (tokens_from s at) k
        ≡ expect comma (tokens_from s (at + 1)) (λ q. expect_count q (λ p z u. expect close_paren u (λ v. ok (behind k s at p z) v)))
    behind-cell k = rw first.split refl

    pub no-comma : is_mark comma (word_at s (at + 1)) ≡ false → RangeFrom s at (at + 1)
    no-comma m =
        broken {j = at + 1} (omega arith) (omega (arith, first.within))
        (λ k. behind-cell k ∙ expect-other comma (tokens_from s (at + 1)) (λ q. expect_count q (λ p z u. expect close_paren u (λ v. ok (behind k s at p z) v)))
        (other comma (at + 1) m))

    module _ (m : is_mark comma (word_at s (at + 1)) ≡ true) where
      second : There comma s (at + 1)
      second = there comma s (at + 1) t m

      behind-comma : (k : Bank → ℕ → ℕ → ℤ → Tree) → expect_range (tokens_from s at) k
          ≡ expect_count (tokens_from s (at + 2)) (λ p z u. expect close_paren u (λ v. ok (behind k s at p z) v))
      behind-comma k =
          let g : List Tok → Result Tree = λ q. expect_count q (λ p z u. expect close_paren u (λ v. ok (behind k s at p z) v)) in
          let e : at + 1 + 1 ≡ at + 2 = omega arith in
          behind-cell k ∙ expect-past g second.splits ∙ ap (λ (j : ℕ). g (tokens_from s j)) e

      pub no-count : (word_class (word_at s (at + 2)) ≡ 1 → ⊥) → RangeFrom s at (at + 2)
      no-count n =
          broken {j = at + 2} (omega arith) (omega (arith, second.splits.within))
          (λ k. behind-comma k ∙ count_none (λ p z u. expect close_paren u (λ v. ok (behind k s at p z) v)) (look {s = s} {at = at + 2} t refl) n)

      module _ (n : word_class (word_at s (at + 2)) ≡ 1) where
        third : Splits s (at + 2) (tok (Number (Int (count_of (word_at s (at + 2))))) (word_place (word_at s (at + 2))))
        third = count-there n

        behind-count : (k : Bank → ℕ → ℕ → ℤ → Tree)
            → expect_range (tokens_from s at) k ≡ expect close_paren (tokens_from s (at + 3)) (λ v. ok (over k s at) v)
        behind-count k =
            let g : List Tok → Result Tree = λ u. expect close_paren u (λ v. ok (over k s at) v) in
            let e : at + 2 + 1 ≡ at + 3 = omega arith in
            behind-comma k ∙ rw third.split refl ∙ ap (λ (j : ℕ). g (tokens_from s j)) e

        pub no-close : is_mark close_paren (word_at s (at + 3)) ≡ false → RangeFrom s at (at + 3)
        no-close q =
            broken {j = at + 3} (omega arith) (omega (arith, third.within))
            (λ k. behind-count k ∙ expect-other close_paren (tokens_from s (at + 3)) (λ v. ok (over k s at) v) (other close_paren (at + 3) q))

        pub all_there : is_mark close_paren (word_at s (at + 3)) ≡ true → RangeFrom s at (at + 4)
        all_there q =
            let h = there close_paren s (at + 3) t q in
            let e : at + 3 + 1 ≡ at + 4 = omega arith in
            whole cell (omega (arith, h.splits.within))
            (λ k. behind-count k
            ∙ expect-past (λ v. ok (over k s at) v) h.splits
            ∙ ap (λ (j : ℕ). ok (over k s at) (tokens_from s j)) e)

-- ---- a range that was read up to j, or not: the words of its first cell and of its count
pub record Broken (s : List ℕ) (at j : ℕ) : Type 0 where
  pub within : j ≤ length s
  pub reads : (k : Bank → ℕ → ℕ → ℤ → Tree) → expect_range (tokens_from s at) k ≡ bad (tokens_from s j)

pub record Whole (s : List ℕ) (at first count j : ℕ) : Type 0 where
  pub word : CellWord first
  pub end : j ≡ at + 4
  pub within : j ≤ length s
  pub reads : (k : Bank → ℕ → ℕ → ℤ → Tree) → expect_range (tokens_from s at) k
      ≡ ok (k (cell_bank first) (word_number first) (word_place count) (count_of count)) (tokens_from s j)

pub broken-range : {s : List ℕ} {at j : ℕ} → RangeFrom s at j → j < at + 4 → Broken s at j
broken-range (whole w l g) h = absurd (omega arith)
broken-range (broken b l g) h = record { within = l; reads = g }

pub whole-range : {s : List ℕ} {at first count j : ℕ} → first ≡ word_at s at → count ≡ word_at s (at + 2) → RangeFrom s at j → at + 4 ≤ j
    → Whole s at first count j
whole-range {s} {at} {first} {count} {j} a b x l = subst (λ (f : ℕ). Whole s at f count j) (sym a)
    (subst (λ (n : ℕ). Whole s at (word_at s at) n j) (sym b) (go x l))
  where
    go : {j : ℕ} → RangeFrom s at j → at + 4 ≤ j → Whole s at (word_at s at) (word_at s (at + 2)) j
    go (whole w l g) h = record { word = w; end = refl; within = l; reads = g }
    go (broken b l g) h = absurd (omega arith)

-- ---- a total over a range
abbrev pub Totalled : ℕ → List ℕ → ℕ → ℕ → List ℕ → List ℕ → Read → Type 0
Totalled f s at pc o o' r = ReaderAgrees (λ n ts. expect_range ts (λ b i p z. total p (function_total f) b i z)) 4 s at pc o o' r

module _ (f : ℕ) {s : List ℕ} {at pc : ℕ} {o : List ℕ} where
  pub total-broken : {j : ℕ} → Broken s at j → Totalled f s at pc o o (Bad j)
  total-broken x = record { span = span_bad x.within; same = λ n le. rw (x.reads (λ b i p z. total p (function_total f) b i z)) (same_bad refl) }

  pub total-whole : {first count j : ℕ} {o' : List ℕ} → Whole s at first count j
      → o' ≡ put_instr o pc (Total (function_total f) (cell_bank first) (word_number first) (range_span first count))
      → Totalled f s at pc o o' (Done j (pc + 1) (total_kind (function_total f) (cell_bank first)) (range_wrong first count))
  total-whole {first} {count} {j} x q = record {
    span = span_done {j = j} {e = pc + 1} (omega (arith, x.end)) x.within (omega arith) (omega (arith, x.end));
    same = λ n le. rw (x.reads (λ b i p z. total p (function_total f) b i z))
        (same_done (means-total (word_place count) (function_total f) (cell_bank first) (word_number first) (count_of count) q) refl);
  }

-- ---- a total over the cells of a range that match a value
pub matching-as : {f : ℕ} {s : List ℕ} {v : ℕ} {o o' : List ℕ} {x y : Read} → x ≡ y → Matching f s v o o' y → Matching f s v o o' x
matching-as {f} {s} {v} {o} {o'} e h = subst (Matching f s v o o') (sym e) h

module _ (f v : ℕ) {s : List ℕ} {o : List ℕ} where
  pub match-broken : {j : ℕ} → Broken s (read_next v) j → Matching f s v o o (Bad j)
  match-broken x = record {
    span = λ at pc a b l. span_bad x.within;
    same =
        λ pc o₀ t m. rw (x.reads (λ b i p z. matching p (function_match f) t b i z)) (same_bad refl);
  }

  pub match-whole : {first count j : ℕ} {o' : List ℕ} → Whole s (read_next v) first count j
      → o' ≡ put_instr o (read_end v) (Match (function_match f) (cell_bank first) (word_number first) (range_span first count))
      → Matching f s v o o' (Done j (read_end v + 1) (match_kind (function_match f) (cell_bank first)) (earlier (range_wrong first count) (read_wrong v)))
  match-whole {first} {count} {j} x q = record {
    span = λ at pc a b l. span_done {j = j} {e = read_end v + 1} (omega (arith, x.end)) x.within (omega arith) (omega (arith, x.end));
    same = λ pc o₀ t m. rw (x.reads (λ b i p z. matching p (function_match f) t b i z))
        (same_done (means-matching m (word_place count) (function_match f) (cell_bank first) (word_number first) (count_of count) q) refl);
  }
