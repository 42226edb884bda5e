-- The words of a good file and its size. Assumes nothing.
use mathlib.Core.Path.{◌≡◌, refl, sym, ap, subst, ◌∙◌}
use mathlib.Core.Bool.{Bool, true, false}
use mathlib.Core.List.{List, [], ◌∷◌, ◌++◌, append_assoc}
use Prim.Native.Nat.{ℕ, zero, suc, ◌+◌, ◌-◌, ◌*◌, ◌/◌, ◌≤◌}
use native.Mathlib.Omega.{arith}
use lib.Dec.{ltb}
use lib.ListN.{length, take, drop, replicate, length-append}
use lib.Seq.{sets-eq, take-append_seam, drop-append_seam}
use borrow.Author.Tests.{ltb-true, ltb-false}
use Rattle.lines.specs.Printing.{width_of}
use Rattle.lines.proofs.printing.Digits.{length_digits}
use Rattle.card_laws.specs.Cards.{Card, card, target_key, expr_key, check_key, check_text, card_line, card_before, card_bytes, cards_bytes}
use Rattle.card_laws.specs.Reading.{good, read_cards, good_card, Valid, none, next}
use Rattle.card_laws.specs.Formulas.{formula_answer}
use Rattle.card_laws.proofs.Cards.{bytes-before}
use Rattle.card_laws.proofs.Formulas.{judge-laws, formula-card-theorems}
use Rattle.card_laws.proofs.Reading.{card-size}
use Rattle.card_file.specs.Spans.{target_at, expr_at}
use Rattle.card_file.specs.Words.{cards_words, read_words}
use Rattle.card_file.proofs.read.Turns.{words_count}
use Rattle.card_write.specs.Given.{part, first_cards, cards_in}
use Rattle.card_tables.specs.Tables.{TableTheorems}

-- ---- at most 64
few-above : (last : ℕ) {cs : List Card} → Valid formula_answer last cs → last ≤ 64 → last + length cs ≤ 64
few-above last none h = omega arith
few-above last (next {cs = cs} (good_card {n} l b a) v) h = omega (arith, few-above n v b)

few : (cs : List Card) → Valid formula_answer 0 cs → length cs ≤ 64
few cs v = omega (arith, few-above 0 v (omega arith))

-- ---- a table of words
table : (cs : List Card) → length cs ≤ 64 → take (5 * length cs) (drop 3 (read_words (good cs))) ≡ cards_words 0 cs
unfolding read_words
table cs h =
    let ws = cards_words 0 cs in
    let l = replicate {A = ℕ} 323 0 in
    let n : length ws ≡ 5 * length cs = words_count 0 cs in
    let room : 0 + length (0 ∷ 0 ∷ length cs ∷ ws) ≤ length l = omega (arith, n) in
    ap (λ (x : List ℕ). take (5 * length cs) (drop 3 x)) (sets-eq (0 ∷ 0 ∷ length cs ∷ ws) l 0 room)
    ∙ ap (λ (k : ℕ). take k (ws ++ drop (0 + length (0 ∷ 0 ∷ length cs ∷ ws)) l)) (sym n)
    ∙ take-append_seam ws (drop (0 + length (0 ∷ 0 ∷ length cs ∷ ws)) l)

-- ---- the texts stand where the words say
part_at : (s a t b : List ℕ) (k : ℕ) → s ≡ a ++ (t ++ b) → k ≡ length a → part s k (length t) ≡ t
part_at s a t b k e q =
    ap (λ (l : List ℕ). take (length t) (drop k l)) e
    ∙ ap (λ (j : ℕ). take (length t) (drop j (a ++ (t ++ b)))) q
    ∙ ap (take (length t)) (drop-append_seam a (t ++ b))
    ∙ take-append_seam t b

line-width : (n : ℕ) → length (card_line n) ≡ 5 + width_of n
line-width n = omega (arith, length_digits 10 (width_of n) n)

module _ (pre r : List ℕ) (n : ℕ) (t e : List ℕ) where
  -- behind the target, and behind the expression
  abbrev behind : List ℕ
  behind = 10 ∷ ((expr_key ++ e) ++ 10 ∷ ((check_key ++ check_text t e) ++ 10 ∷ r))

  abbrev last : List ℕ
  last = 10 ∷ ((check_key ++ check_text t e) ++ 10 ∷ r)

  abbrev to-target : List ℕ
  to-target = card_line n ++ (10 ∷ target_key)

  abbrev to-expr : List ℕ
  to-expr = to-target ++ (t ++ (10 ∷ expr_key))

  at_target : pre ++ card_before (card n t e) r ≡ (pre ++ to-target) ++ (t ++ behind)
  at_target =
      ap (λ (x : List ℕ). pre ++ (card_line n ++ (10 ∷ x))) (append_assoc target_key t behind)
      ∙ ap (λ (x : List ℕ). pre ++ x) (sym (append_assoc (card_line n) (10 ∷ target_key) (t ++ behind)))
      ∙ sym (append_assoc pre to-target (t ++ behind))

  at-expr : pre ++ card_before (card n t e) r ≡ (pre ++ to-expr) ++ (e ++ last)
  at-expr =
      at_target
      ∙ ap (λ (x : List ℕ). (pre ++ to-target) ++ (t ++ (10 ∷ x))) (append_assoc expr_key e last)
      ∙ ap (λ (x : List ℕ). (pre ++ to-target) ++ x) (sym (append_assoc t (10 ∷ expr_key) (e ++ last)))
      ∙ append_assoc pre to-target ((t ++ (10 ∷ expr_key)) ++ (e ++ last))
      ∙ ap (λ (x : List ℕ). pre ++ x) (sym (append_assoc to-target (t ++ (10 ∷ expr_key)) (e ++ last)))
      ∙ sym (append_assoc pre to-expr (e ++ last))

  target-size : length (pre ++ to-target) ≡ length pre + target_at (width_of n)
  target-size = omega (arith, length-append pre to-target, length-append (card_line n) (10 ∷ target_key), line-width n)

  expr-size : length (pre ++ to-expr) ≡ length pre + expr_at (width_of n) (length t)
  expr-size =
      omega (
        arith,
        length-append pre to-expr,
        length-append to-target (t ++ (10 ∷ expr_key)),
        length-append t (10 ∷ expr_key),
        length-append (card_line n) (10 ∷ target_key),
        line-width n,
      )

first-cards : (s pre : List ℕ) (cs : List Card) → s ≡ pre ++ cards_bytes cs → first_cards s (length cs) (cards_words (length pre) cs) ≡ cs
first-cards s pre [] h = refl
first-cards s pre (card n t e ∷ cs) h =
    let c = card n t e in
    let whole : s ≡ pre ++ card_before c (cards_bytes cs) = h ∙ ap (λ (x : List ℕ). pre ++ x) (bytes-before c (cards_bytes cs)) in
    let target = part_at s (pre ++ to-target pre (cards_bytes cs) n t e) t (behind pre (cards_bytes cs) n t e) (length pre + target_at (width_of n))
    (whole ∙ at_target pre (cards_bytes cs) n t e) (sym (target-size pre (cards_bytes cs) n t e)) in
    let expr = part_at s (pre ++ to-expr pre (cards_bytes cs) n t e) e (last pre (cards_bytes cs) n t e) (length pre + expr_at (width_of n) (length t))
    (whole ∙ at-expr pre (cards_bytes cs) n t e) (sym (expr-size pre (cards_bytes cs) n t e)) in
    let rest = first-cards s (pre ++ card_bytes c) cs (h ∙ sym (append_assoc pre (card_bytes c) (cards_bytes cs))) in
    let more = first_cards s (length cs) (cards_words (length pre + length (card_bytes c)) cs) in
    ap (λ (x : List ℕ). card n x (part s (length pre + expr_at (width_of n) (length t)) (length e)) ∷ more) target
    ∙ ap (λ (x : List ℕ). card n t x ∷ more) expr
    ∙ ap (λ (k : ℕ). card n t e ∷ first_cards s (length cs) (cards_words k cs)) (sym (length-append pre (card_bytes c)))
    ∙ ap (λ (x : List Card). card n t e ∷ x) rest

handed : (s : List ℕ) (cs : List Card) → read_cards formula_answer s ≡ good cs → cards_in s (take (5 * length cs) (drop 3 (read_words (good cs)))) ≡ cs
unfolding cards_in
handed s cs h =
    let g = formula-card-theorems.sound s cs h in
    let count : length (cards_words 0 cs) / 5 ≡ length cs = omega (arith, words_count 0 cs) in
    ap (λ (ws : List ℕ). first_cards s (length ws / 5) ws) (table cs (few cs g.1))
    ∙ ap (λ (k : ℕ). first_cards s k (cards_words 0 cs)) count
    ∙ first-cards s [] cs g.0

-- ---- the longest file
-- the most bytes of j cards, the last numbered 64
abbrev most : ℕ → ℕ
most zero = 0
most (suc j) = 2080 + width_of (64 - j) + most j

most-rises : (i j : ℕ) → i ≤ j → most i ≤ most j
most-rises i zero h = let e : i ≡ 0 = omega arith in subst (λ (k : ℕ). most k ≤ most 0) (sym e) (omega arith)
most-rises i (suc k) h = by (ltb k i) refl (λ l. most-rises i k l)
  where
    by : (x : Bool) → ltb k i ≡ x → (i ≤ k → most i ≤ most k) → most i ≤ most (suc k)
    by true q ih = let e : i ≡ suc k = omega (arith, ltb-true k i q) in subst (λ (n : ℕ). most n ≤ most (suc k)) (sym e) (omega arith)
    by false q ih = omega (arith, ih (ltb-false k i q))

bounded : (last j : ℕ) {cs : List Card} → Valid formula_answer last cs → last + j ≡ 64 → length (cards_bytes cs) ≤ most j
bounded last j none q = omega arith
bounded last j (next {cs = cs} (good_card {n} {t} {e} l b a) v) q =
    let i = 64 - n in
    let rest : length (cards_bytes cs) ≤ most i = bounded n i v (omega arith) in
    let own : width_of (64 - i) ≡ width_of n = ap width_of (let z : 64 - i ≡ n = omega arith in z) in
    let up : most (suc i) ≤ most j = most-rises (suc i) j (omega arith) in
    omega (
      arith,
      length-append (card_bytes (card n t e)) (cards_bytes cs),
      card-size n t e,
      judge-laws.target_short t e a,
      judge-laws.expr_short t e a,
      rest,
      own,
      up,
    )

longest : (s : List ℕ) (cs : List Card) → read_cards formula_answer s ≡ good cs → length s ≤ 133239
longest s cs h =
    let g = formula-card-theorems.sound s cs h in
    let b : length (cards_bytes cs) ≤ most 64 = bounded 0 64 g.1 refl in
    omega (arith, ap length g.0, b)

pub table-theorems : TableTheorems
table-theorems =
    record {
      handed = handed;
      few = λ s cs h. few cs (formula-card-theorems.sound s cs h).1;
      longest = longest;
    }
