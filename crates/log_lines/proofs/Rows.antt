-- The words of a good file: card by card, where target and expression stand in it. Assumes nothing.
use mathlib.Core.Path.{◌≡◌, refl, sym, ap, subst, ◌∙◌}
use mathlib.Core.Bool.{Bool, true, false, cond}
use mathlib.Core.List.{List, [], ◌∷◌, ◌++◌, append_assoc}
use Prim.Native.Nat.{ℕ, suc, ◌+◌, ◌-◌, ◌*◌, ◌≤◌, ◌<◌}
use native.Mathlib.Nat.{add-zero, zero-add}
use native.Mathlib.Omega.{arith}
use lib.Dec.{eqb}
use lib.ListN.{length, take, drop, get_or, replicate, length-append, length-replicate}
use lib.Seq.{sets, take-append_seam, drop-append_seam, get_or-take, length-sets}
use borrow.Author.Tests.{eq-eqb, ne_eqb}
use Rattle.std.specs.Prelude.{Some, None}
use Rattle.memory.proofs.Runs.{run-written}
use Rattle.lines.specs.Printing.{decimal_text, width_of}
use Rattle.lines.proofs.printing.Digits.{length_digits}
use Rattle.card_laws.specs.Lines.{ended}
use Rattle.card_laws.specs.Cards.{Card, card, card_key, target_key, expr_key, check_key, check_text, card_line, card_before, card_bytes, cards_bytes}
use Rattle.card_laws.specs.Reading.{good, Valid}
use Rattle.card_laws.specs.Formulas.{formula_answer}
use Rattle.card_laws.proofs.Formulas.{judge-laws}
use Rattle.card_laws.proofs.Cards.{bytes-before}
use Rattle.card_laws.proofs.Reading.{Sizes, sizes, sound}
use Rattle.card_file.specs.Spans.{target_at, expr_at}
use Rattle.card_file.specs.Words.{card_words, cards_words, read_words}
use Rattle.card_file.proofs.read.Turns.{words_count}
use Rattle.log_laws.specs.Replay.{FoundCard, found, lacks, card_of}
use Rattle.log_lines.specs.private.Steps.{cards_in, Book, Part, Finds, there, nowhere}

-- ---- a text within a file
part_of : (file words a t r : List ℕ) (p q : ℕ) → file ≡ a ++ (t ++ r) → get_or words p 0 ≡ length a → get_or words q 0 ≡ length t → Part file words p q t
part_of file words a t r p q f g h =
    record {
      inside = omega (arith, g, h, ap length f, length-append a (t ++ r), length-append t r);
      is =
          ap (λ (n : ℕ). take n (drop (get_or words p 0) file)) h ∙ ap (λ (n : ℕ). take (length t) (drop n file)) g
          ∙ ap (λ (s : List ℕ). take (length t) (drop (length a) s)) f
          ∙ ap (take (length t)) (drop-append_seam a (t ++ r)) ∙ take-append_seam t r;
    }

-- a line with its key behind some bytes
keyed : (a k t r : List ℕ) → a ++ 10 ∷ ((k ++ t) ++ r) ≡ (a ++ 10 ∷ k) ++ (t ++ r)
keyed a k t r = ap (λ (s : List ℕ). a ++ 10 ∷ s) (append_assoc k t r) ∙ sym (append_assoc a (10 ∷ k) (t ++ r))

-- ---- the words from a place on
abbrev Holds : List ℕ → ℕ → List ℕ → Type 0
Holds words p vs = (j : ℕ) → j < length vs → get_or words (p + j) 0 ≡ get_or vs j 0

head_of : (words : List ℕ) (p : ℕ) (v : ℕ) (vs : List ℕ) → Holds words p (v ∷ vs) → get_or words p 0 ≡ v
head_of words p v vs h = ap (λ (n : ℕ). get_or words n 0) (sym (add-zero p)) ∙ h 0 (omega arith)

tail_of : (words : List ℕ) (p : ℕ) (v : ℕ) (vs : List ℕ) → Holds words p (v ∷ vs) → Holds words (p + 1) vs
tail_of words p v vs h j l =
    let e : p + 1 + j ≡ p + suc j = omega arith in
    ap (λ (n : ℕ). get_or words n 0) e ∙ h (suc j) (omega arith)

-- ---- card by card
pub data Rows (file words : List ℕ) : ℕ → List Card → Type 0 where
  end : {p : ℕ} → Rows file words p []
  row : {p n : ℕ} {t e : List ℕ} {cs : List Card} → get_or words p 0 ≡ n → Part file words (p + 1) (p + 2) t → Part file words (p + 3) (p + 4) e
      → Rows file words (p + 5) cs
      → Rows file words p (card n t e ∷ cs)

module _ (file words : List ℕ) where
  first-row : (a : List ℕ) (p n : ℕ) (t e : List ℕ) (cs : List Card) → file ≡ a ++ cards_bytes (card n t e ∷ cs)
      → Holds words p (cards_words (length a) (card n t e ∷ cs))
      → (get_or words p 0 ≡ n) × Part file words (p + 1) (p + 2) t × Part file words (p + 3) (p + 4) e
      × Holds words (p + 5) (cards_words (length a + length (card_bytes (card n t e))) cs)
  first-row a p n t e cs f h =
      let vs : List ℕ = cards_words (length a + length (card_bytes (card n t e))) cs in
      let w : ℕ = width_of n in
      let h1 : Holds words (p + 1) ((length a + target_at w) ∷ length t ∷ (length a + expr_at w (length t)) ∷ length e ∷ vs) =
      tail_of words p n ((length a + target_at w) ∷ length t ∷ (length a + expr_at w (length t)) ∷ length e ∷ vs) h in
      let h2 : Holds words (p + 1 + 1) (length t ∷ (length a + expr_at w (length t)) ∷ length e ∷ vs) =
      tail_of words (p + 1) (length a + target_at w) (length t ∷ (length a + expr_at w (length t)) ∷ length e ∷ vs) h1 in
      let h3 : Holds words (p + 1 + 1 + 1) ((length a + expr_at w (length t)) ∷ length e ∷ vs) =
      tail_of words (p + 1 + 1) (length t) ((length a + expr_at w (length t)) ∷ length e ∷ vs) h2 in
      let h4 : Holds words (p + 1 + 1 + 1 + 1) (length e ∷ vs) = tail_of words (p + 1 + 1 + 1) (length a + expr_at w (length t)) (length e ∷ vs) h3 in
      let h5 : Holds words (p + 1 + 1 + 1 + 1 + 1) vs = tail_of words (p + 1 + 1 + 1 + 1) (length e) vs h4 in
      let p2 : p + 1 + 1 ≡ p + 2 = omega arith in
      let p3 : p + 1 + 1 + 1 ≡ p + 3 = omega arith in
      let p4 : p + 1 + 1 + 1 + 1 ≡ p + 4 = omega arith in
      let p5 : p + 1 + 1 + 1 + 1 + 1 ≡ p + 5 = omega arith in
      let k : List ℕ = ended (check_key ++ check_text t e) (cards_bytes cs) in
      let r : List ℕ = 10 ∷ ((expr_key ++ e) ++ 10 ∷ k) in
      let a0 : List ℕ = a ++ card_line n in
      let a1 : List ℕ = a0 ++ 10 ∷ target_key in
      let a2 : List ℕ = (a1 ++ t) ++ 10 ∷ expr_key in
      let f1 : file ≡ a1 ++ (t ++ r) =
      f ∙ ap (λ (s : List ℕ). a ++ s) (bytes-before (card n t e) (cards_bytes cs)) ∙ sym (append_assoc a (card_line n) (10 ∷ ((target_key ++ t) ++ r)))
      ∙ keyed a0 target_key t r in
      let f2 : file ≡ a2 ++ (e ++ 10 ∷ k) = f1 ∙ sym (append_assoc a1 t r) ∙ keyed (a1 ++ t) expr_key e (10 ∷ k) in
      let n0 : length a0 ≡ length a + 5 + w = omega (arith, length-append a (card_line n), length-append card_key (decimal_text n), length_digits 10 w n) in
      let n1 : length a1 ≡ length a + target_at w = omega (arith, n0, length-append a0 (10 ∷ target_key)) in
      let n2 : length a2 ≡ length a + expr_at w (length t) = omega (arith, n1, length-append a1 t, length-append (a1 ++ t) (10 ∷ expr_key)) in (
        head_of words p n ((length a + target_at w) ∷ length t ∷ (length a + expr_at w (length t)) ∷ length e ∷ vs) h,
        part_of file words a1 t r (p + 1) (p + 2) f1
            (head_of words (p + 1) (length a + target_at w) (length t ∷ (length a + expr_at w (length t)) ∷ length e ∷ vs) h1 ∙ sym n1)
            (ap (λ (i : ℕ). get_or words i 0) (sym p2) ∙ head_of words (p + 1 + 1) (length t) ((length a + expr_at w (length t)) ∷ length e ∷ vs) h2),
        part_of file words a2 e (10 ∷ k) (p + 3) (p + 4) f2
            (ap (λ (i : ℕ). get_or words i 0) (sym p3) ∙ head_of words (p + 1 + 1 + 1) (length a + expr_at w (length t)) (length e ∷ vs) h3 ∙ sym n2)
            (ap (λ (i : ℕ). get_or words i 0) (sym p4) ∙ head_of words (p + 1 + 1 + 1 + 1) (length e) vs h4),
        subst (λ (i : ℕ). Holds words i vs) p5 h5,
      )

  rows : (a : List ℕ) (p : ℕ) (cs : List Card) → file ≡ a ++ cards_bytes cs → Holds words p (cards_words (length a) cs) → Rows file words p cs
  rows a p [] f h = end
  rows a p (card n t e ∷ cs) f h =
      let x = first-row a p n t e cs f h in
      let b : List ℕ = a ++ card_bytes (card n t e) in
      row x.0 x.1 x.2
      (rows b (p + 5) cs (f ∙ sym (append_assoc a (card_bytes (card n t e)) (cards_bytes cs)))
      (subst (λ (i : ℕ). Holds words (p + 5) (cards_words i cs)) (sym (length-append a (card_bytes (card n t e)))) x.3))

-- ---- what is left to be looked at
pub record Seeks (file words : List ℕ) (f : FoundCard) (k p left : ℕ) : Type 0 where
  pub cards : List Card
  pub rows_left : Rows file words p cards
  pub same : f ≡ card_of k cards
  pub count : left ≡ length cards
  pub room : p + 5 * left ≤ 323

pub seek : (file words : List ℕ) (k : ℕ) → Book file words → {left : ℕ} → left ≡ get_or words 2 0 → Seeks file words (card_of k (cards_in file)) k 3 left
unfolding read_words
seek file words k b {left} at-first =
    let cs : List Card = cards_in file in
    let s = sound formula_answer file cs b.reads in
    let z : Sizes formula_answer judge-laws 0 cs = sizes formula_answer judge-laws s.1 in
    let few : length cs ≤ 64 = omega (arith, z.rises, z.most (omega arith)) in
    let row : List ℕ = 0 ∷ 0 ∷ length cs ∷ cards_words 0 cs in
    let n : length row ≡ 3 + 5 * length cs = omega (arith, words_count 0 cs) in
    let t : take (length row) words ≡ row = ap (take (length row)) b.table
    ∙ run-written (replicate 323 0) 0 row (omega (arith, n, length-replicate {A = ℕ} 323 0)) in
    let h : Holds words 0 row = λ j l. ap (λ (x : ℕ). get_or words x 0) (zero-add j) ∙ sym (get_or-take (length row) words j 0 l)
    ∙ ap (λ (x : List ℕ). get_or x j 0) t in
    let c : get_or words 2 0 ≡ length cs = h 2 (omega (arith, n)) in
    let g : Holds words 3 (cards_words 0 cs) = λ j l. let i : 3 + j ≡ 0 + suc (suc (suc j)) = omega arith in ap (λ (x : ℕ). get_or words x 0) i
    ∙ h (suc (suc (suc j))) (omega arith) in
    record { cards = cs; rows_left = rows file words [] 3 cs s.0 g; same = refl; count = at-first ∙ c; room = omega (arith, at-first, c, few) }

module _ {file words : List ℕ} {f : FoundCard} {k p left : ℕ} where
  pub none_left : Seeks file words f k p left → left ≡ 0 → Finds file words f None
  none_left s e = by s.cards s.same s.count
    where
      by : (cs : List Card) → f ≡ card_of k cs → left ≡ length cs → Finds file words f None
      by [] q c = subst (λ (x : FoundCard). Finds file words x None) (sym q) nowhere
      by (d ∷ cs) q c = absurd (omega arith)

  pub met : Seeks file words f k p left → (left ≡ 0 → ⊥) → get_or words p 0 ≡ k → Finds file words f (Some p)
  met s h e = by s.cards s.rows_left s.same s.count
    where
      by : (cs : List Card) → Rows file words p cs → f ≡ card_of k cs → left ≡ length cs → Finds file words f (Some p)
      by [] r q c = absurd (h c)
      by (card n t x ∷ cs) (row m a b r) q c =
          subst (λ (y : FoundCard). Finds file words y (Some p)) (sym (q ∙ ap (λ (z : Bool). cond z (found t x) (card_of k cs)) (eq-eqb n k (sym m ∙ e))))
          (there p (omega (arith, s.room)) a b)

  pub passed : Seeks file words f k p left → (left ≡ 0 → ⊥) → (get_or words p 0 ≡ k → ⊥) → {p' left' : ℕ} → p' ≡ p + 5 → left' ≡ left - 1
      → Seeks file words f k p' left'
  passed s h e {p'} {left'} i j = by s.cards s.rows_left s.same s.count
    where
      by : (cs : List Card) → Rows file words p cs → f ≡ card_of k cs → left ≡ length cs → Seeks file words f k p' left'
      by [] r q c = absurd (h c)
      by (card n t x ∷ cs) (row m a b r) q c =
          record {
            cards = cs;
            rows_left = subst (λ (y : ℕ). Rows file words y cs) (sym i) r;
            same = q ∙ ap (λ (z : Bool). cond z (found t x) (card_of k cs)) (ne_eqb n k (λ y. e (m ∙ y)));
            count = omega arith;
            room = omega (arith, s.room);
          }

  -- its words are in the table
  pub within : Seeks file words f k p left → (left ≡ 0 → ⊥) → p + 5 ≤ 323
  within s h = omega (arith, s.room)
