-- How long the names are: a part behind the first has five bytes, six if another follows, so that its name has at most six bytes a byte. Assumes nothing.
use mathlib.Core.Path.{◌≡◌, refl, sym, ap, subst, ◌∙◌}
use mathlib.Core.Logic.{⊎_elim}
use mathlib.Core.Bool.{Bool, true, false, ◌&&◌, cond}
use mathlib.Core.List.{List, [], ◌∷◌, ◌++◌}
use Prim.Native.Nat.{ℕ, zero, suc, ◌+◌, ◌*◌, ◌≤◌, ◌<◌}
use native.Mathlib.Omega.{arith}
use lib.Dec.{eqb, ltb}
use lib.ListN.{length, length-append}
use borrow.Author.Tests.{eqb-true}
use Rattle.std.specs.Prelude.{Ok, Err}
use Rattle.words.specs.Ascii.{ascii}
use Rattle.tokens.specs.Symbols.{equal_bytes}
use Rattle.tokens.specs.Bytes.{all}
use Rattle.tokens.proofs.Tests.{both}
use Rattle.lines.specs.Lines.{except}
use Rattle.lines.specs.Printing.{width_of, decimal_text}
use Rattle.lines.proofs.printing.Digits.{length_digits}
use Rattle.lines.proofs.printing.Widths.{one, few-or-many, at_most}
use Rattle.card_laws.specs.Verdicts.{Verdict}
use Rattle.card_laws.specs.Lines.{ended, Lacks, begins}
use Rattle.card_laws.specs.Cards.{card, card_key, check_text, Form, formed, out, card_form}
use Rattle.card_laws.specs.Reading.{CardRead, taken, refused, unless_refused, judged}
use Rattle.card_laws.specs.Theorems.{JudgeLaws}
use Rattle.salvage_laws.specs.Cut.{onto_first}
use Rattle.salvage_laws.specs.Salvage.{card_follows, parts, exact_form, PartAnswer, keeps, leaves, answer_of, last_kept, part, name_lines}
use Rattle.salvage_laws.specs.Salvage.{named_before, named_bytes, part_answer, classify_parts, salvaged}

pub name-size : (first size a : ℕ) → length (name_lines first size a) ≡ 23 + width_of first + width_of size + width_of a
unfolding name_lines
name-size first size a =
    let y : List ℕ = ended (ascii "answer=" ++ decimal_text a) [] in
    let x : List ℕ = ended (ascii "length=" ++ decimal_text size) y in
    omega (
      arith,
      length-append (decimal_text first) (10 ∷ x),
      length-append (decimal_text size) (10 ∷ y),
      length-append (decimal_text a) (10 ∷ []),
      length_digits 10 (width_of first) first,
      length_digits 10 (width_of size) size,
      length_digits 10 (width_of a) a,
    )

-- ---- what the first part is
data Cuts (s : List ℕ) (ps : List (List ℕ)) : Type 0 where
  none : ps ≡ [] → Cuts s ps
  whole : ps ≡ s ∷ [] → Cuts s ps
  split : (l r : List ℕ) → s ≡ l ++ 10 ∷ r → begins card_key r ≡ true → ps ≡ ended l [] ∷ parts r → Cuts s ps

cuts-more : (c : ℕ) (cs : List ℕ) {ps : List (List ℕ)} → Cuts cs ps → (ps ≡ [] → cs ≡ []) → Cuts (c ∷ cs) (onto_first c ps)
cuts-more c cs (none e) n = whole (ap (onto_first c) e ∙ ap (λ (l : List ℕ). (c ∷ l) ∷ []) (sym (n e)))
cuts-more c cs (whole e) n = whole (ap (onto_first c) e)
cuts-more c cs (split l r e b q) n = split (c ∷ l) r (ap (λ (k : List ℕ). c ∷ k) e) b (ap (onto_first c) q)

-- only of no bytes are there no parts
some-parts : (s : List ℕ) → parts s ≡ [] → s ≡ []
some-parts [] e = refl
some-parts (c ∷ cs) e = absurd (by (card_follows c cs) (parts cs) e)
  where
    onto : (qs : List (List ℕ)) → onto_first c qs ≡ [] → ⊥
    onto [] w = let z : ◌≡◌ {A = ℕ} 0 1 = cc in omega arith
    onto (q ∷ qs) w = let z : ◌≡◌ {A = ℕ} 0 1 = cc in omega arith

    by : (t : Bool) (qs : List (List ℕ)) → cond t ((c ∷ []) ∷ qs) (onto_first c qs) ≡ [] → ⊥
    by true qs w = let z : ◌≡◌ {A = ℕ} 0 1 = cc in omega arith
    by false qs w = onto qs w

cuts : (s : List ℕ) → Cuts s (parts s)
cuts [] = none refl
cuts (c ∷ cs) = by (card_follows c cs) refl (cuts cs)
  where
    by : (t : Bool) → card_follows c cs ≡ t → Cuts cs (parts cs) → Cuts (c ∷ cs) (cond t ((c ∷ []) ∷ parts cs) (onto_first c (parts cs)))
    by true q i =
        let h = both (eqb c 10) (begins card_key cs) q in
        let e : c ≡ 10 = eqb-true c 10 h.0 in
        split [] cs (ap (λ (k : ℕ). k ∷ cs) e) h.1 (ap (λ (k : ℕ). (k ∷ []) ∷ parts cs) e)
    by false q i = cuts-more c cs i (some-parts cs)

-- a key stands before the first line end
key-inside : (key l r : List ℕ) → Lacks 10 key → begins key (l ++ 10 ∷ r) ≡ true → length key ≤ length l
key-inside [] l r h b = omega arith
key-inside (k ∷ key) [] r h b =
    let n = both (except 10 k) (all (except 10) key) h in
    let e : k ≡ 10 = eqb-true k 10 (both (eqb k 10) (begins key r) b).0 in
    absurd (no-ten k e n.0)
  where
    no-ten : (k : ℕ) → k ≡ 10 → except 10 k ≡ true → ⊥
    no-ten k e w = let z : except 10 10 ≡ true = ap (except 10) (sym e) ∙ w in let i : ◌≡◌ {A = ℕ} 0 1 = cc in omega arith
key-inside (k ∷ key) (c ∷ l) r h b =
    omega (arith, key-inside key l r (both (except 10 k) (all (except 10) key) h).1 (both (eqb k c) (begins key (l ++ 10 ∷ r)) b).1)

key-long : (key s : List ℕ) → begins key s ≡ true → length key ≤ length s
key-long [] s b = omega arith
key-long (k ∷ key) [] b = absurd (let z : ◌≡◌ {A = ℕ} 0 1 = cc in omega arith)
key-long (k ∷ key) (c ∷ s) b = omega (arith, key-long key s (both (eqb k c) (begins key s) b).1)

-- ---- widths
short-name : (n : ℕ) → 5 ≤ n → n < 1000000 → 31 + width_of n ≤ 6 * n + 2
short-name n h b = ⊎_elim (λ few. omega (arith, one n few)) (λ many. omega (arith, at_most 5 n b)) (few-or-many n)

shorter-name : (n : ℕ) → 6 ≤ n → n < 1000000 → 31 + width_of n ≤ 6 * n
shorter-name n h b = ⊎_elim (λ few. omega (arith, one n few)) (λ many. omega (arith, at_most 5 n b)) (few-or-many n)

module _ (formula : List ℕ → List ℕ → Verdict) (laws : JudgeLaws formula) where
  -- ---- every answer has at most two digits
  judged-small : (last : ℕ) (x : Form) (a : ℕ) → judged formula last x ≡ refused a → a < 100
  unfolding judged
  judged-small last out a e = let z : 16 ≡ a = cc in omega arith
  judged-small last (formed n t e k r) a w = by (equal_bytes k (check_text t e)) (ltb last n) (formula t e) refl w
    where
      by : (x y : Bool) (v : Verdict) → formula t e ≡ v → cond x (cond y (unless_refused (card n t e) r v) (refused 18)) (refused 17) ≡ refused a → a < 100
      by false y v q u = let z : 17 ≡ a = cc in omega arith
      by true false v q u = let z : 18 ≡ a = cc in omega arith
      by true true (Ok _) q u = absurd (let z : ◌≡◌ {A = ℕ} 0 1 = cc in omega arith)
      by true true (Err b) q u = let z : b ≡ a = cc in omega (arith, (laws.own_answer t e a (q ∙ ap Err z)).1)

  answer-small : (last : ℕ) (p : List ℕ) (a : ℕ) → part_answer formula last p ≡ leaves a → a < 100
  answer-small last p a e = by (judged formula last (exact_form (card_form p))) refl e
    where
      by : (x : CardRead) → judged formula last (exact_form (card_form p)) ≡ x → answer_of x ≡ leaves a → a < 100
      by (taken c r) q w = absurd (let z : ◌≡◌ {A = ℕ} 0 1 = cc in omega arith)
      by (refused b) q w = let z : b ≡ a = cc in judged-small last (exact_form (card_form p)) a (q ∙ ap refused z)

  -- what a part adds to the names
  added : (last at : ℕ) (p : List ℕ) (rest : PartAnswer → List ℕ) (k m : ℕ) → at < 1000000 → 25 + width_of at + width_of (length p) ≤ k
      → ((x : PartAnswer) → length (rest x) ≤ m)
      → length (named_before (part at p (part_answer formula last p)) (rest (part_answer formula last p))) ≤ k + m
  added last at p rest k m b h i = by (part_answer formula last p) refl
    where
      by : (x : PartAnswer) → part_answer formula last p ≡ x → length (named_before (part at p x) (rest x)) ≤ k + m
      by (keeps c) q = omega (arith, i (keeps c))
      by (leaves a) q =
          omega (
            arith,
            length-append (name_lines at (length p) a) (rest (leaves a)),
            name-size at (length p) a,
            i (leaves a),
            at_most 1 a (answer-small last p a q),
          )

  -- ---- behind the first part
  rest-names : (n : ℕ) (s : List ℕ) (last at : ℕ) → length s ≤ n → begins card_key s ≡ true → at + length s < 1000000
      → length (named_bytes (classify_parts formula last at (parts s))) ≤ 6 * length s + 2
  rest-names zero s last at h b u = absurd (omega (arith, key-long card_key s b))
  rest-names (suc n) s last at h b u = by (parts s) (cuts s) (λ r last' at' h' b' u'. rest-names n r last' at' h' b' u')
    where
      by : (ps : List (List ℕ)) → Cuts s ps
          → ((r : List ℕ) (last' at' : ℕ) → length r ≤ n → begins card_key r ≡ true → at' + length r < 1000000
          → length (named_bytes (classify_parts formula last' at' (parts r))) ≤ 6 * length r + 2)
          → length (named_bytes (classify_parts formula last at ps)) ≤ 6 * length s + 2
      by ps (none e) again = omega (arith, ap (λ (qs : List (List ℕ)). length (named_bytes (classify_parts formula last at qs))) e)
      by ps (whole e) again =
          let w : 25 + width_of at + width_of (length s) ≤ 6 * length s + 2 =
          omega (arith, at_most 5 at (omega arith), short-name (length s) (key-long card_key s b) (omega arith)) in
          let g : length (named_bytes (classify_parts formula last at (s ∷ []))) ≤ 6 * length s + 2 + 0 =
          added last at s (λ x. []) (6 * length s + 2) 0 (omega arith) w (λ x. omega arith) in
          omega (arith, ap (λ (qs : List (List ℕ)). length (named_bytes (classify_parts formula last at qs))) e)
      by ps (split l r e c q) again =
          let p : List ℕ = ended l [] in
          let long : length p ≡ length l + 1 = length-append l (10 ∷ []) in
          let all-long : length s ≡ length l + 1 + length r = ap length e ∙ length-append l (10 ∷ r) ∙ omega arith in
          let five : 5 ≤ length l = key-inside card_key l r refl (subst (λ (k : List ℕ). begins card_key k ≡ true) e b) in
          let w : 25 + width_of at + width_of (length p) ≤ 6 * length p = omega
          (arith, at_most 5 at (omega arith), shorter-name (length p) (omega arith) (omega arith)) in
          let i : (x : PartAnswer) → length (named_bytes (classify_parts formula (last_kept last x) (at + length p) (parts r))) ≤ 6 * length r + 2 =
          λ x. again r (last_kept last x) (at + length p) (omega arith) c (omega arith) in
          let g : length (named_bytes (classify_parts formula last at (p ∷ parts r))) ≤ 6 * length p + (6 * length r + 2) =
          added last at p (λ x. named_bytes (classify_parts formula (last_kept last x) (at + length p) (parts r))) (6 * length p) (6 * length r + 2)
          (omega arith) w i in
          omega (arith, ap (λ (qs : List (List ℕ)). length (named_bytes (classify_parts formula last at qs))) q)

  pub names : (f : List ℕ) → length f < 1000000 → length (named_bytes (salvaged formula f)) ≤ 6 * length f + 64
  names f u = by (parts f) (cuts f)
    where
      by : (ps : List (List ℕ)) → Cuts f ps → length (named_bytes (classify_parts formula 0 0 ps)) ≤ 6 * length f + 64
      by ps (none e) = omega (arith, ap (λ (qs : List (List ℕ)). length (named_bytes (classify_parts formula 0 0 qs))) e)
      by ps (whole e) =
          let w : 25 + width_of 0 + width_of (length f) ≤ 32 = omega (arith, one 0 (omega arith), at_most 5 (length f) u) in
          let g : length (named_bytes (classify_parts formula 0 0 (f ∷ []))) ≤ 32 + 0 = added 0 0 f (λ x. []) 32 0 (omega arith) w (λ x. omega arith) in
          omega (arith, ap (λ (qs : List (List ℕ)). length (named_bytes (classify_parts formula 0 0 qs))) e)
      by ps (split l r e c q) =
          let p : List ℕ = ended l [] in
          let long : length p ≡ length l + 1 = length-append l (10 ∷ []) in
          let all-long : length f ≡ length l + 1 + length r = ap length e ∙ length-append l (10 ∷ r) ∙ omega arith in
          let w : 25 + width_of 0 + width_of (length p) ≤ 32 = omega (arith, one 0 (omega arith), at_most 5 (length p) (omega arith)) in
          let i : (x : PartAnswer) → length (named_bytes (classify_parts formula (last_kept 0 x) (0 + length p) (parts r))) ≤ 6 * length r + 2 =
          λ x. rest-names (length r) r (last_kept 0 x) (0 + length p) (omega arith) c (omega arith) in
          let g : length (named_bytes (classify_parts formula 0 0 (p ∷ parts r))) ≤ 32 + (6 * length r + 2) =
          added 0 0 p (λ x. named_bytes (classify_parts formula (last_kept 0 x) (0 + length p) (parts r))) 32 (6 * length r + 2) (omega arith) w i in
          omega (arith, ap (λ (qs : List (List ℕ)). length (named_bytes (classify_parts formula 0 0 qs))) q)
