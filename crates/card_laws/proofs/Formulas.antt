-- The real judge keeps the laws: an accepted text has at most 1,024 bytes and no line end, and an accepted expression no `k`.
use mathlib.Core.Path.{◌≡◌, refl, sym, ap, subst, ◌∙◌}
use mathlib.Core.Bool.{Bool, true, false, ◌&&◌, cond}
use mathlib.Core.List.{List, [], ◌∷◌, ◌++◌}
use Prim.Native.Nat.{ℕ, zero, suc, ◌+◌, ◌-◌, ◌≤◌, ◌<◌}
use native.Mathlib.Omega.{arith}
use lib.Dec.{eqb, leb}
use lib.ListN.{length, get_or, take, drop, length-drop, drop_of_length-le}
use lib.Seq.{split_at, take-nil}
use borrow.Author.Tests.{eqb-true, leb-true}
use Rattle.std.specs.Prelude.{Ok, Err, Option, Some, None}
use Rattle.memory.specs.declared.Bank.{Bank}
use Rattle.memory.specs.Names.{letter_bank, cell_after_letter, named_rule, storable, target_rule}
use Rattle.tokens.specs.Scan.{Tok, tokens, scan}
use Rattle.tokens.proofs.Tests.{both, no}
use Rattle.grammar.specs.Tree.{Tree}
use Rattle.lines.proofs.Long.{short-name}
use Rattle.text.specs.Judge.{Judgement, accepted, refused, judge_from, judge}
use Rattle.text.specs.Targets.{Target, to_cell, to_indexed, no_target, is_enclosed, index_text, indexed_by, stored_bank, indexed_target, target_from, target_of}
use Rattle.text.specs.Theorems.{AcceptedFrom}
use Rattle.text.proofs.Theorems.{text-from}
use Rattle.card_laws.specs.Lines.{Lacks}
use Rattle.card_laws.specs.Verdicts.{Verdict}
use Rattle.card_laws.specs.Formulas.{judged_expr, judged_target, formula_answer}
use Rattle.card_laws.specs.Theorems.{JudgeLaws, CardTheorems}
use Rattle.card_laws.proofs.Lines.{lacks-append, lacks-cons}
use Rattle.card_laws.proofs.Absence.{Unused, tokens-lack, letter-not, name-lacks, no-line-end, no_k}
use Rattle.card_laws.proofs.Theorems.{card-theorems}

-- ---- an accepted text
record Text (b : ℕ) (s : List ℕ) : Type 0 where
  some : 1 ≤ length s
  short : length s ≤ 1024
  lacking : Lacks b s

text_of : (b d : ℕ) → Unused b → d ≤ 8 → (s : List ℕ) (t : Tree) → judge_from d s ≡ accepted t → Text b s
text_of b d u h s t e =
    let a : AcceptedFrom d s t = ((text-from.theorems d h).accepts s t).0 e in
    record { some = a.reads.sized.some; short = a.reads.sized.short; lacking = tokens-lack b u s a.toks a.reads.scanned }

-- ---- a target
record Target-text (s : List ℕ) : Type 0 where
  short : length s ≤ 1024
  lacking : Lacks 10 s

storable-cell : (n : (Option (Bank × ℕ))) {k : Bank} {i : ℕ} → storable n ≡ Some (k, i) → (j : Bank) × (m : ℕ) × (n ≡ Some (j, m))
storable-cell (Some (j, m)) e = (j, m, refl)
storable-cell None e = absurd (let z : ◌≡◌ {A = ℕ} 0 1 = cc in omega arith)

-- a letter, `[`, an accepted index and `]`
enclosed : (s : List ℕ) {k : Bank} {t : Tree} → letter_bank (get_or s 0 0) ≡ Some k → is_enclosed s ≡ true → judge_from 1 (index_text s) ≡ accepted t → Lacks 10 s
enclosed [] l e j = refl
enclosed (c ∷ []) l e j = let f : ◌≡◌ {A = ℕ} 0 1 = cc in absurd (omega arith)
enclosed (c ∷ d ∷ rest) {k} {t} l e j =
    let b = both (eqb d 91) (eqb (get_or (c ∷ d ∷ rest) (length (c ∷ d ∷ rest) - 1) 0) 93) e in
    let x : Text 10 (index_text (c ∷ d ∷ rest)) = text_of 10 1 no-line-end (omega arith) (index_text (c ∷ d ∷ rest)) t j in
    let n : ℕ = length rest - 1 in
    let long : 0 < length rest = positive rest x.some in
    let whole : rest ≡ take n rest ++ get_or rest n 0 ∷ [] = split_at rest n 0 (omega arith)
    ∙ ap (λ (l : List ℕ). take n rest ++ get_or rest n 0 ∷ l) (drop_of_length-le rest {i = suc n} (omega arith)) in
    let i : length (c ∷ d ∷ rest) - 3 ≡ n = omega arith in
    let p : length (c ∷ d ∷ rest) - 1 ≡ suc (suc n) = omega arith in
    let inner : Lacks 10 (take n rest) = subst (λ (m : ℕ). Lacks 10 (take m rest)) i x.lacking in
    let last : eqb (get_or rest n 0) 93 ≡ true = subst (λ (m : ℕ). eqb (get_or (c ∷ d ∷ rest) m 0) 93 ≡ true) p b.1 in
    lacks-cons 10 c (d ∷ rest) (letter-not 10 no-line-end c l)
    (lacks-cons 10 d rest (mark 91 d b.0 (λ z. omega arith))
    (subst (Lacks 10) (sym whole) (lacks-append 10 (take n rest) (get_or rest n 0 ∷ []) inner
    (lacks-cons 10 (get_or rest n 0) [] (mark 93 (get_or rest n 0) last (λ z. omega arith)) refl))))
  where
    mark : (m c : ℕ) → eqb c m ≡ true → (m ≡ 10 → ⊥) → c ≡ 10 → ⊥
    mark m c q n z = n (sym (eqb-true c m q) ∙ z)

    positive : (rest : List ℕ) → 1 ≤ length (index_text (c ∷ d ∷ rest)) → 0 < length rest
    positive [] h = omega (arith, ap length (take-nil {A = ℕ} (length (c ∷ d ∷ []) - 3)))
    positive (f ∷ rest) h = omega arith

stored_of : (l : (Option Bank)) {k : Bank} → stored_bank l ≡ Some k → (j : Bank) × (l ≡ Some j)
stored_of (Some j) e = (j, refl)
stored_of None e = absurd (let z : ◌≡◌ {A = ℕ} 0 1 = cc in omega arith)

record Indexed (l : (Option Bank)) (j : Judgement) : Type 0 where
  bank : Bank
  tree : Tree
  letter : l ≡ Some bank
  judgement : j ≡ accepted tree

indexed_of : (l : (Option Bank)) (j : Judgement) → (indexed_by l j ≡ no_target → ⊥) → Indexed l j
indexed_of (Some k) (accepted t) n = record { bank = k; tree = t; letter = refl; judgement = refl }
indexed_of (Some k) (refused a p) n = absurd (n refl)
indexed_of None j n = absurd (n refl)

indexed-text : (s : List ℕ) → (indexed_target s ≡ no_target → ⊥) → Target-text s
unfolding indexed_target
indexed-text s n = go (leb (length s) 1024 && is_enclosed s) refl n
  where
    go : (x : Bool) → (leb (length s) 1024 && is_enclosed s) ≡ x
        → (cond x (indexed_by (stored_bank (letter_bank (get_or s 0 0))) (judge_from 1 (index_text s))) no_target ≡ no_target → ⊥) → Target-text s
    go false q w = absurd (w refl)
    go true q w =
        let b = both (leb (length s) 1024) (is_enclosed s) q in
        let i : Indexed (stored_bank (letter_bank (get_or s 0 0))) (judge_from 1 (index_text s)) =
        indexed_of (stored_bank (letter_bank (get_or s 0 0))) (judge_from 1 (index_text s)) w in
        let l = stored_of (letter_bank (get_or s 0 0)) i.letter in
        record { short = leb-true (length s) 1024 b.0; lacking = enclosed s l.1 b.1 i.judgement }

target-text : (s : List ℕ) → (target_of s ≡ no_target → ⊥) → Target-text s
unfolding target_of
target-text s n = go (target_rule s) refl n
  where
    go : (x : (Option (Bank × ℕ))) → target_rule s ≡ x → (target_from s x ≡ no_target → ⊥) → Target-text s
    go (Some (k, i)) q w =
        let c = storable-cell (named_rule s) q in
        let e : named_rule s ≡ Some (c.0, c.1) = c.2 in
        record { short = omega (arith, short-name s e); lacking = name-lacks 10 no-line-end s e }
    go None q w = indexed-text s w

-- ---- both
record Accepted (t e : List ℕ) : Type 0 where
  is-target : target_of t ≡ no_target → ⊥
  tree : Tree
  formula : judge e ≡ accepted tree

fine_of : (t e : List ℕ) → formula_answer t e ≡ Ok tt → Accepted t e
unfolding formula_answer
fine_of t e h = go (target_of t) refl (judge e) refl h
  where
    expr : (j : Judgement) → judged_expr j ≡ Ok tt → (x : Tree) × (j ≡ accepted x)
    expr (accepted x) w = (x, refl)
    expr (refused a p) w = absurd (let z : ◌≡◌ {A = ℕ} 0 1 = cc in omega arith)

    go : (x : Target) → target_of t ≡ x → (j : Judgement) → judge e ≡ j → judged_target x (judged_expr j) ≡ Ok tt → Accepted t e
    go (to_cell b i) p j q w = let g = expr j w in record { is-target = λ z. let f : ◌≡◌ {A = ℕ} 0 1 = cc in omega arith; tree = g.0; formula = q ∙ g.1 }
    go (to_indexed b x) p j q w = let g = expr j w in record { is-target = λ z. let f : ◌≡◌ {A = ℕ} 0 1 = cc in omega arith; tree = g.0; formula = q ∙ g.1 }
    go no_target p j q w = absurd (let z : ◌≡◌ {A = ℕ} 0 1 = cc in omega arith)

expr-text : (b : ℕ) → Unused b → (t e : List ℕ) → formula_answer t e ≡ Ok tt → Text b e
expr-text b u t e h = let a : Accepted t e = fine_of t e h in text_of b 0 u (omega arith) e a.tree a.formula

-- ---- a refusal
own_answer : (t e : List ℕ) (a : ℕ) → formula_answer t e ≡ Err a → (2 ≤ a) × (a ≤ 9)
unfolding formula_answer
own_answer t e a h = by (target_of t) (judge e) refl h
  where
    expr : (j : Judgement) → judge e ≡ j → judged_expr j ≡ Err a → (2 ≤ a) × (a ≤ 9)
    expr (accepted x) q w = absurd (let z : ◌≡◌ {A = ℕ} 0 1 = cc in omega arith)
    expr (refused b p) q w =
        let z : b ≡ a = cc in
        let k = (text-from.theorems 0 (omega arith)).answers e b p q in
        (omega (arith, k.0), omega (arith, k.1))

    by : (x : Target) (j : Judgement) → judge e ≡ j → judged_target x (judged_expr j) ≡ Err a → (2 ≤ a) × (a ≤ 9)
    by (to_cell b i) j q w = expr j q w
    by (to_indexed b i) j q w = expr j q w
    by no_target j q w = let z : 2 ≡ a = cc in (omega arith, omega arith)

pub judge-laws : JudgeLaws formula_answer
judge-laws =
    record {
      target_short = λ t e h. (target-text t (fine_of t e h).is-target).short;
      expr_short = λ t e h. (expr-text 10 no-line-end t e h).short;
      target_line = λ t e h. (target-text t (fine_of t e h).is-target).lacking;
      expr_line = λ t e h. (expr-text 10 no-line-end t e h).lacking;
      no_k = λ t e h. (expr-text 107 no_k t e h).lacking;
      own_answer = own_answer;
    }

pub formula-card-theorems : CardTheorems formula_answer
formula-card-theorems = card-theorems formula_answer judge-laws
