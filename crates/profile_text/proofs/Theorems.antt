-- `ProfileTexts`, from its parts.
use Rattle.std.specs.Prelude.{Option, Some, None}
use mathlib.Core.Path.{◌≡◌, refl, sym, ap, ◌∙◌, subst}
use mathlib.Core.Bool.{Bool, true, false, not, ◌&&◌, cond}
use mathlib.Core.List.{List, ◌∷◌, ◌++◌}
use Prim.Native.Nat.{ℕ, ◌≤◌}
use native.Mathlib.Omega.{arith}
use Rattle.memory.specs.declared.Bank.{Bank}
use Rattle.tokens.specs.Scan.{Tok, tokens, scan}
use Rattle.grammar.specs.Tree.{Tree}
use Rattle.grammar.specs.Parse.{most_open}
use Rattle.text.specs.Judge.{Judgement, accepted, refused, judge_scan, judge_from}
use Rattle.text.specs.Targets.{Target, to_cell, to_indexed, no_target, target_of, indexed_by}
use Rattle.text.specs.Theorems.{Sized, HasJudgementFrom}
use Rattle.text.specs.Theorems as Text
use Rattle.text.proofs.Theorems.{text-from, refused-not}
use Rattle.profile.specs.Parts.{real_bank}
use Rattle.profile.proofs.Tests.{both, not-true}
use Rattle.profile_text.specs.Tokens.{no_real}
use Rattle.profile_text.specs.Trees.{integer_only}
use Rattle.profile_text.specs.Judge.{judge_scan_in, judge_in}
use Rattle.profile_text.specs.Targets.{integer_target, taken_target, bank_in}
use Rattle.profile_text.specs.Theorems.{FirstRealAt, ProfileTexts}
use Rattle.profile_text.proofs.Trees.{tokens_tree}
use Rattle.profile_text.proofs.Parts.{kind-int, part-only, late_six}
use Rattle.profile_text.proofs.Answers.{scan-answers}
use Rattle.profile_text.proofs.Judging.{full, Judged, as_full, real-token, judged, fit, found, none-clear}

-- one text has one judgement
same-tree : {t u : Tree} → accepted t ≡ accepted u → t ≡ u
same-tree e = cc

same_answer : {a b p q : ℕ} → refused a p ≡ refused b q → (a ≡ b) × (p ≡ q)
same_answer e = (cc, cc)

-- without a real token
clear-judge : (d : ℕ) (s : List ℕ) (w : List Tok) → scan s ≡ tokens w → no_real w ≡ true → judge_in false d s ≡ judge_from d s
unfolding judge_in judge_from judge_scan_in judge_scan
clear-judge d s w e h = rw (e, none-clear w h) refl

pub plain : (d : ℕ) (s : List ℕ) → ((w : List Tok) → scan s ≡ tokens w → no_real w ≡ true) → judge_in false d s ≡ judge_from d s
plain d s h = by (judge_in false d s) refl (judged d s)
  where
    by : (j : Judgement) → judge_in false d s ≡ j → Judged d s j → j ≡ judge_from d s
    by _ e (as_full _) = refl
    by _ e (real-token p r) = sym e ∙ clear-judge d s (r.before ++ r.first ∷ r.after) r.scanned (h _ r.scanned)

module _ (d : ℕ) (few : d ≤ most_open) (s : List ℕ) where
  accepts-only : (t : Tree) → judge_in false d s ≡ accepted t → (judge_from d s ≡ accepted t) × (integer_only t ≡ true)
  accepts-only t e = by (judge_in false d s) e (judged d s)
    where
      by : (j : Judgement) → j ≡ accepted t → Judged d s j → (judge_from d s ≡ accepted t) × (integer_only t ≡ true)
      by _ e (as_full h) =
          let a = ((text-from.theorems d few).accepts s t).0 e in
          (e, sym (tokens_tree a.formula) ∙ h a.toks a.reads.sized a.reads.scanned)
      by _ e (real-token p r) = refused-not e

  accepts-all : (t : Tree) → judge_from d s ≡ accepted t → integer_only t ≡ true → judge_in false d s ≡ accepted t
  accepts-all t e i =
      let a = ((text-from.theorems d few).accepts s t).0 e in
      clear-judge d s a.toks a.reads.scanned (tokens_tree a.formula ∙ i) ∙ e

  nineteen-only : (p : ℕ) → judge_in false d s ≡ refused 19 p → FirstRealAt s p
  nineteen-only p e = by (judge_in false d s) e (judged d s)
    where
      by : (j : Judgement) → j ≡ refused 19 p → Judged d s j → FirstRealAt s p
      by _ e (as_full h) = let a = (text-from.theorems d few).answers s 19 p e in absurd (omega (arith, a.1))
      by _ e (real-token q r) = subst (FirstRealAt s) (same_answer e).1 r

  nineteen-all : (p : ℕ) → FirstRealAt s p → judge_in false d s ≡ refused 19 p
  unfolding judge_in judge_scan_in judge_scan
  nineteen-all p r = rw (fit s r.sized, r.scanned, found r.before r.first r.after r.none_before r.is_real, r.there) refl

  never_nine : (p : ℕ) → judge_in false d s ≡ refused 9 p → ⊥
  never_nine p e = by (judge_in false d s) e (judged d s)
    where
      -- the outcome of a text with no real token
      shown : ((w : List Tok) → Sized s → scan s ≡ tokens w → no_real w ≡ true) → (j : Judgement) → j ≡ refused 9 p → HasJudgementFrom d s j → ⊥
      shown h j e (Text.wrong_size n) = let z = same_answer e in omega (arith, z.0)
      shown h j e (Text.wrong_token {a = a} {p = q} z y) = let x = same_answer e in omega (arith, x.0, scan-answers s a q y)
      shown h j e (Text.wrong_end w r v n l) = let z = same_answer e in omega (arith, z.0)
      shown h j e (Text.wrong_next q x ys r v n l) = let z = same_answer e in omega (arith, z.0)
      shown h j e (Text.too_deep q x ys r v l o k) = let z = same_answer e in omega (arith, z.0)
      shown h j e (Text.diagnosed {p = q} {a = a} w t r f l k) =
          let z = same_answer e in
          omega (arith, z.0, late_six t q a (sym (tokens_tree f) ∙ h w r.sized r.scanned) k)
      shown h j e (Text.formula a) = refused-not (sym e)

      by : (j : Judgement) → j ≡ refused 9 p → Judged d s j → ⊥
      by _ e (as_full h) = shown h (judge_from d s) e ((text-from.theorems d few).outcome s)
      by _ e (real-token q r) = let z = same_answer e in omega (arith, z.0)

-- ---- targets
module _ (b : Bank) where
  -- an index t of the full box's judgement, and what the profile makes of it
  index-taken : (real : Bool) (t : Tree) (q : Bool) (j : Judgement) → (q ≡ true → j ≡ accepted t) → ((u : Tree) → j ≡ accepted u → q ≡ true)
      → cond (not real && q) (to_indexed b t) no_target ≡ indexed_by (cond real None (Some b)) j
  index-taken true t q j f g = refl
  index-taken false t true j f g = rw (f refl) refl
  index-taken false t false (accepted u) f g = let z : false ≡ true = g u refl in let n : ◌≡◌ {A = ℕ} 0 1 = cc in absurd (omega arith)
  index-taken false t false (refused a p) f g = refl

  no_index : (real : Bool) (j : Judgement) → ((u : Tree) → j ≡ accepted u → ⊥) → no_target ≡ indexed_by (cond real None (Some b)) j
  no_index true j g = refl
  no_index false (accepted u) g = absurd (g u refl)
  no_index false (refused a p) g = refl

-- what the profile takes of the full box's targets
module _ {A : Type 0} where
  no_cell : {b : Bank} {i : ℕ} → no_target ≡ to_cell b i → A
  no_cell e = let z : ◌≡◌ {A = ℕ} 0 1 = cc in absurd (omega arith)

  no-indexed : {b : Bank} {t : Tree} → no_target ≡ to_indexed b t → A
  no-indexed e = let z : ◌≡◌ {A = ℕ} 0 1 = cc in absurd (omega arith)

-- only where the test holds
taken : (g h : Target) (q : Bool) → (no_target ≡ h → ⊥) → cond q g no_target ≡ h → (g ≡ h) × (q ≡ true)
taken g h true n e = (e, refl)
taken g h false n e = absurd (n e)

cell-only : (g : Target) (b : Bank) (i : ℕ) → taken_target false g ≡ to_cell b i → (g ≡ to_cell b i) × (real_bank b ≡ false)
unfolding integer_target
cell-only g b i e =
    let h = taken g (to_cell b i) (integer_target g) (λ x. no_cell x) e in
    (h.0, not-true (real_bank b) (sym (ap integer_target h.0) ∙ h.1))

cell-all : (g : Target) (b : Bank) (i : ℕ) → g ≡ to_cell b i → real_bank b ≡ false → taken_target false g ≡ to_cell b i
unfolding integer_target
cell-all g b i e f = rw e (rw f refl)

indexed-only : (g : Target) (b : Bank) (t : Tree) → taken_target false g ≡ to_indexed b t → (g ≡ to_indexed b t) × ((real_bank b ≡ false) × (integer_only t ≡ true))
unfolding integer_target
indexed-only g b t e =
    let h = taken g (to_indexed b t) (integer_target g) (λ x. no-indexed x) e in
    let k = both (not (real_bank b)) (integer_only t) (sym (ap integer_target h.0) ∙ h.1) in
    (h.0, (not-true (real_bank b) k.0, k.1))

indexed-all : (g : Target) (b : Bank) (t : Tree) → g ≡ to_indexed b t → real_bank b ≡ false → integer_only t ≡ true → taken_target false g ≡ to_indexed b t
unfolding integer_target
indexed-all g b t e f i = rw e (rw (f, i) refl)

open-one : 1 ≤ most_open
open-one = omega arith

index-profile : (l : (Option Bank)) (s : List ℕ) → taken_target false (indexed_by l (judge_from 1 s)) ≡ indexed_by (bank_in false l) (judge_in false 1 s)
unfolding integer_target
index-profile None s = refl
index-profile (Some b) s = by (judge_from 1 s) refl
  where
    by : (j : Judgement) → judge_from 1 s ≡ j → taken_target false (indexed_by (Some b) j) ≡ indexed_by (cond (real_bank b) None (Some b)) (judge_in false 1 s)
    by (accepted t) e =
        index-taken b (real_bank b) t (integer_only t) (judge_in false 1 s) (λ i. accepts-all 1 open-one s t e i)
        (λ u f. let h = accepts-only 1 open-one s u f in subst (λ (v : Tree). integer_only v ≡ true) (sym (same-tree (sym e ∙ h.0))) h.1)
    by (refused a p) e = no_index b (real_bank b) (judge_in false 1 s) (λ u f. refused-not (sym e ∙ (accepts-only 1 open-one s u f).0))

index_judged : (reals : Bool) (l : (Option Bank)) (s : List ℕ) → taken_target reals (indexed_by l (judge_from 1 s)) ≡ indexed_by (bank_in reals l) (judge_in reals 1 s)
index_judged true l s = ap (indexed_by l) (sym (full 1 s))
index_judged false l s = index-profile l s

pub profile-texts : ProfileTexts
profile-texts =
    record {
      full = full;
      full_target = λ s. refl;
      tokens_tree = λ w t f. tokens_tree f;
      accepts = λ d s t few. (accepts-only d few s t, λ h. accepts-all d few s t h.0 h.1);
      plain = plain;
      nineteen = λ d s p few. (nineteen-only d few s p, nineteen-all d few s p);
      whole = λ t u e h. (part-only h e, kind-int u (part-only h e));
      taken_cell = λ s b i. (cell-only (target_of s) b i, λ h. cell-all (target_of s) b i h.0 h.1);
      taken_indexed = λ s b t. (indexed-only (target_of s) b t, λ h. indexed-all (target_of s) b t h.0 h.1.0 h.1.1);
      index_judged = index_judged;
      late_six = late_six;
      never_nine = λ d s p few. never_nine d few s p;
    }
