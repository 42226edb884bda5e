-- The theorems about targets, by the two forms.
use Rattle.std.specs.Prelude.{Option, Some, None}
use mathlib.Core.Path.{◌≡◌, refl, sym, ◌∙◌}
use mathlib.Core.Bool.{Bool, true, false, ◌&&◌, cond}
use mathlib.Core.List.{List, [], ◌∷◌}
use Prim.Native.Nat.{ℕ, ◌≤◌, ◌<◌}
use native.Mathlib.Omega.{arith}
use lib.Dec.{leb}
use lib.ListN.{length, get_or, take}
use Rattle.memory.specs.declared.Bank.{Bank}
use Rattle.memory.specs.Layout.{layout_of}
use Rattle.memory.specs.Names.{letter_bank, target_rule}
use Rattle.grammar.specs.Tree.{Tree}
use Rattle.text.specs.Judge.{Judgement, accepted, refused, judge_from}
use Rattle.text.specs.Theorems.{AcceptedFormula}
use Rattle.text.specs.Targets.{Target, to_cell, to_indexed, no_target, stored_bank, is_enclosed, index_text, indexed_by, indexed_target, target_from, target_of}
use Rattle.text.proofs.Theorems.{text-theorems, text-from}
use Rattle.targets.specs.declared.Element.TheVariants.{Is, By}
use Rattle.targets.specs.Found.{enclosed_bank, found_to_run, TargetTheorems}
use Rattle.targets.proofs.Enclosing.{long-enough}
use Rattle.targets.proofs.Indexing.{indexed-is}
use Rattle.targets.proofs.Running.{lettered, named, one_byte}
use Rattle.targets.proofs.Inside.{target-element}

-- ---- a plain cell

module _ (s : List ℕ) {b : Bank} {i : ℕ} where
  pub plain : target_of s ≡ to_cell b i → target_rule s ≡ Some (b, i)
  unfolding target_of
  plain = by (target_rule s) refl
    where
      no_index : (l : (Option Bank)) (j : Judgement) → indexed_by l j ≡ to_cell b i → ⊥
      no_index (Some c) (accepted t) e = let z : ◌≡◌ {A = ℕ} 0 1 = cc in omega arith
      no_index (Some c) (refused a p) e = let z : ◌≡◌ {A = ℕ} 0 1 = cc in omega arith
      no_index None j e = let z : ◌≡◌ {A = ℕ} 0 1 = cc in omega arith

      by : (x : (Option (Bank × ℕ))) → target_rule s ≡ x → target_from s x ≡ to_cell b i → x ≡ Some (b, i)
      by (Some (c, j)) q e = cc
      by None q e = absurd (no_index (enclosed_bank s) (judge_from 1 (index_text s)) (sym (indexed-is s) ∙ e))

  -- paper 01's targets are targets
  pub from-plain : target_rule s ≡ Some (b, i) → target_of s ≡ to_cell b i
  unfolding target_of
  from-plain e = rw e

-- ---- an indexed bank

pub record Indexed (s : List ℕ) (b : Bank) (t : Tree) : Type 0 where
  pub bank : enclosed_bank s ≡ Some b
  pub judged : judge_from 1 (index_text s) ≡ accepted t

pub indexed : (s : List ℕ) {b : Bank} {t : Tree} → target_of s ≡ to_indexed b t → Indexed s b t
unfolding target_of
indexed s {b} {t} = by (target_rule s)
  where
    parts : (l : (Option Bank)) (j : Judgement) → indexed_by l j ≡ to_indexed b t → (l ≡ Some b) × (j ≡ accepted t)
    parts (Some c) (accepted u) e = (cc, cc)
    parts (Some c) (refused a p) e = let z : ◌≡◌ {A = ℕ} 0 1 = cc in absurd (omega arith)
    parts None j e = let z : ◌≡◌ {A = ℕ} 0 1 = cc in absurd (omega arith)

    by : (x : (Option (Bank × ℕ))) → target_from s x ≡ to_indexed b t → Indexed s b t
    by (Some (c, j)) e = let z : ◌≡◌ {A = ℕ} 0 1 = cc in absurd (omega arith)
    by None e = let w = parts (enclosed_bank s) (judge_from 1 (index_text s)) (sym (indexed-is s) ∙ e) in record { bank = w.0; judged = w.1 }

accepted-index : (s : List ℕ) (b : Bank) (t : Tree) → target_of s ≡ to_indexed b t → AcceptedFormula (index_text s) t
accepted-index s b t e = (text-theorems.accepts (index_text s) t).0 (text-from.fewer 1 0 (index_text s) t (omega arith) (indexed s e).judged)

-- the letter before the bracket
first : (s : List ℕ) {b : Bank} → enclosed_bank s ≡ Some b → stored_bank (letter_bank (get_or s 0 0)) ≡ Some b
first s {b} = by (leb (length s) 1024 && is_enclosed s)
  where
    by : (x : Bool) → cond x (stored_bank (letter_bank (get_or s 0 0))) None ≡ Some b → stored_bank (letter_bank (get_or s 0 0)) ≡ Some b
    by true e = e
    by false e = let z : ◌≡◌ {A = ℕ} 0 1 = cc in absurd (omega arith)

-- ---- run's target

runs_to_cell : (k : ℕ) (s : List ℕ) (b : Bank) (i : ℕ) → target_of s ≡ to_cell b i → found_to_run k s ≡ Some (b, Is i)
runs_to_cell k s b i e = sym (named k s (longer s e) (plain s e))
  where
    longer : (s : List ℕ) → target_of s ≡ to_cell b i → length s ≡ 1 → ⊥
    longer [] e h = omega arith
    longer (c ∷ []) e h = let q = sym (one_byte c) ∙ plain (c ∷ []) e in let z : ◌≡◌ {A = ℕ} 0 1 = cc in omega arith
    longer (c ∷ d ∷ s) e h = omega arith

runs_to_bank : (k : ℕ) (s : List ℕ) {b : Bank} → enclosed_bank s ≡ Some b → found_to_run k (take 1 s) ≡ Some (b, By k)
runs_to_bank k [] e = absurd (omega (arith, long-enough [] e))
runs_to_bank k (c ∷ s) e = sym (lettered k (c ∷ []) refl (first (c ∷ s) e))

pub target-theorems : TargetTheorems
target-theorems = record {
  index_accepted = accepted-index;
  cell-inside = λ s b i e. target-element s (plain s e);
  runs_to_cell = runs_to_cell;
  runs_to_bank = λ k s b t e. runs_to_bank k s (indexed s e).bank;
}
