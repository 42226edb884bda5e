-- An indexed target: the bank, and the judgement of what stands between its brackets.
use Rattle.std.specs.Prelude.{Option, Some, None, Ok, Err}
use mathlib.Core.Path.{◌≡◌, refl, ap, ◌∙◌}
use mathlib.Core.Bool.{Bool, true, false, not, ◌&&◌, cond}
use mathlib.Core.List.{List}
use Prim.Native.Nat.{ℕ, ◌-◌, ◌≤◌}
use native.Mathlib.Omega.{arith}
use lib.Dec.{leb}
use lib.ListN.{length, get_or, take, drop}
use borrow.Author.Tests.{le-ltb}
use Rattle.memory.specs.declared.Bank.{Bank}
use Rattle.memory.specs.Names.{letter_bank}
use Rattle.text.specs.Judge.{Judgement, accepted, refused, judge_from}
use Rattle.text.specs.Targets.{Target, to_cell, no_target, stored_bank, is_enclosed, index_text, indexed_by, indexed_target}
use Rattle.profile.specs.Parts.{real_bank}
use Rattle.profile_text.specs.Judge.{judge_in}
use Rattle.profile_text.specs.Targets.{integer_target, taken_target, bank_in}
use Rattle.profile_text.specs.Theorems.{ProfileTexts}
use Rattle.profile_text.proofs.Theorems.{profile-texts}
use Rattle.tree_code.specs.Code.{code_of}
use Rattle.compiler.specs.Compile.{compiling_in, coded_answer, coded_bytes}
use Rattle.targets.specs.declared.Element.TheVariants.{By}
use Rattle.targets.specs.declared.Element.TheVariants as Element
use Rattle.targets.specs.Found.{enclosed_bank, found_of, by_letter, taken_found, index_bytes}
use Rattle.targets.specs.declared.Element.{Element}
use Rattle.compiler.specs.Compile.{refusal}

-- with or without the brackets
either : (t : Bool) (l : (Option Bank)) (j : Judgement) → cond t (indexed_by l j) no_target ≡ indexed_by (cond t l None) j
either true l j = refl
either false l j = refl

pub indexed-is : (s : List ℕ) → indexed_target s ≡ indexed_by (enclosed_bank s) (judge_from 1 (index_text s))
unfolding indexed_target
indexed-is s = either (leb (length s) 1024 && is_enclosed s) (stored_bank (letter_bank (get_or s 0 0))) (judge_from 1 (index_text s))

-- what stands between the brackets, as the code takes it
pub between : (s : List ℕ) → take (length s - 1 - 2) (drop 2 s) ≡ index_text s
between s = let e : length s - 1 - 2 ≡ length s - 3 = omega arith in ap (λ n. take n (drop 2 s)) e

-- where reals are taken or not
pub indexed-in : (reals : Bool) (s : List ℕ) → taken_target reals (indexed_target s) ≡ indexed_by (bank_in reals (enclosed_bank s)) (judge_in reals 1 (index_text s))
indexed-in reals s = ap (taken_target reals) (indexed-is s) ∙ profile-texts.index_judged reals (enclosed_bank s) (index_text s)

-- what is found of the target, and the buffer
abbrev Finds : Bool → List ℕ → List ℕ → Option (Bank × Element) → List ℕ → Type 0
Finds reals s code f code' = (f ≡ found_of (taken_target reals (indexed_target s))) × (code' ≡ index_bytes code (taken_target reals (indexed_target s)))

module _ (reals : Bool) (s code : List ℕ) where
  abbrev Is : Option (Bank × Element) → List ℕ → Target → Type 0
  Is f code' t = (f ≡ found_of t) × (code' ≡ index_bytes code t)

  finds : {f : (Option (Bank × Element))} {code' : List ℕ} {l : (Option Bank)} {j : Judgement} → bank_in reals (enclosed_bank s) ≡ l → judge_in reals 1 (index_text s) ≡ j
      → Is f code' (indexed_by l j) → Finds reals s code f code'
  finds {l = l} {j = j} e q w = rw (indexed-in reals s, e, q) w

  pub no-bank : bank_in reals (enclosed_bank s) ≡ None → Finds reals s code None code
  no-bank e = finds e refl (refl, refl)

  module _ {b : Bank} (e : bank_in reals (enclosed_bank s) ≡ Some b) where
    pub an-index : {n : ℕ} {code' : List ℕ} (j : Judgement) → judge_in reals 1 (index_text s) ≡ j → Ok n ≡ coded_answer j → code' ≡ coded_bytes code j
        → Finds reals s code (Some (b, By n)) code'
    an-index (accepted t) q d w = finds e q (cc, w)
    an-index (refused a p) q d w = let z : ◌≡◌ {A = ℕ} 0 1 = cc in absurd (omega arith)

    pub no_index : {a p : ℕ} {code' : List ℕ} (j : Judgement) → judge_in reals 1 (index_text s) ≡ j → Err (refusal a p) ≡ coded_answer j
        → code' ≡ coded_bytes code j
        → Finds reals s code None code'
    no_index (accepted t) q d w = let z : ◌≡◌ {A = ℕ} 0 1 = cc in absurd (omega arith)
    no_index (refused a p) q d w = finds e q (refl, w)

-- a buffer with room leaves the judgement to the index
pub with-room : (reals : Bool) (code s : List ℕ) → 16384 ≤ length code → compiling_in reals 1 (length code) s ≡ judge_in reals 1 s
with-room reals code s h = rw (le-ltb (length code) 16384 h)

-- ---- a cell
pub to-cell-is : (reals : Bool) (b : Bank) (i : ℕ) → taken_found reals (Some (b, Element.Is i)) ≡ found_of (taken_target reals (to_cell b i))
unfolding integer_target
to-cell-is true b i = refl
to-cell-is false b i = by (real_bank b)
  where
    by : (r : Bool) → cond r None (Some (b, Element.Is i)) ≡ found_of (cond (not r) (to_cell b i) no_target)
    by true = refl
    by false = refl

-- by the bank that is taken
pub cell-taken : (reals : Bool) (b : Bank) {c : Bank} → bank_in reals (Some b) ≡ Some c → (i : ℕ)
    → ◌≡◌ {A = Option (Bank × Element)} (Some (c, Element.Is i)) (taken_found reals (Some (b, Element.Is i)))
cell-taken true b {c} e i = let q : c ≡ b = cc in ap (λ (x : Bank). Some (x, Element.Is i)) q
cell-taken false b {c} e i = by (real_bank b) e
  where
    by : (r : Bool) → cond r None (Some b) ≡ Some c → ◌≡◌ {A = Option (Bank × Element)} (Some (c, Element.Is i)) (cond r None (Some (b, Element.Is i)))
    by true q = let z : ◌≡◌ {A = ℕ} 0 1 = cc in absurd (omega arith)
    by false q = let w : c ≡ b = cc in ap (λ (x : Bank). Some (x, Element.Is i)) w

pub cell-lost : (reals : Bool) (b : Bank) → bank_in reals (Some b) ≡ None → (i : ℕ) → None ≡ taken_found reals (Some (b, Element.Is i))
cell-lost true b e i = let z : ◌≡◌ {A = ℕ} 0 1 = cc in absurd (omega arith)
cell-lost false b e i = by (real_bank b) e
  where
    by : (r : Bool) → cond r None (Some b) ≡ None → ◌≡◌ {A = Option (Bank × Element)} None (cond r None (Some (b, Element.Is i)))
    by true q = refl
    by false q = let z : ◌≡◌ {A = ℕ} 0 1 = cc in absurd (omega arith)

pub taken-other : (reals : Bool) → None ≡ taken_found reals None
taken-other true = refl
taken-other false = refl

pub cell-code : (reals : Bool) (b : Bank) (i : ℕ) (code : List ℕ) → code ≡ index_bytes code (taken_target reals (to_cell b i))
unfolding integer_target
cell-code true b i code = refl
cell-code false b i code = by (real_bank b)
  where
    by : (r : Bool) → code ≡ index_bytes code (cond (not r) (to_cell b i) no_target)
    by true = refl
    by false = refl

-- ---- a bank's letter
pub letter-taken : (reals : Bool) (k : ℕ) (l : Option Bank) → by_letter k (bank_in reals l) ≡ taken_found reals (by_letter k l)
letter-taken true k l = refl
letter-taken false k (Some b) = by (real_bank b)
  where
    by : (r : Bool) → by_letter k (cond r None (Some b)) ≡ cond r None (Some (b, By k))
    by true = refl
    by false = refl
letter-taken false k None = refl

-- the profile's bank is the full box's
pub bank-full : (reals : Bool) (l : (Option Bank)) {b : Bank} → bank_in reals l ≡ Some b → l ≡ Some b
bank-full true l e = e
bank-full false (Some c) {b} e = by (real_bank c) e
  where
    by : (r : Bool) → cond r None (Some c) ≡ Some b → Some c ≡ Some b
    by true q = let z : ◌≡◌ {A = ℕ} 0 1 = cc in absurd (omega arith)
    by false q = q
bank-full false None e = e
