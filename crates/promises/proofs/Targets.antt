-- Which texts are targets, from the two forms, and compile_target's answer for each.
use Rattle.std.specs.Prelude.{Option, Some, None}
use mathlib.Core.Path.{◌≡◌, refl, sym, ap, ap₂, subst, subst⁻¹, ◌∙◌}
use mathlib.Core.Bool.{Bool, true, false, ◌&&◌, cond, and-eq-true_iff}
use mathlib.Core.Logic.{◌↔◌}
use mathlib.Core.List.{List, [], ◌∷◌, ◌++◌}
use Prim.Native.Nat.{ℕ, suc, ◌+◌, ◌-◌, ◌≤◌, ◌<◌}
use native.Mathlib.Omega.{arith}
use lib.Dec.{eqb, leb}
use lib.IntN.{pos}
use lib.ListN.{length, get_or, take, drop, length-append}
use lib.Seq.{take-append_seam, get_or-append_seam}
use borrow.Author.Tests.{eqb-true, eq-eqb, leb-true, le-leb, le-ltb, lt-ltb}
use Rattle.words.specs.Ascii.{byte}
use Rattle.values.specs.declared.Value.TheVariants.{Int}
use Rattle.memory.specs.declared.Bank.{Bank}
use Rattle.memory.specs.declared.Bank.TheVariants.{X, C, «V», N, D, R}
use Rattle.memory.specs.Layout.{layout_of}
use Rattle.memory.specs.Names.{letter_bank, all_digits, no_leading_zero, decimal_value, number_below, cell_after_letter, named_rule, storable, target_rule}
use Rattle.grammar.specs.Tree.{Tree}
use Rattle.text.specs.Judge.{accepted, judge_from}
use Rattle.text.specs.Targets.{Target, to_cell, to_indexed, no_target, stored_bank, is_enclosed, index_text, indexed_by, target_from, target_of}
use Rattle.text.proofs.Theorems.{text-from}
use Rattle.tree_code.specs.Code.{code_of}
use Rattle.compiler.specs.Compile.{coded_bytes}
use Rattle.targets.specs.Found.{enclosed_bank, index_bytes}
use Rattle.targets.proofs.Theorems.{plain, from-plain, indexed, target-theorems}
use Rattle.targets.proofs.Indexing.{indexed-is}
use Rattle.delivery.specs.declared.Answer.TheVariants.{Done}
use Rattle.operations.specs.Operations.{done_with, compile_answer, compile_target_answer, compile_target_code}
use Rattle.operations.proofs.Requests.{with-room}
use Rattle.promises.specs.Terms.{compile_answer_of, compiled_code, Room}
use Rattle.promises.specs.Targets.{StoredLetter, letter_C, letter_V, letter_N, letter_D, letter_R, CellTarget, IndexedTarget, TargetPromises}
use Rattle.promises.proofs.Texts.{is-formula, index-code}
use Rattle.targets.proofs.Pairs.{first, second}

-- ---- the letter

of-letter : {c : ℕ} {b : Bank} → StoredLetter c b → stored_bank (letter_bank c) ≡ Some b
unfolding letter_bank
of-letter letter_C = refl
of-letter letter_V = refl
of-letter letter_N = refl
of-letter letter_D = refl
of-letter letter_R = refl

module _ {c : ℕ} {b : Bank} where
  it-is : {x : ℕ} {d : Bank} → StoredLetter x d → eqb c x ≡ true → Some d ≡ Some b → StoredLetter c b
  it-is {x} {d} w e q = let p : d ≡ b = cc in subst (StoredLetter c) p (subst⁻¹ (λ y. StoredLetter y d) (eqb-true c x e) w)

  no-bank : None ≡ Some b → StoredLetter c b
  no-bank e = let z : ◌≡◌ {A = ℕ} 0 1 = cc in absurd (omega arith)

  letter-of : stored_bank (letter_bank c) ≡ Some b → StoredLetter c b
  unfolding letter_bank
  letter-of = by (eqb c (byte "X")) (eqb c (byte "C")) (eqb c (byte "V")) (eqb c (byte "N")) (eqb c (byte "D")) (eqb c (byte "R")) refl refl refl refl refl
    where
      by : (x y v n d r : Bool) → eqb c (byte "C") ≡ y → eqb c (byte "V") ≡ v → eqb c (byte "N") ≡ n → eqb c (byte "D") ≡ d → eqb c (byte "R") ≡ r
          → stored_bank (cond x (Some X) (cond y (Some C) (cond v (Some «V») (cond n (Some N) (cond d (Some D) (cond r (Some R) None)))))) ≡ Some b
          → StoredLetter c b
      by true y v n d r ey ev en ed er q = no-bank q
      by false true v n d r ey ev en ed er q = it-is letter_C ey q
      by false false true n d r ey ev en ed er q = it-is letter_V ev q
      by false false false true d r ey ev en ed er q = it-is letter_N en q
      by false false false false true r ey ev en ed er q = it-is letter_D ed q
      by false false false false false true ey ev en ed er q = it-is letter_R er q
      by false false false false false false ey ev en ed er q = no-bank q

-- ---- a plain cell

stored-cell : (d : Bank) {b : Bank} {n i : ℕ} → storable (Some (d, n)) ≡ Some (b, i) → (stored_bank (Some d) ≡ Some b) × (n ≡ i)
stored-cell X e = let z : ◌≡◌ {A = ℕ} 0 1 = cc in absurd (omega arith)
stored-cell C e = (ap Some (first e), second e)
stored-cell «V» e = (ap Some (first e), second e)
stored-cell N e = (ap Some (first e), second e)
stored-cell D e = (ap Some (first e), second e)
stored-cell R e = (ap Some (first e), second e)

cell-form : (s : List ℕ) {b : Bank} {i : ℕ} → i < (layout_of b).elements → target_rule s ≡ Some (b, i) → CellTarget s b i
unfolding named_rule
cell-form [] h e = let z : ◌≡◌ {A = ℕ} 0 1 = cc in absurd (omega arith)
cell-form (c ∷ cs) {b} {i} h e = by (letter_bank c) refl e
  where
    of : (d : Bank) (t : Bool) → letter_bank c ≡ Some d → number_below (layout_of d).elements cs ≡ t
        → storable (cond t (Some (d, decimal_value cs)) None) ≡ Some (b, i) → CellTarget (c ∷ cs) b i
    of d true q n e =
        let w = stored-cell d e in
        let digits = (and-eq-true_iff (no_leading_zero cs) (all_digits cs)).0 ((and-eq-true_iff (no_leading_zero cs && all_digits cs) _).0 n).0 in
        record {
          letter = c;
          digits = cs;
          form = refl;
          bank = letter-of (ap stored_bank q ∙ w.0);
          decimal = digits.1;
          unpadded = digits.0;
          number = w.1;
          inside = h;
        }
    of d false q n e = let z : ◌≡◌ {A = ℕ} 0 1 = cc in absurd (omega arith)

    by : (l : Option Bank) → letter_bank c ≡ l → storable (cell_after_letter cs l) ≡ Some (b, i) → CellTarget (c ∷ cs) b i
    by (Some d) q e = of d (number_below (layout_of d).elements cs) q refl e
    by None q e = let z : ◌≡◌ {A = ℕ} 0 1 = cc in absurd (omega arith)

cell-rule : {c : ℕ} {b : Bank} → StoredLetter c b → (ds : List ℕ) → number_below (layout_of b).elements ds ≡ true
    → target_rule (c ∷ ds) ≡ Some (b, decimal_value ds)
unfolding letter_bank named_rule
cell-rule letter_C ds n = rw n
cell-rule letter_V ds n = rw n
cell-rule letter_N ds n = rw n
cell-rule letter_D ds n = rw n
cell-rule letter_R ds n = rw n

module _ (s : List ℕ) (b : Bank) (i : ℕ) where
  is-cell : CellTarget s b i → target_of s ≡ to_cell b i
  is-cell w =
      let i' = decimal_value w.digits in
      let below : i' < (layout_of b).elements = subst⁻¹ (λ n. n < (layout_of b).elements) w.number w.inside in
      let good : number_below (layout_of b).elements w.digits ≡ true = rw (w.unpadded, w.decimal) (lt-ltb i' (layout_of b).elements below) in
      from-plain s (ap target_rule w.form ∙ cell-rule w.bank w.digits good ∙ ap (λ (n : ℕ). Some (b, n)) w.number)

  cells : target_of s ≡ to_cell b i ↔ CellTarget s b i
  cells = (λ e. cell-form s (target-theorems.cell-inside s b i e) (plain s e), is-cell)

-- ---- a bank and its index

-- the last byte, and those before it
last_apart : (d : ℕ) (r : List ℕ) → d ∷ r ≡ take (length r) (d ∷ r) ++ get_or (d ∷ r) (length r) 0 ∷ []
last_apart d [] = refl
last_apart d (x ∷ r) = ap (λ y. d ∷ y) (last_apart x r)

bracketed : (s : List ℕ) → is_enclosed s ≡ true → s ≡ get_or s 0 0 ∷ byte "[" ∷ index_text s ++ byte "]" ∷ []
bracketed [] e = let z : ◌≡◌ {A = ℕ} 0 1 = cc in absurd (omega arith)
bracketed (a ∷ []) e = let z : ◌≡◌ {A = ℕ} 0 1 = cc in absurd (omega arith)
bracketed (a ∷ c ∷ []) e =
    let w = (and-eq-true_iff (eqb c (byte "[")) (eqb c (byte "]"))).0 e in
    absurd (omega (arith, eqb-true c (byte "[") w.0, eqb-true c (byte "]") w.1))
bracketed (a ∷ c ∷ d ∷ r) e =
    let s = a ∷ c ∷ d ∷ r in
    let w = (and-eq-true_iff (eqb c (byte "[")) (eqb (get_or s (length s - 1) 0) (byte "]"))).0 e in
    let end : length s - 1 ≡ suc (suc (length r)) = omega arith in
    let inner : length r ≡ length s - 3 = omega arith in
    let shut : get_or (d ∷ r) (length r) 0 ≡ byte "]" = sym (ap (λ k. get_or s k 0) end) ∙ eqb-true (get_or s (length s - 1) 0) (byte "]") w.1 in
    ap₂ (λ x y. a ∷ x ∷ y) (eqb-true c (byte "[") w.0) (last_apart d r ∙ ap₂ (λ k x. take k (d ∷ r) ++ x ∷ []) inner shut)

-- the tests of an enclosed bank
record Encloses (s : List ℕ) (b : Bank) : Type 0 where
  short : length s ≤ 1024
  brackets : is_enclosed s ≡ true
  letter : stored_bank (letter_bank (get_or s 0 0)) ≡ Some b

encloses : (s : List ℕ) {b : Bank} → enclosed_bank s ≡ Some b → Encloses s b
encloses s {b} = by (leb (length s) 1024) (is_enclosed s) refl refl
  where
    by : (x y : Bool) → leb (length s) 1024 ≡ x → is_enclosed s ≡ y → cond (x && y) (stored_bank (letter_bank (get_or s 0 0))) None ≡ Some b → Encloses s b
    by true true p q e = record { short = leb-true (length s) 1024 p; brackets = q; letter = e }
    by true false p q e = let z : ◌≡◌ {A = ℕ} 0 1 = cc in absurd (omega arith)
    by false y p q e = let z : ◌≡◌ {A = ℕ} 0 1 = cc in absurd (omega arith)

-- the text c[u]
module _ (c : ℕ) (u : List ℕ) where
  abbrev text : List ℕ
  text = c ∷ byte "[" ∷ u ++ byte "]" ∷ []

  size : length (u ++ byte "]" ∷ []) ≡ length u + 1
  size = length-append u (byte "]" ∷ [])

  inner : index_text text ≡ u
  inner =
      let n : length text - 3 ≡ length u = omega (arith, size) in
      ap (λ k. take k (u ++ byte "]" ∷ [])) n ∙ take-append_seam u (byte "]" ∷ [])

  closed : get_or text (length text - 1) 0 ≡ byte "]"
  closed =
      let n : length text - 1 ≡ suc (suc (length u)) = omega (arith, size) in
      ap (λ k. get_or text k 0) n ∙ get_or-append_seam u (byte "]") [] 0

  -- no number begins with a bracket
  no_number : (l : (Option Bank)) (r : List ℕ) → storable (cell_after_letter (byte "[" ∷ r) l) ≡ None
  no_number (Some b) [] = refl
  no_number (Some b) (x ∷ r) = refl
  no_number None r = refl

  no_cell : target_rule text ≡ None
  unfolding named_rule
  no_cell = no_number (letter_bank c) (u ++ byte "]" ∷ [])

  enclosed : {b : Bank} → StoredLetter c b → length text ≤ 1024 → enclosed_bank text ≡ Some b
  enclosed w h = rw (le-leb (length text) 1024 h, eq-eqb (get_or text (length text - 1) 0) (byte "]") closed) (of-letter w)

  is-indexed : {b : Bank} {t : Tree} → StoredLetter c b → length text ≤ 1024 → judge_from 1 u ≡ accepted t → target_of text ≡ to_indexed b t
  unfolding target_of
  is-indexed w h q = ap (target_from text) no_cell ∙ indexed-is text ∙ ap₂ indexed_by (enclosed w h) (ap (judge_from 1) inner ∙ q)

module _ (s : List ℕ) (b : Bank) (t : Tree) where
  index-form : target_of s ≡ to_indexed b t → IndexedTarget s b t
  index-form e =
      let w = indexed s e in
      let x = encloses s w.bank in
      record {
        letter = get_or s 0 0;
        index = index_text s;
        form = bracketed s x.brackets;
        bank = letter-of x.letter;
        short = x.short;
        accepted = ((text-from.theorems 1 (omega arith)).accepts (index_text s) t).0 w.judged;
      }

  from-form : IndexedTarget s b t → target_of s ≡ to_indexed b t
  from-form w =
      let q = ((text-from.theorems 1 (omega arith)).accepts w.index t).1 w.accepted in
      ap target_of w.form ∙ is-indexed w.letter w.index w.bank (subst (λ s. length s ≤ 1024) w.form w.short) q

  index-text : (w : IndexedTarget s b t) → w.index ≡ index_text s
  index-text w = sym (ap index_text w.form ∙ inner w.letter w.index)

others : (s : List ℕ) → target_of s ≡ no_target ↔ (((b : Bank) (i : ℕ) → CellTarget s b i → ⊥) × ((b : Bank) (t : Tree) → IndexedTarget s b t → ⊥))
others s = (λ e. (λ b i w. not-cell (sym (is-cell s b i w) ∙ e), λ b t w. not-index (sym (from-form s b t w) ∙ e)), λ h. by (target_of s) refl h.0 h.1)
  where
    not-cell : {b : Bank} {i : ℕ} → to_cell b i ≡ no_target → ⊥
    not-cell e = let z : ◌≡◌ {A = ℕ} 0 1 = cc in omega arith

    not-index : {b : Bank} {t : Tree} → to_indexed b t ≡ no_target → ⊥
    not-index e = let z : ◌≡◌ {A = ℕ} 0 1 = cc in omega arith

    by : (g : Target) → target_of s ≡ g → ((b : Bank) (i : ℕ) → CellTarget s b i → ⊥) → ((b : Bank) (t : Tree) → IndexedTarget s b t → ⊥) → g ≡ no_target
    by (to_cell b i) q c x = absurd (c b i ((cells s b i).0 q))
    by (to_indexed b t) q c x = absurd (x b t (index-form s b t q))
    by no_target q c x = refl

-- ---- compile_target

module _ (s index : List ℕ) (b : Bank) (room : Room index) where
  compiled_cell : (i : ℕ) → target_of s ≡ to_cell b i → (compile_target_answer index s ≡ Done (Int (pos 0)) 0 b i) × (compile_target_code index s ≡ index)
  compiled_cell i e = rw (le-ltb (length index) 16384 room, e) (refl, refl)

  compiled_index : (t : Tree) → target_of s ≡ to_indexed b t
      → (n : ℕ) × ((compile_answer_of (index_text s) index ≡ done_with n)
      × ((compile_target_answer index s ≡ Done (Int (pos 0)) n b 0) × (compile_target_code index s ≡ compiled_code (index_text s) index)))
  compiled_index t e =
      let q = with-room index (index_text s) room ∙ is-formula (target-theorems.index_accepted s b t e) in
      let same = index-code s index room ∙ ap (index_bytes index) e ∙ ap (coded_bytes index) (sym q) in
      (length (code_of t), (ap compile_answer q, (rw (le-ltb (length index) 16384 room, e), same)))

pub target-promises : TargetPromises
target-promises = record {
  cells = cells;
  indexed = λ s b t. (index-form s b t, from-form s b t);
  index-text = index-text;
  others = others;
  compiled_cell = λ s index b i e room. compiled_cell s index b room i e;
  compiled_index = λ s index b t e room. compiled_index s index b room t e;
}
