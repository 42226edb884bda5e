-- The loop over the numbers: what is left to list, behind what is listed, is the whole list; and that is the list of the cells.
use mathlib.Core.Path.{◌≡◌, refl, sym, ap, ◌∙◌, subst}
use mathlib.Core.Bool.{Bool, true, false, ◌||◌, cond}
use mathlib.Core.List.{List, [], ◌∷◌, ◌++◌}
use Prim.Native.Nat.{ℕ, zero, suc, ◌+◌, ◌-◌, ◌≤◌, ◌<◌}
use native.Mathlib.Numerals.{add-one}
use native.Mathlib.Omega.{arith}
use lib.ListN.{length, get_or, set, replicate}
use lib.Seq.{sets, length-sets}
use borrow.Author.Tests.{lt-ltb, le-ltb}
use Rattle.memory.specs.declared.Bank.{Bank}
use Rattle.memory.specs.declared.Bank.TheVariants.{X, C, «V», N, D, R}
use Rattle.memory.specs.Layout.{layout_of}
use Rattle.code.specs.declared.Instr.{Instr}
use Rattle.read_set.specs.Cells.{Cells, union, code_cells, Cell, cells_from, cells_of, cell_list, first_number, cell_count, cell_number, cell_numbers}
use Rattle.read_set.specs.private.Reaches.{larger, reached_to, is_reached, passing, reached_numbers, Marks}
use Rattle.read_set.proofs.Reaches.{blank-reaches}

-- ---- the loop
pub record Listing (rs list₀ list : List ℕ) (number found : ℕ) : Type 0 where
  pub counted : found + length (passing (is_reached rs) number (cell_count - number)) ≡ length (reached_numbers rs)
  pub written : sets list found (passing (is_reached rs) number (cell_count - number)) ≡ sets list₀ 0 (reached_numbers rs)

pub begins : (rs list : List ℕ) → Listing rs list list 0 0
begins rs list = record { counted = omega arith; written = refl }

passes : (t : ℕ → Bool) (k n : ℕ) → passing t k (suc n) ≡ cond (t k) (k ∷ passing t (suc k) n) (passing t (suc k) n)
unfolding passing
passes t k n = refl

passes_none : (t : ℕ → Bool) (k : ℕ) → passing t k 0 ≡ []
unfolding passing
passes_none t k = refl

-- the end of what is reached goes on
onward : (rs : List ℕ) (k : ℕ) → larger (reached_to rs k) (k + get_or rs k 0) ≡ reached_to rs (k + 1)
unfolding reached_to
onward rs k = rw (add-one k)

pub reached : (rs : List ℕ) (k : ℕ) {a e : ℕ} → a ≡ reached_to rs k → e ≡ larger a (k + get_or rs k 0) → e ≡ reached_to rs (k + 1)
reached rs k q r = r ∙ ap (λ (x : ℕ). larger x (k + get_or rs k 0)) q ∙ onward rs k

module _ {rs list₀ list : List ℕ} {number found : ℕ} (L : Listing rs list₀ list number found) (h : number < cell_count) where
  one_less : cell_count - number ≡ suc (cell_count - suc number)
  one_less = omega arith

  left : (t : Bool) → is_reached rs number ≡ t
      → passing (is_reached rs) number (cell_count - number)
      ≡ cond t (number ∷ passing (is_reached rs) (suc number) (cell_count - suc number)) (passing (is_reached rs) (suc number) (cell_count - suc number))
  left t e =
      ap (passing (is_reached rs) number) one_less ∙ passes (is_reached rs) number (cell_count - suc number)
      ∙ ap (λ (u : Bool). cond u (number ∷ passing (is_reached rs) (suc number) (cell_count - suc number))
      (passing (is_reached rs) (suc number) (cell_count - suc number))) e

  with-this : {list' : List ℕ} → is_reached rs number ≡ true → list' ≡ set list found number → Listing rs list₀ list' (suc number) (suc found)
  with-this e q =
      let n = length (passing (is_reached rs) (suc number) (cell_count - suc number)) in
      let one : suc found + n ≡ found + suc n = omega arith in
      record {
        counted = one ∙ ap (λ (l : List ℕ). found + length l) (sym (left true e)) ∙ L.counted;
        written = ap (λ (l : List ℕ). sets l (suc found) (passing (is_reached rs) (suc number) (cell_count - suc number))) q
            ∙ ap (sets list found) (sym (left true e)) ∙ L.written;
      }

  without : is_reached rs number ≡ false → Listing rs list₀ list (suc number) found
  without e =
      record {
        counted = ap (λ (l : List ℕ). found + length l) (sym (left false e)) ∙ L.counted;
        written = ap (sets list found) (sym (left false e)) ∙ L.written;
      }

  -- e is the end of what is reached
  pub listed : {list' : List ℕ} {e : ℕ} → e ≡ reached_to rs (number + 1) → number < e → list' ≡ set list found number
      → Listing rs list₀ list' (number + 1) (found + 1)
  listed {list'} {e} r l q =
      let is : is_reached rs number ≡ true = lt-ltb number (reached_to rs (suc number))
      (subst (λ (m : ℕ). number < m) (r ∙ ap (reached_to rs) (add-one number)) l) in
      rw (add-one number, add-one found) (with-this is q)

  pub skipped : {e : ℕ} → e ≡ reached_to rs (number + 1) → e ≤ number → Listing rs list₀ list (number + 1) found
  skipped {e} r l =
      let not : is_reached rs number ≡ false = le-ltb number (reached_to rs (suc number))
      (subst (λ (m : ℕ). m ≤ number) (r ∙ ap (reached_to rs) (add-one number)) l) in
      rw (add-one number) (without not)

module _ {rs list₀ list : List ℕ} {number found : ℕ} (L : Listing rs list₀ list number found) (h : cell_count ≤ number) where
  none_left : passing (is_reached rs) number (cell_count - number) ≡ []
  none_left = let z : cell_count - number ≡ 0 = omega arith in ap (passing (is_reached rs) number) z ∙ passes_none (is_reached rs) number

  pub all-counted : found ≡ length (reached_numbers rs)
  all-counted =
      let z : found + 0 ≡ found = omega arith in
      sym z ∙ ap (λ (l : List ℕ). found + length l) (sym none_left) ∙ L.counted

  pub all-written : list ≡ sets list₀ 0 (reached_numbers rs)
  all-written = ap (sets list found) (sym none_left) ∙ L.written

pub same-long : {rs list₀ list : List ℕ} {number found : ℕ} → Listing rs list₀ list number found → length list ≡ length list₀
same-long {rs} {list₀} {list} {number} {found} L =
    sym (length-sets list found (passing (is_reached rs) number (cell_count - number))) ∙ ap length L.written ∙ length-sets list₀ 0 (reached_numbers rs)

-- ---- the numbers are the cells'
pub numbers-length : (cs : List Cell) → length (cell_numbers cs) ≡ length cs
numbers-length [] = refl
numbers-length (c ∷ cs) = ap suc (numbers-length cs)

numbers-joined : (a b : List Cell) → cell_numbers (a ++ b) ≡ cell_numbers a ++ cell_numbers b
numbers-joined [] b = refl
numbers-joined (c ∷ a) b = ap (λ (l : List ℕ). cell_number c.bank c.element ∷ l) (numbers-joined a b)

module _ (t : ℕ → Bool) where
  passing-joined : (k n m : ℕ) → passing t k (n + m) ≡ passing t k n ++ passing t (k + n) m
  unfolding passing
  passing-joined k zero m =
      let a : 0 + m ≡ m = omega arith in
      let b : k ≡ k + 0 = omega arith in
      ap (passing t k) a ∙ ap (λ (i : ℕ). passing t i m) b
  passing-joined k (suc n) m =
      let a : suc n + m ≡ suc (n + m) = omega arith in
      let b : suc k + n ≡ k + suc n = omega arith in
      ap (passing t k) a
      ∙ ap (λ (l : List ℕ). cond (t k) (k ∷ l) l) (passing-joined (suc k) n m ∙ ap (λ (i : ℕ). passing t (suc k) n ++ passing t i m) b)
      ∙ by (t k)
    where
      by : (u : Bool) → cond u (k ∷ (passing t (suc k) n ++ passing t (k + suc n) m)) (passing t (suc k) n ++ passing t (k + suc n) m)
          ≡ cond u (k ∷ passing t (suc k) n) (passing t (suc k) n) ++ passing t (k + suc n) m
      by true = refl
      by false = refl

  module _ (f : Cells) (same : (b : Bank) (j : ℕ) → j < (layout_of b).elements → t (cell_number b j) ≡ f b j) where
    bank-numbers : (b : Bank) (i n : ℕ) → i + n ≤ (layout_of b).elements → passing t (first_number b + i) n ≡ cell_numbers (cells_from f b i n)
    unfolding passing cells_from
    bank-numbers b i zero h = refl
    bank-numbers b i (suc n) h =
        let next : suc (first_number b + i) ≡ first_number b + suc i = omega arith in
        ap (λ (l : List ℕ). cond (t (first_number b + i)) ((first_number b + i) ∷ l) l)
        (ap (λ (k : ℕ). passing t k n) next ∙ bank-numbers b (suc i) n (omega arith))
        ∙ ap (λ (u : Bool). cond u ((first_number b + i) ∷ cell_numbers (cells_from f b (suc i) n)) (cell_numbers (cells_from f b (suc i) n)))
        (same b i (omega arith))
        ∙ by (f b i)
      where
        by : (u : Bool) → cond u ((first_number b + i) ∷ cell_numbers (cells_from f b (suc i) n)) (cell_numbers (cells_from f b (suc i) n))
            ≡ cell_numbers (cond u (record { bank = b; element = i } ∷ cells_from f b (suc i) n) (cells_from f b (suc i) n))
        by true = refl
        by false = refl

    -- a bank, and then the others
    more : (b : Bank) (k n m : ℕ) (bs : List Bank) → k ≡ first_number b + 0 → n ≡ (layout_of b).elements + m
        → passing t (k + (layout_of b).elements) m ≡ cell_numbers (cells_of f bs) → passing t k n ≡ cell_numbers (cells_of f (b ∷ bs))
    more b k n m bs e q rest =
        ap (passing t k) q ∙ passing-joined k (layout_of b).elements m
        ∙ ap (λ (l : List ℕ). passing t k (layout_of b).elements ++ l) rest
        ∙ ap (λ (i : ℕ). passing t i (layout_of b).elements ++ cell_numbers (cells_of f bs)) e
        ∙ ap (λ (l : List ℕ). l ++ cell_numbers (cells_of f bs)) (bank-numbers b 0 (layout_of b).elements (omega arith))
        ∙ sym (numbers-joined (cells_from f b 0 (layout_of b).elements) (cells_of f bs))

    all-banks : passing t 0 cell_count ≡ cell_numbers (cell_list f)
    all-banks =
        more X 0 1152 1088 (C ∷ «V» ∷ N ∷ D ∷ R ∷ []) refl refl
        (more C 64 1088 1024 («V» ∷ N ∷ D ∷ R ∷ []) refl refl
        (more «V» 128 1024 768 (N ∷ D ∷ R ∷ []) refl refl
        (more N 384 768 512 (D ∷ R ∷ []) refl refl
        (more D 640 512 256 (R ∷ []) refl refl
        (more R 896 256 0 [] refl refl (passes_none t 1152))))))

pub marks-list : (c d : List Instr) (one two : List ℕ) → Marks c (replicate cell_count 0) one → Marks d one two
    → reached_numbers two ≡ cell_numbers (cell_list (union (code_cells c) (code_cells d)))
marks-list c d one two a b =
    all-banks (is_reached two) (union (code_cells c) (code_cells d))
    (λ i j l. b.marked i j l ∙ ap (λ (t : Bool). t || code_cells d i j)
    (a.marked i j l ∙ ap (λ (t : Bool). t || code_cells c i j) (blank-reaches cell_count (cell_number i j))))

pub marks-count : (c d : List Instr) (one two : List ℕ) → Marks c (replicate cell_count 0) one → Marks d one two
    → length (reached_numbers two) ≡ length (cell_list (union (code_cells c) (code_cells d)))
marks-count c d one two a b = ap length (marks-list c d one two a b) ∙ numbers-length (cell_list (union (code_cells c) (code_cells d)))
