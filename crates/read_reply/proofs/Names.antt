-- A cell's number names the cell, so the lines of the numbers are those of the cells.
use mathlib.Core.Path.{◌≡◌, refl, ap, ◌∙◌}
use mathlib.Core.Bool.{Bool, true, false, cond}
use mathlib.Core.List.{List, [], ◌∷◌, ◌++◌}
use Prim.Native.Nat.{ℕ, zero, suc, ◌+◌, ◌-◌, ◌≤◌, ◌<◌}
use native.Mathlib.Omega.{arith}
use lib.Dec.{ltb}
use lib.ListN.{length, get_or}
use borrow.Author.Tests.{ltb-true, ltb-false, lt-ltb, le-ltb}
use Rattle.words.specs.Ascii.{ascii}
use Rattle.memory.specs.declared.Bank.{Bank}
use Rattle.memory.specs.declared.Bank.TheVariants.{X, C, «V», N, D, R}
use Rattle.memory.specs.Layout.{layout_of}
use Rattle.memory.specs.Numbers.{banks}
use Rattle.lines.specs.Printing.{cell_name}
use Rattle.read_set.specs.Cells.{Cells, Cell, cells_from, cells_of, cell_list, first_number, cell_count, cell_number, cell_numbers}
use Rattle.read_reply.specs.Listing.{cell_lines}
use Rattle.read_reply.specs.private.Numbers.{numbered_bank, number_text, number_lines, CellNumbers}

-- ---- the bank of a number
pub inside : (n : ℕ) → n < cell_count → (first_number (numbered_bank n) ≤ n) × (n < first_number (numbered_bank n) + 256)
inside n h = by (ltb n 64) refl (ltb n 128) refl (ltb n 384) refl (ltb n 640) refl (ltb n 896) refl
  where
    by : (s : Bool) → ltb n 64 ≡ s → (t : Bool) → ltb n 128 ≡ t → (u : Bool) → ltb n 384 ≡ u → (v : Bool) → ltb n 640 ≡ v → (w : Bool) → ltb n 896 ≡ w
        → (first_number (cond s X (cond t C (cond u «V» (cond v N (cond w D R))))) ≤ n)
        × (n < first_number (cond s X (cond t C (cond u «V» (cond v N (cond w D R))))) + 256)
    by true p t q u r v e w f = (omega arith, omega (arith, ltb-true n 64 p))
    by false p true q u r v e w f = (omega (arith, ltb-false n 64 p), omega (arith, ltb-true n 128 q))
    by false p false q true r v e w f = (omega (arith, ltb-false n 128 q), omega (arith, ltb-true n 384 r))
    by false p false q false r true e w f = (omega (arith, ltb-false n 384 r), omega (arith, ltb-true n 640 e))
    by false p false q false r false e true f = (omega (arith, ltb-false n 640 e), omega (arith, ltb-true n 896 f))
    by false p false q false r false e false f = (omega (arith, ltb-false n 896 f), omega arith)

module _ (n : ℕ) where
  pub in-x : n < 64 → numbered_bank n ≡ X
  in-x h = rw (lt-ltb n 64 h)

  pub in_c : 64 ≤ n → n < 128 → numbered_bank n ≡ C
  in_c l h = rw (le-ltb n 64 l, lt-ltb n 128 h)

  pub in-v : 128 ≤ n → n < 384 → numbered_bank n ≡ «V»
  in-v l h =
      let a : 64 ≤ n = omega arith in
      rw (le-ltb n 64 a, le-ltb n 128 l, lt-ltb n 384 h)

  pub in-n : 384 ≤ n → n < 640 → numbered_bank n ≡ N
  in-n l h =
      let a : 64 ≤ n = omega arith in
      let b : 128 ≤ n = omega arith in
      rw (le-ltb n 64 a, le-ltb n 128 b, le-ltb n 384 l, lt-ltb n 640 h)

  pub in-d : 640 ≤ n → n < 896 → numbered_bank n ≡ D
  in-d l h =
      let a : 64 ≤ n = omega arith in
      let b : 128 ≤ n = omega arith in
      let c : 384 ≤ n = omega arith in
      rw (le-ltb n 64 a, le-ltb n 128 b, le-ltb n 384 c, le-ltb n 640 l, lt-ltb n 896 h)

  pub in-r : 896 ≤ n → numbered_bank n ≡ R
  in-r l =
      let a : 64 ≤ n = omega arith in
      let b : 128 ≤ n = omega arith in
      let c : 384 ≤ n = omega arith in
      let d : 640 ≤ n = omega arith in
      rw (le-ltb n 64 a, le-ltb n 128 b, le-ltb n 384 c, le-ltb n 640 d, le-ltb n 896 l)

bank-back : (b : Bank) (i : ℕ) → i < (layout_of b).elements → numbered_bank (cell_number b i) ≡ b
bank-back X i h = in-x (cell_number X i) (omega arith)
bank-back C i h = in_c (cell_number C i) (omega arith) (omega arith)
bank-back «V» i h = in-v (cell_number «V» i) (omega arith) (omega arith)
bank-back N i h = in-n (cell_number N i) (omega arith) (omega arith)
bank-back D i h = in-d (cell_number D i) (omega arith) (omega arith)
bank-back R i h = in-r (cell_number R i) (omega arith)

-- ---- the line of a cell
text-back : (b : Bank) (i : ℕ) → i < (layout_of b).elements → number_text (cell_number b i) ≡ cell_name b i ++ ascii "\n"
unfolding number_text
text-back b i h =
    let e : cell_number b i - first_number b ≡ i = omega arith in
    ap (λ (c : Bank). cell_name c (cell_number b i - first_number c) ++ ascii "\n") (bank-back b i h) ∙ ap (λ (k : ℕ). cell_name b k ++ ascii "\n") e

module _ (f : Cells) where
  abbrev Same : List Cell → Type 0
  Same cs = number_lines (cell_numbers cs) ≡ cell_lines cs

  from-lines : (b : Bank) (rest : List Cell) → Same rest → (i n : ℕ) → i + n ≤ (layout_of b).elements → Same (cells_from f b i n ++ rest)
  unfolding cells_from number_lines cell_lines
  from-lines b rest r i zero h = r
  from-lines b rest r i (suc n) h = by (f b i) (from-lines b rest r (suc i) n (omega arith))
    where
      by : (t : Bool) → Same (cells_from f b (suc i) n ++ rest)
          → Same (cond t (record { bank = b; element = i } ∷ cells_from f b (suc i) n) (cells_from f b (suc i) n) ++ rest)
      by true e =
          let others = number_lines (cell_numbers (cells_from f b (suc i) n ++ rest)) in
          ap (λ (s : List ℕ). s ++ others) (text-back b i (omega arith)) ∙ ap (λ (s : List ℕ). (cell_name b i ++ ascii "\n") ++ s) e
      by false e = e

  banks-lines : (bs : List Bank) → Same (cells_of f bs)
  unfolding number_lines cell_lines
  banks-lines [] = refl
  banks-lines (b ∷ bs) = from-lines b (cells_of f bs) (banks-lines bs) 0 (layout_of b).elements (omega arith)

  pub lines-back : number_lines (cell_numbers (cell_list f)) ≡ cell_lines (cell_list f)
  lines-back = banks-lines banks

  -- ---- each number is below 1,152
  abbrev Below : List Cell → Type 0
  Below cs = (k : ℕ) → k < length (cell_numbers cs) → get_or (cell_numbers cs) k 0 < cell_count

  below_next : (c : Cell) (cs : List Cell) → cell_number c.bank c.element < cell_count → Below cs → Below (c ∷ cs)
  below_next c cs h g zero l = h
  below_next c cs h g (suc k) l = g k (omega arith)

  fits : (b : Bank) → first_number b + (layout_of b).elements ≤ cell_count
  fits X = omega arith
  fits C = omega arith
  fits «V» = omega arith
  fits N = omega arith
  fits D = omega arith
  fits R = omega arith

  from-below : (b : Bank) (rest : List Cell) → Below rest → (i n : ℕ) → i + n ≤ (layout_of b).elements → Below (cells_from f b i n ++ rest)
  unfolding cells_from
  from-below b rest r i zero h = r
  from-below b rest r i (suc n) h = by (f b i) (from-below b rest r (suc i) n (omega arith))
    where
      by : (t : Bool) → Below (cells_from f b (suc i) n ++ rest)
          → Below (cond t (record { bank = b; element = i } ∷ cells_from f b (suc i) n) (cells_from f b (suc i) n) ++ rest)
      by true e = below_next (record { bank = b; element = i }) (cells_from f b (suc i) n ++ rest) (omega (arith, fits b)) e
      by false e = e

  banks-below : (bs : List Bank) → Below (cells_of f bs)
  banks-below [] = λ k l. absurd (omega arith)
  banks-below (b ∷ bs) = from-below b (cells_of f bs) (banks-below bs) 0 (layout_of b).elements (omega arith)

  pub numbers-below : CellNumbers (cell_numbers (cell_list f))
  numbers-below = record { below = banks-below banks }

-- ---- one line, as it is put
pub at_most : {n f : ℕ} {b : Bank} → n < cell_count → b ≡ numbered_bank n → f ≡ first_number b → (f ≤ n) × (n < f + 256)
at_most {n} {f} h e q =
    let g : f ≡ first_number (numbered_bank n) = q ∙ ap first_number e in
    (omega (arith, (inside n h).0), omega (arith, (inside n h).1))

pub line-is : (n f : ℕ) (b : Bank) → b ≡ numbered_bank n → f ≡ first_number b → cell_name b (n - f) ++ (10 ∷ []) ≡ number_text n
unfolding number_text
line-is n f b e q =
    ap (λ (k : ℕ). cell_name b (n - k) ++ (10 ∷ [])) q ∙ ap (λ (c : Bank). cell_name c (n - first_number c) ++ (10 ∷ [])) e
