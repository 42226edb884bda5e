-- The list of a set has just its cells, in memory order.
use mathlib.Core.Path.{◌≡◌, refl, sym, ap, ◌∙◌, subst}
use mathlib.Core.Logic.{◌↔◌, ◌⊎◌, inl, inr}
use mathlib.Core.Bool.{Bool, true, false, cond}
use mathlib.Core.List.Memᴰ
use mathlib.Core.List.{List, [], ◌∷◌, ◌++◌, Memᴰ}
use Prim.Native.Nat.{ℕ, zero, suc, ◌+◌, ◌≤◌, ◌<◌}
use native.Mathlib.Nat.{le_trans}
use native.Mathlib.Omega.{arith}
use lib.Dec.{ltb, lit≤}
use lib.ListN.{length, take, length-append}
use lib.Seq.{sets}
use borrow.Author.Tests.{ltb-true, ltb-false}
use Rattle.memory.specs.declared.Bank.{Bank}
use Rattle.memory.specs.declared.Bank.TheVariants.{X, C, «V», N, D, R}
use Rattle.memory.specs.Layout.{layout_of}
use Rattle.memory.specs.Numbers.{banks}
use Rattle.memory.proofs.Runs.{run-written}
use Rattle.read_set.specs.Cells.{Cells, Cell, cells_from, cells_of, cell_list, first_number, cell_count, cell_numbers}
use Rattle.read_set.proofs.Numbering.{numbers-length}
use Rattle.read_laws.specs.Theorems.{Listed, RisingFrom, end, next}

abbrev named : Bank → ℕ → Cell
named b i = record { bank = b; element = i }

-- ---- what is in the set stands in the list
later : {c : Cell} (t : Bool) (x : Cell) (cs : List Cell) → Memᴰ c cs → Memᴰ c (cond t (x ∷ cs) cs)
later true x cs m = Memᴰ.tail m
later false x cs m = m

leading : {c : Cell} (t : Bool) (x : Cell) (cs : List Cell) → t ≡ true → c ≡ x → Memᴰ c (cond t (x ∷ cs) cs)
leading true x cs q e = Memᴰ.head e
leading false x cs q e = let z : ◌≡◌ {A = ℕ} 0 1 = cc in absurd (omega arith)

module _ (f : Cells) (b : Bank) (j : ℕ) (e : f b j ≡ true) where
  from-listed : (i n : ℕ) → i ≤ j → j < i + n → Listed b j (cells_from f b i n)
  unfolding cells_from
  from-listed i zero l h = absurd (omega arith)
  from-listed i (suc n) l h = by (ltb i j) refl (λ m. from-listed (suc i) n m (omega arith))
    where
      by : (t : Bool) → ltb i j ≡ t → (suc i ≤ j → Listed b j (cells_from f b (suc i) n))
          → Listed b j (cond (f b i) (named b i ∷ cells_from f b (suc i) n) (cells_from f b (suc i) n))
      by true q rest = let m = ltb-true i j q in later (f b i) (named b i) (cells_from f b (suc i) n) (rest (omega arith))
      by false q rest =
          let m = ltb-false i j q in
          let same : j ≡ i = omega arith in
          leading (f b i) (named b i) (cells_from f b (suc i) n) (ap (f b) (sym same) ∙ e) (ap (named b) same)

  banks-listed : (bs : List Bank) → Memᴰ b bs → j < (layout_of b).elements → Listed b j (cells_of f bs)
  banks-listed [] m h = absurd (Memᴰ.not-nil m)
  banks-listed (c ∷ bs) m h = by (Memᴰ.cases_cons m) (λ m'. banks-listed bs m' h)
    where
      by : (b ≡ c) ⊎ Memᴰ b bs → (Memᴰ b bs → Listed b j (cells_of f bs)) → Listed b j (cells_from f c 0 (layout_of c).elements ++ cells_of f bs)
      by (inl q) rest =
          subst (λ (d : Bank). Listed b j (cells_from f d 0 (layout_of d).elements ++ cells_of f bs)) q
          (Memᴰ.append_left (cells_of f bs) (from-listed 0 (layout_of b).elements (omega arith) (omega arith)))
      by (inr m') rest = Memᴰ.append_right (cells_from f c 0 (layout_of c).elements) (rest m')

every-bank : (b : Bank) → Memᴰ b banks
every-bank X = Memᴰ.head refl
every-bank C = Memᴰ.tail (Memᴰ.head refl)
every-bank «V» = Memᴰ.tail (Memᴰ.tail (Memᴰ.head refl))
every-bank N = Memᴰ.tail (Memᴰ.tail (Memᴰ.tail (Memᴰ.head refl)))
every-bank D = Memᴰ.tail (Memᴰ.tail (Memᴰ.tail (Memᴰ.tail (Memᴰ.head refl))))
every-bank R = Memᴰ.tail (Memᴰ.tail (Memᴰ.tail (Memᴰ.tail (Memᴰ.tail (Memᴰ.head refl)))))

-- ---- and nothing else
record Found (f : Cells) (b : Bank) (most : ℕ) (c : Cell) : Type 0 where
  bank : c.bank ≡ b
  held : f b c.element ≡ true
  below : c.element < most

module _ (f : Cells) (c : Cell) where
  from-only : (b : Bank) (i n : ℕ) → Memᴰ c (cells_from f b i n) → Found f b (i + n) c
  unfolding cells_from
  from-only b i zero m = absurd (Memᴰ.not-nil m)
  from-only b i (suc n) m = by (f b i) refl m (λ m'. more (from-only b (suc i) n m'))
    where
      more : Found f b (suc i + n) c → Found f b (i + suc n) c
      more r = record { bank = r.bank; held = r.held; below = (let l = r.below in omega arith) }

      is : (c ≡ named b i) ⊎ Memᴰ c (cells_from f b (suc i) n) → f b i ≡ true → (Memᴰ c (cells_from f b (suc i) n) → Found f b (i + suc n) c)
          → Found f b (i + suc n) c
      is (inl e) q rest =
          record {
            bank = ap (λ (x : Cell). x.bank) e;
            held = ap (λ (x : Cell). f b x.element) e ∙ q;
            below = (let s : c.element ≡ i = ap (λ (x : Cell). x.element) e in omega arith);
          }
      is (inr m') q rest = rest m'

      by : (t : Bool) → f b i ≡ t → Memᴰ c (cond t (named b i ∷ cells_from f b (suc i) n) (cells_from f b (suc i) n))
          → (Memᴰ c (cells_from f b (suc i) n) → Found f b (i + suc n) c) → Found f b (i + suc n) c
      by true q m' rest = is (Memᴰ.cases_cons m') q rest
      by false q m' rest = rest m'

  banks-only : (bs : List Bank) → Memᴰ c (cells_of f bs) → (f c.bank c.element ≡ true) × (c.element < (layout_of c.bank).elements)
  banks-only [] m = absurd (Memᴰ.not-nil m)
  banks-only (b ∷ bs) m = by (Memᴰ.append_cases (cells_from f b 0 (layout_of b).elements) m) (λ m'. banks-only bs m')
    where
      by : Memᴰ c (cells_from f b 0 (layout_of b).elements) ⊎ Memᴰ c (cells_of f bs)
          → (Memᴰ c (cells_of f bs) → (f c.bank c.element ≡ true) × (c.element < (layout_of c.bank).elements))
          → (f c.bank c.element ≡ true) × (c.element < (layout_of c.bank).elements)
      by (inl m') rest =
          let r = from-only b 0 (layout_of b).elements m' in
          let below : c.element < (layout_of b).elements = (let l = r.below in omega arith) in
          (ap (λ (d : Bank). f d c.element) r.bank ∙ r.held, subst (λ (d : Bank). c.element < (layout_of d).elements) (sym r.bank) below)
      by (inr m') rest = rest m'

pub cells-listed : (f : Cells) (b : Bank) (i : ℕ) → Listed b i (cell_list f) ↔ ((f b i ≡ true) × (i < (layout_of b).elements))
cells-listed f b i = (banks-only f (named b i) banks, λ h. banks-listed f b i h.0 banks (every-bank b) h.1)

-- ---- in memory order
above : {j k : ℕ} {ns : List ℕ} → j ≤ k → RisingFrom k ns → RisingFrom j ns
above {j} l (end k) = end j
above {j} l (next k n ns h r) = next j n ns (le_trans l h) r

module _ (f : Cells) (b : Bank) (rest : List Cell) where
  from-rising : (i n k : ℕ) → k ≤ first_number b + i → RisingFrom (first_number b + (i + n)) (cell_numbers rest)
      → RisingFrom k (cell_numbers (cells_from f b i n ++ rest))
  unfolding cells_from
  from-rising i zero k l r = above (omega arith) r
  from-rising i (suc n) k l r = by (f b i) (λ k' l'. from-rising (suc i) n k' l' (subst (λ (m : ℕ). RisingFrom m (cell_numbers rest)) (omega arith) r))
    where
      by : (t : Bool) → ((k' : ℕ) → k' ≤ first_number b + suc i → RisingFrom k' (cell_numbers (cells_from f b (suc i) n ++ rest)))
          → RisingFrom k (cell_numbers (cond t (named b i ∷ cells_from f b (suc i) n) (cells_from f b (suc i) n) ++ rest))
      by true h = next k (first_number b + i) (cell_numbers (cells_from f b (suc i) n ++ rest)) l (h (suc (first_number b + i)) (omega arith))
      by false h = h k (omega arith)

pub cells-rising : (f : Cells) → RisingFrom 0 (cell_numbers (cell_list f))
cells-rising f =
    from-rising f X _ 0 64 0 (lit≤ tt) (from-rising f C _ 0 64 64 (lit≤ tt) (from-rising f «V» _ 0 256 128 (lit≤ tt)
    (from-rising f N _ 0 256 384 (lit≤ tt) (from-rising f D _ 0 256 640 (lit≤ tt) (from-rising f R [] 0 256 896 (lit≤ tt) (end 1152))))))

-- ---- one test, one list
module _ (f g : Cells) (e : (b : Bank) (i : ℕ) → f b i ≡ g b i) where
  from-same : (b : Bank) (i n : ℕ) → cells_from f b i n ≡ cells_from g b i n
  unfolding cells_from
  from-same b i zero = refl
  from-same b i (suc n) =
      ap (λ (t : Bool). cond t (named b i ∷ cells_from f b (suc i) n) (cells_from f b (suc i) n)) (e b i)
      ∙ ap (λ (cs : List Cell). cond (g b i) (named b i ∷ cs) cs) (from-same b (suc i) n)

  banks-same : (bs : List Bank) → cells_of f bs ≡ cells_of g bs
  banks-same [] = refl
  banks-same (b ∷ bs) =
      ap (λ (cs : List Cell). cs ++ cells_of f bs) (from-same b 0 (layout_of b).elements)
      ∙ ap (λ (cs : List Cell). cells_from g b 0 (layout_of b).elements ++ cs) (banks-same bs)

pub cells_same : (f g : Cells) → ((b : Bank) (i : ℕ) → f b i ≡ g b i) → cell_list f ≡ cell_list g
cells_same f g e = banks-same f g e banks

-- ---- no more cells than there are
abbrev elements_of : List Bank → ℕ
elements_of [] = 0
elements_of (b ∷ bs) = (layout_of b).elements + elements_of bs

module _ (f : Cells) where
  from-most : (b : Bank) (i n : ℕ) → length (cells_from f b i n) ≤ n
  unfolding cells_from
  from-most b i zero = omega arith
  from-most b i (suc n) = by (f b i) (from-most b (suc i) n)
    where
      by : (t : Bool) → length (cells_from f b (suc i) n) ≤ n
          → length (cond t (named b i ∷ cells_from f b (suc i) n) (cells_from f b (suc i) n)) ≤ suc n
      by true h = omega arith
      by false h = omega arith

  banks-most : (bs : List Bank) → length (cells_of f bs) ≤ elements_of bs
  banks-most [] = omega arith
  banks-most (b ∷ bs) =
      rw (length-append (cells_from f b 0 (layout_of b).elements) (cells_of f bs)) (omega (arith, from-most b 0 (layout_of b).elements, banks-most bs))

  pub cells-most : length (cell_list f) ≤ cell_count
  cells-most = banks-most banks

pub cells_fit : (f : Cells) (list : List ℕ) → cell_count ≤ length list
    → take (length (cell_list f)) (sets list 0 (cell_numbers (cell_list f))) ≡ cell_numbers (cell_list f)
cells_fit f list h =
    let n = numbers-length (cell_list f) in
    ap (λ (k : ℕ). take k (sets list 0 (cell_numbers (cell_list f)))) (sym n)
    ∙ run-written list 0 (cell_numbers (cell_list f)) (omega (arith, n, cells-most f))
