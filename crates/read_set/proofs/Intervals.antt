-- The cells of a range of a bank are an interval of numbers: each bank's numbers follow those of the bank before it.
use mathlib.Core.Path.{◌≡◌, refl, sym, ap, ◌∙◌, subst}
use mathlib.Core.Bool.{Bool, true, false, ◌&&◌, and-false}
use Prim.Native.Nat.{ℕ, ◌+◌, ◌≤◌, ◌<◌}
use native.Mathlib.Omega.{arith}
use lib.Dec.{ltb, leb, lit<, lit≤}
use borrow.Author.Tests.{eq-eqb, lt-ltb, le-ltb, le-leb, lt-leb, leb-true}
use Rattle.memory.specs.declared.Bank.{Bank}
use Rattle.memory.specs.declared.Bank.TheVariants.{X, C, «V», N, D, R}
use Rattle.memory.specs.Layout.{layout_of}
use Rattle.memory.specs.Numbers.{bank_number}
use Rattle.totals.specs.Totals.{good_range}
use Rattle.read_set.specs.Cells.{Cells, same_bank, one_cell, cell_range, whole_bank, first_number, cell_count, cell_number}
use Rattle.read_set.specs.private.Intervals.{in_interval, empty, within, Numbers}
use Rattle.read_set.proofs.Tests.{leb-moved, ltb-moved, one-long}

-- ---- the order of banks
data Order (b c : Bank) : Type 0 where
  same : b ≡ c → Order b c
  before : same_bank b c ≡ false → first_number b + (layout_of b).elements ≤ first_number c → Order b c
  behind : same_bank b c ≡ false → first_number c + (layout_of c).elements ≤ first_number b → Order b c

each : (P : Bank → Type 0) → P X → P C → P «V» → P N → P D → P R → (b : Bank) → P b
each P x c v n d r X = x
each P x c v n d r C = c
each P x c v n d r «V» = v
each P x c v n d r N = n
each P x c v n d r D = d
each P x c v n d r R = r

order : (b c : Bank) → Order b c
order X = each (Order X) (same refl) (before refl (lit≤ tt)) (before refl (lit≤ tt)) (before refl (lit≤ tt)) (before refl (lit≤ tt)) (before refl (lit≤ tt))
order C = each (Order C) (behind refl (lit≤ tt)) (same refl) (before refl (lit≤ tt)) (before refl (lit≤ tt)) (before refl (lit≤ tt)) (before refl (lit≤ tt))
order «V» = each (Order «V») (behind refl (lit≤ tt)) (behind refl (lit≤ tt)) (same refl) (before refl (lit≤ tt)) (before refl (lit≤ tt)) (before refl (lit≤ tt))
order N = each (Order N) (behind refl (lit≤ tt)) (behind refl (lit≤ tt)) (behind refl (lit≤ tt)) (same refl) (before refl (lit≤ tt)) (before refl (lit≤ tt))
order D = each (Order D) (behind refl (lit≤ tt)) (behind refl (lit≤ tt)) (behind refl (lit≤ tt)) (behind refl (lit≤ tt)) (same refl) (before refl (lit≤ tt))
order R = each (Order R) (behind refl (lit≤ tt)) (behind refl (lit≤ tt)) (behind refl (lit≤ tt)) (behind refl (lit≤ tt)) (behind refl (lit≤ tt)) (same refl)

pub bank-end : (b : Bank) → first_number b + (layout_of b).elements ≤ cell_count
bank-end = each (λ b. first_number b + (layout_of b).elements ≤ cell_count) (lit≤ tt) (lit≤ tt) (lit≤ tt) (lit≤ tt) (lit≤ tt) (lit≤ tt)

pub bank-same : (b : Bank) → same_bank b b ≡ true
bank-same b = eq-eqb (bank_number b) (bank_number b) refl

-- ---- ranges
range-bounds : (b : Bank) (i n : ℕ) → good_range b i n ≡ true → (1 ≤ n) × (i + n ≤ (layout_of b).elements)
range-bounds b i n g = by (leb 1 n) (leb (i + n) (layout_of b).elements) refl refl g
  where
    by : (t u : Bool) → leb 1 n ≡ t → leb (i + n) (layout_of b).elements ≡ u → (t && u) ≡ true → (1 ≤ n) × (i + n ≤ (layout_of b).elements)
    by true true p q e = (leb-true 1 n p, leb-true (i + n) (layout_of b).elements q)
    by true false p q e = let z : ◌≡◌ {A = ℕ} 0 1 = cc in absurd (omega arith)
    by false u p q e = let z : ◌≡◌ {A = ℕ} 0 1 = cc in absurd (omega arith)

module _ (b : Bank) (i n : ℕ) (g : i + n ≤ (layout_of b).elements) where
  range-numbers : (c : Bank) (j : ℕ) → j < (layout_of c).elements → cell_range b i n c j ≡ in_interval (first_number b + i) n (cell_number c j)
  range-numbers c j h = by (order b c)
    where
      in-bank : cell_range b i n b j ≡ in_interval (first_number b + i) n (cell_number b j)
      in-bank =
          ap (λ (t : Bool). t && (leb i j && ltb j (i + n))) (bank-same b)
          ∙ ap (λ (t : Bool). t && ltb j (i + n)) (leb-moved (first_number b) i j)
          ∙ ap (λ (t : Bool). leb (first_number b + i) (first_number b + j) && t) (ltb-moved (first_number b) i n j)

      by : Order b c → cell_range b i n c j ≡ in_interval (first_number b + i) n (cell_number c j)
      by (same e) = subst (λ (d : Bank). cell_range b i n d j ≡ in_interval (first_number b + i) n (cell_number d j)) e in-bank
      by (before e l) =
          rw e (sym (ap (λ (t : Bool). leb (first_number b + i) (cell_number c j) && t) (le-ltb (cell_number c j) (first_number b + i + n) (omega arith))
          ∙ and-false (leb (first_number b + i) (cell_number c j))))
      by (behind e l) =
          rw e (sym (ap (λ (t : Bool). t && ltb (cell_number c j) (first_number b + i + n)) (lt-leb (first_number b + i) (cell_number c j) (omega arith))))

pub nothing_read : (f : Cells) → ((c : Bank) (j : ℕ) → f c j ≡ false) → Numbers f empty
nothing_read f h =
    record {
      inside = lit< tt;
      numbers = λ c j l. h c j ∙ sym (ap (λ (t : Bool). leb 0 (cell_number c j) && t) (le-ltb (cell_number c j) 0 (omega arith))
          ∙ and-false (leb 0 (cell_number c j)));
    }

pub range-read : (f : Cells) (b : Bank) (i n : ℕ) → good_range b i n ≡ true → ((c : Bank) (j : ℕ) → j < (layout_of c).elements → f c j ≡ cell_range b i n c j)
    → Numbers f (within b i n)
range-read f b i n g h =
    let bounds = range-bounds b i n g in
    let some = bounds.0 in
    let last = bounds.1 in
    let all = bank-end b in
    rw g (record { inside = omega arith; numbers = λ c j l. h c j l ∙ range-numbers b i n last c j l })

-- ---- a cell, and a bank, as ranges
pub cell-range : (b : Bank) (i : ℕ) (c : Bank) (j : ℕ) → one_cell b i c j ≡ cell_range b i 1 c j
cell-range b i c j = ap (λ (t : Bool). same_bank b c && t) (one-long i j)

pub bank-range : (b c : Bank) (j : ℕ) → j < (layout_of c).elements → whole_bank b c j ≡ cell_range b 0 (layout_of b).elements c j
bank-range b c j h = by (order b c)
  where
    in-bank : j < (layout_of b).elements → whole_bank b b j ≡ cell_range b 0 (layout_of b).elements b j
    in-bank l = rw (bank-same b, le-leb 0 j (omega arith), lt-ltb j (0 + (layout_of b).elements) (omega arith))

    by : Order b c → whole_bank b c j ≡ cell_range b 0 (layout_of b).elements c j
    by (same e) =
        subst (λ (d : Bank). j < (layout_of d).elements → whole_bank b d j ≡ cell_range b 0 (layout_of b).elements d j) e in-bank h
    by (before e l) = rw e
    by (behind e l) = rw e

pub bank-good : (b : Bank) → good_range b 0 (layout_of b).elements ≡ true
bank-good = each (λ b. good_range b 0 (layout_of b).elements ≡ true) refl refl refl refl refl refl
