-- What holds of totals, for the layers above and for a reader.
use mathlib.Core.Path.{◌≡◌, refl, sym, ap}
use mathlib.Core.Bool.{Bool, true, false, cond}
use Prim.Native.Nat.{ℕ, suc, ◌+◌, ◌-◌, ◌^◌, ◌≤◌, ◌<◌}
use native.Mathlib.Omega.{arith}
use lib.Dec.{T, ltb}
use lib.IntN.{ℤ, pos, negsuc}
use borrow.Author.Tests.{le-leb, lt-leb, ltb-false}
use Rattle.reals.specs.declared.ArithOp.TheVariants.{Add}
use Rattle.values.specs.declared.Value.{Value}
use Rattle.values.specs.declared.Value.TheVariants.{Int, Real}
use Rattle.values.specs.Patterns.{signed_of}
use Rattle.values.specs.Singles.{zero_real}
use Rattle.operators.specs.Operators.{arith_rule}
use Rattle.memory.specs.declared.Bank.{Bank}
use Rattle.memory.specs.declared.Bank.TheVariants.{X, C, «V», N, D, R}
use Rattle.memory.specs.Layout.{layout_of}
use Rattle.memory.specs.Cells.{bank_kind}
use Rattle.memory.specs.Environment.{Environment}
use Rattle.totals.specs.declared.TotalOp.{TotalOp}
use Rattle.totals.specs.declared.TotalOp.TheVariants as T'
use Rattle.totals.specs.declared.MatchOp.{MatchOp}
use Rattle.totals.specs.declared.MatchOp.TheVariants as M'
use Rattle.totals.specs.Totals.{zero_of, average, choosing, count_if, sum_if, total_over, match_over}
use Rattle.totals.specs.Totals.{range_within, good_range, good_count, span_of, span_within}
use Rattle.totals.specs.Laws.{SameCells, TotalLaws}
use Rattle.totals.proofs.Folds.{fold-cells, first-cells, fold_same, first-same}
use Rattle.totals.proofs.Kept.{total-kind, match-kind, total_proper, match_proper}
use Rattle.totals.proofs.Sums.{infinite_stays, settled-from, stops-from}
use Rattle.totals.proofs.Within.{range-in}

module _ (E : Environment) where
  total_cells : (o : TotalOp) (b : Bank) (i n : ℕ) → (total_over E o b i n).cells ≤ n
  unfolding total_over
  total_cells T'.Sum b i n = fold-cells (E.cell b) (arith_rule Add) (zero_of (bank_kind b)) i n
  total_cells T'.Average b i n = fold-cells (E.cell b) (arith_rule Add) (Real zero_real) i n
  total_cells (T'.Choice o) b i n = first-cells (E.cell b) (choosing o) (bank_kind b) i n

  match_cells : (o : MatchOp) (v : Value) (b : Bank) (i n : ℕ) → (match_over E o v b i n).cells ≤ n
  unfolding match_over
  match_cells (M'.Count o) v b i n = fold-cells (E.cell b) (count_if o v) (Int (pos 0)) i n
  match_cells (M'.Sum o) v b i n = fold-cells (E.cell b) (sum_if o v) (zero_of (bank_kind b)) i n

module _ (E F : Environment) where
  total_same : (o : TotalOp) (b : Bank) (i n : ℕ) → SameCells E F b i n → total_over E o b i n ≡ total_over F o b i n
  unfolding total_over
  total_same T'.Sum b i n h = fold_same (E.cell b) (F.cell b) (arith_rule Add) (zero_of (bank_kind b)) i n h
  total_same T'.Average b i n h = ap (average n) (fold_same (E.cell b) (F.cell b) (arith_rule Add) (Real zero_real) i n h)
  total_same (T'.Choice o) b i n h = first-same (E.cell b) (F.cell b) (choosing o) (bank_kind b) i n h

  match_same : (o : MatchOp) (v : Value) (b : Bank) (i n : ℕ) → SameCells E F b i n → match_over E o v b i n ≡ match_over F o v b i n
  unfolding match_over
  match_same (M'.Count o) v b i n h = fold_same (E.cell b) (F.cell b) (count_if o v) (Int (pos 0)) i n h
  match_same (M'.Sum o) v b i n h = fold_same (E.cell b) (F.cell b) (sum_if o v) (zero_of (bank_kind b)) i n h

-- ---- ranges

bank-small : (b : Bank) → (layout_of b).elements ≤ 256
bank-small X = omega arith
bank-small C = omega arith
bank-small «V» = omega arith
bank-small N = omega arith
bank-small D = omega arith
bank-small R = omega arith

range_small : (b : Bank) (i n : ℕ) → T (good_range b i n) → (1 ≤ n) × (i + n ≤ 256)
range_small b i n t = let h = range-in (layout_of b).elements i n t in (h.0, omega (arith, h.1, bank-small b))

-- a count that no bank has
far : (b : Bank) (i n : ℕ) → 256 < n → good_range b i n ≡ false
far b i n h =
    let p = bank-small b in
    let q : (layout_of b).elements < i + n = omega arith in
    rw (le-leb 1 n (omega arith), lt-leb (i + n) (layout_of b).elements q)

module _ (b : Bank) (i n : ℕ) where
  typed_good : good_count b i (signed_of 32 n) ≡ good_range b i n
  typed_good = by (ltb n 2147483648) refl
    where
      by : (t : Bool) → ltb n 2147483648 ≡ t → good_count b i (cond t (pos n) (negsuc (2 ^ 32 - suc n))) ≡ good_range b i n
      by true e = refl
      by false e = sym (far b i n (omega (arith, ltb-false n 2147483648 e)))

  typed_span : span_of b i (signed_of 32 n) ≡ span_within (layout_of b).elements i n
  typed_span = by (ltb n 2147483648) refl
    where
      by : (t : Bool) → ltb n 2147483648 ≡ t → span_of b i (cond t (pos n) (negsuc (2 ^ 32 - suc n))) ≡ span_within (layout_of b).elements i n
      by true e = refl
      by false e = rw (far b i n (omega (arith, ltb-false n 2147483648 e)))

one-good : (m i : ℕ) → i < m → T (range_within m i 1)
one-good m i h = rw (le-leb (i + 1) m (omega arith)) tt

span_good : (b : Bank) (i : ℕ) (z : ℤ) → i < (layout_of b).elements → T (good_range b i (span_of b i z))
span_good b i (negsuc n) h = one-good (layout_of b).elements i h
span_good b i (pos n) h = by (good_range b i n) refl
  where
    by : (t : Bool) → good_range b i n ≡ t → T (good_range b i (cond t n 1))
    by true e = rw e tt
    by false e = one-good (layout_of b).elements i h

pub total-laws : TotalLaws
total-laws = record {
  total-kind = total-kind;
  match-kind = match-kind;
  total_proper = λ E o b i n g h. total_proper E o b i n (let k = range_small b i n g in omega (arith, k.1)) h;
  match_proper = match_proper;
  total_cells = total_cells;
  match_cells = match_cells;
  total_same = total_same;
  match_same = match_same;
  span_good = span_good;
  typed_good = typed_good;
  typed_span = typed_span;
  range_small = range_small;
  infinite_stays = infinite_stays;
  settled_once = λ read i xs h g. settled-from read zero_real i xs tt h g;
  stops_there = λ read i xs c b n h g t q e. stops-from read zero_real i xs c b n h g t q e;
}
