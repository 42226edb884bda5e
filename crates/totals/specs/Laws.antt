-- What holds of totals, for the layers above and for a reader: proofs/Laws.antt proves this record.
use Rattle.std.specs.Prelude.{◌≡◌, Bool, List, [], ◌∷◌, ℕ, suc, ◌+◌, ◌≤◌, ◌<◌, T, ℤ, length, Float}
use Rattle.std.specs.Float.Ieee as Ieee
use Rattle.std.specs.Float.{inf, binary32}
use Rattle.std.specs.Float.Ieee.Scale.{finite}
use Rattle.reals.specs.declared.ArithOp.TheVariants.{Add}
use Rattle.values.specs.declared.Value.{Value}
use Rattle.values.specs.declared.Value.TheVariants.{Real}
use Rattle.values.specs.declared.Outcome.{Outcome}
use Rattle.values.specs.declared.Fault.TheVariants.{Overflow}
use Rattle.values.specs.declared.Outcome.TheVariants.{Done, Stopped}
use Rattle.values.specs.Patterns.{signed_of}
use Rattle.values.specs.Singles.{zero_real, settle}
use Rattle.operators.specs.Operators.{as_real, arith_rule}
use Rattle.operators.specs.Laws.{OfKind, AllProper}
use Rattle.memory.specs.declared.Bank.{Bank}
use Rattle.memory.specs.Layout.{layout_of}
use Rattle.memory.specs.Cells.{bank_kind}
use Rattle.memory.specs.Environment.{Environment}
use Rattle.totals.specs.declared.TotalOp.{TotalOp}
use Rattle.totals.specs.declared.MatchOp.{MatchOp}
use Rattle.totals.specs.Totals.{fold_cells, total_over, match_over, total_kind, match_kind, good_range, good_count, span_of, span_within}

-- the singles added in order, never settled
abbrev pub added_up : Float → List Float → Float
added_up s [] = s
added_up s (x ∷ xs) = added_up (Ieee.add binary32 s x) xs

pub data AllFinite : List Float → Type 0 where
  none : AllFinite []
  more : {x : Float} {xs : List Float} → T (finite x) → AllFinite xs → AllFinite (x ∷ xs)

-- every cell from i on can be read, and promoted they are the singles
pub data AllRead (read : ℕ → Outcome) : ℕ → List Float → Type 0 where
  none : {i : ℕ} → AllRead read i []
  more : {i : ℕ} {c : Value} {xs : List Float} → read i ≡ Done c → AllRead read (suc i) xs → AllRead read i (as_real c ∷ xs)

-- the two environments have the same in n cells of a bank from i on
abbrev pub SameCells : Environment → Environment → Bank → ℕ → ℕ → Type 0
SameCells E F b i n = (k : ℕ) → i ≤ k → k < i + n → E.cell b k ≡ F.cell b k

pub record TotalLaws : Type 0 where
  -- of a bank whose cells are of its kind, a value of the kind known from the text, or a fault
  pub total-kind : (E : Environment) (o : TotalOp) (b : Bank) (i n : ℕ) → ((j : ℕ) → OfKind (bank_kind b) (E.cell b j))
      → OfKind (total_kind o b) (total_over E o b i n).result
  pub match-kind : (E : Environment) (o : MatchOp) (v : Value) (b : Bank) (i n : ℕ) → ((j : ℕ) → OfKind (bank_kind b) (E.cell b j))
      → OfKind (match_kind o b) (match_over E o v b i n).result
  -- of proper cells: integers stay in 32 bits, and no infinity or NaN comes out
  pub total_proper : (E : Environment) (o : TotalOp) (b : Bank) (i n : ℕ) → T (good_range b i n) → ((j : ℕ) → AllProper (E.cell b j))
      → AllProper (total_over E o b i n).result
  pub match_proper : (E : Environment) (o : MatchOp) (v : Value) (b : Bank) (i n : ℕ) → ((j : ℕ) → AllProper (E.cell b j))
      → AllProper (match_over E o v b i n).result
  -- no more cells are begun than the run has
  pub total_cells : (E : Environment) (o : TotalOp) (b : Bank) (i n : ℕ) → (total_over E o b i n).cells ≤ n
  pub match_cells : (E : Environment) (o : MatchOp) (v : Value) (b : Bank) (i n : ℕ) → (match_over E o v b i n).cells ≤ n
  -- nothing else is read
  pub total_same : (E F : Environment) (o : TotalOp) (b : Bank) (i n : ℕ) → SameCells E F b i n → total_over E o b i n ≡ total_over F o b i n
  pub match_same : (E F : Environment) (o : MatchOp) (v : Value) (b : Bank) (i n : ℕ) → SameCells E F b i n
      → match_over E o v b i n ≡ match_over F o v b i n
  -- behind a cell that there is, the count of every tree gives a good range
  pub span_good : (b : Bank) (i : ℕ) (z : ℤ) → i < (layout_of b).elements → T (good_range b i (span_of b i z))
  -- a typed count is judged by its pattern
  pub typed_good : (b : Bank) (i n : ℕ) → good_count b i (signed_of 32 n) ≡ good_range b i n
  pub typed_span : (b : Bank) (i n : ℕ) → span_of b i (signed_of 32 n) ≡ span_within (layout_of b).elements i n
  -- a good range lies within the largest bank
  pub range_small : (b : Bank) (i n : ℕ) → T (good_range b i n) → (1 ≤ n) × (i + n ≤ 256)
  -- a real sum that became infinite stays that infinity, whatever finite cells follow: it does not come back, and is never a NaN
  pub infinite_stays : (s : Bool) (xs : List Float) → AllFinite xs → added_up (inf s) xs ≡ inf s
  -- so settling the real sum at each cell or once at the end gives the same where every cell can be read
  pub settled_once : (read : ℕ → Outcome) (i : ℕ) (xs : List Float) → AllRead read i xs → AllFinite xs
      → (fold_cells read (arith_rule Add) (Real zero_real) i (length xs)).result ≡ settle (added_up zero_real xs)
  -- but not the same count of cells, nor the same fault: the run ends where its sum becomes infinite, and of the n cells behind none is begun, so that one
  -- of them that cannot be read gives no 13. The rule is at each cell
  pub stops_there : (read : ℕ → Outcome) (i : ℕ) (xs : List Float) (c : Value) (s : Bool) (n : ℕ) → AllRead read i xs → AllFinite xs
      → T (finite (added_up zero_real xs)) → read (i + length xs) ≡ Done c → Ieee.add binary32 (added_up zero_real xs) (as_real c) ≡ inf s
      → fold_cells read (arith_rule Add) (Real zero_real) i (suc (length xs + n)) ≡ record { result = Stopped Overflow; cells = suc (length xs) }
