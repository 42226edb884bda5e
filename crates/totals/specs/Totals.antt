-- Totals over a run of cells (paper 02, Ask 2): "Add SUMR, AVGR, MAXR, MINR and the COUNTIF and SUMIF families of the page". Each is one fold, which also
-- counts the cells that it began: "each cell visited, a faulting one included". Over an environment: whatever a memory holds.
use Rattle.std.specs.Prelude.{Bool, true, false, ◌&&◌, cond, ℕ, zero, suc, ◌+◌, leb, ℤ, pos, negsuc, nat_abs}
use Rattle.reals.specs.declared.ArithOp.TheVariants.{Add, Div}
use Rattle.values.specs.declared.Kind.{Kind}
use Rattle.values.specs.declared.Kind.TheVariants as K
use Rattle.values.specs.declared.Value.{Value}
use Rattle.values.specs.declared.Value.TheVariants.{Int, Real}
use Rattle.values.specs.declared.Outcome.{Outcome}
use Rattle.values.specs.declared.Outcome.TheVariants.{Done, Stopped, WrongKind}
use Rattle.values.specs.declared.ChoiceOp.{ChoiceOp}
use Rattle.values.specs.declared.CompareOp.{CompareOp}
use Rattle.values.specs.Singles.{zero_real}
use Rattle.operators.specs.Operators.{arith_rule, compare_rule, choice_rule, from_bool}
use Rattle.memory.specs.declared.Bank.{Bank}
use Rattle.memory.specs.Layout.{layout_of}
use Rattle.memory.specs.Cells.{bank_kind}
use Rattle.memory.specs.Environment.{Environment}
use Rattle.totals.specs.declared.TotalOp.{TotalOp}
use Rattle.totals.specs.declared.TotalOp.TheVariants as T'
use Rattle.totals.specs.declared.MatchOp.{MatchOp}
use Rattle.totals.specs.declared.MatchOp.TheVariants as M'
use Rattle.totals.specs.declared.Visited.{Visited}

-- a value goes on, anything else stops
abbrev pub then : Outcome → (Value → Outcome) → Outcome
then (Done v) k = k v
then (Stopped f) k = Stopped f
then WrongKind k = WrongKind

-- one cell more is begun: a value goes on, anything else stops there
abbrev pub visiting : Outcome → (Value → Visited) → Visited
visiting (Done v) k = record { result = (k v).result; cells = suc (k v).cells }
visiting (Stopped f) k = record { result = Stopped f; cells = 1 }
visiting WrongKind k = record { result = WrongKind; cells = 1 }

-- "Cells are taken upwards": from the value a, n cells from i on, each read and then combined with what those before it made
unfoldable pub fold_cells : (ℕ → Outcome) → (Value → Value → Outcome) → Value → ℕ → ℕ → Visited
fold_cells read f a i zero = record { result = Done a; cells = 0 }
fold_cells read f a i (suc n) = visiting (then (read i) (f a)) (λ v. fold_cells read f v (suc i) n)

abbrev pub zero_of : Kind → Value
zero_of K.Int = Int (pos 0)
zero_of K.Real = Real zero_real

-- "divided by the count"
abbrev pub average : ℕ → Visited → Visited
average n r = record { result = then r.result (λ s. arith_rule Div s (Int (pos n))); cells = r.cells }

-- from the first cell on; where there is none, zero of the kind k
abbrev pub from_first : Kind → (ℕ → Outcome) → (Value → Value → Outcome) → ℕ → ℕ → Visited
from_first k read f i zero = record { result = Done (zero_of k); cells = 0 }
from_first k read f i (suc n) = visiting (read i) (λ c. fold_cells read f c (suc i) n)

abbrev pub choosing : ChoiceOp → Value → Value → Outcome
choosing o a c = Done (choice_rule o a c)

-- "the sum from 0.0; integer banks sum as integers, 12 as soon as a sum leaves 32 bits"; "AVGR is real: cells promoted, added in order from 0.0 like any
-- real sum, divided by the count"; "MAXR and MINR apply MAX and MIN in turn and ignore the sum"
unfoldable pub total_over : Environment → TotalOp → Bank → ℕ → ℕ → Visited
unfolding fold_cells
total_over E T'.Sum b i n = fold_cells (E.cell b) (arith_rule Add) (zero_of (bank_kind b)) i n
total_over E T'.Average b i n = average n (fold_cells (E.cell b) (arith_rule Add) (Real zero_real) i n)
total_over E (T'.Choice o) b i n = from_first (bank_kind b) (E.cell b) (choosing o) i n

-- "The IF forms test cell against expression, cell on the left, promoted as usual": the expression's value is v
abbrev pub count_if : CompareOp → Value → Value → Value → Outcome
count_if o v a c = arith_rule Add a (from_bool (compare_rule o c v))

abbrev pub sum_if : CompareOp → Value → Value → Value → Outcome
sum_if o v a c = cond (compare_rule o c v) (arith_rule Add a c) (Done a)

-- "SUMIF of no match is 0 of the bank's kind"
unfoldable pub match_over : Environment → MatchOp → Value → Bank → ℕ → ℕ → Visited
unfolding fold_cells
match_over E (M'.Count o) v b i n = fold_cells (E.cell b) (count_if o v) (Int (pos 0)) i n
match_over E (M'.Sum o) v b i n = fold_cells (E.cell b) (sum_if o v) (zero_of (bank_kind b)) i n

-- ---- kinds

abbrev pub total_kind : TotalOp → Bank → Kind
total_kind T'.Sum b = bank_kind b
total_kind T'.Average b = K.Real
total_kind (T'.Choice o) b = bank_kind b

abbrev pub match_kind : MatchOp → Bank → Kind
match_kind (M'.Count o) b = K.Int
match_kind (M'.Sum o) b = bank_kind b

-- "AVGR" (Ask 12), which is real over any bank
abbrev pub real_total : TotalOp → Bool
real_total T'.Sum = false
real_total T'.Average = true
real_total (T'.Choice o) = false

-- ---- ranges: "a count below 1 or a range past the bank" is none

-- n from i on, among so many elements
abbrev pub range_within : ℕ → ℕ → ℕ → Bool
range_within elements i n = leb 1 n && leb (i + n) elements

abbrev pub good_range : Bank → ℕ → ℕ → Bool
good_range b i n = range_within (layout_of b).elements i n

-- the count of a good range, else 1
abbrev pub span_within : ℕ → ℕ → ℕ → ℕ
span_within elements i n = cond (range_within elements i n) n 1

-- of the count as typed
abbrev pub good_count : Bank → ℕ → ℤ → Bool
good_count b i (pos n) = good_range b i n
good_count b i (negsuc n) = false

-- the count in worth and code: the typed one where the range is good. Where it is not the formula is refused; one cell then gives every tree a code
abbrev pub span_of : Bank → ℕ → ℤ → ℕ
span_of b i z = cond (good_count b i z) (nat_abs z) 1
