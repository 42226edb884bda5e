-- Runs over the banks of integers: what is held is an integer.
use Rattle.std.specs.Prelude.{◌≡◌, Bool, true, false, not, cond, ℕ, ℤ, pos, negsuc}
use Rattle.std.specs.Int.Signed.{lt_z}
use Rattle.values.specs.declared.Kind.TheVariants as K
use Rattle.values.specs.declared.Value.{Value}
use Rattle.values.specs.declared.Value.TheVariants.{Int, Real}
use Rattle.values.specs.declared.Fault.TheVariants.{IndexError}
use Rattle.values.specs.declared.CompareOp.{CompareOp}
use Rattle.values.specs.declared.CompareOp.TheVariants.{Lt, Gt, Le, Ge, Eq, Ne}
use Rattle.values.specs.Integers.{in_range}
use Rattle.values.specs.declared.Outcome.{Outcome}
use Rattle.values.specs.declared.Outcome.TheVariants.{Done, Stopped, WrongKind}
use Rattle.operators.specs.Operators.{compare_rule}
use Rattle.memory.specs.declared.Bank.{Bank}
use Rattle.memory.specs.declared.Bank.TheVariants.{X, C, «V», N, D, R}
use Rattle.totals.specs.declared.Visited.{Visited}
use Rattle.totals.specs.declared.integers.Bounds.{Bounds}
use Rattle.totals.specs.private.Steps.{ended_with, match_step, run_over}

-- whether a cell may hold more than 16 bits
abbrev pub is_wide : Bank → Bool
is_wide X = false
is_wide C = false
is_wide «V» = false
is_wide N = false
is_wide D = true
is_wide R = true

abbrev pub whole_of : Value → ℤ
whole_of (Int z) = z
whole_of (Real x) = pos 0

-- of a cell that is there
abbrev pub whole_in : Outcome → ℤ
whole_in (Done v) = whole_of v
whole_in (Stopped f) = pos 0
whole_in WrongKind = pos 0

-- the first cell is not there
abbrev pub no_cells : Visited
no_cells = ended_with (Stopped IndexError) 1

-- what a cell z that passes adds to a count, or to a sum
abbrev pub taken_of : Bool → ℤ → ℤ
taken_of true z = pos 1
taken_of false z = z

-- from the least to the greatest, or outside
abbrev pub passes_in : ℤ → ℤ → Bool → ℤ → Bool
passes_in least greatest outside z = cond (lt_z z least) outside (cond (lt_z greatest z) outside (not outside))

-- the integers that compare so with a value, of which low is the least integer that is not less and high the greatest that is not greater
abbrev pub bounds_of : CompareOp → ℤ → ℤ → Bounds
bounds_of Lt low high = record { least = low; greatest = pos 2147483647; outside = true }
bounds_of Gt low high = record { least = negsuc 2147483647; greatest = high; outside = true }
bounds_of Le low high = record { least = negsuc 2147483647; greatest = high; outside = false }
bounds_of Ge low high = record { least = low; greatest = pos 2147483647; outside = false }
bounds_of Eq low high = record { least = low; greatest = high; outside = false }
bounds_of Ne low high = record { least = low; greatest = high; outside = true }

-- they are those that compare so with v
abbrev pub Bounded : ℤ → ℤ → Bool → CompareOp → Value → Type 0
Bounded least greatest outside o v = (z : ℤ) → in_range z ≡ true → passes_in least greatest outside z ≡ compare_rule o (Int z) v

-- low and high are the integers next to v: every comparison has the bounds that they give
abbrev pub Enclosed : ℤ → ℤ → Value → Type 0
Enclosed low high v = (o : CompareOp) → Bounded (bounds_of o low high).least (bounds_of o low high).greatest (bounds_of o low high).outside o v

-- r is the count or sum of the cells that compare so, for every comparison with these bounds
abbrev pub MatchedBy : ℤ → ℤ → Bool → Bool → (ℕ → Outcome) → ℕ → ℕ → Visited → Type 0
MatchedBy least greatest outside counts read i n r =
    (o : CompareOp) (v : Value) → Bounded least greatest outside o v → r ≡ run_over (match_step counts o v) K.Int read i n
