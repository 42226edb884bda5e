-- For the contracts of private functions: the counts of the value's code and of the index's are small, so their sum is a number of the machine; a run gives
-- no infinity and no NaN, and without reals no real.
use Rattle.std.specs.Prelude.{◌≡◌, Bool, true, not, ◌||◌, ℕ, ◌^◌, ◌≤◌}
use Rattle.values.specs.declared.Value.{Value}
use Rattle.values.specs.declared.Fault.{Fault}
use Rattle.memory.specs.declared.Bank.{Bank}
use Rattle.memory.specs.Store.{is_finite}
use Rattle.profile.specs.Parts.{real_bank, real_value}
use Rattle.machine.specs.declared.Ended.{Ended}
use Rattle.machine.specs.declared.Ended.TheVariants.{Done, Stopped, Stuck}
use Rattle.targets.specs.declared.Element.{Element}
use Rattle.targets.specs.declared.Element.TheVariants.{Is, By}

-- no run of 2,048 instructions counts more
abbrev pub most_begun : ℕ
most_begun = 2 ^ 32

-- the index code has no more instructions than the check accepts and compiling writes
pub data Few : Element → Type 0 where
  none : {i : ℕ} → Few (Is i)
  some : {k : ℕ} → k ≤ 2048 → Few (By k)

-- the value of a run, where it gives one, is finite
pub data FiniteEnd : Ended → Type 0 where
  value : {v : Value} → is_finite v ≡ true → FiniteEnd (Done v)
  fault : {f : Fault} → FiniteEnd (Stopped f)
  stuck : FiniteEnd Stuck

-- without reals an integer goes to a bank of integers
abbrev pub Storable : Bool → Bank → Value → Type 0
Storable reals b v = (reals || not (real_bank b || real_value v)) ≡ true

-- the value of a run, where it gives one, may go to the bank
abbrev pub StorableEnd : Bool → Bank → Ended → Type 0
StorableEnd reals b e = (v : Value) → e ≡ Done v → Storable reals b v
