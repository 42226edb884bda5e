-- What the check and the machine of the profile are to the full box's (paper 02, Ask 12). proofs/Theorems.antt proves the record.
use Rattle.std.specs.Prelude.{◌≡◌, ◌↔◌, true, false, List, [], ◌∷◌, ℕ, suc, ◌<◌, length}
use Rattle.values.specs.declared.Kind.{Kind}
use Rattle.values.specs.declared.Kind.TheVariants.{Int}
use Rattle.values.specs.declared.Value.{Value}
use Rattle.memory.specs.declared.Bank.{Bank}
use Rattle.memory.specs.Environment.{Environment}
use Rattle.code.specs.declared.Instr.{Instr}
use Rattle.machine.specs.Machine.{goes, exec}
use Rattle.machine.specs.Configurations.{Configuration}
use Rattle.verifier.specs.Typing.{Shape}
use Rattle.verifier.specs.Accepts.{instr_at, Reached, Accepts}
use Rattle.verifier.specs.Safety.{Kinded}
use Rattle.read_set.specs.Cells.{code_cells}
use Rattle.profile.specs.Parts.{real_bank}
use Rattle.code.specs.Reals.{reads_real}
use Rattle.verifier.specs.Profile.{all_int, AcceptsIn}
use Rattle.machine.specs.Profile.{real_among, act_in, exec_in}

-- "holds only integers", wherever the code can come
abbrev pub HoldsIntegers : List Instr → Type 0
HoldsIntegers c = (p : ℕ) (s : Shape) → Reached c p s → all_int s ≡ true

-- "has no instruction that reads R", reached or not
abbrev pub NoReader : List Instr → Type 0
NoReader c = (p : ℕ) → p < length c → reads_real (instr_at c p) ≡ false

-- what the machine without reals holds at each moment of a run: as `Configuration` of the full machine, by what its own instructions do
pub data IntegerConfiguration (E : Environment) (c : List Instr) : List Instr → ℕ → List Value → Type 0 where
  first : IntegerConfiguration E c c 0 []
  skip : {i : Instr} {left : List Instr} {k : ℕ} {st : List Value} → IntegerConfiguration E c (i ∷ left) (suc k) st → IntegerConfiguration E c left k st
  step : {i : Instr} {left : List Instr} {k : ℕ} {st st' : List Value} → IntegerConfiguration E c (i ∷ left) 0 st → act_in false E i st ≡ goes k st'
      → IntegerConfiguration E c left k st'

pub record ProfileCode : Type 0 where
  -- "Code checked for the profile holds only integers and has no instruction that reads R": exactly such code of the full box's
  pub checked : (c : List Instr) (k : Kind) → AcceptsIn false c k ↔ (Accepts c k × (HoldsIntegers c × NoReader c))
  -- of R no cell is among those that it reads (Ask 11), so its R cells may hold anything
  pub reads_integers : (c : List Instr) → NoReader c → (b : Bank) (i : ℕ) → code_cells c b i ≡ true → real_bank b ≡ false
  -- "the feeder and the full box give the same answer, value, .. and count": on such code the machine without reals does what the full one does, to an integer
  pub ran : (E : Environment) (c : List Instr) (k : Kind) → Kinded E → AcceptsIn false c k → (k ≡ Int) × (exec_in false E c 0 [] ≡ exec E c 0 [])
  -- on the way the full machine holds no real
  pub integers_held : (E : Environment) (c : List Instr) (k : Kind) → Kinded E → AcceptsIn false c k → {left : List Instr} {d : ℕ} {st : List Value}
      → Configuration E c left d st → real_among (length st) st ≡ false
  -- and the machine without reals holds, whatever the code, only what the full one holds: so integers too, at most 128 of them, and never too few
  pub held : (E : Environment) (c : List Instr) {left : List Instr} {d : ℕ} {st : List Value} → IntegerConfiguration E c left d st
      → Configuration E c left d st
