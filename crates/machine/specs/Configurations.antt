-- What is held at each moment of a run. Paper 01: "A value is held from the instruction that leaves it until the one that takes it; the height is the number
-- held." So the height is the length of the list held, and changes only where `exec` goes from one call of itself to the next.
use Rattle.std.specs.Prelude.{◌≡◌, List, [], ◌∷◌, ℕ, suc}
use Rattle.values.specs.declared.Value.{Value}
use Rattle.memory.specs.Environment.{Environment}
use Rattle.code.specs.declared.Instr.{Instr}
use Rattle.machine.specs.Machine.{goes, act}

-- the run of c in E, from its first instruction with nothing held, comes to these arguments of `exec`: the instructions left, how many of them to skip, the
-- values held
pub data Configuration (E : Environment) (c : List Instr) : List Instr → ℕ → List Value → Type 0 where
  first : Configuration E c c 0 []
  skip : {i : Instr} {left : List Instr} {k : ℕ} {st : List Value} → Configuration E c (i ∷ left) (suc k) st → Configuration E c left k st
  step : {i : Instr} {left : List Instr} {k : ℕ} {st st' : List Value} → Configuration E c (i ∷ left) 0 st → act E i st ≡ goes k st'
      → Configuration E c left k st'

-- it begins the instruction i with st held
abbrev pub Begins : Environment → List Instr → Instr → List Value → Type 0
Begins E c i st = (left : List Instr) × Configuration E c (i ∷ left) 0 st

-- it comes to the end of the code with st held
abbrev pub Finishes : Environment → List Instr → List Value → Type 0
Finishes E c st = Configuration E c [] 0 st
