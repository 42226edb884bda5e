-- What accepted code does, whatever the memory holds (demand 3's second half): it "reaches its end or a fault. It executes at most as many instructions as
-- it has, is never short of a value and never holds more than 128". Paper 02, Ask 2: "The count is now one for each instruction and each cell visited ..
-- the bound is .. a checked code's length, plus 256 for each such call." proofs/Safe.antt proves `Safe`.
use Rattle.std.specs.Prelude.{◌≡◌, List, [], ℕ, ◌+◌, ◌*◌, ◌≤◌}
use Rattle.values.specs.declared.Kind.{Kind}
use Rattle.values.specs.declared.Value.{Value}
use Rattle.values.specs.declared.Fault.{Fault}
use Rattle.values.specs.Values.{kind_of}
use Rattle.operators.specs.Laws.{OfKind}
use Rattle.memory.specs.declared.Bank.{Bank}
use Rattle.memory.specs.Cells.{bank_kind}
use Rattle.code.specs.declared.Instr.{Instr}
use Rattle.machine.specs.declared.Ended.{Ended}
use Rattle.machine.specs.declared.Ended.TheVariants.{Done, Stopped}
use Rattle.memory.specs.Environment.{Environment}
use Rattle.code.specs.Instructions.{instructions}
use Rattle.machine.specs.Machine.{cost_bound, max_cells, ranges_of, exec}
use Rattle.verifier.specs.Accepts.{Accepts}
use Rattle.verifier.specs.Stack.{StackSafe}

-- what is read of a bank is of its kind
pub record Kinded (E : Environment) : Type 0 where
  pub cell : (b : Bank) (i : ℕ) → OfKind (bank_kind b) (E.cell b i)

-- a value of the kind k, or a fault
pub data EndsWell (k : Kind) : Ended → Type 0 where
  value : (v : Value) → kind_of v ≡ k → EndsWell k (Done v)
  fault : (f : Fault) → EndsWell k (Stopped f)

pub record Safe : Type 0 where
  pub ends : (E : Environment) (c : List Instr) (k : Kind) → Kinded E → Accepts c k → EndsWell k (exec E c 0 []).end
  -- any code, accepted or not: no more than one for each instruction and each cell of its ranges
  pub counts : (E : Environment) (c : List Instr) → (exec E c 0 []).count ≤ cost_bound c
  -- so n instructions of any bytes count at most n, and 256 for each that goes over a range
  pub counts_code : (E : Environment) (code : List ℕ) (n : ℕ) → (exec E (instructions code n) 0 []).count ≤ n + max_cells * ranges_of (instructions code n)
  pub stack : (E : Environment) (c : List Instr) (k : Kind) → Kinded E → Accepts c k → StackSafe E c k
