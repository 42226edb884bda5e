-- What two runs leave (paper 02, Ask 11), of "two memories of the right size that agree on the listed cells .., whatever the rest holds": nothing differs
-- afterwards that did not before, and the cell stored to holds the same number. proofs/Laws.antt proves the record.
use Rattle.std.specs.Prelude.{◌≡◌, List, ℕ, ◌<◌, get_or}
use Rattle.values.specs.declared.Value.{Value}
use Rattle.values.specs.declared.Fault.{Fault}
use Rattle.memory.specs.declared.Bank.{Bank}
use Rattle.memory.specs.Layout.{ImageLayout, layout_of, packed}
use Rattle.memory.specs.Cells.{read_in}
use Rattle.read_laws.specs.Theorems.{AgreeOn}
use Rattle.targets.specs.Found.{found_to_run}
use Rattle.delivery.specs.declared.Answer.{Answer}
use Rattle.delivery.specs.declared.Answer.TheVariants.{Done}
use Rattle.operations.specs.Operations.{run_answer, run_memory, given_answer, given_memory, Request, request_answer, request_memory}
use Rattle.read_answers.specs.Answers.{found_cells, run_cells, request_cells}

-- what an operation with the answer a makes of the memories m and m'
pub record Leaves (L : ImageLayout) (a : Answer) (m m' after after' : List ℕ) : Type 0 where
  -- a cell that held one number in both does so afterwards, and so does a flag's byte
  pub cells : (b : Bank) (i : ℕ) → i < (layout_of b).elements → L.get m b i ≡ L.get m' b i → L.get after b i ≡ L.get after' b i
  pub flags : (f : Fault) → get_or m (L.flag f) 0 ≡ get_or m' (L.flag f) 0 → get_or after (L.flag f) 0 ≡ get_or after' (L.flag f) 0
  -- the cell that the answer names holds one number in both, and reads alike
  pub number : {v : Value} {n : ℕ} {b : Bank} {i : ℕ} → a ≡ Done v n b i → L.get after b i ≡ L.get after' b i
  pub read : {v : Value} {n : ℕ} {b : Bank} {i : ℕ} → a ≡ Done v n b i → read_in L after b i ≡ read_in L after' b i

pub record StoredTheorems : Type 0 where
  -- run
  pub ran : (tick : ℕ) (code : List ℕ) (n : ℕ) (target index : List ℕ) (k : ℕ) (m m' : List ℕ) → AgreeOn packed (run_cells code n target index k) m m'
      → Leaves packed (run_answer tick code n target index k m) m m' (run_memory tick code n target index k m) (run_memory tick code n target index k m')
  -- store
  pub given : (tick : ℕ) (v : Value) (target index : List ℕ) (k : ℕ) (m m' : List ℕ) → AgreeOn packed (found_cells index (found_to_run k target)) m m'
      → Leaves packed (given_answer tick v target index k m) m m' (given_memory tick v target index k m) (given_memory tick v target index k m')
  -- compile and run, for what it is asked
  pub stored : (tick : ℕ) (q : Request) (m m' : List ℕ) → AgreeOn packed (request_cells q) m m'
      → Leaves packed (request_answer tick m q) m m' (request_memory tick m q) (request_memory tick m' q)
