-- Where the value of a run, or a given one, goes, and what is answered and left in memory then. What is lent a memory is stated for an image of any layout;
-- contracts speak of the packed one.
use Rattle.std.specs.Prelude.{Bool, true, cond, List, [], ℕ, ◌+◌, eqb, length, Result, Ok, Err, ⊤}
use Rattle.std.specs.Float.Ieee as Ieee
use Rattle.std.specs.Float.{binary32}
use Rattle.values.specs.declared.Value.{Value}
use Rattle.values.specs.declared.Value.TheVariants.{Int, Real}
use Rattle.values.specs.declared.Fault.{Fault as FaultName}
use Rattle.values.specs.declared.Fault.TheVariants.{OutOfRange}
use Rattle.values.specs.Patterns.{low_bits, signed_of}
use Rattle.memory.specs.declared.Bank.{Bank}
use Rattle.memory.specs.Layout.{ImageLayout, packed}
use Rattle.memory.specs.Cells.{position_rule}
use Rattle.memory.specs.Store.{is_finite, with_flag_in, store_in, store_answer_in}
use Rattle.memory.specs.Environment.{Environment, memory_in}
use Rattle.grammar.specs.Eval.{eval}
use Rattle.text.specs.Targets.{Target, to_cell, to_indexed, no_target}
use Rattle.code.specs.Instructions.{instructions}
use Rattle.machine.specs.declared.Ended.{Ended}
use Rattle.machine.specs.declared.Ended.TheVariants as Ended
use Rattle.machine.specs.declared.Ran.{Ran}
use Rattle.machine.specs.Machine.{exec, end_of}
use Rattle.verifier.specs.Verdicts.{is_accepted, verdict}
use Rattle.tree_code.specs.Code.{code_of}
use Rattle.targets.specs.declared.Element.{Element}
use Rattle.targets.specs.declared.Element.TheVariants.{Is, By}
use Rattle.delivery.specs.declared.Answer.{Answer}
use Rattle.delivery.specs.declared.Answer.TheVariants.{Done, Fault, Refused}

-- a cell, or the first fault met in finding out; accepted code is never stuck, so no value is lost
pub data Destination : Type 0 where
  cell : Bank → ℕ → Destination
  fault : FaultName → Destination
  lost : Destination

-- the element of the bank that a value names, by the rule of a formula's own indexes
abbrev pub at_element : Bank → Result ℕ FaultName → Destination
at_element b (Ok i) = cell b i
at_element b (Err f) = fault f

abbrev pub reached : Bank → Ended → Destination
reached b (Ended.Done v) = at_element b (position_rule b v)
reached b (Ended.Stopped f) = fault f
reached b Ended.Stuck = lost

-- by the rules, for the index's tree
abbrev pub destination_of : Environment → Target → Destination
destination_of E (to_cell b i) = cell b i
destination_of E (to_indexed b t) = reached b (end_of (eval E t))
destination_of E no_target = lost

-- with what the index counted on the way: its instructions begun and the cells that they visited
pub record Arrival : Type 0 where
  pub destination : Destination
  pub count : ℕ

-- "0 returns the value before the store"; "where it faults (13), the count is of all instructions executed"
abbrev pub after_store : Value → ℕ → Bank → ℕ → Result ⊤ FaultName → Answer
after_store v n b i (Ok _) = Done v n b i
after_store v n b i (Err f) = Fault f n

-- "the index code, checked like the other; a plain cell has none"
abbrev pub index_passes : List ℕ → Element → Bool
index_passes index (Is i) = true
index_passes index (By k) = is_accepted (verdict (instructions index k))

-- a value as a kind, 0 integer or 1 real, and its pattern of 32 bits
abbrev pub kind_word : Value → ℕ
kind_word (Int z) = 0
kind_word (Real x) = 1

abbrev pub bits_of : Value → ℕ
bits_of (Int z) = low_bits 32 z
bits_of (Real x) = Ieee.to_bits binary32 x

-- and back: any kind but 0 is a real
abbrev pub given_value : ℕ → ℕ → Value
given_value kind bits = cond (eqb kind 0) (Int (signed_of 32 bits)) (Real (Ieee.of_bits binary32 bits))

-- ---- on an image of any layout
module _ (F : ImageLayout) where
  -- the first n instructions of the code at the tick t, from no values held
  abbrev pub runs_in : ℕ → List ℕ → ℕ → List ℕ → Ran
  runs_in t code n m = exec (memory_in F t m) (instructions code n) 0 []

  -- ---- where a value goes

  -- for a run: the plain cell, or what the index code gives at this tick, on the memory before the store
  abbrev pub arrival_in : ℕ → List ℕ → List ℕ → Bank → Element → Arrival
  arrival_in tick index m b (Is i) = record { destination = cell b i; count = 0 }
  arrival_in tick index m b (By k) = record { destination = reached b (runs_in tick index k m).end; count = (runs_in tick index k m).count }

  -- for compile-and-run: as the rules say; the count is that of the index's code
  abbrev pub index_begun_in : ℕ → List ℕ → List ℕ → Target → ℕ
  index_begun_in tick index m (to_cell b i) = 0
  index_begun_in tick index m (to_indexed b t) = (runs_in tick index (length (code_of t)) m).count
  index_begun_in tick index m no_target = 0

  abbrev pub arrival_of_in : ℕ → List ℕ → List ℕ → Target → Arrival
  arrival_of_in tick index m t = record { destination = destination_of (memory_in F tick m) t; count = index_begun_in tick index m t }

  -- ---- what follows a value: 13 if it is infinite or NaN, then the index, then the store

  abbrev pub stored_answer_in : List ℕ → Bank → ℕ → Value → ℕ → Answer
  stored_answer_in m b i v n = after_store v n b i (store_answer_in F m b i v)

  abbrev pub arrived_answer_in : List ℕ → Value → ℕ → Destination → Answer
  arrived_answer_in m v n (cell b i) = stored_answer_in m b i v n
  arrived_answer_in m v n (fault f) = Fault f n
  arrived_answer_in m v n lost = Refused 15 0

  abbrev pub arrived_memory_in : List ℕ → Value → Destination → List ℕ
  arrived_memory_in m v (cell b i) = store_in F m b i v
  arrived_memory_in m v (fault f) = with_flag_in F m f
  arrived_memory_in m v lost = m

  -- "storing a real that is infinite or NaN, into any target, is 13, before the index is worked out"; "The two counts are added."
  abbrev pub follow_answer_in : List ℕ → Value → ℕ → Arrival → Answer
  follow_answer_in m v n a = cond (is_finite v) (arrived_answer_in m v (n + a.count) a.destination) (Fault OutOfRange n)

  abbrev pub follow_memory_in : List ℕ → Value → Arrival → List ℕ
  follow_memory_in m v a = cond (is_finite v) (arrived_memory_in m v a.destination) (with_flag_in F m OutOfRange)

  -- ---- run: "The value is worked out first, then the index, then the store."

  -- "11 to 14 set their flag's byte to 1 and change nothing else in memory"
  abbrev pub finished_in : List ℕ → Arrival → Ended → ℕ → Answer
  finished_in m a (Ended.Done v) n = follow_answer_in m v n a
  finished_in m a (Ended.Stopped f) n = Fault f n
  finished_in m a Ended.Stuck n = Refused 15 0

  abbrev pub memory_after_in : List ℕ → Arrival → Ended → List ℕ
  memory_after_in m a (Ended.Done v) = follow_memory_in m v a
  memory_after_in m a (Ended.Stopped f) = with_flag_in F m f
  memory_after_in m a Ended.Stuck = m

-- ---- on the box's image

abbrev pub arrival : ℕ → List ℕ → List ℕ → Bank → Element → Arrival
arrival = arrival_in packed

abbrev pub index_begun : ℕ → List ℕ → List ℕ → Target → ℕ
index_begun = index_begun_in packed

abbrev pub arrival_of : ℕ → List ℕ → List ℕ → Target → Arrival
arrival_of = arrival_of_in packed

abbrev pub stored_answer : List ℕ → Bank → ℕ → Value → ℕ → Answer
stored_answer = stored_answer_in packed

abbrev pub arrived_answer : List ℕ → Value → ℕ → Destination → Answer
arrived_answer = arrived_answer_in packed

abbrev pub arrived_memory : List ℕ → Value → Destination → List ℕ
arrived_memory = arrived_memory_in packed

abbrev pub follow_answer : List ℕ → Value → ℕ → Arrival → Answer
follow_answer = follow_answer_in packed

abbrev pub follow_memory : List ℕ → Value → Arrival → List ℕ
follow_memory = follow_memory_in packed

abbrev pub finished : List ℕ → Arrival → Ended → ℕ → Answer
finished = finished_in packed

abbrev pub memory_after : List ℕ → Arrival → Ended → List ℕ
memory_after = memory_after_in packed
