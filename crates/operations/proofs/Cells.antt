-- The cell that an answer of compile-and-run names is one of its bank: the store found it.
use Rattle.std.specs.Prelude.{Result, Ok, Err, ⊤}
use mathlib.Core.Path.{◌≡◌, refl}
use mathlib.Core.Bool.{Bool, true, false, ◌&&◌, cond, and-eq-true_iff}
use mathlib.Core.List.{List}
use Prim.Native.Nat.{ℕ, ◌+◌, ◌<◌}
use native.Mathlib.Omega.{arith}
use lib.Dec.{eqb, ltb}
use lib.ListN.{length}
use borrow.Author.Tests.{ltb-true}
use Rattle.values.specs.declared.Value.{Value}
use Rattle.values.specs.declared.Fault.{Fault as FaultName}
use Rattle.values.specs.declared.Fault.TheVariants.{OutOfRange, IndexError}
use Rattle.memory.specs.declared.Bank.{Bank}
use Rattle.memory.specs.Layout.{image_size, layout_of, has_cell}
use Rattle.memory.specs.Store.{is_finite, encode_cell, answer_of}
use Rattle.memory.specs.Environment.{memory_at}
use Rattle.grammar.specs.Eval.{eval}
use Rattle.machine.specs.declared.Ended.{Ended}
use Rattle.machine.specs.declared.Ended.TheVariants as Ended
use Rattle.machine.specs.Machine.{runs_at, end_of}
use Rattle.tree_code.specs.Code.{code_of}
use Rattle.delivery.specs.declared.Answer.{Answer}
use Rattle.delivery.specs.declared.Answer.TheVariants.{Done, Fault, Refused}
use Rattle.operations.specs.Operations.{Destination, cell, fault, lost, Arrival, arrival_of, after_store, arrived_answer, finished}
use Rattle.operations.specs.Operations.{Request, stores, stops, request_answer}

module _ {v : Value} {n : ℕ} {b : Bank} {i : ℕ} where
  no-fault : {f : FaultName} {k : ℕ} → Fault f k ≡ Done v n b i → ⊥
  no-fault e = let z : ◌≡◌ {A = ℕ} 0 1 = cc in omega arith

  no-refusal : {a p : ℕ} → Refused a p ≡ Done v n b i → ⊥
  no-refusal e = let z : ◌≡◌ {A = ℕ} 0 1 = cc in omega arith

  after_store_lem : (w : Value) (k : ℕ) (c : Bank) (j : ℕ) (s : (Result ⊤ FaultName)) → j < (layout_of c).elements → after_store w k c j s ≡ Done v n b i → i < (layout_of b).elements
  after_store_lem w k c j (Ok _) h e =
      let p : c ≡ b = cc in
      let q : j ≡ i = cc in
      rw (p, q) at h
  after_store_lem w k c j (Err f) h e = absurd (no-fault e)

  arrived : (m : List ℕ) (w : Value) (k : ℕ) (d : Destination) → arrived_answer m w k d ≡ Done v n b i → i < (layout_of b).elements
  arrived m w k (cell c j) e = by (has_cell m c j) refl e
    where
      by : (t : Bool) → has_cell m c j ≡ t → after_store w k c j (cond t (answer_of (encode_cell c w)) (Err IndexError)) ≡ Done v n b i
          → i < (layout_of b).elements
      by true q e = after_store_lem w k c j (answer_of (encode_cell c w)) (ltb-true j _ ((and-eq-true_iff (eqb (length m) image_size) _).0 q).1) e
      by false q e = absurd (no-fault e)
  arrived m w k (fault f) e = absurd (no-fault e)
  arrived m w k lost e = absurd (no-refusal e)

  ended : (m : List ℕ) (a : Arrival) (x : Ended) (k : ℕ) → finished m a x k ≡ Done v n b i → i < (layout_of b).elements
  ended m a (Ended.Done w) k e = by (is_finite w) e
    where
      by : (t : Bool) → cond t (arrived_answer m w (k + a.count) a.destination) (Fault OutOfRange k) ≡ Done v n b i → i < (layout_of b).elements
      by true e = arrived m w _ a.destination e
      by false e = absurd (no-fault e)
  ended m a (Ended.Stopped f) k e = absurd (no-fault e)
  ended m a Ended.Stuck k e = absurd (no-refusal e)

  pub done-inside : (tick : ℕ) (m : List ℕ) (q : Request) → request_answer tick m q ≡ Done v n b i → i < (layout_of b).elements
  done-inside tick m (stores g t code index) e =
      ended m (arrival_of tick index m g) (end_of (eval (memory_at tick m) t)) (runs_at tick code (length (code_of t)) m).count e
  done-inside tick m (stops a p) e = absurd (no-refusal e)
