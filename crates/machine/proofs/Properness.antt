-- Whatever bytes the code and the memory are, every value of a run is proper: an integer of 32 bits or a finite single. So are a decoded literal, a cell
-- that is read and what a rule makes of proper values.
use mathlib.Core.Path.{◌≡◌}
use mathlib.Core.Logic.{◌⊎◌, inl, inr}
use mathlib.Core.Bool.{Bool, true, false, cond, beq}
use mathlib.Core.List.{List, [], ◌∷◌}
use Prim.Native.Nat.{ℕ, zero, suc}
use lib.Dec.{ltb}
use lib.ListN.{length}
use Rattle.words.specs.Laws.{Bytes}
use Rattle.values.specs.declared.Value.{Value}
use Rattle.values.specs.declared.Fault.{Fault}
use Rattle.values.specs.declared.Outcome.{Outcome}
use Rattle.operators.specs.Operators.{truth_rule}
use Rattle.operators.specs.Laws.{Proper, int, real, AllProper, done, stopped, wrong}
use Rattle.operators.proofs.Laws.{rule-laws}
use Rattle.memory.specs.Environment.{memory_at}
use Rattle.memory.proofs.Laws.{memory-laws}
use Rattle.totals.proofs.Laws.{total-laws}
use Rattle.code.specs.declared.Instr.{Instr}
use Rattle.code.specs.declared.Instr.TheVariants.{Unknown}
use Rattle.code.specs.Instructions.{decode_at, decode_from}
use Rattle.code.specs.Encode.{Encodable, push-int, push-real, load, load-indexed, unary, binary, jump, jump-if, push-tick, since, total, matching}
use Rattle.code.proofs.Laws.{decode-encodable}
use Rattle.machine.specs.declared.Ended.{Ended}
use Rattle.machine.specs.declared.Ended.TheVariants.{Done, Stopped, Stuck}
use Rattle.machine.specs.Machine.{max_height, Next, goes, halts, push_value, push_outcome, act, cost, finish, exec, runs_at}
use Rattle.machine.proofs.Laws.{onward}

data AllHeld : List Value → Type 0 where
  none : AllHeld []
  more : {v : Value} {st : List Value} → Proper v → AllHeld st → AllHeld (v ∷ st)

pub data ProperEnd : Ended → Type 0 where
  value : {v : Value} → Proper v → ProperEnd (Done v)
  fault : {f : Fault} → ProperEnd (Stopped f)
  stuck : ProperEnd Stuck

data ProperNext : Next → Type 0 where
  on : {k : ℕ} {st : List Value} → AllHeld st → ProperNext (goes k st)
  end : {e : Ended} → ProperEnd e → ProperNext (halts e)

-- ---- one instruction

module _ {st : List Value} (held : AllHeld st) where
  pushes : {v : Value} → Proper v → ProperNext (push_value v st)
  pushes {v} p = by (ltb (length st) max_height)
    where
      by : (b : Bool) → ProperNext (cond b (goes 0 (v ∷ st)) (halts Stuck))
      by true = on (more p held)
      by false = end stuck

  gives : {o : Outcome} → AllProper o → ProperNext (push_outcome o st)
  gives (done v p) = pushes p
  gives (stopped f) = end fault
  gives wrong = end stuck

  jumps : (b : Bool) (d : ℕ) → ProperNext (cond b (goes d st) (goes 0 st))
  jumps true d = on held
  jumps false d = on held

module _ (tick : ℕ) (m : List ℕ) (bytes : Bytes m) where
  acts : {i : Instr} {st : List Value} → Encodable i → AllHeld st → ProperNext (act (memory_at tick m) i st)
  unfolding act
  acts (push-int z h) s = pushes s (int z h)
  acts (push-real x h) s = pushes s (real x h)
  acts (load b i h) s = gives s (memory-laws.read_proper m b i bytes)
  acts (load-indexed b) none = end stuck
  acts (load-indexed b) (more {v} p s) = gives s (memory-laws.indexed_proper m b v bytes)
  acts (unary o) none = end stuck
  acts (unary o) (more {v} p s) = gives s (rule-laws.unary_proper o v p)
  acts (binary o) none = end stuck
  acts (binary o) (more q none) = end stuck
  acts (binary o) (more {v = w} q (more {v = v} p s)) = gives s (rule-laws.binary_proper o v w p q)
  acts (jump d h) s = on s
  acts (jump-if t d h) none = end stuck
  acts (jump-if t d h) (more {v} p s) = jumps s (beq (truth_rule v) t) d
  acts push-tick s = pushes s (rule-laws.tick_proper tick)
  acts since none = end stuck
  acts since (more {v} p s) = gives s (rule-laws.since_proper tick v)
  acts (total o b i n g) s = gives s (total-laws.total_proper (memory_at tick m) o b i n g (λ j. memory-laws.read_proper m b j bytes))
  acts (matching o b i n g) none = end stuck
  acts (matching o b i n g) (more {v} p s) = gives s (total-laws.match_proper (memory_at tick m) o v b i n (λ j. memory-laws.read_proper m b j bytes))

  decoded : (i : Instr) {st : List Value} → Encodable i ⊎ (i ≡ Unknown) → AllHeld st → ProperNext (act (memory_at tick m) i st)
  decoded i (inl e) s = acts e s
  decoded i {st} (inr e) s = rw e unknown
    where
      unknown : ProperNext (act (memory_at tick m) Unknown st)
      unknown = unfold act in end stuck

  -- ---- a run

  goes_on : (n : ℕ) (c : List Instr) (x : Next) → ((k : ℕ) (st : List Value) → AllHeld st → ProperEnd (exec (memory_at tick m) c k st).end)
      → ProperNext x → ProperEnd (onward (memory_at tick m) n c x).end
  goes_on n c (goes k st) h (on s) = h k st s
  goes_on n c (halts _) h (end e) = e

  last : {st : List Value} → AllHeld st → ProperEnd (finish st)
  last none = stuck
  last (more p none) = value p
  last (more p (more q s)) = stuck

  from : (code : List ℕ) → Bytes code → (p n k : ℕ) (st : List Value) → AllHeld st → ProperEnd (exec (memory_at tick m) (decode_from code p n) k st).end
  unfolding exec decode_from
  from code b p zero zero st s = last s
  from code b p zero (suc k) st s = stuck
  from code b p (suc n) (suc k) st s = from code b (suc p) n k st s
  from code b p (suc n) zero st s =
      goes_on (cost (memory_at tick m) (decode_at code p) st) (decode_from code (suc p) n) (act (memory_at tick m) (decode_at code p) st) (from code b (suc p) n)
      (decoded (decode_at code p) (decode-encodable code p b) s)

pub runs-proper : (code : List ℕ) (n tick : ℕ) (m : List ℕ) → Bytes code → Bytes m → ProperEnd (runs_at tick code n m).end
runs-proper code n tick m b h = from tick m h code b 0 n 0 [] none
