-- What follows a value: each way is what the definitions say.
use Rattle.std.specs.Prelude.{Result, ⊤}
use mathlib.Core.Path.{◌≡◌, ap, ◌∙◌}
use mathlib.Core.Bool.{Bool, true, false, cond}
use mathlib.Core.List.{List}
use Prim.Native.Nat.{ℕ, ◌+◌, ◌≤◌}
use native.Mathlib.Nat.{add-zero}
use native.Mathlib.Omega.{arith}
use Rattle.values.specs.declared.Value.{Value}
use Rattle.values.specs.declared.Fault.{Fault as FaultName}
use Rattle.values.specs.declared.Fault.TheVariants.{OutOfRange}
use Rattle.memory.specs.declared.Bank.{Bank}
use Rattle.memory.specs.Store.{is_finite, with_flag, store_answer, store_image}
use Rattle.machine.specs.declared.Ran.{Ran}
use Rattle.machine.specs.Profile.{runs_in}
use Rattle.targets.specs.declared.Element.{Element}
use Rattle.targets.specs.declared.Element.TheVariants.{Is, By}
use Rattle.delivery.specs.declared.Answer.{Answer}
use Rattle.delivery.specs.declared.Answer.TheVariants.{Fault}
use Rattle.delivery.specs.Delivery.{Arrival, after_store, stored_answer, reached, arrived_answer, arrived_memory, follow_answer, follow_memory}
use Rattle.delivery.specs.Profile.{arrival_for}
use Rattle.delivery.specs.private.Bounds.{Few, none, some}

-- an infinity or a NaN is a fault before its place is looked for
module _ (m : List ℕ) (v : Value) (h : is_finite v ≡ false) where
  pub infinite-answer : (n : ℕ) (a : Arrival) → follow_answer m v n a ≡ Fault OutOfRange n
  infinite-answer n a = ap (λ t. cond t (arrived_answer m v (n + a.count) a.destination) (Fault OutOfRange n)) h

  pub infinite-memory : (a : Arrival) → follow_memory m v a ≡ with_flag m OutOfRange
  infinite-memory a = ap (λ t. cond t (arrived_memory m v a.destination) (with_flag m OutOfRange)) h

-- index code is short, where there is any
pub few-index : {e : Element} {k : ℕ} → Few e → e ≡ By k → k ≤ 2048
few-index none q = let z : ◌≡◌ {A = ℕ} 0 1 = cc in absurd (omega arith)
few-index {k = k} (some {k = j} h) q = let z : j ≡ k = cc in omega arith

-- the answer after a store
pub stores : (m : List ℕ) (b : Bank) (i : ℕ) (v : Value) (n : ℕ) {s : (Result ⊤ FaultName)} {r : Answer} {m' : List ℕ}
    → (s ≡ store_answer m b i v) × (m' ≡ store_image m b i v) → r ≡ after_store v n b i s → (r ≡ stored_answer m b i v n) × (m' ≡ store_image m b i v)
stores m b i v n w a = (a ∙ ap (after_store v n b i) w.0, w.1)

module _ (reals : Bool) (tick : ℕ) (index m : List ℕ) (b : Bank) (e : Element) (v : Value) (n : ℕ) where
  -- r and m' are what follows the value v that n instructions gave
  abbrev Follows : Answer → List ℕ → Type 0
  Follows r m' = (r ≡ follow_answer m v n (arrival_for reals tick index m b e)) × (m' ≡ follow_memory m v (arrival_for reals tick index m b e))

  pub to_cell : {i : ℕ} {r : Answer} {m' : List ℕ} → is_finite v ≡ true → e ≡ Is i → (r ≡ stored_answer m b i v n) × (m' ≡ store_image m b i v) → Follows r m'
  to_cell h q w = rw (h, q, add-zero n) w

  pub to-element : {k : ℕ} {x : Ran} {r : Answer} {m' : List ℕ} → is_finite v ≡ true → e ≡ By k → x ≡ runs_in reals tick index k m
      → (r ≡ arrived_answer m v (n + x.count) (reached b x.end)) × (m' ≡ arrived_memory m v (reached b x.end)) → Follows r m'
  to-element h q f w = rw (h, q, ← f) w

  pub by_index : {k : ℕ} {r : Answer} {m' : List ℕ} → e ≡ By k
      → (r ≡ follow_answer m v n (arrival_for reals tick index m b (By k))) × (m' ≡ follow_memory m v (arrival_for reals tick index m b (By k))) → Follows r m'
  by_index q w = rw q w
