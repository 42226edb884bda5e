-- What holds of a fold over cells, whatever it combines: what it keeps, how many cells it begins, and what it reads.
use mathlib.Core.Path.{◌≡◌, refl, ap, ◌∙◌}
use Prim.Native.Nat.{ℕ, zero, suc, ◌+◌, ◌≤◌, ◌<◌}
use native.Mathlib.Omega.{arith}
use Rattle.values.specs.declared.Kind.{Kind}
use Rattle.values.specs.declared.Value.{Value}
use Rattle.values.specs.declared.Fault.{Fault}
use Rattle.values.specs.declared.Outcome.{Outcome}
use Rattle.values.specs.declared.Outcome.TheVariants.{Done, Stopped, WrongKind}
use Rattle.totals.specs.declared.Visited.{Visited}
use Rattle.totals.specs.Totals.{then, visiting, fold_cells, zero_of, from_first}

-- ---- what is kept: a value with S, or a fault, or, if W holds, the outcome of a wrong kind

pub data Gets (W : Type 0) (S : Value → Type 0) : Outcome → Type 0 where
  done : {v : Value} → S v → Gets W S (Done v)
  stopped : {f : Fault} → Gets W S (Stopped f)
  wrong : W → Gets W S WrongKind

module _ {W : Type 0} {S U : Value → Type 0} where
  pub then-gets : {r : Outcome} (k : Value → Outcome) → Gets W S r → ((v : Value) → S v → Gets W U (k v)) → Gets W U (then r k)
  then-gets k (done {v} s) h = h v s
  then-gets k stopped h = stopped
  then-gets k (wrong w) h = wrong w

  visiting-gets : {r : Outcome} (k : Value → Visited) → Gets W S r → ((v : Value) → S v → Gets W U (k v).result) → Gets W U (visiting r k).result
  visiting-gets k (done {v} s) h = h v s
  visiting-gets k stopped h = stopped
  visiting-gets k (wrong w) h = wrong w

module _ {W : Type 0} {S C : Value → Type 0} (read : ℕ → Outcome) (f : Value → Value → Outcome)
    (cell : (j : ℕ) → Gets W C (read j)) (keeps : (a c : Value) → S a → C c → Gets W S (f a c)) where
  pub fold-gets : (a : Value) (i n : ℕ) → S a → Gets W S (fold_cells read f a i n).result
  unfolding fold_cells
  fold-gets a i zero s = done s
  fold-gets a i (suc n) s =
      visiting-gets (λ v. fold_cells read f v (suc i) n) (then-gets (f a) (cell i) (λ c. keeps a c s)) (λ v t. fold-gets v (suc i) n t)

module _ {W : Type 0} {S : Value → Type 0} (read : ℕ → Outcome) (f : Value → Value → Outcome)
    (cell : (j : ℕ) → Gets W S (read j)) (keeps : (a c : Value) → S a → S c → Gets W S (f a c)) where
  pub first-gets : (k : Kind) (i n : ℕ) → S (zero_of k) → Gets W S (from_first k read f i n).result
  first-gets k i zero s = done s
  first-gets k i (suc n) s = visiting-gets (λ c. fold_cells read f c (suc i) n) (cell i) (λ c t. fold-gets read f cell keeps c (suc i) n t)

-- ---- the cells begun

visiting-cells : (r : Outcome) (k : Value → Visited) (n : ℕ) → ((v : Value) → (k v).cells ≤ n) → (visiting r k).cells ≤ suc n
visiting-cells (Done v) k n h = omega (arith, h v)
visiting-cells (Stopped f) k n h = omega arith
visiting-cells WrongKind k n h = omega arith

module _ (read : ℕ → Outcome) (f : Value → Value → Outcome) where
  pub fold-cells : (a : Value) (i n : ℕ) → (fold_cells read f a i n).cells ≤ n
  unfolding fold_cells
  fold-cells a i zero = omega arith
  fold-cells a i (suc n) = visiting-cells (then (read i) (f a)) (λ v. fold_cells read f v (suc i) n) n (λ v. fold-cells v (suc i) n)

  pub first-cells : (k : Kind) (i n : ℕ) → (from_first k read f i n).cells ≤ n
  first-cells k i zero = omega arith
  first-cells k i (suc n) = visiting-cells (read i) (λ c. fold_cells read f c (suc i) n) n (λ c. fold-cells c (suc i) n)

-- ---- nothing is read but the cells of the run

visiting-same : (r : Outcome) (k l : Value → Visited) → ((v : Value) → k v ≡ l v) → visiting r k ≡ visiting r l
visiting-same (Done v) k l h = ap (λ (x : Visited). record { result = x.result; cells = suc x.cells }) (h v)
visiting-same (Stopped f) k l h = refl
visiting-same WrongKind k l h = refl

module _ (read other : ℕ → Outcome) (f : Value → Value → Outcome) where
  pub fold_same : (a : Value) (i n : ℕ) → ((k : ℕ) → i ≤ k → k < i + n → read k ≡ other k) → fold_cells read f a i n ≡ fold_cells other f a i n
  unfolding fold_cells
  fold_same a i zero h = refl
  fold_same a i (suc n) h =
      ap (λ (r : Outcome). visiting (then r (f a)) (λ v. fold_cells read f v (suc i) n)) (h i (omega arith) (omega arith))
      ∙ visiting-same (then (other i) (f a)) (λ v. fold_cells read f v (suc i) n) (λ v. fold_cells other f v (suc i) n)
      (λ v. fold_same v (suc i) n (λ k l g. h k (omega arith) (omega arith)))

  pub first-same : (m : Kind) (i n : ℕ) → ((k : ℕ) → i ≤ k → k < i + n → read k ≡ other k) → from_first m read f i n ≡ from_first m other f i n
  first-same m i zero h = refl
  first-same m i (suc n) h =
      ap (λ (r : Outcome). visiting r (λ c. fold_cells read f c (suc i) n)) (h i (omega arith) (omega arith))
      ∙ visiting-same (other i) (λ c. fold_cells read f c (suc i) n) (λ c. fold_cells other f c (suc i) n)
      (λ c. fold_same c (suc i) n (λ k l g. h k (omega arith) (omega arith)))
