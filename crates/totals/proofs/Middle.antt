-- A run over cells seen from the middle, for the loops: what the cells so far made, from which the rest gives the whole.
use mathlib.Core.Path.{◌≡◌, refl, sym, ap, ◌∙◌}
use mathlib.Core.Bool.{Bool, true, false, cond}
use Prim.Native.Nat.{ℕ, zero, suc, ◌+◌, ◌-◌, ◌≤◌, ◌<◌}
use native.Mathlib.Omega.{arith}
use lib.Signed.{lt_z}
use lib.Ieee.{lt}
use Rattle.values.specs.declared.Value.{Value}
use Rattle.values.specs.declared.Value.TheVariants.{Int, Real}
use Rattle.values.specs.declared.Fault.{Fault}
use Rattle.values.specs.declared.ChoiceOp.{ChoiceOp}
use Rattle.values.specs.declared.ChoiceOp.TheVariants.{Max, Min}
use Rattle.values.specs.declared.Kind.{Kind}
use Rattle.values.specs.declared.Outcome.{Outcome}
use Rattle.values.specs.declared.Outcome.TheVariants.{Done, Stopped, WrongKind}
use Rattle.values.specs.Integers.{choice_int}
use Rattle.values.specs.Singles.{choice_real}
use Rattle.operators.specs.Operators.{choice_rule}
use Rattle.totals.specs.declared.Visited.{Visited}
use Rattle.totals.specs.Totals.{then, visiting, fold_cells, from_first, choosing}

-- what h makes of the value at the end, after k cells more
abbrev pub ending : (Value → Outcome) → ℕ → Visited → Visited
ending h k r = record { result = then r.result h; cells = k + r.cells }

pub ending-done : (r : Visited) → ending Done 0 r ≡ r
ending-done r = let z : 0 + r.cells ≡ r.cells = omega arith in rw (z, then-done r.result)
  where
    then-done : (o : Outcome) → then o Done ≡ o
    then-done (Done v) = refl
    then-done (Stopped f) = refl
    then-done WrongKind = refl

-- an outcome that is no value
pub data Ends : Outcome → Type 0 where
  stopped : (f : Fault) → Ends (Stopped f)
  wrong : Ends WrongKind

ending-none : (h : Value → Outcome) (k : ℕ) (r : Outcome) (g : Value → Visited) → Ends r → ending h k (visiting r g) ≡ record { result = r; cells = k + 1 }
ending-none h k r g (stopped f) = refl
ending-none h k r g wrong = refl

ends-then : (r : Outcome) (g : Value → Outcome) → Ends r → then r g ≡ r
ends-then r g (stopped f) = refl
ends-then r g wrong = refl

module _ (read : ℕ → Outcome) (f : Value → Value → Outcome) (h : Value → Outcome) (all : Visited) (i n : ℕ) where
  pub record Middle (v : Value) (k : ℕ) : Type 0 where
    pub rest : ending h k (fold_cells read f v (i + k) (n - k)) ≡ all

  pub middle-begin : (v : Value) → ending h 0 (fold_cells read f v i n) ≡ all → Middle v 0
  middle-begin v e = record { rest = let z : i + 0 ≡ i = omega arith in let y : n - 0 ≡ n = omega arith in rw (z, y) e }

  module _ {v : Value} {k : ℕ} (m : Middle v k) where
    -- the next cell
    next : k < n → all ≡ ending h k (visiting (then (read (i + k)) (f v)) (λ u. fold_cells read f u (suc (i + k)) (n - suc k)))
    unfolding fold_cells
    next l =
        let y : n - k ≡ suc (n - suc k) = omega arith in
        sym m.rest ∙ ap (λ (j : ℕ). ending h k (fold_cells read f v (i + k) j)) y

    -- it is read, and combined
    pub middle-on : k < n → (c u : Value) → read (i + k) ≡ Done c → f v c ≡ Done u → Middle u (k + 1)
    middle-on l c u q e =
        record {
          rest =
              let z : i + (k + 1) ≡ suc (i + k) = omega arith in
              let y : n - (k + 1) ≡ n - suc k = omega arith in
              rw (z, y)
              (ap (λ (j : ℕ). record { result = then (fold_cells read f u (suc (i + k)) (n - suc k)).result h; cells = j }) (omega arith)
              ∙ sym (next l ∙ ap (λ (r : Outcome). ending h k (visiting (then r (f v)) (λ w. fold_cells read f w (suc (i + k)) (n - suc k)))) q
              ∙ ap (λ (r : Outcome). ending h k (visiting r (λ w. fold_cells read f w (suc (i + k)) (n - suc k)))) e));
        }

    -- it is not combined, and the run ends there
    pub middle-stops : k < n → (r : Outcome) → then (read (i + k)) (f v) ≡ r → Ends r → record { result = r; cells = k + 1 } ≡ all
    middle-stops l r e s =
        sym (next l ∙ ap (λ (o : Outcome). ending h k (visiting o (λ u. fold_cells read f u (suc (i + k)) (n - suc k)))) e
        ∙ ending-none h k r (λ u. fold_cells read f u (suc (i + k)) (n - suc k)) s)

    -- it is not read
    pub middle-unread : k < n → (r : Outcome) → read (i + k) ≡ r → Ends r → record { result = r; cells = k + 1 } ≡ all
    middle-unread l r e s = middle-stops l r (ap (λ (o : Outcome). then o (f v)) e ∙ ends-then r (f v) s) s

    -- there is none
    pub middle-ends : n ≤ k → k ≤ n → record { result = h v; cells = n } ≡ all
    unfolding fold_cells
    middle-ends l g =
        let y : n - k ≡ 0 = omega arith in
        ap (λ (j : ℕ). record { result = h v; cells = j }) (omega arith) ∙ sym (ap (λ (j : ℕ). ending h k (fold_cells read f v (i + k) j)) y) ∙ m.rest

-- ---- from the first cell: chosen from itself it is itself, so that it can be taken like any other

choice-same : (o : ChoiceOp) (v : Value) → choice_rule o v v ≡ v
choice-same o (Int z) = ap Int (int o)
  where
    one : (b : Bool) → cond b z z ≡ z
    one true = refl
    one false = refl

    int : (o : ChoiceOp) → choice_int o z z ≡ z
    int Max = one (lt_z z z)
    int Min = one (lt_z z z)
choice-same o (Real x) = ap Real (real o)
  where
    one : (b : Bool) → cond b x x ≡ x
    one true = refl
    one false = refl

    real : (o : ChoiceOp) → choice_real o x x ≡ x
    real Max = one (lt x x)
    real Min = one (lt x x)

taken-first : (o : ChoiceOp) (a : Value) (r : Outcome) → ((c : Value) → r ≡ Done c → a ≡ c) → then r (choosing o a) ≡ r
taken-first o a (Done c) h = rw (h c refl) (ap Done (choice-same o c))
taken-first o a (Stopped f) h = refl
taken-first o a WrongKind h = refl

pub first-choice : (o : ChoiceOp) (a : Value) (k : Kind) (read : ℕ → Outcome) (i n : ℕ) → 1 ≤ n → ((c : Value) → read i ≡ Done c → a ≡ c)
    → fold_cells read (choosing o) a i n ≡ from_first k read (choosing o) i n
unfolding fold_cells
first-choice o a k read i zero l h = absurd (omega arith)
first-choice o a k read i (suc n) l h = ap (λ (r : Outcome). visiting r (λ c. fold_cells read (choosing o) c (suc i) n)) (taken-first o a (read i) h)
