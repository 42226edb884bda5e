-- Runs as reals: what the tally holds after one cell more.
use mathlib.Core.Path.{◌≡◌, refl, sym, ap, ◌∙◌}
use mathlib.Core.Bool.{Bool, true, false, not, false≢true}
use Prim.Native.Nat.{ℕ, ◌+◌, ◌≤◌, ◌<◌}
use native.Mathlib.Omega.{arith}
use lib.IntN.{pos}
use lib.Ieee.{Float, nan, inf, fin}
use lib.Ieee.Scale.{finite}
use borrow.Author.Tests.{le-leb}
use Rattle.reals.specs.declared.ArithOp.TheVariants.{Add, Div}
use Rattle.values.specs.declared.Kind.TheVariants as K
use Rattle.values.specs.declared.Value.{Value}
use Rattle.values.specs.declared.Value.TheVariants.{Int, Real}
use Rattle.values.specs.declared.Fault.TheVariants.{Overflow, OutOfRange, IndexError}
use Rattle.values.specs.declared.ChoiceOp.TheVariants.{Max, Min}
use Rattle.values.specs.declared.CompareOp.{CompareOp}
use Rattle.values.specs.declared.Outcome.{Outcome}
use Rattle.values.specs.declared.Outcome.TheVariants.{Done, Stopped}
use Rattle.values.specs.Values.{kind_of}
use Rattle.values.specs.Singles.{zero_real, settle, compare_real}
use Rattle.operators.specs.Operators.{as_real, arith_rule}
use Rattle.operators.specs.Laws.{OfKind, done}
use Rattle.totals.specs.declared.Step.{Step}
use Rattle.totals.specs.declared.Step.TheVariants as S
use Rattle.totals.specs.declared.tally.Tally.{Tally}
use Rattle.totals.specs.declared.Visited.{Visited}
use Rattle.totals.specs.Totals.{then, fold_cells, average}
use Rattle.totals.specs.private.Steps.{sum_step, match_step, step_rule, run_over}
use Rattle.totals.specs.private.Tally.{begun, stepped, first_real, reading}
use Rattle.totals.specs.private.Integers.{no_cells}
use Rattle.totals.proofs.Sums.{real-added}
use Rattle.totals.proofs.Middle.{Ends, Middle, ending, ending-done, middle-begin, middle-on, middle-stops, middle-unread, middle-ends, first-choice}

-- ---- what a run does with a tally

-- the IF forms take matching cells only
abbrev pub takes : Step → Float → Bool
takes S.Add x = true
takes S.Average x = true
takes (S.Choose o) x = true
takes (S.CountIf o v) x = compare_real o x (as_real v)
takes (S.AddIf o v) x = compare_real o x (as_real v)

-- whether the run is about the sum: the others go on past an infinite one
abbrev pub sums : Step → Bool
sums S.Add = true
sums S.Average = true
sums (S.Choose o) = false
sums (S.CountIf o v) = false
sums (S.AddIf o v) = true

-- what the cells so far made
abbrev pub held : Step → Tally → Value
held S.Add t = Real t.sum
held S.Average t = Real t.sum
held (S.Choose Max) t = Real t.greatest
held (S.Choose Min) t = Real t.least
held (S.CountIf o v) t = Int (pos t.count)
held (S.AddIf o v) t = Real t.sum

-- ---- a cell of a real bank

real-is : (v : Value) → kind_of v ≡ K.Real → Real (as_real v) ≡ v
real-is (Real x) e = refl
real-is (Int z) e = absurd (no-real e)
  where
    no-real : K.Int ≡ K.Real → ⊥
    no-real q = let z : ◌≡◌ {A = ℕ} 0 1 = cc in omega arith

pub real-done : {r : Outcome} (v : Value) → OfKind K.Real r → r ≡ Done v → Real (as_real v) ≡ v
real-done {r} v h e = go v (rw e at h)
  where
    go : (w : Value) → OfKind K.Real (Done w) → Real (as_real w) ≡ w
    go w (done _ q) = real-is w q

first-real : (r : Outcome) → OfKind K.Real r → (c : Value) → r ≡ Done c → Real (first_real r) ≡ c
first-real r h c e = ap (λ (o : Outcome). Real (first_real o)) e ∙ real-done c h e

-- ---- what a run makes of what is held at its end

abbrev pub finish : Step → ℕ → Value → Outcome
finish S.Add n v = Done v
finish S.Average n v = arith_rule Div v (Int (pos n))
finish (S.Choose o) n v = Done v
finish (S.CountIf o w) n v = Done v
finish (S.AddIf o w) n v = Done v

averaged : (n : ℕ) (r : Visited) → ending (λ v. arith_rule Div v (Int (pos n))) 0 r ≡ average n r
averaged n r = let z : 0 + r.cells ≡ r.cells = omega arith in rw z

pub begins : (s : Step) (read : ℕ → Outcome) (i n : ℕ) → 1 ≤ n → OfKind K.Real (read i)
    → ending (finish s n) 0 (fold_cells read (step_rule s) (held s (begun (first_real (read i)))) i n) ≡ run_over s K.Real read i n
unfolding run_over
begins S.Add read i n h k = ending-done _
begins S.Average read i n h k = averaged n (fold_cells read (arith_rule Add) (Real zero_real) i n)
begins (S.Choose Max) read i n h k = ending-done _ ∙ first-choice Max (Real (first_real (read i))) K.Real read i n h (first-real (read i) k)
begins (S.Choose Min) read i n h k = ending-done _ ∙ first-choice Min (Real (first_real (read i))) K.Real read i n h (first-real (read i) k)
begins (S.CountIf o v) read i n h k = ending-done _
begins (S.AddIf o v) read i n h k = ending-done _

-- the count is that of all cells where the run divides by it
pub finishes : (s : Step) (t : Tally) (n : ℕ) → (s ≡ S.Average → t.count ≡ n) → reading s t ≡ finish s n (held s t)
finishes S.Add t n h = refl
finishes S.Average t n h = rw (h refl)
finishes (S.Choose Max) t n h = refl
finishes (S.Choose Min) t n h = refl
finishes (S.CountIf o v) t n h = refl
finishes (S.AddIf o v) t n h = refl

-- ---- one cell more

-- a match compares it with the expression as a real, y
pub match-takes : (c : Bool) (o : CompareOp) (v : Value) (x y : Float) {r : Bool} → y ≡ as_real v → r ≡ compare_real o x y → takes (match_step c o v) x ≡ r
match-takes true o v x y q h = rw (← q, h)
match-takes false o v x y q h = rw (← q, h)

pub match-sums : {t : Bool} (c : Bool) (o : CompareOp) (v : Value) → c ≡ t → sums (match_step c o v) ≡ not t
match-sums true o v e = rw (sym e)
match-sums false o v e = rw (sym e)

pub sum-takes : (a : Bool) (x : Float) → takes (sum_step a) x ≡ true
sum-takes true x = refl
sum-takes false x = refl

pub sum-sums : (a : Bool) → sums (sum_step a) ≡ true
sum-sums true = refl
sum-sums false = refl

pub settled-finite : (y : Float) → finite y ≡ true → settle y ≡ Done (Real y)
settled-finite nan e = absurd (false≢true e)
settled-finite (inf s) e = absurd (false≢true e)
settled-finite (fin s m x) e = refl

pub settled-lost : (y : Float) → finite y ≡ false → Ends (settle y)
settled-lost nan e = Ends.stopped OutOfRange
settled-lost (inf s) e = Ends.stopped Overflow
settled-lost (fin s m x) e = absurd (false≢true (sym e))

counted : (a k : ℕ) → a + k < 2147483648 → arith_rule Add (Int (pos a)) (Int (pos k)) ≡ Done (Int (pos (a + k)))
counted a k h = rw (le-leb (a + k) 2147483647 (omega arith))

holds-sum : (s : Step) (t : Tally) → sums s ≡ true → held s t ≡ Real t.sum
holds-sum S.Add t g = refl
holds-sum S.Average t g = refl
holds-sum (S.Choose o) t g = absurd (false≢true g)
holds-sum (S.CountIf o v) t g = absurd (false≢true g)
holds-sum (S.AddIf o v) t g = refl

module _ (s : Step) (t : Tally) (x : Float) where
  pub adds : takes s x ≡ true → sums s ≡ true → step_rule s (held s t) (Real x) ≡ settle (stepped t x).sum
  adds e g = go s e g
    where
      go : (s : Step) → takes s x ≡ true → sums s ≡ true → step_rule s (held s t) (Real x) ≡ settle (stepped t x).sum
      go S.Add e g = real-added t.sum (Real x)
      go S.Average e g = real-added t.sum (Real x)
      go (S.Choose o) e g = absurd (false≢true g)
      go (S.CountIf o v) e g = absurd (false≢true g)
      go (S.AddIf o v) e g = rw e (real-added t.sum (Real x))

  pub goes_on : takes s x ≡ true → sums s ≡ false → t.count < 256 → step_rule s (held s t) (Real x) ≡ Done (held s (stepped t x))
  goes_on e g h = go s e g
    where
      go : (s : Step) → takes s x ≡ true → sums s ≡ false → step_rule s (held s t) (Real x) ≡ Done (held s (stepped t x))
      go S.Add e g = absurd (false≢true (sym g))
      go S.Average e g = absurd (false≢true (sym g))
      go (S.Choose Max) e g = refl
      go (S.Choose Min) e g = refl
      go (S.CountIf o v) e g = rw e (counted t.count 1 (omega arith))
      go (S.AddIf o v) e g = absurd (false≢true (sym g))

  pub passes : takes s x ≡ false → t.count ≤ 256 → step_rule s (held s t) (Real x) ≡ Done (held s t)
  passes e h = go s e
    where
      go : (s : Step) → takes s x ≡ false → step_rule s (held s t) (Real x) ≡ Done (held s t)
      go S.Add e = absurd (false≢true (sym e))
      go S.Average e = absurd (false≢true (sym e))
      go (S.Choose o) e = absurd (false≢true (sym e))
      go (S.CountIf o v) e = rw e (counted t.count 0 (omega arith) ∙ ap (λ (n : ℕ). Done (Int (pos n))) (omega arith))
      go (S.AddIf o v) e = rw e

-- ---- a cell is taken as a real

abbrev pub Alike : Step → (ℕ → Outcome) → Type 0
Alike s read = (t : Tally) (j : ℕ) (v : Value) → read j ≡ Done v → step_rule s (held s t) v ≡ step_rule s (held s t) (Real (as_real v))

pub of-reals : (s : Step) (read : ℕ → Outcome) → ((j : ℕ) → OfKind K.Real (read j)) → Alike s read
of-reals s read kind t j v q = ap (step_rule s (held s t)) (sym (real-done v (kind j) q))

pub of-any : (read : ℕ → Outcome) → Alike S.Average read
of-any read t j v q = real-added t.sum v ∙ sym (real-added t.sum (Real (as_real v)))

-- ---- a run seen from the middle: what is held is a field of the tally, which has counted the cells that it took

module _ (s : Step) (read : ℕ → Outcome) (all : Visited) (i n : ℕ) where
  pub record Tallied (t : Tally) (k : ℕ) : Type 0 where
    pub few : t.count ≤ k
    pub every : s ≡ S.Average → t.count ≡ k
    pub middle : Middle read (step_rule s) (finish s n) all i n (held s t) k

  pub tallied-begin : (x : Float) → ending (finish s n) 0 (fold_cells read (step_rule s) (held s (begun x)) i n) ≡ all → Tallied (begun x) 0
  tallied-begin x e = record { few = omega arith; every = λ q. refl; middle = middle-begin read (step_rule s) (finish s n) all i n (held s (begun x)) e }

  pub tallied-ends : {t : Tally} {k : ℕ} → Tallied t k → n ≤ k → k ≤ n → record { result = reading s t; cells = n } ≡ all
  tallied-ends {t} {k} w l g =
      ap (λ (r : Outcome). record { result = r; cells = n }) (finishes s t n (λ e. w.every e ∙ omega arith))
      ∙ middle-ends read (step_rule s) (finish s n) all i n w.middle l g

  pub tallied-unread : {t : Tally} {k : ℕ} → Tallied t k → k < n → (r : Outcome) → read (i + k) ≡ r → Ends r → record { result = r; cells = k + 1 } ≡ all
  tallied-unread w l r q e = middle-unread read (step_rule s) (finish s n) all i n w.middle l r q e

  -- a turn: the cell v is read, which is x as a real
  module _ (alike : Alike s read) {t : Tally} {k : ℕ} (w : Tallied t k) (l : k < n) (small : n ≤ 256) (v : Value) (q : read (i + k) ≡ Done v)
      (x : Float) (e : x ≡ as_real v) where
    as-x : step_rule s (held s t) v ≡ step_rule s (held s t) (Real x)
    as-x = rw e (alike t (i + k) v q)

    -- it is taken
    module _ (u : Tally) (d : u ≡ stepped t x) (g : takes s x ≡ true) where
      onward : step_rule s (held s t) (Real x) ≡ Done (held s u) → Tallied u (k + 1)
      onward h = record {
        few = rw d (omega (arith, w.few));
        every = λ a. rw d (ap (λ (m : ℕ). m + 1) (w.every a));
        middle = middle-on read (step_rule s) (finish s n) all i n w.middle l v (held s u) q (as-x ∙ h);
      }

      pub sum-on : sums s ≡ true → finite u.sum ≡ true → Tallied u (k + 1)
      sum-on a f =
          onward (adds s t x g a ∙ ap (λ (y : Tally). settle y.sum) (sym d) ∙ settled-finite u.sum f ∙ ap Done (sym (holds-sum s u a)))

      pub sum-lost : sums s ≡ true → finite u.sum ≡ false → record { result = settle u.sum; cells = k + 1 } ≡ all
      sum-lost a f =
          middle-stops read (step_rule s) (finish s n) all i n w.middle l (settle u.sum)
          (ap (λ (o : Outcome). then o (step_rule s (held s t))) q ∙ as-x ∙ adds s t x g a ∙ ap (λ (y : Tally). settle y.sum) (sym d))
          (settled-lost u.sum f)

      pub choice-on : sums s ≡ false → Tallied u (k + 1)
      choice-on a = onward (goes_on s t x g a (omega (arith, w.few)) ∙ ap (λ (y : Tally). Done (held s y)) (sym d))

    -- it is not
    pub passed_on : takes s x ≡ false → Tallied t (k + 1)
    passed_on g = record {
      few = omega (arith, w.few);
      every = λ a. absurd (averages-all a g);
      middle = middle-on read (step_rule s) (finish s n) all i n w.middle l v (held s t) q (as-x ∙ passes s t x g (omega (arith, w.few)));
    }
      where
        averages-all : s ≡ S.Average → takes s x ≡ false → ⊥
        averages-all a f = false≢true (sym f ∙ ap (λ (z : Step). takes z x) a)

-- ---- sums of every cell, from any first one

pub begins-sum : (a : Bool) (x : Float) (read : ℕ → Outcome) (i n : ℕ)
    → ending (finish (sum_step a) n) 0 (fold_cells read (step_rule (sum_step a)) (held (sum_step a) (begun x)) i n) ≡ run_over (sum_step a) K.Real read i n
unfolding run_over
begins-sum true x read i n = averaged n (fold_cells read (arith_rule Add) (Real zero_real) i n)
begins-sum false x read i n = ending-done _

-- where the first cell is not there
pub average-none : (read : ℕ → Outcome) (i n : ℕ) → 1 ≤ n → read (i + 0) ≡ Stopped IndexError → no_cells ≡ run_over S.Average K.Real read i n
average-none read i n l q =
    tallied-unread S.Average read (run_over S.Average K.Real read i n) i n
    (tallied-begin S.Average read (run_over S.Average K.Real read i n) i n zero_real (begins-sum true zero_real read i n)) (omega arith)
    (Stopped IndexError) q (Ends.stopped IndexError)

-- ---- matches, from any first cell

pub begins-match : (c : Bool) (o : CompareOp) (v : Value) (x : Float) (read : ℕ → Outcome) (i n : ℕ)
    → ending (finish (match_step c o v) n) 0 (fold_cells read (step_rule (match_step c o v)) (held (match_step c o v) (begun x)) i n)
    ≡ run_over (match_step c o v) K.Real read i n
unfolding run_over
begins-match true o v x read i n = ending-done _
begins-match false o v x read i n = ending-done _
