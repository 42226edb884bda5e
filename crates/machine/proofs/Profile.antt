-- Runs with or without reals beside the full box's, and that without reals every value held is an integer.
use mathlib.Core.Path.{◌≡◌, refl, ap, ◌∙◌, subst}
use mathlib.Core.Logic.{◌⊎◌, inl, inr}
use mathlib.Core.Bool.{Bool, true, false, not, ◌||◌, cond, beq, true≢false}
use mathlib.Core.List.{List, [], ◌∷◌}
use Prim.Native.Nat.{ℕ, zero, suc, ◌≤◌}
use native.Mathlib.Omega.{arith}
use lib.Dec.{ltb}
use lib.IntN.{ℤ}
use lib.ListN.{length}
use Rattle.values.specs.declared.Kind.{Kind}
use Rattle.values.specs.declared.Kind.TheVariants as K
use Rattle.values.specs.declared.Value.{Value}
use Rattle.values.specs.declared.Value.TheVariants.{Int, Real}
use Rattle.values.specs.declared.Fault.{Fault}
use Rattle.values.specs.declared.Outcome.{Outcome}
use Rattle.operators.specs.declared.UnaryOp.{UnaryOp}
use Rattle.operators.specs.declared.UnaryOp.TheVariants as U
use Rattle.operators.specs.declared.BinaryOp.{BinaryOp}
use Rattle.operators.specs.declared.BinaryOp.TheVariants as B
use Rattle.operators.specs.Operators.{truth_rule, unary_rule, binary_rule}
use Rattle.operators.specs.Kinds.{is_int}
use Rattle.operators.specs.Reals.{real_value, real_unary}
use Rattle.operators.specs.Laws.{OfKind, done, stopped}
use Rattle.operators.proofs.Laws.{rule-laws}
use Rattle.memory.specs.declared.Bank.{Bank}
use Rattle.memory.specs.Cells.{bank_kind, real_bank}
use Rattle.memory.specs.Environment.{Environment, memory_at}
use Rattle.memory.proofs.Laws.{memory-laws}
use Rattle.totals.specs.declared.TotalOp.{TotalOp}
use Rattle.totals.specs.declared.TotalOp.TheVariants as T'
use Rattle.totals.specs.declared.MatchOp.{MatchOp}
use Rattle.totals.specs.declared.MatchOp.TheVariants as M'
use Rattle.totals.specs.Totals.{total_kind, match_kind, real_total}
use Rattle.totals.proofs.Laws.{total-laws}
use Rattle.code.specs.declared.Instr.{Instr}
use Rattle.code.specs.declared.Instr.TheVariants.{PushInt, PushReal, Load, LoadIndexed, Unary, Binary, Jump, JumpIf, Tick, Since, Total, Match, Unknown}
use Rattle.code.specs.Instructions.{instructions}
use Rattle.machine.specs.declared.Ended.{Ended}
use Rattle.machine.specs.declared.Ended.TheVariants.{Done, Stopped, Stuck}
use Rattle.machine.specs.declared.Ran.{Ran}
use Rattle.machine.specs.Machine.{max_height, Next, goes, halts, push_value, push_outcome, act, cost, finish, counting, exec, runs_at}
use Rattle.machine.specs.Profile.{barred, act_in, cost_in, exec_in, runs_in, ProfileRuns}
use Rattle.machine.proofs.Laws.{onward, cost-is}

module _ (reals : Bool) (E : Environment) where
  -- what an instruction that adds n leads to, with the code c after it
  abbrev pub onward-in : ℕ → List Instr → Next → Ran
  onward-in n c x = elim x as (λ x. Ran) [ goes k st ↦ counting n (exec_in reals E c k st) | halts e ↦ record { end = e; count = n } ]

  -- the run of an instruction that is not skipped
  pub next-in : (i : Instr) (c : List Instr) (st : List Value) → exec_in reals E (i ∷ c) 0 st ≡ onward-in (cost_in reals E i st) c (act_in reals E i st)
  unfolding exec_in
  next-in i c st = refl

-- ---- beside the full box's

full-after : (E : Environment) (n : ℕ) (c : List Instr) (x : Next) → ((k : ℕ) (st : List Value) → exec_in true E c k st ≡ exec E c k st)
    → onward-in true E n c x ≡ onward E n c x
full-after E n c (goes k st) h = ap (counting n) (h k st)
full-after E n c (halts e) h = refl

full-run : (E : Environment) (c : List Instr) (k : ℕ) (st : List Value) → exec_in true E c k st ≡ exec E c k st
unfolding exec exec_in
full-run E [] zero st = refl
full-run E [] (suc k) st = refl
full-run E (i ∷ c) (suc k) st = full-run E c k st
full-run E (i ∷ c) zero st = full-after E (cost E i st) c (act E i st) (full-run E c)

-- a is b, or stuck before
abbrev Beside : Ran → Ran → Type 0
Beside a b = (a ≡ b) ⊎ ((a.end ≡ Stuck) × (a.count ≤ b.count))

counting-beside : (n : ℕ) (a b : Ran) → Beside a b → Beside (counting n a) (counting n b)
counting-beside n a b (inl e) = inl (ap (counting n) e)
counting-beside n a b (inr h) = inr (h.0, omega (arith, h.1))

module _ (E : Environment) where
  beside-after : (n : ℕ) (c : List Instr) (x : Next) → ((k : ℕ) (st : List Value) → Beside (exec_in false E c k st) (exec E c k st))
      → Beside (onward-in false E n c x) (onward E n c x)
  beside-after n c (goes k st) h = counting-beside n (exec_in false E c k st) (exec E c k st) (h k st)
  beside-after n c (halts e) h = inl refl

  -- at least the instruction is counted
  one-counted : (n : ℕ) (c : List Instr) (x : Next) → 1 ≤ n → 1 ≤ (onward E n c x).count
  one-counted n c (goes k st) p = omega arith
  one-counted n c (halts e) p = p

  gated : (t : Bool) (n : ℕ) (c : List Instr) (x : Next) → 1 ≤ n → ((k : ℕ) (st : List Value) → Beside (exec_in false E c k st) (exec E c k st))
      → Beside (onward-in false E (cond t 1 n) c (cond t (halts Stuck) x)) (onward E n c x)
  gated true n c x p h = inr (refl, one-counted n c x p)
  gated false n c x p h = beside-after n c x h

  beside-run : (c : List Instr) (k : ℕ) (st : List Value) → Beside (exec_in false E c k st) (exec E c k st)
  unfolding exec exec_in
  beside-run [] zero st = inl refl
  beside-run [] (suc k) st = inl refl
  beside-run (i ∷ c) (suc k) st = beside-run c k st
  beside-run (i ∷ c) zero st = gated (barred i st) (cost E i st) c (act E i st) (omega (arith, cost-is E i st)) (beside-run c)

either-run : (reals : Bool) (E : Environment) (c : List Instr) (k : ℕ) (st : List Value) → Beside (exec_in reals E c k st) (exec E c k st)
either-run true E c k st = inl (full-run E c k st)
either-run false E c k st = beside-run E c k st

-- ---- integers held

data Ints : List Value → Type 0 where
  none : Ints []
  more : (z : ℤ) {st : List Value} → Ints st → Ints (Int z ∷ st)

data IntEnd : Ended → Type 0 where
  value : {v : Value} → real_value v ≡ false → IntEnd (Done v)
  fault : {f : Fault} → IntEnd (Stopped f)
  stuck : IntEnd Stuck

data IntNext : Next → Type 0 where
  on : {k : ℕ} {st : List Value} → Ints st → IntNext (goes k st)
  end : {e : Ended} → IntEnd e → IntNext (halts e)

module _ {st : List Value} (s : Ints st) where
  more-ints : (v : Value) → real_value v ≡ false → Ints (v ∷ st)
  more-ints (Int z) e = more z s
  more-ints (Real x) e = absurd (true≢false e)

  pushes : (v : Value) → real_value v ≡ false → IntNext (push_value v st)
  pushes v e = by (ltb (length st) max_height)
    where
      by : (b : Bool) → IntNext (cond b (goes 0 (v ∷ st)) (halts Stuck))
      by true = on (more-ints v e)
      by false = end stuck

  gives : (k : Kind) {o : Outcome} → not (is_int k) ≡ false → OfKind k o → IntNext (push_outcome o st)
  gives k e (done v h) = pushes v (ap (λ (j : Kind). not (is_int j)) h ∙ e)
  gives k e (stopped f) = end fault

  jumps : (b : Bool) (d : ℕ) → IntNext (cond b (goes d st) (goes 0 st))
  jumps true d = on s
  jumps false d = on s

first : (a b : Bool) → (a || b) ≡ false → a ≡ false
first true b e = e
first false b e = refl

second : (a b : Bool) → (a || b) ≡ false → b ≡ false
second true b e = absurd (true≢false e)
second false b e = e

unary-gives : (o : UnaryOp) (z : ℤ) {st : List Value} → Ints st → real_unary o ≡ false → IntNext (push_outcome (unary_rule o (Int z)) st)
unary-gives U.Neg z s e = gives s K.Int refl (rule-laws.unary-kind U.Neg (Int z) tt)
unary-gives U.Complement z s e = gives s K.Int refl (rule-laws.unary-kind U.Complement (Int z) tt)
unary-gives U.Not z s e = gives s K.Int refl (rule-laws.unary-kind U.Not (Int z) tt)
unary-gives U.Abs z s e = gives s K.Int refl (rule-laws.unary-kind U.Abs (Int z) tt)
unary-gives U.ToReal z s e = absurd (true≢false e)
unary-gives U.Trunc z s e = gives s K.Int refl (rule-laws.unary-kind U.Trunc (Int z) tt)
unary-gives U.Round z s e = gives s K.Int refl (rule-laws.unary-kind U.Round (Int z) tt)
unary-gives U.Frac z s e = absurd (true≢false e)

binary-gives : (o : BinaryOp) (i j : ℤ) {st : List Value} → Ints st → IntNext (push_outcome (binary_rule o (Int i) (Int j)) st)
binary-gives (B.Arith o) i j s = gives s K.Int refl (rule-laws.binary-kind (B.Arith o) (Int i) (Int j) tt)
binary-gives B.Power i j s = gives s K.Int refl (rule-laws.binary-kind B.Power (Int i) (Int j) tt)
binary-gives (B.Shift o) i j s = gives s K.Int refl (rule-laws.binary-kind (B.Shift o) (Int i) (Int j) tt)
binary-gives (B.Compare o) i j s = gives s K.Int refl (rule-laws.binary-kind (B.Compare o) (Int i) (Int j) tt)
binary-gives (B.Bits o) i j s = gives s K.Int refl (rule-laws.binary-kind (B.Bits o) (Int i) (Int j) tt)
binary-gives (B.Choice o) i j s = gives s K.Int refl (rule-laws.binary-kind (B.Choice o) (Int i) (Int j) tt)

total-int : (o : TotalOp) (b : Bank) → (real_bank b || (real_total o || false)) ≡ false → not (is_int (total_kind o b)) ≡ false
total-int T'.Sum b e = first (real_bank b) false e
total-int T'.Average b e = absurd (true≢false (second (real_bank b) true e))
total-int (T'.Choice o) b e = first (real_bank b) false e

match-int : (o : MatchOp) (b : Bank) → real_bank b ≡ false → not (is_int (match_kind o b)) ≡ false
match-int (M'.Count o) b e = refl
match-int (M'.Sum o) b e = e

module _ (t : ℕ) (m : List ℕ) where
  abbrev E : Environment
  E = memory_at t m

  acts : (i : Instr) {st : List Value} → Ints st → barred i st ≡ false → IntNext (act E i st)
  unfolding act
  acts (PushInt z) s e = pushes s (Int z) refl
  acts (PushReal x) s e = absurd (true≢false e)
  acts (Load b j) s e = gives s (bank_kind b) (first (real_bank b) false e) (memory-laws.read-kind m b j)
  acts (LoadIndexed b) none e = end stuck
  acts (LoadIndexed b) (more z s) e = gives s (bank_kind b) (first (real_bank b) false e) (memory-laws.indexed-kind m b (Int z))
  acts (Unary o) none e = end stuck
  acts (Unary o) (more z s) e = unary-gives o z s (first (real_unary o) false e)
  acts (Binary o) none e = end stuck
  acts (Binary o) (more j none) e = end stuck
  acts (Binary o) (more j (more i s)) e = binary-gives o i j s
  acts (Jump d) s e = on s
  acts (JumpIf b d) none e = end stuck
  acts (JumpIf b d) (more z s) e = jumps s (beq (truth_rule (Int z)) b) d
  acts Tick s e = pushes s (Int _) refl
  acts Since none e = end stuck
  acts Since (more z s) e = gives s K.Int refl (rule-laws.since-kind t (Int z) tt)
  acts (Total o b j n) s e = gives s (total_kind o b) (total-int o b e) (total-laws.total-kind E o b j n (λ k. memory-laws.read-kind m b k))
  acts (Match o b j n) none e = end stuck
  acts (Match o b j n) (more z s) e =
      gives s (match_kind o b) (match-int o b (first (real_bank b) false e)) (total-laws.match-kind E o (Int z) b j n (λ k. memory-laws.read-kind m b k))
  acts Unknown s e = end stuck

  ends : {st : List Value} → Ints st → IntEnd (finish st)
  ends none = stuck
  ends (more z none) = value refl
  ends (more z (more y s)) = stuck

  goes_on : (n : ℕ) (c : List Instr) (x : Next) → ((k : ℕ) (st : List Value) → Ints st → IntEnd (exec_in false E c k st).end) → IntNext x
      → IntEnd (onward-in false E n c x).end
  goes_on n c (goes k st) h (on s) = h k st s
  goes_on n c (halts _) h (end e) = e

  gated-on : (b : Bool) (n : ℕ) (c : List Instr) (x : Next) → ((k : ℕ) (st : List Value) → Ints st → IntEnd (exec_in false E c k st).end)
      → (b ≡ false → IntNext x) → IntEnd (onward-in false E (cond b 1 n) c (cond b (halts Stuck) x)).end
  gated-on true n c x h a = stuck
  gated-on false n c x h a = goes_on n c x h (a refl)

  ints-run : (c : List Instr) (k : ℕ) (st : List Value) → Ints st → IntEnd (exec_in false E c k st).end
  unfolding exec_in
  ints-run [] zero st s = ends s
  ints-run [] (suc k) st s = stuck
  ints-run (i ∷ c) (suc k) st s = ints-run c k st s
  ints-run (i ∷ c) zero st s = gated-on (barred i st) (cost E i st) c (act E i st) (ints-run c) (acts i s)

int-value : (v : Value) → IntEnd (Done v) → real_value v ≡ false
int-value v (value e) = e

-- the code's run with reals
pub with-reals : (t : ℕ) (code : List ℕ) (n : ℕ) (m : List ℕ) {r : Ran} → r ≡ runs_in true t code n m → r ≡ runs_at t code n m
with-reals t code n m e = e ∙ full-run (memory_at t m) (instructions code n) 0 []

pub profile-runs : ProfileRuns
profile-runs =
    record {
      full = full-run;
      either = either-run;
      integer = λ t code n m v e. int-value v (subst IntEnd e (ints-run t m (instructions code n) 0 [] none));
    }
