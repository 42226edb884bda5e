-- Non-interference: by induction on the tree and on the code, over what an environment is asked for.
use Rattle.std.specs.Prelude.{Result, Ok, Err}
use mathlib.Core.Path.{◌≡◌, refl, sym, ap, ◌∙◌}
use mathlib.Core.Bool.{Bool, true, false, ◌||◌, cond}
use mathlib.Core.List.{List, [], ◌∷◌}
use Prim.Native.Nat.{ℕ, zero, suc, ◌+◌, ◌≤◌, ◌<◌}
use native.Mathlib.Omega.{arith}
use lib.Dec.{eqb, ltb, leb}
use borrow.Author.Tests.{eq-eqb, lt-ltb, le-leb}
use Rattle.values.specs.declared.Value.{Value}
use Rattle.values.specs.declared.Value.TheVariants.{Int}
use Rattle.values.specs.declared.Outcome.{Outcome}
use Rattle.values.specs.declared.Outcome.TheVariants as Outcome
use Rattle.values.specs.Patterns.{signed_of}
use Rattle.operators.specs.Operators.{since_rule, truth_rule, branch_rule}
use Rattle.memory.specs.declared.Bank.{Bank}
use Rattle.memory.specs.Cells.{position_rule, at_position}
use Rattle.memory.specs.Environment.{Environment, indexed_cell}
use Rattle.totals.specs.declared.Visited.{Visited}
use Rattle.totals.specs.Totals.{then, total_over, match_over, span_of}
use Rattle.totals.specs.Laws.{SameCells}
use Rattle.totals.proofs.Laws.{total-laws}
use Rattle.grammar.specs.Tree.{Tree, literal, cell, indexed, unary, binary, logic, choice, tick, since, total, matching, tree_kind}
use Rattle.grammar.specs.Eval.{eval, short_circuit}
use Rattle.code.specs.declared.Instr.{Instr}
use Rattle.code.specs.declared.Instr.TheVariants.{PushInt, PushReal, Load, LoadIndexed, Unary, Binary, Jump, JumpIf, Tick, Since, Total, Match, Unknown}
use Rattle.machine.specs.declared.Ran.{Ran}
use Rattle.machine.specs.Machine.{Next, goes, halts, push_value, push_outcome, act, cells_begun, cost, exec, counting}
use Rattle.read_set.specs.Cells.{Cells, nothing, one_cell, cell_range, whole_bank, union, instr_cells, code_cells}
use Rattle.read_set.proofs.Intervals.{bank-same}
use Rattle.read_laws.specs.Formulas.{tree_cells}
use Rattle.read_laws.specs.Theorems.{AlikeOn}
use Rattle.values.specs.declared.Fault.{Fault}

-- ---- sets
pub or_left : (a b : Bool) → a ≡ true → (a || b) ≡ true
or_left true b e = refl
or_left false b e = let z : ◌≡◌ {A = ℕ} 0 1 = cc in absurd (omega arith)

or_right : (a b : Bool) → b ≡ true → (a || b) ≡ true
or_right true b e = refl
or_right false b e = e

pub cell_same : (b : Bank) (i : ℕ) → one_cell b i b i ≡ true
cell_same b i = rw (bank-same b) (eq-eqb i i refl)

range_same : (b : Bank) (i n k : ℕ) → i ≤ k → k < i + n → cell_range b i n b k ≡ true
range_same b i n k l h = rw (bank-same b, le-leb i k l, lt-ltb k (i + n) h)

module _ {E F : Environment} where
  narrow : {f g : Cells} → ((b : Bank) (i : ℕ) → g b i ≡ true → f b i ≡ true) → AlikeOn f E F → AlikeOn g E F
  narrow h a = record { cells = λ b i e. a.cells b i (h b i e); tick = a.tick }

  pub first : (f g : Cells) → AlikeOn (union f g) E F → AlikeOn f E F
  first f g a = narrow (λ b i e. or_left (f b i) (g b i) e) a

  pub second : (f g : Cells) → AlikeOn (union f g) E F → AlikeOn g E F
  second f g a = narrow (λ b i e. or_right (f b i) (g b i) e) a

  -- an index may name any element of its bank
  at-any : (b : Bank) (p : (Result ℕ Fault)) → AlikeOn (whole_bank b) E F → at_position (E.cell b) p ≡ at_position (F.cell b) p
  at-any b (Ok i) a = a.cells b i (bank-same b)
  at-any b (Err f) a = refl

  indexed-alike : (b : Bank) (v : Value) → AlikeOn (whole_bank b) E F → indexed_cell E b v ≡ indexed_cell F b v
  indexed-alike b v a = at-any b (position_rule b v) a

  -- a total goes over the cells of its range
  run-alike : (b : Bank) (i n : ℕ) → AlikeOn (cell_range b i n) E F → SameCells E F b i n
  run-alike b i n a = λ k l h. a.cells b k (range_same b i n k l h)

-- ---- trees
then_same : (o : Outcome) (k l : Value → Outcome) → ((v : Value) → k v ≡ l v) → then o k ≡ then o l
then_same (Outcome.Done v) k l h = h v
then_same (Outcome.Stopped f) k l h = refl
then_same Outcome.WrongKind k l h = refl

-- the first outcome and what follows it
both : {o o' : Outcome} {k l : Value → Outcome} → o ≡ o' → ((v : Value) → k v ≡ l v) → then o k ≡ then o' l
both {o} {o'} {k} {l} e h = ap (λ (x : Outcome). then x k) e ∙ then_same o' k l h

abbrev chosen : Tree → Tree → Value → Outcome → Outcome → Outcome
unfolding tree_kind
chosen t u v x y =
    cond (truth_rule v) (then x (λ w. Outcome.Done (branch_rule w (tree_kind u)))) (then y (λ w. Outcome.Done (branch_rule w (tree_kind t))))

module _ {E F : Environment} where
  pub values : (t : Tree) → AlikeOn (tree_cells t) E F → eval E t ≡ eval F t
  unfolding eval tree_cells
  values (literal p v) a = refl
  values (cell b i) a = a.cells b i (cell_same b i)
  values (indexed b t) a =
      both (values t (first (tree_cells t) (whole_bank b) a)) (λ v. indexed-alike b v (second (tree_cells t) (whole_bank b) a))
  values (unary p o t) a = both (values t a) (λ v. refl)
  values (binary p o t u) a =
      both (values t (first (tree_cells t) (tree_cells u) a)) (λ v. both (values u (second (tree_cells t) (tree_cells u) a)) (λ w. refl))
  values (logic p d t u) a =
      both (values t (first (tree_cells t) (tree_cells u) a))
      (λ v. ap (λ (r : Outcome). short_circuit d (truth_rule v) r) (values u (second (tree_cells t) (tree_cells u) a)))
  values (choice p c t u) a =
      let branches : AlikeOn (union (tree_cells t) (tree_cells u)) E F = second (tree_cells c) (union (tree_cells t) (tree_cells u)) a in
      let one = values t (first (tree_cells t) (tree_cells u) branches) in
      let other = values u (second (tree_cells t) (tree_cells u) branches) in
      both (values c (first (tree_cells c) (union (tree_cells t) (tree_cells u)) a))
      (λ v. ap (λ (x : Outcome). chosen t u v x (eval E u)) one ∙ ap (λ (y : Outcome). chosen t u v (eval F t) y) other)
  values tick a = ap (λ (t : ℕ). Outcome.Done (Int (signed_of 32 t))) a.tick
  values (since p t) a = both (values t a) (λ v. ap (λ (n : ℕ). since_rule n v) a.tick)
  values (total p o b i n) a = ap (λ (r : Visited). r.result) (total-laws.total_same E F o b i (span_of b i n) (run-alike b i (span_of b i n) a))
  values (matching p o t b i n) a =
      let run = run-alike b i (span_of b i n) (second (tree_cells t) (cell_range b i (span_of b i n)) a) in
      both (values t (first (tree_cells t) (cell_range b i (span_of b i n)) a))
      (λ v. ap (λ (r : Visited). r.result) (total-laws.match_same E F o v b i (span_of b i n) run))

-- ---- code
module _ {E F : Environment} where
  acts : (i : Instr) (st : List Value) → AlikeOn (instr_cells i) E F → act E i st ≡ act F i st
  unfolding act
  acts (PushInt z) st a = refl
  acts (PushReal x) st a = refl
  acts (Load b i) st a = ap (λ (o : Outcome). push_outcome o st) (a.cells b i (cell_same b i))
  acts (LoadIndexed b) [] a = refl
  acts (LoadIndexed b) (v ∷ st) a = ap (λ (o : Outcome). push_outcome o st) (indexed-alike b v a)
  acts (Unary o) [] a = refl
  acts (Unary o) (v ∷ st) a = refl
  acts (Binary o) [] a = refl
  acts (Binary o) (w ∷ []) a = refl
  acts (Binary o) (w ∷ (v ∷ st)) a = refl
  acts (Jump d) st a = refl
  acts (JumpIf t d) [] a = refl
  acts (JumpIf t d) (v ∷ st) a = refl
  acts Tick st a = ap (λ (t : ℕ). push_value (Int (signed_of 32 t)) st) a.tick
  acts Since [] a = refl
  acts Since (v ∷ st) a = ap (λ (t : ℕ). push_outcome (since_rule t v) st) a.tick
  acts (Total o b i n) st a = ap (λ (r : Visited). push_outcome r.result st) (total-laws.total_same E F o b i n (run-alike b i n a))
  acts (Match o b i n) [] a = refl
  acts (Match o b i n) (v ∷ st) a = ap (λ (r : Visited). push_outcome r.result st) (total-laws.match_same E F o v b i n (run-alike b i n a))
  acts Unknown st a = refl

  begun : (i : Instr) (st : List Value) → AlikeOn (instr_cells i) E F → cells_begun E i st ≡ cells_begun F i st
  begun (PushInt z) st a = refl
  begun (PushReal x) st a = refl
  begun (Load b i) st a = refl
  begun (LoadIndexed b) st a = refl
  begun (Unary o) st a = refl
  begun (Binary o) st a = refl
  begun (Jump d) st a = refl
  begun (JumpIf t d) st a = refl
  begun Tick st a = refl
  begun Since st a = refl
  begun (Total o b i n) st a = ap (λ (r : Visited). r.cells) (total-laws.total_same E F o b i n (run-alike b i n a))
  begun (Match o b i n) [] a = refl
  begun (Match o b i n) (v ∷ st) a = ap (λ (r : Visited). r.cells) (total-laws.match_same E F o v b i n (run-alike b i n a))
  begun Unknown st a = refl

  costs : (i : Instr) (st : List Value) → AlikeOn (instr_cells i) E F → cost E i st ≡ cost F i st
  unfolding cost
  costs i st a = ap suc (begun i st a)

abbrev after : Environment → List Instr → ℕ → Next → Ran
after E c n (goes k st) = counting n (exec E c k st)
after E c n (halts e) = record { end = e; count = n }

steps : (E : Environment) (i : Instr) (c : List Instr) (st : List Value) → exec E (i ∷ c) zero st ≡ after E c (cost E i st) (act E i st)
unfolding exec
steps E i c st = by (act E i st) refl
  where
    by : (n : Next) → act E i st ≡ n → exec E (i ∷ c) zero st ≡ after E c (cost E i st) n
    by (goes k st') e = rw (e, exec)
    by (halts x) e = rw (e, exec)

module _ (E F : Environment) where
  after_same : (c : List Instr) (n : ℕ) (x : Next) → ((k : ℕ) (st : List Value) → exec E c k st ≡ exec F c k st) → after E c n x ≡ after F c n x
  after_same c n (goes k st) h = ap (counting n) (h k st)
  after_same c n (halts e) h = refl

  pub runs_same : (c : List Instr) (k : ℕ) (st : List Value) → AlikeOn (code_cells c) E F → exec E c k st ≡ exec F c k st
  unfolding exec
  runs_same [] zero st a = refl
  runs_same [] (suc k) st a = refl
  runs_same (i ∷ c) (suc k) st a = runs_same c k st (second (instr_cells i) (code_cells c) a)
  runs_same (i ∷ c) zero st a =
      let here = first (instr_cells i) (code_cells c) a in
      steps E i c st
      ∙ ap (λ (n : ℕ). after E c n (act E i st)) (costs i st here)
      ∙ ap (after E c (cost F i st)) (acts i st here)
      ∙ after_same c (cost F i st) (act F i st) (λ k st'. runs_same c k st' (second (instr_cells i) (code_cells c) a))
      ∙ sym (steps F i c st)
