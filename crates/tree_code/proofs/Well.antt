-- A tree without an operand of a wrong kind is worth a value of its kind, or a fault.
use mathlib.Core.Path.{◌≡◌, refl, sym, ap, ◌∙◌}
use mathlib.Core.Bool.{Bool, true, false, cond, beq}
use Prim.Native.Nat.{ℕ}
use native.Mathlib.Omega.{arith}
use lib.IntN.{ℤ}
use Rattle.values.specs.declared.Kind.{Kind}
use Rattle.values.specs.declared.Kind.TheVariants as K
use Rattle.values.specs.declared.Value.{Value}
use Rattle.values.specs.declared.Outcome.{Outcome}
use Rattle.values.specs.declared.Outcome.TheVariants.{Done}
use Rattle.values.specs.Values.{kind_of}
use Rattle.operators.specs.declared.UnaryOp.{UnaryOp}
use Rattle.operators.specs.declared.BinaryOp.{BinaryOp}
use Rattle.operators.specs.Operators.{truth_rule, from_bool, branch_rule}
use Rattle.operators.specs.Kinds.{is_int, join, unary_takes, binary_takes}
use Rattle.operators.specs.Laws.{OfKind, done, stopped}
use Rattle.operators.proofs.Laws.{rule-laws}
use Rattle.memory.specs.declared.Bank.{Bank}
use Rattle.memory.specs.Environment.{Environment}
use Rattle.totals.specs.declared.TotalOp.{TotalOp}
use Rattle.totals.specs.declared.MatchOp.{MatchOp}
use Rattle.totals.specs.Totals.{then, good_count, span_of}
use Rattle.totals.proofs.Laws.{total-laws}
use Rattle.grammar.specs.Tree.{Tree, literal, cell, indexed, unary, binary, logic, choice, tick, since, total, matching, tree_kind, Diagnostic, clear}
use Rattle.grammar.specs.Tree.{at, precedes, earlier, unless, wrong_kind_at, wrong_count_at, diagnostic_of}
use Rattle.grammar.specs.Eval.{short_circuit, eval}
use Rattle.verifier.specs.Safety.{Kinded}
use Rattle.verifier.proofs.Safe.{indexed-kind}

-- every operator gets kinds that it takes
pub data Well : Tree → Type 0 where
  on-literal : {p : ℕ} {v : Value} → Well (literal p v)
  on-cell : {b : Bank} {i : ℕ} → Well (cell b i)
  on-indexed : {b : Bank} {t : Tree} → Well t → Well (indexed b t)
  on-unary : {p : ℕ} {o : UnaryOp} {t : Tree} → unary_takes o (tree_kind t) ≡ true → Well t → Well (unary p o t)
  on-binary : {p : ℕ} {o : BinaryOp} {t u : Tree} → binary_takes o (tree_kind t) (tree_kind u) ≡ true → Well t → Well u → Well (binary p o t u)
  on-logic : {p : ℕ} {d : Bool} {t u : Tree} → Well t → Well u → Well (logic p d t u)
  on-choice : {p : ℕ} {c t u : Tree} → Well c → Well t → Well u → Well (choice p c t u)
  on-tick : Well tick
  on-since : {p : ℕ} {t : Tree} → is_int (tree_kind t) ≡ true → Well t → Well (since p t)
  on_total : {p : ℕ} {o : TotalOp} {b : Bank} {i : ℕ} {n : ℤ} → Well (total p o b i n)
  on-matching : {p : ℕ} {o : MatchOp} {t : Tree} {b : Bank} {i : ℕ} {n : ℤ} → Well t → Well (matching p o t b i n)

-- ---- a tree without a diagnostic
neither : (x y : Diagnostic) → earlier x y ≡ clear → (x ≡ clear) × (y ≡ clear)
neither clear y e = (refl, e)
neither (at p a) clear e = let z : ◌≡◌ {A = ℕ} 0 1 = cc in absurd (omega arith)
neither (at p a) (at q b) e = absurd (go (precedes p a q b) e)
  where
    go : (x : Bool) → cond x (at p a) (at q b) ≡ clear → ⊥
    go true i = let z : ◌≡◌ {A = ℕ} 0 1 = cc in omega arith
    go false i = let z : ◌≡◌ {A = ℕ} 0 1 = cc in omega arith

taken : (b : Bool) (p : ℕ) → unless b (wrong_kind_at p) ≡ clear → b ≡ true
taken true p e = refl
taken false p e = let z : ◌≡◌ {A = ℕ} 0 1 = cc in absurd (omega arith)

pub well : (t : Tree) → diagnostic_of t ≡ clear → Well t
unfolding diagnostic_of
well (literal p v) e = on-literal
well (cell b i) e = on-cell
well (indexed b t) e = on-indexed (well t e)
well (unary p o t) e = let h = neither _ _ e in on-unary (taken _ p h.0) (well t h.1)
well (binary p o t u) e =
    let h = neither _ _ e in
    let k = neither _ _ h.1 in
    on-binary (taken _ p h.0) (well t k.0) (well u k.1)
well (logic p d t u) e = let h = neither _ _ e in on-logic (well t h.0) (well u h.1)
well (choice p c t u) e =
    let h = neither _ _ e in
    let k = neither _ _ h.1 in
    on-choice (well c h.0) (well t k.0) (well u k.1)
well tick e = on-tick
well (since p t) e = let h = neither _ _ e in on-since (taken _ p h.0) (well t h.1)
well (total p o b i n) e = on_total
well (matching p o t b i n) e = on-matching (well t (neither (unless (good_count b i n) (wrong_count_at p)) _ e).1)

-- ---- kinds of outcomes
then-kind : {j k : Kind} {r : Outcome} (f : Value → Outcome) → OfKind j r → ((v : Value) → kind_of v ≡ j → OfKind k (f v)) → OfKind k (then r f)
then-kind f (done v e) h = h v e
then-kind f (stopped x) h = stopped x

cond-kind : {k : Kind} {r s : Outcome} (b : Bool) → OfKind k r → OfKind k s → OfKind k (cond b r s)
cond-kind true h g = h
cond-kind false h g = g

bool-kind : (b : Bool) → kind_of (from_bool b) ≡ K.Int
bool-kind true = refl
bool-kind false = refl

decided-kind : (d l : Bool) {k : Kind} {r : Outcome} → OfKind k r → OfKind K.Int (short_circuit d l r)
decided-kind d l h = cond-kind (beq l d) (done (from_bool d) (bool-kind d)) (then-kind _ h (λ v e. done (from_bool (truth_rule v)) (bool-kind (truth_rule v))))

join-comm : (j k : Kind) → join j k ≡ join k j
join-comm K.Int K.Int = refl
join-comm K.Int K.Real = refl
join-comm K.Real K.Int = refl
join-comm K.Real K.Real = refl

branch-of : {j : Kind} (k : Kind) {r : Outcome} → OfKind j r → OfKind (join j k) (then r (λ w. Done (branch_rule w k)))
branch-of k h = then-kind _ h (λ w e. done (branch_rule w k) (rule-laws.branch_kind w k ∙ ap (λ (i : Kind). join i k) e))

module _ (E : Environment) (kinded : Kinded E) where
  pub worth-kind : {t : Tree} → Well t → OfKind (tree_kind t) (eval E t)
  unfolding eval tree_kind
  worth-kind (on-literal {v = v}) = done v refl
  worth-kind (on-cell {b = b} {i = i}) = kinded.cell b i
  worth-kind (on-indexed {b = b} w) = then-kind _ (worth-kind w) (λ v e. indexed-kind kinded b v)
  worth-kind (on-unary {o = o} q w) = then-kind _ (worth-kind w) (λ v e. rw (← e) (rule-laws.unary-kind o v (rw (e, q) tt)))
  worth-kind (on-binary {o = o} q w x) = then-kind _ (worth-kind w)
      (λ v e. then-kind _ (worth-kind x) (λ y f. rw (← e, ← f) (rule-laws.binary-kind o v y (rw (e, f, q) tt))))
  worth-kind (on-logic {d = d} w x) = then-kind _ (worth-kind w) (λ v e. decided-kind d (truth_rule v) (worth-kind x))
  worth-kind (on-choice {t = t} {u = u} w x y) =
      then-kind _ (worth-kind w)
      (λ v e. cond-kind (truth_rule v) (branch-of (tree_kind u) (worth-kind x))
      (rw (join-comm (tree_kind t) (tree_kind u)) (branch-of (tree_kind t) (worth-kind y))))
  worth-kind on-tick = done _ refl
  worth-kind (on-since q w) = then-kind _ (worth-kind w) (λ v e. rule-laws.since-kind E.tick v (rw (e, q) tt))
  worth-kind (on_total {o = o} {b = b} {i = i} {n = n}) = total-laws.total-kind E o b i (span_of b i n) (kinded.cell b)
  worth-kind (on-matching {o = o} {b = b} {i = i} {n = n} w) = then-kind _ (worth-kind w)
      (λ v e. total-laws.match-kind E o v b i (span_of b i n) (kinded.cell b))

pub done-kind : {k : Kind} {r : Outcome} (v : Value) → OfKind k r → r ≡ Done v → kind_of v ≡ k
done-kind v (done w e) q = let h : w ≡ v = cc in ap kind_of (sym h) ∙ e
done-kind v (stopped f) q = let z : ◌≡◌ {A = ℕ} 0 1 = cc in absurd (omega arith)
