-- The code of a tree gives what the rules give for the tree.
use mathlib.Core.Path.{◌≡◌, refl, sym, ap, ◌∙◌}
use mathlib.Core.Bool.{Bool, true, false, not, cond, beq}
use mathlib.Core.List.{List, [], ◌∷◌, ◌++◌, append-nil}
use Prim.Native.Nat.{ℕ, ◌+◌, ◌≤◌, ◌<◌}
use native.Mathlib.Omega.{arith}
use lib.ListN.{length}
use Rattle.values.specs.declared.Kind.{Kind}
use Rattle.values.specs.declared.Kind.TheVariants as K
use Rattle.values.specs.declared.Value.{Value}
use Rattle.values.specs.declared.Value.TheVariants.{Int, Real}
use Rattle.values.specs.declared.Outcome.{Outcome}
use Rattle.values.specs.declared.Outcome.TheVariants.{Done, Stopped, WrongKind}
use Rattle.values.specs.Values.{kind_of}
use Rattle.operators.specs.Operators.{as_real, unary_rule, since_rule, binary_rule, truth_rule, from_bool, branch_rule}
use Rattle.operators.specs.Laws.{OfKind}
use Rattle.operators.specs.declared.UnaryOp.TheVariants.{ToReal}
use Rattle.memory.specs.Environment.{Environment, indexed_cell}
use Rattle.totals.specs.Totals.{then, match_over, span_of}
use Rattle.code.specs.declared.Instr.{Instr}
use Rattle.code.specs.declared.Instr.TheVariants.{LoadIndexed, Unary, Binary, Jump, JumpIf, Since, Match}
use Rattle.machine.specs.Machine.{max_height, act, exec, end_of}
use Rattle.grammar.specs.Tree.{Tree, tree_kind}
use Rattle.grammar.specs.Eval.{short_circuit, eval}
use Rattle.verifier.specs.Safety.{Kinded}
use Rattle.tree_code.specs.Code.{push, push_bool, truth_tail, branch_tail, branch_tail_skip, code_of}
use Rattle.tree_code.proofs.Well.{Well, on-literal, on-cell, on-indexed, on-unary, on-binary, on-logic, on-choice, on-tick, on-since, on_total}
use Rattle.tree_code.proofs.Well.{on-matching, worth-kind, done-kind}
use Rattle.tree_code.proofs.Need.{need, need-some}
use Rattle.tree_code.proofs.Gives.{ends, into, Gives, acts, seq, past, held, jumps, forks}

module _ (E : Environment) (st : List Value) (room : length st < max_height) where
  pushes : (v : Value) → Gives E (push v ∷ []) 0 st (Done v) st
  unfolding act
  pushes (Int z) = acts refl room
  pushes (Real x) = acts refl room

  pushes-bool : (b : Bool) → Gives E (push_bool b ∷ []) 0 st (Done (from_bool b)) st
  unfolding act
  pushes-bool true = acts refl room
  pushes-bool false = acts refl room

  -- ---- `&&` and `||`, where d decides
  -- the right side's truth is l: d by the last push, the other by the first
  other : (d : Bool) → Gives E (push_bool (not d) ∷ Jump 1 ∷ push_bool d ∷ []) 0 st (Done (from_bool (not d))) st
  other d = seq (Jump 1 ∷ push_bool d ∷ []) (λ v. Done v) (pushes-bool (not d)) (λ v e. jumps (past (push_bool d ∷ []) held))

  settles : (d l : Bool) → Gives E (push_bool (not d) ∷ Jump 1 ∷ push_bool d ∷ []) (cond (beq l d) 2 0) st (Done (from_bool l)) st
  settles true true = past (push_bool false ∷ Jump 1 ∷ []) (pushes-bool true)
  settles true false = other true
  settles false true = other false
  settles false false = past (push_bool true ∷ Jump 1 ∷ []) (pushes-bool false)

  sides : (d : Bool) (v : Value) {a : List Instr} {r : Outcome} → Gives E a 0 st r st
      → Gives E (JumpIf d (length a + 3) ∷ (a ++ truth_tail d)) 0 (v ∷ st) (short_circuit d (truth_rule v) r) st
  sides d v {a} {r} g = forks d (length a + 3) v (go (beq (truth_rule v) d))
    where
      go : (x : Bool) → Gives E (a ++ truth_tail d) (cond x (length a + 3) 0) st (cond x (Done (from_bool d)) (then r (λ w. Done (from_bool (truth_rule w))))) st
      go true = past a (past (JumpIf d 2 ∷ push_bool (not d) ∷ Jump 1 ∷ []) (pushes-bool d))
      go false = seq (truth_tail d) (λ w. Done (from_bool (truth_rule w))) g (λ w e. forks d 2 w (settles d (truth_rule w)))

  -- ---- the branches of IF, of the kinds j and k
  promotes : (w : Value) → Gives E (Unary ToReal ∷ []) 0 (w ∷ st) (Done (Real (as_real w))) st
  unfolding act
  promotes w = acts refl room

  is_real : (w : Value) → kind_of w ≡ K.Real → Gives E [] 0 (w ∷ st) (Done (Real (as_real w))) st
  is_real (Int n) e = let z : ◌≡◌ {A = ℕ} 0 1 = cc in absurd (omega arith)
  is_real (Real x) e = held

  first : (j k : Kind) (w : Value) → kind_of w ≡ j → Gives E (branch_tail j k) (branch_tail_skip j k) (w ∷ st) (Done (branch_rule w k)) st
  first K.Int K.Int w e = held
  first K.Int K.Real w e = past (Jump 1 ∷ []) (promotes w)
  first K.Real K.Int w e = past (Unary ToReal ∷ []) held
  first K.Real K.Real w e = is_real w e

  second : (j k : Kind) (w : Value) → kind_of w ≡ k → Gives E (branch_tail j k) 0 (w ∷ st) (Done (branch_rule w j)) st
  second K.Int K.Int w e = held
  second K.Int K.Real w e = jumps (past (Unary ToReal ∷ []) held)
  second K.Real K.Int w e = promotes w
  second K.Real K.Real w e = is_real w e

  chosen : (j k : Kind) (v : Value) {a b : List Instr} {r s : Outcome} → Gives E a 0 st r st → Gives E b 0 st s st → OfKind j r → OfKind k s
      → Gives E (JumpIf false (length a + 1) ∷ (a ++ Jump (length b + branch_tail_skip j k) ∷ (b ++ branch_tail j k))) 0 (v ∷ st)
      (cond (truth_rule v) (then r (λ w. Done (branch_rule w k))) (then s (λ w. Done (branch_rule w j)))) st
  chosen j k v {a} {b} {r} {s} g h rk sk = forks false (length a + 1) v (go (truth_rule v))
    where
      go : (x : Bool) → Gives E (a ++ Jump (length b + branch_tail_skip j k) ∷ (b ++ branch_tail j k)) (cond (beq x false) (length a + 1) 0) st
          (cond x (then r (λ w. Done (branch_rule w k))) (then s (λ w. Done (branch_rule w j)))) st
      go true = seq (Jump (length b + branch_tail_skip j k) ∷ (b ++ branch_tail j k))
          (λ w. Done (branch_rule w k)) g (λ w e. jumps (past b (first j k w (done-kind w rk e))))
      go false = past a (past (Jump (length b + branch_tail_skip j k) ∷ [])
          (seq (branch_tail j k) (λ w. Done (branch_rule w j)) h (λ w e. second j k w (done-kind w sk e))))

module _ (E : Environment) (kinded : Kinded E) where
  -- whatever is held below, and whatever code follows
  pub correct : {t : Tree} → Well t → (st : List Value) → length st + need t ≤ max_height → Gives E (code_of t) 0 st (eval E t) st
  unfolding eval code_of need act
  correct (on-literal {v = v}) st h = pushes E st (omega arith) v
  correct on-cell st h = acts refl (omega arith)
  correct (on-indexed {b = b} {t = t} w) st h = seq (LoadIndexed b ∷ []) (λ v. indexed_cell E b v) (correct w st h)
      (λ v e. acts refl (omega (arith, need-some t)))
  correct (on-unary {o = o} {t = t} q w) st h = seq (Unary o ∷ []) (λ v. unary_rule o v) (correct w st h) (λ v e. acts refl (omega (arith, need-some t)))
  correct (on-binary {o = o} {t = t} {u = u} q w x) st h =
      seq (code_of u ++ Binary o ∷ []) (λ v. then (eval E u) (λ y. binary_rule o v y)) (correct w st (omega arith))
      (λ v e. seq (Binary o ∷ []) (λ y. binary_rule o v y) (correct x (v ∷ st) (omega arith)) (λ y f. acts refl (omega (arith, need-some t))))
  correct (on-logic {d = d} {t = t} {u = u} w x) st h =
      seq _ _ (correct w st (omega arith))
      (λ v e. sides E st (omega (arith, need-some t)) d v (correct x st (omega arith)))
  correct (on-choice {c = c} {t = t} {u = u} w x y) st h =
      seq _ _ (correct w st (omega arith))
      (λ v e. chosen E st (omega (arith, need-some c)) (tree_kind t) (tree_kind u) v (correct x st (omega arith)) (correct y st (omega arith))
      (worth-kind E kinded x) (worth-kind E kinded y))
  correct on-tick st h = acts refl (omega arith)
  correct (on-since {t = t} q w) st h = seq (Since ∷ []) (λ v. since_rule E.tick v) (correct w st h) (λ v e. acts refl (omega (arith, need-some t)))
  correct on_total st h = acts refl (omega arith)
  correct (on-matching {o = o} {t = t} {b = b} {i = i} {n = n} w) st h =
      seq (Match o b i (span_of b i n) ∷ []) (λ v. (match_over E o v b i (span_of b i n)).result) (correct w st h) (λ v e. acts refl (omega (arith, need-some t)))

  pub whole : {t : Tree} → Well t → need t ≤ max_height → (exec E (code_of t) 0 []).end ≡ end_of (eval E t)
  unfolding exec
  whole {t} w h = ap (λ (l : List Instr). ends E l 0 []) (sym (append-nil (code_of t))) ∙ (correct w [] (omega arith)).on [] ∙ last (eval E t)
    where
      last : (r : Outcome) → into E r [] [] ≡ end_of r
      last (Done v) = refl
      last (Stopped f) = refl
      last WrongKind = refl
