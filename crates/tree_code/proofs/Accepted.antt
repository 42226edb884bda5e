-- The code of a tree without an operand of a wrong kind is accepted.
use mathlib.Core.Path.{◌≡◌, refl, sym, subst}
use mathlib.Core.Bool.{Bool, not, true, false}
use mathlib.Core.List.{List, [], ◌∷◌}
use Prim.Native.Nat.{◌+◌, ◌≤◌, ◌<◌}
use native.Mathlib.Omega.{arith}
use lib.ListN.{length}
use borrow.Author.Tests.{lt-ltb}
use Rattle.values.specs.declared.Kind.{Kind}
use Rattle.values.specs.declared.Kind.TheVariants as K
use Rattle.values.specs.declared.Value.{Value}
use Rattle.values.specs.declared.Value.TheVariants.{Int, Real}
use Rattle.values.specs.Values.{kind_of}
use Rattle.operators.specs.Kinds.{join, unary_kind, binary_kind}
use Rattle.memory.specs.Cells.{bank_kind}
use Rattle.totals.specs.Totals.{total_kind, match_kind}
use Rattle.code.specs.declared.Instr.{Instr}
use Rattle.machine.specs.Machine.{max_height}
use Rattle.grammar.specs.Tree.{Tree, literal, cell, indexed, unary, binary, logic, choice, tick, since, total, matching, tree_kind}
use Rattle.verifier.specs.Typing.{Shape, Move, next, push_kind, move_of}
use Rattle.verifier.specs.Accepts.{Accepts}
use Rattle.tree_code.specs.Code.{push, push_bool, truth_tail, branch_tail, branch_tail_skip, code_of}
use Rattle.tree_code.proofs.Well.{Well, on-literal, on-cell, on-indexed, on-unary, on-binary, on-logic, on-choice, on-tick, on-since, on_total}
use Rattle.tree_code.proofs.Well.{on-matching}
use Rattle.tree_code.proofs.Need.{need, need-some}
use Rattle.tree_code.proofs.Flow.{At, here, there, Fits, fits_next, fits-leap, fits-fork, Flow, none, some, flow-append, at-past, accepts}

-- the kinds at the places of a tree's code, the first left out and the end put in, on s; then l
after_tail : Kind → Kind → Shape → List Shape → List Shape
after_tail K.Int K.Int s l = l
after_tail K.Int K.Real s l = (K.Int ∷ s) ∷ (K.Real ∷ s) ∷ l
after_tail K.Real K.Int s l = (K.Real ∷ s) ∷ l
after_tail K.Real K.Real s l = l

after : Tree → Shape → List Shape → List Shape
after (literal p v) s l = (kind_of v ∷ s) ∷ l
after (cell b i) s l = (bank_kind b ∷ s) ∷ l
after (indexed b t) s l = after t s ((bank_kind b ∷ s) ∷ l)
after (unary p o t) s l = after t s ((unary_kind o (tree_kind t) ∷ s) ∷ l)
after (binary p o t u) s l = after t s (after u (tree_kind t ∷ s) ((binary_kind o (tree_kind t) (tree_kind u) ∷ s) ∷ l))
after (logic p d t u) s l = after t s (s ∷ after u s (s ∷ (K.Int ∷ s) ∷ s ∷ (K.Int ∷ s) ∷ l))
after (choice p c t u) s l = after c s (s ∷ after t s (s ∷ after u s (after_tail (tree_kind t) (tree_kind u) s l)))
after tick s l = (K.Int ∷ s) ∷ l
after (since p t) s l = after t s ((K.Int ∷ s) ∷ l)
after (total p o b i n) s l = (total_kind o b ∷ s) ∷ l
after (matching p o t b i n) s l = after t s ((match_kind o b ∷ s) ∷ l)

-- an instruction that goes on
goes : {i : Instr} {c : List Instr} {s r : Shape} {ss l : List Shape} → move_of i s ≡ next r → Flow c (r ∷ ss) l → Flow (i ∷ c) (s ∷ r ∷ ss) l
goes {r = r} {ss = ss} e f = some (subst (λ (m : Move). Fits m (r ∷ ss)) (sym e) (fits_next here)) f

module _ (s : Shape) (room : length s < max_height) where
  pushing-next : (k : Kind) → push_kind k s ≡ next (k ∷ s)
  pushing-next k = rw (lt-ltb (length s) max_height room)

  push-next : (v : Value) → move_of (push v) s ≡ next (kind_of v ∷ s)
  unfolding move_of
  push-next (Int z) = pushing-next K.Int
  push-next (Real x) = pushing-next K.Real

  bool-next : (b : Bool) → move_of (push_bool b) s ≡ next (K.Int ∷ s)
  unfolding move_of
  bool-next true = pushing-next K.Int
  bool-next false = pushing-next K.Int

  settled-flow : (d : Bool) (k : Kind) {l : List Shape} → Flow (truth_tail d) ((k ∷ s) ∷ s ∷ (K.Int ∷ s) ∷ s ∷ (K.Int ∷ s) ∷ l) ((K.Int ∷ s) ∷ l)
  unfolding move_of
  settled-flow d k = some (fits-fork here (there (there here))) (goes (bool-next (not d)) (some (fits-leap (there here)) (goes (bool-next d) none)))

-- after the branches of IF: what promotes one of them, and where the first one goes
tail-flow : (j k : Kind) (s : Shape) (l : List Shape) → Flow (branch_tail j k) ((k ∷ s) ∷ after_tail j k s l) ((join j k ∷ s) ∷ l)
unfolding after_tail move_of
tail-flow K.Int K.Int s l = none
tail-flow K.Int K.Real s l = some (fits-leap (there here)) (goes refl none)
tail-flow K.Real K.Int s l = goes refl none
tail-flow K.Real K.Real s l = none

over-at : (j k : Kind) (s : Shape) (l : List Shape) → At ((k ∷ s) ∷ after_tail j k s l) (branch_tail_skip j k) (j ∷ s)
unfolding after_tail
over-at K.Int K.Int s l = here
over-at K.Int K.Real s l = there here
over-at K.Real K.Int s l = there here
over-at K.Real K.Real s l = here

tree-flow : {t : Tree} → Well t → (s : Shape) (l : List Shape) → length s + need t ≤ max_height → Flow (code_of t) (s ∷ after t s l) ((tree_kind t ∷ s) ∷ l)
unfolding code_of tree_kind need after move_of
tree-flow (on-literal {v = v}) s l h = goes (push-next s (omega arith) v) none
tree-flow (on-cell {b = b}) s l h = goes (pushing-next s (omega arith) (bank_kind b)) none
tree-flow (on-indexed w) s l h = flow-append (tree-flow w s _ h) (goes refl none)
tree-flow (on-unary q w) s l h = flow-append (tree-flow w s _ h) (goes (rw q) none)
tree-flow (on-binary {t = t} q w x) s l h = flow-append (tree-flow w s _ (omega arith))
    (flow-append (tree-flow x (tree_kind t ∷ s) _ (omega arith)) (goes (rw q) none))
tree-flow (on-logic {d = d} {t = t} {u = u} w x) s l h =
    let f = tree-flow x s (s ∷ (K.Int ∷ s) ∷ s ∷ (K.Int ∷ s) ∷ l) (omega arith) in
    flow-append (tree-flow w s _ (omega arith))
    (some (fits-fork here (at-past f (there (there (there here)))))
    (flow-append f (settled-flow s (omega (arith, need-some t)) d (tree_kind u))))
tree-flow (on-choice {t = t} {u = u} w x y) s l h =
    let j = tree_kind t in
    let k = tree_kind u in
    let g = tree-flow y s (after_tail j k s l) (omega arith) in
    let f = tree-flow x s (s ∷ after u s (after_tail j k s l)) (omega arith) in
    flow-append (tree-flow w s _ (omega arith))
    (some (fits-fork here (at-past f (there here)))
    (flow-append f
    (some (fits-leap (at-past g (over-at j k s l)))
    (flow-append g (tail-flow j k s l)))))
tree-flow on-tick s l h = goes (pushing-next s (omega arith) K.Int) none
tree-flow (on-since q w) s l h = flow-append (tree-flow w s _ h) (goes (rw q) none)
tree-flow (on_total {o = o} {b = b}) s l h = goes (pushing-next s (omega arith) (total_kind o b)) none
tree-flow (on-matching w) s l h = flow-append (tree-flow w s _ h) (goes refl none)

pub accepted : {t : Tree} → Well t → need t ≤ max_height → 0 < length (code_of t) → length (code_of t) ≤ 2048 → Accepts (code_of t) (tree_kind t)
accepted w h = accepts (tree-flow w [] [] (omega arith))
