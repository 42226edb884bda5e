-- The code of a tree counts at most its instructions, and 256 more for each call over a range.
use mathlib.Core.Path.{◌≡◌, refl, subst, sym}
use mathlib.Core.Bool.{Bool, true, false, not, cond}
use mathlib.Core.List.{List, [], ◌∷◌, ◌++◌}
use Prim.Native.Nat.{ℕ, ◌+◌, ◌*◌, ◌≤◌}
use native.Mathlib.Omega.{arith}
use lib.Dec.{T}
use lib.IntN.{ℤ, pos, negsuc}
use lib.ListN.{length, length-append}
use Rattle.values.specs.declared.Kind.{Kind}
use Rattle.values.specs.declared.Kind.TheVariants as K
use Rattle.values.specs.declared.Value.{Value}
use Rattle.values.specs.declared.Value.TheVariants.{Int, Real}
use Rattle.memory.specs.declared.Bank.{Bank}
use Rattle.totals.specs.Totals.{good_range, span_of}
use Rattle.totals.proofs.Laws.{total-laws}
use Rattle.code.specs.declared.Instr.{Instr}
use Rattle.machine.specs.Machine.{range_cells, cost_bound, max_cells}
use Rattle.grammar.specs.Tree.{Tree, literal, cell, indexed, unary, binary, logic, choice, tick, since, total, matching, tree_kind}
use Rattle.tree_code.specs.Code.{push, push_bool, truth_tail, branch_tail, code_of}
use Rattle.tree_code.specs.Demand.{range_calls}

bound-append : (c d : List Instr) → cost_bound (c ++ d) ≡ cost_bound c + cost_bound d
bound-append [] d = omega arith
bound-append (i ∷ c) d = omega (arith, bound-append c d)

push-cells : (v : Value) → range_cells (push v) ≡ 0
push-cells (Int z) = refl
push-cells (Real x) = refl

bool-cells : (b : Bool) → range_cells (push_bool b) ≡ 0
bool-cells true = refl
bool-cells false = refl

truth-bound : (d : Bool) → cost_bound (truth_tail d) ≡ 4
truth-bound d = omega (arith, bool-cells d, bool-cells (not d))

tail-bound : (j k : Kind) → cost_bound (branch_tail j k) ≡ length (branch_tail j k)
tail-bound K.Int K.Int = refl
tail-bound K.Int K.Real = refl
tail-bound K.Real K.Int = refl
tail-bound K.Real K.Real = refl

-- no range has more cells, also where the count is refused
span-few : (b : Bank) (i : ℕ) (n : ℤ) → span_of b i n ≤ max_cells
span-few b i (pos n) = go (good_range b i n) refl
  where
    go : (x : Bool) → good_range b i n ≡ x → cond x n 1 ≤ max_cells
    go true e = let h = total-laws.range_small b i n (subst T (sym e) tt) in omega (arith, h.1)
    go false e = omega arith
span-few b i (negsuc n) = omega arith

-- of any tree, refused or not
pub bound : (t : Tree) → cost_bound (code_of t) ≤ length (code_of t) + max_cells * range_calls t
unfolding code_of range_calls
bound (literal p v) = omega (arith, push-cells v)
bound (cell b i) = omega arith
bound (indexed b t) = simp (bound-append, length-append) (omega (arith, bound t))
bound (unary p o t) = simp (bound-append, length-append) (omega (arith, bound t))
bound (binary p o t u) = simp (bound-append, length-append) (omega (arith, bound t, bound u))
bound (logic p d t u) = simp (bound-append, length-append) (omega (arith, bound t, bound u, truth-bound d))
bound (choice p c t u) = simp (bound-append, length-append) (omega (arith, bound c, bound t, bound u, tail-bound (tree_kind t) (tree_kind u)))
bound tick = omega arith
bound (since p t) = simp (bound-append, length-append) (omega (arith, bound t))
bound (total p o b i n) = omega (arith, span-few b i n)
bound (matching p o t b i n) = simp (bound-append, length-append) (omega (arith, bound t, span-few b i n))
