-- How many values the code of a tree holds at once, above those held before it.
use Prim.Native.Nat.{ℕ, suc, max, ◌≤◌}
use native.Mathlib.Omega.{arith}
use Rattle.grammar.specs.Tree.{Tree, literal, cell, indexed, unary, binary, logic, choice, tick, since, total, matching}

unfoldable pub need : Tree → ℕ
need (literal p v) = 1
need (cell b i) = 1
need (indexed b t) = need t
need (unary p o t) = need t
need (binary p o t u) = max (need t) (suc (need u))
need (logic p d t u) = max (need t) (need u)
need (choice p c t u) = max (need c) (max (need t) (need u))
need tick = 1
need (since p t) = need t
need (total p o b i n) = 1
need (matching p o t b i n) = need t

pub need-some : (t : Tree) → 1 ≤ need t
unfolding need
need-some (literal p v) = omega arith
need-some (cell b i) = omega arith
need-some (indexed b t) = need-some t
need-some (unary p o t) = need-some t
need-some (binary p o t u) = omega arith
need-some (logic p d t u) = omega (arith, need-some t)
need-some (choice p c t u) = omega (arith, need-some c)
need-some tick = omega arith
need-some (since p t) = need-some t
need-some (total p o b i n) = omega arith
need-some (matching p o t b i n) = need-some t
