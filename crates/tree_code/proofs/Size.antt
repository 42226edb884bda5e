-- The code of a formula has fewer than two instructions a byte.
use mathlib.Core.Path.{◌≡◌, refl}
use mathlib.Core.List.{List, [], ◌∷◌, ◌++◌}
use Prim.Native.Nat.{ℕ, zero, suc, ◌+◌, ◌*◌, ◌≤◌}
use native.Mathlib.Omega.{arith}
use lib.IntN.{ℤ}
use lib.ListN.{length}
use Rattle.memory.specs.declared.Bank.{Bank}
use Rattle.tokens.specs.Scan.{Tok}
use Rattle.grammar.specs.Tree.{Tree, tree_kind}
use Rattle.grammar.specs.Symbols.{Callee, of_one, of_two, of_choice, of_since, more_arguments, call_tree, Arguments, more, argument}
use Rattle.grammar.specs.Grammar.{Range, range, Derives, number, name, index, parenthesis, call, clocked, totalled, tested, prefixed, up, infixed, last, next}
use Rattle.tree_code.specs.Code.{code_of}
use Rattle.tree_code.specs.Demand.{least_bytes}
use Rattle.tree_code.proofs.Laws.{length-literal, length-cell, length-indexed, length-unary, length-binary, length-logic, length-choice}
use Rattle.tree_code.proofs.Laws.{length-tick, length-since, length-total, length-matching, tail-short}
use Rattle.tree_code.proofs.Nodes.{Infix, of_values, of-truths, infix-node, infix-plain, prefix-plain}

least-append : (w v : List Tok) → least_bytes (w ++ v) ≡ least_bytes w + least_bytes v
unfolding least_bytes
least-append [] v = omega arith
least-append (x ∷ w) v = omega (arith, least-append w v)

abbrev size : Tree → ℕ
size t = length (code_of t)

-- the arguments, each with the comma or parenthesis after it
abbrev total : ℕ → Arguments → ℕ
total zero ts = size (argument 0 ts) + 3
total (suc m) ts = total m ts + (size (argument (suc m) ts) + 3)

total-more : (m : ℕ) (t : Tree) (ts : Arguments) → total (suc m) (more t ts) ≡ size t + 3 + total m ts
total-more zero t ts = refl
total-more (suc m) t ts = omega (arith, total-more m t ts)

call-size : (c : Callee) (p : ℕ) (ts : Arguments) → size (call_tree c p ts) + 1 ≤ total (more_arguments c) ts
call-size (of_one o) p ts = omega (arith, length-unary p o (argument 0 ts))
call-size (of_two o) p ts = omega (arith, length-binary p o (argument 0 ts) (argument 1 ts))
call-size of_choice p ts =
    omega (arith, length-choice p (argument 0 ts) (argument 1 ts) (argument 2 ts), tail-short (tree_kind (argument 1 ts)) (tree_kind (argument 2 ts)))
call-size of_since p ts = omega (arith, length-since p (argument 0 ts))

infix-size : {p b : ℕ} {t u r : Tree} → Infix p t u b r → size r ≤ size t + size u + 2 * b + 1
infix-size {p} {t = t} {u = u} (of_values o) = omega (arith, length-binary p o t u)
infix-size {p} {t = t} {u = u} (of-truths d) = omega (arith, length-logic p d t u)

-- a cell, a comma, a numeral and a parenthesis
range_size : {b : Bank} {i : ℕ} {n : ℤ} {u : ℕ} {w : List Tok} → Range b i n u w → 5 ≤ least_bytes w
unfolding least_bytes
range_size (range o q p r) = omega arith

-- a leaf leaves one instruction to spare, which `&&` and `||` use
pub small : {l : ℕ} {w : List Tok} {t : Tree} → Derives l w t → size t + 1 ≤ 2 * least_bytes w
unfolding least_bytes
small d = elim d as (λ l w t d. size t + 1 ≤ 2 * least_bytes w) (λ m w ts a. total m ts ≤ 2 * least_bytes w) [
  | number {v} {p} ↦ omega (arith, length-literal p v)
  | name {b} {i} ↦ omega (arith, length-cell b i)
  | index {b} r {t = t} (d → h) ↦ simp least-append (omega (arith, length-indexed b t))
  | parenthesis q (d → h) ↦ simp least-append (omega arith)
  | call {c = c} {p} {ts = ts} e (a → h) ↦ omega (arith, call-size c p ts)
  | clocked r e ↦ omega (arith, length-tick)
  | totalled {o = o} {u = u} {b = b} {i = i} {n = n} e r ↦ omega (arith, length-total u o b i n, range_size r)
  | tested {o = o} {u = u} r {b = b} {i = i} {n = n} {t = t} e (d → h) g ↦ simp least-append (omega (arith, length-matching u o t b i n, range_size g))
  | prefixed {n} {p} {o} {t = t} e (d → h) ↦ omega (arith, length-unary p o t, (prefix-plain n o e).long)
  | up (d → h) ↦ h
  | infixed {l} n p {t = t} {u = u} e (d → h) (d' → h') ↦ simp least-append (omega (arith, infix-size (infix-node n p t u), (infix-plain n l e).long))
  | last q (d → h) ↦ simp least-append (omega arith)
  | next {m} q {t = t} {ts = ts} (d → h) (a → h') ↦ simp least-append (omega (arith, total-more m t ts))
]
