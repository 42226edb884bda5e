-- What other crates cite: how long the code of a tree is, and that a tree without a wrong operand is worth a value of its kind or a fault.
use mathlib.Core.Path.{◌≡◌, refl}
use mathlib.Core.Bool.{Bool}
use Prim.Native.Nat.{ℕ, ◌+◌, ◌≤◌, ◌<◌}
use native.Mathlib.Omega.{arith}
use lib.IntN.{ℤ}
use lib.ListN.{length, length-append}
use Rattle.values.specs.declared.Kind.{Kind}
use Rattle.values.specs.declared.Kind.TheVariants as K
use Rattle.values.specs.declared.Value.{Value}
use Rattle.operators.specs.declared.UnaryOp.{UnaryOp}
use Rattle.operators.specs.declared.BinaryOp.{BinaryOp}
use Rattle.operators.specs.Laws.{OfKind}
use Rattle.memory.specs.declared.Bank.{Bank}
use Rattle.memory.specs.Environment.{Environment}
use Rattle.totals.specs.declared.TotalOp.{TotalOp}
use Rattle.totals.specs.declared.MatchOp.{MatchOp}
use Rattle.grammar.specs.Tree.{Tree, literal, cell, indexed, unary, binary, logic, choice, tick, since, total, matching, tree_kind, clear, diagnostic_of}
use Rattle.grammar.specs.Eval.{eval}
use Rattle.verifier.specs.Safety.{Kinded}
use Rattle.tree_code.specs.Code.{branch_tail, code_of}
use Rattle.tree_code.proofs.Well.{well, worth-kind}

pub length-literal : (p : ℕ) (v : Value) → length (code_of (literal p v)) ≡ 1
unfolding code_of
length-literal p v = refl

pub length-cell : (b : Bank) (i : ℕ) → length (code_of (cell b i)) ≡ 1
unfolding code_of
length-cell b i = refl

pub length-indexed : (b : Bank) (t : Tree) → length (code_of (indexed b t)) ≡ length (code_of t) + 1
unfolding code_of
length-indexed b t = simp length-append

pub length-unary : (p : ℕ) (o : UnaryOp) (t : Tree) → length (code_of (unary p o t)) ≡ length (code_of t) + 1
unfolding code_of
length-unary p o t = simp length-append

pub length-binary : (p : ℕ) (o : BinaryOp) (t u : Tree) → length (code_of (binary p o t u)) ≡ length (code_of t) + length (code_of u) + 1
unfolding code_of
length-binary p o t u = simp length-append (omega arith)

pub length-logic : (p : ℕ) (d : Bool) (t u : Tree) → length (code_of (logic p d t u)) ≡ length (code_of t) + length (code_of u) + 5
unfolding code_of
length-logic p d t u = simp length-append (omega arith)

pub length-choice : (p : ℕ) (c t u : Tree) → length (code_of (choice p c t u))
    ≡ length (code_of c) + length (code_of t) + length (code_of u) + length (branch_tail (tree_kind t) (tree_kind u)) + 2
unfolding code_of
length-choice p c t u = simp length-append (omega arith)

pub length-tick : length (code_of tick) ≡ 1
unfolding code_of
length-tick = refl

pub length-since : (p : ℕ) (t : Tree) → length (code_of (since p t)) ≡ length (code_of t) + 1
unfolding code_of
length-since p t = simp length-append

pub length-total : (p : ℕ) (o : TotalOp) (b : Bank) (i : ℕ) (n : ℤ) → length (code_of (total p o b i n)) ≡ 1
unfolding code_of
length-total p o b i n = refl

pub length-matching : (p : ℕ) (o : MatchOp) (t : Tree) (b : Bank) (i : ℕ) (n : ℤ) → length (code_of (matching p o t b i n)) ≡ length (code_of t) + 1
unfolding code_of
length-matching p o t b i n = simp length-append

pub tail-short : (j k : Kind) → length (branch_tail j k) ≤ 2
tail-short K.Int K.Int = omega arith
tail-short K.Int K.Real = omega arith
tail-short K.Real K.Int = omega arith
tail-short K.Real K.Real = omega arith

pub code-some : (t : Tree) → 0 < length (code_of t)
code-some (literal p v) = omega (arith, length-literal p v)
code-some (cell b i) = omega (arith, length-cell b i)
code-some (indexed b t) = omega (arith, length-indexed b t)
code-some (unary p o t) = omega (arith, length-unary p o t)
code-some (binary p o t u) = omega (arith, length-binary p o t u)
code-some (logic p d t u) = omega (arith, length-logic p d t u)
code-some (choice p c t u) = omega (arith, length-choice p c t u)
code-some tick = omega (arith, length-tick)
code-some (since p t) = omega (arith, length-since p t)
code-some (total p o b i n) = omega (arith, length-total p o b i n)
code-some (matching p o t b i n) = omega (arith, length-matching p o t b i n)

pub worth-of-kind : (E : Environment) → Kinded E → (t : Tree) → diagnostic_of t ≡ clear → OfKind (tree_kind t) (eval E t)
worth-of-kind E kinded t e = worth-kind E kinded (well t e)
