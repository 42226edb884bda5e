-- Every instruction of a formula's code fits its eight bytes: its literals and cells are tokens, and short code has short jumps.
use Prim.Native.Nat.{ℕ, zero, suc, ◌+◌, ◌^◌, ◌≤◌, ◌<◌}
use mathlib.Core.Bool.{Bool, true, false, not}
use mathlib.Core.List.{List, [], ◌∷◌, ◌++◌}
use native.Mathlib.Omega.{arith}
use lib.Dec.{T, lit<}
use lib.IntN.{ℤ, pos}
use lib.ListN.{length, length-append}
use Rattle.values.specs.declared.Kind.{Kind}
use Rattle.values.specs.declared.Kind.TheVariants as K
use Rattle.values.specs.declared.Value.{Value}
use Rattle.operators.specs.Laws.{Proper}
use Rattle.operators.specs.declared.UnaryOp.{UnaryOp}
use Rattle.operators.specs.declared.UnaryOp.TheVariants.{ToReal}
use Rattle.operators.specs.declared.BinaryOp.{BinaryOp}
use Rattle.memory.specs.declared.Bank.{Bank}
use Rattle.totals.specs.declared.TotalOp.{TotalOp}
use Rattle.totals.specs.declared.MatchOp.{MatchOp}
use Rattle.totals.specs.Totals.{good_range, span_of}
use Rattle.totals.proofs.Laws.{total-laws}
use Rattle.tokens.specs.declared.Token.TheVariants.{Number, Cell}
use Rattle.tokens.specs.Scan.{Tok}
use Rattle.tokens.proofs.Known.{Known}
use Rattle.code.specs.declared.Instr.{Instr}
use Rattle.code.specs.declared.Instr.TheVariants.{Jump, JumpIf}
use Rattle.code.specs.Encode.{Encodable, push-int, push-real, load, load-indexed, unary, binary, jump, jump-if, push-tick, since, total, matching}
use Rattle.grammar.specs.Tree.{Tree, literal, cell, indexed, logic, choice, tick, tree_kind}
use Rattle.grammar.specs.Symbols.{more, Callee, of_one, of_two, of_choice, of_since, Arguments, argument, call_tree}
use Rattle.grammar.specs.Grammar.{Derives, number, name, index, parenthesis, call, Range, range, clocked, totalled, tested, prefixed, up, infixed}
use Rattle.grammar.specs.Grammar.{last, next, Formula}
use Rattle.tree_code.specs.Code.{push_bool, truth_tail, branch_tail, branch_tail_skip, code_of}
use Rattle.compiler.proofs.Each.{Each, none, some, each_append, each_first, each-rest, each-front, each_back}
use Rattle.compiler.proofs.Scanned.{AllKnown}
use Rattle.tree_code.proofs.Nodes.{Infix, of_values, of-truths, infix-node}

-- ---- pieces of code, of which none is longer than the whole
abbrev Short : List Instr → Type 0
Short c = length c ≤ 2048 → Each Encodable c

plain : {i : Instr} → Encodable i → Short (i ∷ [])
plain e l = some e none

follows : (c d : List Instr) → Short c → Short d → Short (c ++ d)
follows c d f g l = each_append (f (omega (arith, length-append c d))) (g (omega (arith, length-append c d)))

-- a jump over the piece c, and n instructions more
leap : (i : ℕ → Instr) → ((k : ℕ) → k < 2 ^ 32 → Encodable (i k)) → (n : ℕ) → n ≤ 3 → (c d : List Instr) → Short c → Short d
    → Short (i (length c + n) ∷ (c ++ d))
leap i e n h c d f g l = some (e (length c + n) (omega (arith, length-append c d))) (follows c d f g (omega arith))

bool : (b : Bool) → Encodable (push_bool b)
bool true = push-int (pos 1) tt
bool false = push-int (pos 0) tt

settles : (d : Bool) → Short (truth_tail d)
settles d l = some (jump-if d 2 (lit< tt)) (some (bool (not d)) (some (jump 1 (lit< tt)) (some (bool d) none)))

tails : (j k : Kind) → Short (branch_tail j k)
tails K.Int K.Int l = none
tails K.Int K.Real l = some (jump 1 (lit< tt)) (some (unary ToReal) none)
tails K.Real K.Int l = some (unary ToReal) none
tails K.Real K.Real l = none

over-few : (j k : Kind) → branch_tail_skip j k ≤ 3
over-few K.Int K.Int = omega arith
over-few K.Int K.Real = omega arith
over-few K.Real K.Int = omega arith
over-few K.Real K.Real = omega arith

-- ---- the nodes of a tree
abbrev Fits : Tree → Type 0
Fits t = Short (code_of t)

on-literal : (p : ℕ) {v : Value} → Known (Number v) → Fits (literal p v)
unfolding code_of
on-literal p (Known.number _ (Proper.int z h)) = plain (push-int z h)
on-literal p (Known.number _ (Proper.real x h)) = plain (push-real x h)

on-cell : {b : Bank} {i : ℕ} → Known (Cell b i) → Fits (cell b i)
unfolding code_of
on-cell (Known.cell b i h) = plain (load b i h)

on-indexed : (b : Bank) (t : Tree) → Fits t → Fits (indexed b t)
unfolding code_of
on-indexed b t f = follows (code_of t) _ f (plain (load-indexed b))

on-tick : Fits tick
unfolding code_of
on-tick = plain push-tick

-- the count in the code gives a good range
good-span : {b : Bank} {i : ℕ} → Known (Cell b i) → (z : ℤ) → T (good_range b i (span_of b i z))
good-span (Known.cell b i h) z = total-laws.span_good b i z h

on_total : (o : TotalOp) {b : Bank} {i u : ℕ} {z : ℤ} {w : List Tok} → Range b i z u w → AllKnown w → Fits (Tree.total u o b i z)
unfolding code_of
on_total o (range {b = b} {i = i} {n = z} a c p r) e = plain (total o b i (span_of b i z) (good-span (each_first e) z))

on-matching : (o : MatchOp) (t : Tree) {b : Bank} {i u : ℕ} {z : ℤ} {w : List Tok} → Range b i z u w → AllKnown w → Fits t → Fits (Tree.matching u o t b i z)
unfolding code_of
on-matching o t (range {b = b} {i = i} {n = z} a c p r) e f = follows (code_of t) _ f (plain (matching o b i (span_of b i z) (good-span (each_first e) z)))

on-since : (p : ℕ) (t : Tree) → Fits t → Fits (Tree.since p t)
unfolding code_of
on-since p t f = follows (code_of t) _ f (plain since)

on-unary : (p : ℕ) (o : UnaryOp) (t : Tree) → Fits t → Fits (Tree.unary p o t)
unfolding code_of
on-unary p o t f = follows (code_of t) _ f (plain (unary o))

on-binary : (p : ℕ) (o : BinaryOp) (t u : Tree) → Fits t → Fits u → Fits (Tree.binary p o t u)
unfolding code_of
on-binary p o t u f g = follows (code_of t) _ f (follows (code_of u) _ g (plain (binary o)))

on-logic : (p : ℕ) (d : Bool) (t u : Tree) → Fits t → Fits u → Fits (logic p d t u)
unfolding code_of
on-logic p d t u f g = follows (code_of t) _ f (leap (JumpIf d) (jump-if d) 3 (omega arith) (code_of u) (truth_tail d) g (settles d))

on-choice : (p : ℕ) (c t u : Tree) → Fits c → Fits t → Fits u → Fits (choice p c t u)
unfolding code_of
on-choice p c t u f g h =
    let j = tree_kind t in
    let k = tree_kind u in
    follows (code_of c) _ f
    (leap (JumpIf false) (jump-if false) 1 (omega arith) (code_of t) _ g
    (leap Jump jump (branch_tail_skip j k) (over-few j k) (code_of u) (branch_tail j k) h (tails j k)))

on_call : (c : Callee) (p : ℕ) (ts : Arguments) → ((k : ℕ) → Fits (argument k ts)) → Fits (call_tree c p ts)
on_call (of_one o) p ts f = on-unary p o (argument 0 ts) (f 0)
on_call (of_two o) p ts f = on-binary p o (argument 0 ts) (argument 1 ts) (f 0) (f 1)
on_call of_choice p ts f = on-choice p (argument 0 ts) (argument 1 ts) (argument 2 ts) (f 0) (f 1) (f 2)
on_call of_since p ts f = on-since p (argument 0 ts) (f 0)

on-infix : {p b : ℕ} {t u r : Tree} → Infix p t u b r → Fits t → Fits u → Fits r
on-infix {p} {t = t} {u = u} (of_values o) = on-binary p o t u
on-infix {p} {t = t} {u = u} (of-truths d) = on-logic p d t u

-- ---- a formula
fits : {l : ℕ} {w : List Tok} {t : Tree} → Derives l w t → AllKnown w → Fits t
fits d = elim d as (λ l w t d. AllKnown w → Fits t) (λ m w ts a. AllKnown w → (k : ℕ) → Fits (argument k ts)) [
  | number {p = p} ↦ λ e. on-literal p (each_first e)
  | name ↦ λ e. on-cell (each_first e)
  | index {b} r {w} {t} (d → f) ↦ λ e. on-indexed b t (f (each-front w _ (each-rest (each-rest e))))
  | parenthesis q {w} (d → f) ↦ λ e. f (each-front w _ (each-rest e))
  | call {c = c} {p} {ts = ts} q (a → g) ↦ λ e. on_call c p ts (g (each-rest (each-rest e)))
  | clocked r q ↦ λ e. on-tick
  | totalled {o = o} q x ↦ λ e. on_total o x (each-rest (each-rest e))
  | tested {o = o} c {w = w} {t = t} q (d → f) x ↦ λ e. on-matching o t x (each-rest (each_back w _ (each-rest (each-rest e))))
      (f (each-front w _ (each-rest (each-rest e))))
  | prefixed {p = p} {o = o} {t = t} q (d → f) ↦ λ e. on-unary p o t (f (each-rest e))
  | up (d → f) ↦ f
  | infixed n p {w} {t = t} {u = u} q (d → f) (d' → g) ↦ λ e. on-infix (infix-node n p t u) (f (each-front w _ e)) (g (each-rest (each_back w _ e)))
  | last q {w} (d → f) ↦ λ e k. f (each-front w _ e)
  | next q {w} {t = t} {ts = ts} (d → f) (a → g) ↦ λ e k. elim k as (λ j. Fits (argument j (more t ts))) [
    | zero ↦ f (each-front w _ e)
    | suc j ↦ g (each-rest (each_back w _ e)) j
  ]
]

pub encodable : {w : List Tok} {t : Tree} → Formula w t → AllKnown w → length (code_of t) ≤ 2048 → Each Encodable (code_of t)
encodable d e = fits d e
