-- The place of a refusal lies in the text, or at its end.
use mathlib.Core.Path.{subst}
use mathlib.Core.Bool.{Bool, true, false}
use mathlib.Core.List.{List, [], ◌∷◌, ◌++◌}
use Prim.Native.Nat.{ℕ, zero, suc, ◌≤◌, ◌<◌}
use native.Mathlib.Omega.{arith}
use lib.Dec.{ltb}
use lib.IntN.{ℤ}
use lib.ListN.{length}
use Rattle.operators.specs.declared.UnaryOp.{UnaryOp}
use Rattle.operators.specs.declared.BinaryOp.{BinaryOp}
use Rattle.operators.specs.Kinds.{is_int, unary_takes, binary_takes}
use Rattle.memory.specs.declared.Bank.{Bank}
use Rattle.totals.specs.Totals.{good_count}
use Rattle.tokens.specs.Scan.{Tok}
use Rattle.tokens.proofs.Tests.{choose}
use Rattle.tokens.proofs.Places.{Below, nothing, more, tokens-inside, wrong-inside}
use Rattle.grammar.specs.Tree.{Tree, unary, binary, logic, choice, since, Diagnostic, clear, at, precedes, earlier, unless, wrong_kind_at, wrong_count_at}
use Rattle.grammar.specs.Tree.{tree_kind, diagnostic_of}
use Rattle.grammar.specs.Symbols.{infix_tree, Callee, of_one, of_two, of_choice, of_since, Arguments, one, more as further, argument, call_tree}
use Rattle.grammar.specs.Grammar.{Range, range, Derives, number, name, index, parenthesis, call, clocked, totalled, tested, prefixed, up, infixed, last, next}
use Rattle.text.specs.Judge.{refused}
use Rattle.text.specs.Theorems.{Sized, HasJudgementFrom, wrong_size, wrong_token, wrong_end, wrong_next, too_deep, diagnosed}

-- ---- tokens below n
module _ {n : ℕ} where
  head : {x : Tok} {xs : List Tok} → Below n (x ∷ xs) → x.place < n
  head (more l h) = l

  tail : {x : Tok} {xs : List Tok} → Below n (x ∷ xs) → Below n xs
  tail (more l h) = h

  left : (w v : List Tok) → Below n (w ++ v) → Below n w
  left [] v h = nothing
  left (x ∷ w) v (more l h) = more l (left w v h)

  right : (w v : List Tok) → Below n (w ++ v) → Below n v
  right [] v h = h
  right (x ∷ w) v (more l h) = right w v h

-- ---- the place of a tree's diagnostic is that of a token
data Low (n : ℕ) : Diagnostic → Type 0 where
  none : Low n clear
  some : {p a : ℕ} → p < n → Low n (at p a)

data AllLow (n : ℕ) : Arguments → Type 0 where
  low-one : {t : Tree} → Low n (diagnostic_of t) → AllLow n (one t)
  low-more : {t : Tree} {ts : Arguments} → Low n (diagnostic_of t) → AllLow n ts → AllLow n (further t ts)

module _ {n : ℕ} where
  low-earlier : {x y : Diagnostic} → Low n x → Low n y → Low n (earlier x y)
  low-earlier none h = h
  low-earlier (some l) none = some l
  low-earlier (some {p = p} {a = a} l) (some {p = q} {a = b} m) = choose (Low n) (precedes p a q b) _ _ (λ e. some l) (λ e. some m)

  low-unless : (b : Bool) (x : Diagnostic) → Low n x → Low n (unless b x)
  low-unless true x l = none
  low-unless false x l = l

  low-argument : (k : ℕ) {ts : Arguments} → AllLow n ts → Low n (diagnostic_of (argument k ts))
  low-argument k (low-one h) = h
  low-argument zero (low-more h hs) = h
  low-argument (suc k) (low-more h hs) = low-argument k hs

  low-unary : {p : ℕ} (o : UnaryOp) (t : Tree) → p < n → Low n (diagnostic_of t) → Low n (diagnostic_of (unary p o t))
  unfolding diagnostic_of
  low-unary {p} o t l h = low-earlier (low-unless (unary_takes o (tree_kind t)) (wrong_kind_at p) (some l)) h

  low-binary : {p : ℕ} (o : BinaryOp) (t u : Tree) → p < n → Low n (diagnostic_of t) → Low n (diagnostic_of u) → Low n (diagnostic_of (binary p o t u))
  unfolding diagnostic_of
  low-binary {p} o t u l h k = low-earlier (low-unless (binary_takes o (tree_kind t) (tree_kind u)) (wrong_kind_at p) (some l)) (low-earlier h k)

  low-logic : (p : ℕ) (d : Bool) (t u : Tree) → Low n (diagnostic_of t) → Low n (diagnostic_of u) → Low n (diagnostic_of (logic p d t u))
  unfolding diagnostic_of
  low-logic p d t u h k = low-earlier h k

  low-choice : (p : ℕ) (c t u : Tree) → Low n (diagnostic_of c) → Low n (diagnostic_of t) → Low n (diagnostic_of u) → Low n (diagnostic_of (choice p c t u))
  unfolding diagnostic_of
  low-choice p c t u g h k = low-earlier g (low-earlier h k)

  low-since : {p : ℕ} (t : Tree) → p < n → Low n (diagnostic_of t) → Low n (diagnostic_of (since p t))
  unfolding diagnostic_of
  low-since {p} t l h = low-earlier (low-unless (is_int (tree_kind t)) (wrong_kind_at p) (some l)) h

  low-infix : (o p : ℕ) (t u : Tree) → p < n → Low n (diagnostic_of t) → Low n (diagnostic_of u) → Low n (diagnostic_of (infix_tree o p t u))
  low-infix o p t u l h k =
      choose (λ (v : Tree). Low n (diagnostic_of v)) (ltb o 18) _ _ (λ e. low-binary _ t u l h k) (λ e. low-logic p _ t u h k)

  low-call : (c : Callee) (p : ℕ) (ts : Arguments) → p < n → AllLow n ts → Low n (diagnostic_of (call_tree c p ts))
  low-call (of_one o) p ts l h = low-unary o _ l (low-argument 0 h)
  low-call (of_two o) p ts l h = low-binary o _ _ l (low-argument 0 h) (low-argument 1 h)
  low-call of_choice p ts l h = low-choice p _ _ _ (low-argument 0 h) (low-argument 1 h) (low-argument 2 h)
  low-call of_since p ts l h = low-since _ l (low-argument 0 h)

  -- the count is one of the tokens
  low_count : {b : Bank} {i : ℕ} {m : ℤ} {u : ℕ} {w : List Tok} → Range b i m u w → Below n w → u < n
  low_count (range o q p r) h = head (tail (tail h))

  low : {l : ℕ} {w : List Tok} {t : Tree} → Derives l w t → Below n w → Low n (diagnostic_of t)
  unfolding diagnostic_of
  low d = elim d as (λ l w t d. Below n w → Low n (diagnostic_of t)) (λ m w ts a. Below n w → AllLow n ts) [
    | number ↦ λ h. none
    | name ↦ λ h. none
    | index r (d → f) ↦ λ h. f (left _ _ (tail (tail h)))
    | parenthesis q (d → f) ↦ λ h. f (left _ _ (tail h))
    | call {c = c} {p} {ts = ts} e (a → g) ↦ λ h. low-call c p ts (head h) (g (tail (tail h)))
    | clocked r e ↦ λ h. none
    | totalled {u = u} {b = b} {i = i} {n = m} e g ↦ λ h. low-unless (good_count b i m) (wrong_count_at u) (some (low_count g (tail (tail h))))
    | tested {u = u} r {b = b} {i = i} {n = m} {w = w} e (d → f) g ↦ λ h.
        let k = tail (tail h) in
        low-earlier (low-unless (good_count b i m) (wrong_count_at u) (some (low_count g (tail (right w _ k))))) (f (left w _ k))
    | prefixed {o = o} {t = t} e (d → f) ↦ λ h. low-unary o t (head h) (f (tail h))
    | up (d → f) ↦ f
    | infixed o p {w} {v} {t} {u} e (d → f) (d' → g) ↦ λ h. let r = right w _ h in low-infix o p t u (head r) (f (left w _ h)) (g (tail r))
    | last q (d → f) ↦ λ h. low-one (f (left _ _ h))
    | next q {w} (d → f) (a → g) ↦ λ h. low-more (f (left w _ h)) (g (tail (right w _ h)))
  ]

low-at : {n p a : ℕ} → Low n (at p a) → p < n
low-at (some l) = l

-- ---- a refusal
bounded : {s : List ℕ} {p : ℕ} → Sized s → p ≤ length s → (p ≤ length s) × (p ≤ 1024)
bounded h le = (le, omega (arith, h.short))

pub placed : {d : ℕ} {s : List ℕ} {a p : ℕ} → HasJudgementFrom d s (refused a p) → (p ≤ length s) × (p ≤ 1024)
placed (wrong_size n) = (omega arith, omega arith)
placed {s = s} (wrong_token h e) = bounded h (omega (arith, wrong-inside s e))
placed (wrong_end w h v n sh) = bounded h.sized (omega arith)
placed {s = s} (wrong_next p x ys h v n sh) = bounded h.sized (omega (arith, head (right p _ (tokens-inside s h.scanned))))
placed {s = s} (too_deep p x ys h v sh o le) = bounded h.sized (omega (arith, head (right p _ (tokens-inside s h.scanned))))
placed {s = s} (diagnosed w t h a sh e) = bounded h.sized (omega (arith, low-at (subst (Low _) e (low a (tokens-inside s h.scanned)))))
