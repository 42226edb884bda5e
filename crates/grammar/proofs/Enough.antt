-- With fuel from the cost on the parser is not starved, and a tree takes at least one token.
use mathlib.Core.Path.{◌≡◌}
use mathlib.Core.Bool.{Bool, true, false}
use mathlib.Core.List.{List, [], ◌∷◌}
use Prim.Native.Nat.{ℕ, zero, suc, ◌+◌, ◌-◌, ◌*◌, ◌≤◌, ◌<◌}
use native.Mathlib.Omega.{arith}
use lib.ListN.{length}
use lib.IntN.{ℤ}
use Rattle.values.specs.declared.Value.TheVariants.{Int, Real}
use Rattle.operators.specs.declared.UnaryOp.{UnaryOp}
use Rattle.memory.specs.declared.Bank.{Bank}
use Rattle.tokens.specs.declared.Token.{Token}
use Rattle.tokens.specs.declared.Token.TheVariants.{Number, Cell, Letter, Name, Symbol}
use Rattle.tokens.specs.Scan.{Tok}
use Rattle.grammar.specs.Tree.{Tree}
use Rattle.grammar.specs.Symbols.{group, is_symbol, loosest, open_paren, close_paren, open_index, close_index, comma, Prefix, prefix_of, is, none}
use Rattle.grammar.specs.Symbols.{Form, plain, clock, ranged, matched, form_of, more_arguments, Arguments}
use Rattle.grammar.specs.Grammar.{tok}
use Rattle.grammar.specs.Parse.{Result, ok, bad, deep, starved, and_then, expect, expect_cell, expect_count, expect_range, enter, binds, call_body}
use Rattle.grammar.specs.Parse.{expression, climb, operand, primary, bracket, arguments}

-- not starved, and fewer than n tokens left
pub data Fed {X : Type 0} (n : ℕ) : Result X → Type 0 where
  left : {t : X} (r : List Tok) → length r < n → Fed n (ok t r)
  at-bad : {r : List Tok} → Fed n (bad r)
  at-deep : {r : List Tok} → Fed n (deep r)

fed-bind : {X Y : Type 0} {n m : ℕ} {q : Result X} (k : X → List Tok → Result Y) → Fed n q → ((t : X) (r : List Tok) → length r < n → Fed m (k t r))
    → Fed m (and_then q k)
fed-bind k (left {t = t} r lt) h = h t r lt
fed-bind k at-bad h = at-bad
fed-bind k at-deep h = at-deep

module _ {X : Type 0} where
  fed-more : {n m : ℕ} {q : Result X} → n ≤ m → Fed n q → Fed m q
  fed-more le (left r lt) = left r (omega arith)
  fed-more le at-bad = at-bad
  fed-more le at-deep = at-deep

  fed-test : {n : ℕ} {x y : Result X} (b : Bool) → Fed n x → Fed n y → Fed {X = X} n (elim b [ true ↦ x | false ↦ y ])
  fed-test true h k = h
  fed-test false h k = k

  fed-prefix : {n : ℕ} {x : UnaryOp → Result X} {y : Result X} (b : Prefix) → ((o : UnaryOp) → Fed n (x o)) → Fed n y
      → Fed {X = X} n (elim b [ is o ↦ x o | none ↦ y ])
  fed-prefix (is o) h k = h o
  fed-prefix none h k = k

  fed-expect : {m : ℕ} (n : ℕ) (r : List Tok) (k : List Tok → Result X) → ((ys : List Tok) → length ys < length r → Fed m (k ys)) → Fed m (expect n r k)
  fed-expect n [] k h = at-bad
  fed-expect n (x ∷ ys) k h = fed-test (is_symbol n x.token) (h ys (omega arith)) at-bad

  fed-enter : {m : ℕ} (d n : ℕ) (r : List Tok) (k : ℕ → List Tok → Result X) → ((e : ℕ) (ys : List Tok) → length ys < length r → Fed m (k e ys))
      → Fed m (enter d n r k)
  fed-enter zero n r k h = fed-expect n r _ (λ ys lt. at-deep)
  fed-enter (suc d) n r k h = fed-expect n r _ (λ ys lt. h d ys lt)

  fed-cell : {m : ℕ} (r : List Tok) (k : Bank → ℕ → List Tok → Result X) → ((b : Bank) (i : ℕ) (ys : List Tok) → length ys < length r → Fed m (k b i ys))
      → Fed m (expect_cell r k)
  fed-cell [] k h = at-bad
  fed-cell {m} (x ∷ ys) k h = go x.token x.place (λ b i. h b i ys (omega arith))
    where
      go : (t : Token) (p : ℕ) → ((b : Bank) (i : ℕ) → Fed m (k b i ys)) → Fed m (expect_cell (tok t p ∷ ys) k)
      go (Number v) p h = at-bad
      go (Cell b i) p h = h b i
      go (Letter b) p h = at-bad
      go (Name g) p h = at-bad
      go (Symbol n) p h = at-bad

  fed-count : {m : ℕ} (r : List Tok) (k : ℕ → ℤ → List Tok → Result X) → ((p : ℕ) (z : ℤ) (ys : List Tok) → length ys < length r → Fed m (k p z ys))
      → Fed m (expect_count r k)
  fed-count [] k h = at-bad
  fed-count {m} (x ∷ ys) k h = go x.token x.place (λ p z. h p z ys (omega arith))
    where
      go : (t : Token) (p : ℕ) → ((p : ℕ) (z : ℤ) → Fed m (k p z ys)) → Fed m (expect_count (tok t p ∷ ys) k)
      go (Number (Int z)) p h = h p z
      go (Number (Real y)) p h = at-bad
      go (Cell b i) p h = at-bad
      go (Letter b) p h = at-bad
      go (Name g) p h = at-bad
      go (Symbol n) p h = at-bad

  pub fed-not : {n : ℕ} {q : Result X} → Fed n q → q ≡ starved → ⊥
  fed-not (left r lt) e = let z : ◌≡◌ {A = ℕ} 0 1 = cc in omega arith
  fed-not at-bad e = let z : ◌≡◌ {A = ℕ} 0 1 = cc in omega arith
  fed-not at-deep e = let z : ◌≡◌ {A = ℕ} 0 1 = cc in omega arith

fed-range : {n : ℕ} (r : List Tok) (k : Bank → ℕ → ℕ → ℤ → Tree) → length r ≤ n → Fed n (expect_range r k)
fed-range r k le =
    fed-cell r _ (λ b i ys l. fed-expect comma ys _ (λ zs l'. fed-count zs _ (λ p n us l''. fed-expect close_paren us _ (λ vs l'''. left vs (omega arith)))))

fed-call : {n : ℕ} (o : Form) (p : ℕ) (ts : List Tok) (read : ℕ → List Tok → Result Arguments) (whole : List Tok → Result Tree) → length ts ≤ n
    → ((m : ℕ) → Fed n (read m ts)) → Fed n (whole ts) → Fed n (call_body o p read whole ts)
fed-call (plain c) p ts read whole le h k = fed-bind _ (h (more_arguments c)) (λ us r lt. left r lt)
fed-call clock p ts read whole le h k = fed-expect close_paren ts _ (λ ys lt. left ys (omega arith))
fed-call (ranged o) p ts read whole le h k = fed-range ts _ le
fed-call (matched o) p ts read whole le h k = fed-bind _ k (λ t r lt. fed-expect comma r _ (λ ys lt'. fed-range ys _ (omega arith)))

mutual
  unfolding expression

  pub fed-expression : (f d l : ℕ) (ts : List Tok) → length ts * 4 + 2 ≤ f → Fed (length ts) (expression f d l ts)
  fed-expression zero d l ts le = absurd (omega arith)
  fed-expression (suc f) d l ts le = fed-bind _ (fed-operand f d ts (omega arith)) (λ t r lt. fed-more (omega arith) (fed-climb f d l t r (omega arith)))

  pub fed-climb : (f d l : ℕ) (t : Tree) (ts : List Tok) → length ts * 4 + 1 ≤ f → Fed (suc (length ts)) (climb f d l t ts)
  fed-climb zero d l t ts le = absurd (omega arith)
  fed-climb (suc f) d l t [] le = left [] (omega arith)
  fed-climb (suc f) d l t (x ∷ xs) le =
      fed-test (binds l x.token)
      (fed-bind _ (fed-expression f d (group x.token - 1) xs (omega arith)) (λ u r lt. fed-more (omega arith) (fed-climb f d l _ r (omega arith))))
      (left (x ∷ xs) (omega arith))

  pub fed-operand : (f d : ℕ) (ts : List Tok) → length ts * 4 + 1 ≤ f → Fed (length ts) (operand f d ts)
  fed-operand zero d ts le = absurd (omega arith)
  fed-operand (suc f) d [] le = at-bad
  fed-operand (suc f) d (x ∷ xs) le =
      fed-prefix (prefix_of x.token) (λ o. fed-bind _ (fed-operand f d xs (omega arith)) (λ t r lt. left r (omega arith)))
      (fed-primary f d x.token x.place xs (omega arith))

  pub fed-primary : (f d : ℕ) (k : Token) (p : ℕ) (xs : List Tok) → length xs * 4 + 4 ≤ f → Fed (suc (length xs)) (primary f d (tok k p) xs)
  fed-primary zero d k p xs le = absurd (omega arith)
  fed-primary (suc f) d (Number v) p xs le = left xs (omega arith)
  fed-primary (suc f) d (Cell b i) p xs le = left xs (omega arith)
  fed-primary (suc f) d (Letter b) p xs le =
      fed-enter d open_index xs _ (λ e ys lt. fed-bind _ (fed-bracket f e close_index ys (omega arith)) (λ t r lt'. left r (omega arith)))
  fed-primary (suc f) d (Name g) p xs le =
      fed-enter d open_paren xs _ (λ e ys lt. fed-more (omega arith) (fed-call (form_of g) p ys _ _ (omega arith) (λ m. fed-arguments f e m ys (omega arith))
      (fed-expression f e loosest ys (omega arith))))
  fed-primary (suc f) d (Symbol n) p xs le =
      fed-enter d open_paren (tok (Symbol n) p ∷ xs) _ (λ e ys lt. fed-more (omega arith) (fed-bracket f e close_paren ys (omega arith)))

  pub fed-bracket : (f d n : ℕ) (ts : List Tok) → length ts * 4 + 3 ≤ f → Fed (length ts) (bracket f d n ts)
  fed-bracket zero d n ts le = absurd (omega arith)
  fed-bracket (suc f) d n ts le = fed-bind _ (fed-expression f d loosest ts (omega arith)) (λ t r lt. fed-expect n r _ (λ ys lt'. left ys (omega arith)))

  pub fed-arguments : (f d m : ℕ) (ts : List Tok) → length ts * 4 + 3 ≤ f → Fed (length ts) (arguments f d m ts)
  fed-arguments zero d m ts le = absurd (omega arith)
  fed-arguments (suc f) d zero ts le =
      fed-bind _ (fed-expression f d loosest ts (omega arith)) (λ t r lt. fed-expect close_paren r _ (λ ys lt'. left ys (omega arith)))
  fed-arguments (suc f) d (suc m) ts le =
      fed-bind _ (fed-expression f d loosest ts (omega arith))
      (λ t r lt. fed-expect comma r _ (λ ys lt'. fed-bind _ (fed-arguments f d m ys (omega arith)) (λ us q lt''. left q (omega arith))))
