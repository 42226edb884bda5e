-- More fuel changes no result but `starved`, and more room none but `deep`.
use mathlib.Core.Path.{◌≡◌, refl}
use mathlib.Core.Bool.{Bool, true, false}
use mathlib.Core.List.{List, [], ◌∷◌}
use Prim.Native.Nat.{ℕ, zero, suc, ◌-◌}
use Rattle.operators.specs.declared.UnaryOp.{UnaryOp}
use Rattle.tokens.specs.declared.Token.{Token}
use Rattle.tokens.specs.declared.Token.TheVariants.{Number, Cell, Letter, Name, Symbol}
use Rattle.tokens.specs.Scan.{Tok}
use Rattle.grammar.specs.Tree.{Tree}
use Rattle.grammar.specs.Symbols.{group, is_symbol, loosest, open_paren, close_paren, open_index, close_index, comma, Prefix, prefix_of, is, none}
use Rattle.grammar.specs.Symbols.{Form, plain, clock, ranged, matched, form_of, more_arguments, Arguments}
use Rattle.grammar.specs.Grammar.{tok}
use Rattle.grammar.specs.Parse.{Result, ok, bad, deep, starved, and_then, expect, enter, binds, call_body, expression, climb, operand, primary}
use Rattle.grammar.specs.Parse.{bracket, arguments}

-- the second result is the first, unless that is starved, or too deep where S holds
pub data Keeps {X : Type 0} (S : Type 0) : Result X → Result X → Type 0 where
  any : {q : Result X} → Keeps S starved q
  same : {q : Result X} → Keeps S q q
  deeper : {r : List Tok} {q : Result X} → S → Keeps S (deep r) q

pub keeps-ok : {X S : Type 0} {t : X} {r : List Tok} {q : Result X} → Keeps S (ok t r) q → q ≡ ok t r
keeps-ok same = refl

pub keeps-bad : {X S : Type 0} {r : List Tok} {q : Result X} → Keeps S (bad r) q → q ≡ bad r
keeps-bad same = refl

-- the second room is the first, or more where S holds
pub data Rooms (S : Type 0) : ℕ → ℕ → Type 0 where
  none_left : Rooms S zero zero
  some_left : {e : ℕ} → S → Rooms S zero (suc e)
  one_less : {d e : ℕ} → Rooms S d e → Rooms S (suc d) (suc e)

module _ {S : Type 0} where
  keep-bind : {X Y : Type 0} (q : Result X) {q' : Result X} {k k' : X → List Tok → Result Y} → Keeps S q q'
      → ((t : X) (r : List Tok) → Keeps S (k t r) (k' t r))
      → Keeps S (and_then q k) (and_then q' k')
  keep-bind q any h = any
  keep-bind q (deeper s) h = deeper s
  keep-bind (ok t r) same h = h t r
  keep-bind (bad r) same h = same
  keep-bind (deep r) same h = same
  keep-bind starved same h = same

  module _ {X : Type 0} where
    keep-test : (b : Bool) {x x' y y' : Result X} → Keeps S x x' → Keeps S y y'
        → Keeps {X = X} S (elim b [ true ↦ x | false ↦ y ]) (elim b [ true ↦ x' | false ↦ y' ])
    keep-test true h k = h
    keep-test false h k = k

    keep-prefix : (b : Prefix) {x x' : UnaryOp → Result X} {y y' : Result X} → ((o : UnaryOp) → Keeps S (x o) (x' o)) → Keeps S y y'
        → Keeps {X = X} S (elim b [ is o ↦ x o | none ↦ y ]) (elim b [ is o ↦ x' o | none ↦ y' ])
    keep-prefix (is o) h k = h o
    keep-prefix none h k = k

    keep-expect : (n : ℕ) (ts : List Tok) {k k' : List Tok → Result X} → ((ys : List Tok) → Keeps S (k ys) (k' ys)) → Keeps S (expect n ts k) (expect n ts k')
    keep-expect n [] h = same
    keep-expect n (x ∷ ys) h = keep-test (is_symbol n x.token) (h ys) same

    keep-enter : {d e : ℕ} (n : ℕ) (ts : List Tok) {k k' : ℕ → List Tok → Result X} → Rooms S d e
        → ((d e : ℕ) (ys : List Tok) → Rooms S d e → Keeps S (k d ys) (k' e ys))
        → Keeps S (enter d n ts k) (enter e n ts k')
    keep-enter n ts none_left h = same
    keep-enter n ts (some_left s) h = keep-expect n ts (λ ys. deeper s)
    keep-enter n ts (one_less m) h = keep-expect n ts (λ ys. h _ _ ys m)

  keep-call : (o : Form) (p : ℕ) (ts : List Tok) (read read' : ℕ → List Tok → Result Arguments) (whole whole' : List Tok → Result Tree)
      → ((m : ℕ) → Keeps S (read m ts) (read' m ts)) → Keeps S (whole ts) (whole' ts) → Keeps S (call_body o p read whole ts) (call_body o p read' whole' ts)
  keep-call (plain c) p ts read read' whole whole' h k = keep-bind _ (h (more_arguments c)) (λ us r. same)
  keep-call clock p ts read read' whole whole' h k = same
  keep-call (ranged o) p ts read read' whole whole' h k = same
  keep-call (matched o) p ts read read' whole whole' h k = keep-bind _ k (λ t r. same)

  mutual
    unfolding expression

    pub keep-expression : (f : ℕ) {d e : ℕ} (l : ℕ) (ts : List Tok) → Rooms S d e → Keeps S (expression f d l ts) (expression (suc f) e l ts)
    keep-expression zero l ts m = any
    keep-expression (suc f) l ts m = keep-bind _ (keep-operand f ts m) (λ t r. keep-climb f l t r m)

    pub keep-climb : (f : ℕ) {d e : ℕ} (l : ℕ) (t : Tree) (ts : List Tok) → Rooms S d e → Keeps S (climb f d l t ts) (climb (suc f) e l t ts)
    keep-climb zero l t ts m = any
    keep-climb (suc f) l t [] m = same
    keep-climb (suc f) l t (x ∷ xs) m = keep-test (binds l x.token)
        (keep-bind _ (keep-expression f (group x.token - 1) xs m) (λ u r. keep-climb f l _ r m)) same

    pub keep-operand : (f : ℕ) {d e : ℕ} (ts : List Tok) → Rooms S d e → Keeps S (operand f d ts) (operand (suc f) e ts)
    keep-operand zero ts m = any
    keep-operand (suc f) [] m = same
    keep-operand (suc f) (x ∷ xs) m = keep-prefix (prefix_of x.token) (λ o. keep-bind _ (keep-operand f xs m) (λ t r. same))
        (keep-primary f x.token x.place xs m)

    pub keep-primary : (f : ℕ) {d e : ℕ} (k : Token) (p : ℕ) (xs : List Tok) → Rooms S d e → Keeps S (primary f d (tok k p) xs) (primary (suc f) e (tok k p) xs)
    keep-primary zero k p xs m = any
    keep-primary (suc f) (Number v) p xs m = same
    keep-primary (suc f) (Cell b i) p xs m = same
    keep-primary (suc f) (Letter b) p xs m = keep-enter open_index xs m (λ d e ys m'. keep-bind _ (keep-bracket f close_index ys m') (λ t r. same))
    keep-primary (suc f) (Name g) p xs m = keep-enter open_paren xs m (λ d e ys m'. keep-call (form_of g) p ys _ _ _ _ (λ n. keep-arguments f n ys m')
        (keep-expression f loosest ys m'))
    keep-primary (suc f) (Symbol n) p xs m = keep-enter open_paren (tok (Symbol n) p ∷ xs) m (λ d e ys m'. keep-bracket f close_paren ys m')

    pub keep-bracket : (f : ℕ) {d e : ℕ} (n : ℕ) (ts : List Tok) → Rooms S d e → Keeps S (bracket f d n ts) (bracket (suc f) e n ts)
    keep-bracket zero n ts m = any
    keep-bracket (suc f) n ts m = keep-bind _ (keep-expression f loosest ts m) (λ t r. keep-expect n r (λ q. same))

    pub keep-arguments : (f : ℕ) {d e : ℕ} (n : ℕ) (ts : List Tok) → Rooms S d e → Keeps S (arguments f d n ts) (arguments (suc f) e n ts)
    keep-arguments zero n ts m = any
    keep-arguments (suc f) zero ts m = keep-bind _ (keep-expression f loosest ts m) (λ t r. keep-expect close_paren r (λ q. same))
    keep-arguments (suc f) (suc n) ts m =
        keep-bind _ (keep-expression f loosest ts m) (λ t r. keep-expect comma r (λ q. keep-bind _ (keep-arguments f n q m) (λ us p. same)))
