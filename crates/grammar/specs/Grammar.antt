-- The grammar (paper 01, "Grammar and grouping"), as a relation between tokens and trees: `Derives l w t` says that the tokens w are an expression of group
-- l at the loosest, with the tree t. "Every binary operator groups to the left, `**` too. A primary is a numeral, a cell, a bank letter with an expression
-- in square brackets, an expression in parentheses, or a function with exactly its arguments". Length, nesting and kinds are no part of it.
use Rattle.std.specs.Prelude.{◌≡◌, List, [], ◌∷◌, ◌++◌, ℕ, suc, ℤ}
use Rattle.values.specs.declared.Value.{Value}
use Rattle.values.specs.declared.Value.TheVariants.{Int}
use Rattle.operators.specs.declared.UnaryOp.{UnaryOp}
use Rattle.memory.specs.declared.Bank.{Bank}
use Rattle.totals.specs.declared.TotalOp.{TotalOp}
use Rattle.totals.specs.declared.MatchOp.{MatchOp}
use Rattle.tokens.specs.declared.Function.{Function}
use Rattle.tokens.specs.declared.Token.{Token}
use Rattle.tokens.specs.declared.Token.TheVariants.{Number, Cell, Letter, Name, Symbol}
use Rattle.tokens.specs.Scan.{Tok}
use Rattle.grammar.specs.Tree.{Tree, literal, cell, indexed, unary, tick, total, matching}
use Rattle.grammar.specs.Symbols.{group_number, loosest, open_paren, close_paren, open_index, close_index, comma, prefix_symbol, is, infix_tree}
use Rattle.grammar.specs.Symbols.{Callee, plain, clock, ranged, matched, form_of, more_arguments, Arguments, one, more, call_tree}

abbrev pub tok : Token → ℕ → Tok
tok x p = record { token = x; place = p }

-- a first cell, "a plain numeral count (a real one is 7)", and the closing parenthesis; the count stands at p
pub data Range : Bank → ℕ → ℤ → ℕ → List Tok → Type 0 where
  range : {b : Bank} {i : ℕ} {n : ℤ} (o q p r : ℕ)
      → Range b i n p (tok (Cell b i) o ∷ tok (Symbol comma) q ∷ tok (Number (Int n)) p ∷ tok (Symbol close_paren) r ∷ [])

mutual
  pub data Derives : ℕ → List Tok → Tree → Type 0 where
    number : {v : Value} {p : ℕ} → Derives 0 (tok (Number v) p ∷ []) (literal p v)
    name : {b : Bank} {i p : ℕ} → Derives 0 (tok (Cell b i) p ∷ []) (cell b i)
    index : {b : Bank} {p q : ℕ} (r : ℕ) {w : List Tok} {t : Tree} → Derives loosest w t
        → Derives 0 (tok (Letter b) p ∷ tok (Symbol open_index) q ∷ (w ++ tok (Symbol close_index) r ∷ [])) (indexed b t)
    parenthesis : {p : ℕ} (q : ℕ) {w : List Tok} {t : Tree} → Derives loosest w t
        → Derives 0 (tok (Symbol open_paren) p ∷ (w ++ tok (Symbol close_paren) q ∷ [])) t
    call : {f : Function} {c : Callee} {p q : ℕ} {w : List Tok} {ts : Arguments} → form_of f ≡ plain c → DerivesArguments (more_arguments c) w ts
        → Derives 0 (tok (Name f) p ∷ tok (Symbol open_paren) q ∷ w) (call_tree c p ts)
    clocked : {f : Function} {p q : ℕ} (r : ℕ) → form_of f ≡ clock → Derives 0 (tok (Name f) p ∷ tok (Symbol open_paren) q ∷ tok (Symbol close_paren) r ∷ []) tick
    totalled : {f : Function} {o : TotalOp} {p q u : ℕ} {b : Bank} {i : ℕ} {n : ℤ} {w : List Tok} → form_of f ≡ ranged o → Range b i n u w
        → Derives 0 (tok (Name f) p ∷ tok (Symbol open_paren) q ∷ w) (total u o b i n)
    tested : {f : Function} {o : MatchOp} {p q u : ℕ} (r : ℕ) {b : Bank} {i : ℕ} {n : ℤ} {w v : List Tok} {t : Tree} → form_of f ≡ matched o
        → Derives loosest w t → Range b i n u v
        → Derives 0 (tok (Name f) p ∷ tok (Symbol open_paren) q ∷ (w ++ tok (Symbol comma) r ∷ v)) (matching u o t b i n)
    prefixed : {n p : ℕ} {o : UnaryOp} {w : List Tok} {t : Tree} → prefix_symbol n ≡ is o → Derives 0 w t → Derives 0 (tok (Symbol n) p ∷ w) (unary p o t)
    up : {l : ℕ} {w : List Tok} {t : Tree} → Derives l w t → Derives (suc l) w t
    infixed : {l : ℕ} (n p : ℕ) {w v : List Tok} {t u : Tree} → group_number n ≡ suc l → Derives (suc l) w t → Derives l v u
        → Derives (suc l) (w ++ tok (Symbol n) p ∷ v) (infix_tree n p t u)

  -- so many arguments after the first, and the closing parenthesis
  pub data DerivesArguments : ℕ → List Tok → Arguments → Type 0 where
    last : (q : ℕ) {w : List Tok} {t : Tree} → Derives loosest w t → DerivesArguments 0 (w ++ tok (Symbol close_paren) q ∷ []) (one t)
    next : {m : ℕ} (q : ℕ) {w v : List Tok} {t : Tree} {ts : Arguments} → Derives loosest w t → DerivesArguments m v ts
        → DerivesArguments (suc m) (w ++ tok (Symbol comma) q ∷ v) (more t ts)

-- a formula, its nesting and kinds apart
abbrev pub Formula : List Tok → Tree → Type 0
Formula w t = Derives loosest w t

-- some formula begins with the tokens w
abbrev pub Viable : List Tok → Type 0
Viable w = (z : List Tok) × (t : Tree) × Formula (w ++ z) t
