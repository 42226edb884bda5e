-- The tree of a list of tokens, by precedence climbing, with fuel; the nesting is limited to eight. It computes; that it finds just the trees of the
-- grammar, and stops just where no formula goes on, is Theorems.
use Rattle.std.specs.Prelude.{Bool, true, false, ◌&&◌, List, [], ◌∷◌, ℕ, zero, suc, ◌+◌, ◌-◌, ◌*◌, leb, length, ℤ}
use Rattle.values.specs.declared.Value.TheVariants.{Int, Real}
use Rattle.memory.specs.declared.Bank.{Bank}
use Rattle.tokens.specs.declared.Token.{Token}
use Rattle.tokens.specs.declared.Token.TheVariants.{Number, Cell, Letter, Name, Symbol}
use Rattle.tokens.specs.Scan.{Tok}
use Rattle.grammar.specs.Tree.{Tree, literal, cell, indexed, unary, tick, total, matching}
use Rattle.grammar.specs.Symbols.{group, loosest, is_symbol, open_paren, close_paren, open_index, close_index, comma, prefix_of, is, none, infix_tree}
use Rattle.grammar.specs.Symbols.{Form, plain, clock, ranged, matched, form_of, more_arguments, Arguments, one, more, call_tree}

-- a tree and the tokens left; the tokens from the first that no formula has there; the tokens from an opener met with eight still open; or too little fuel
pub data Result (X : Type 0) : Type 0 where
  ok : X → List Tok → Result X
  bad : List Tok → Result X
  deep : List Tok → Result X
  starved : Result X

abbrev pub and_then : {X Y : Type 0} → Result X → (X → List Tok → Result Y) → Result Y
and_then (ok x r) k = k x r
and_then (bad r) k = bad r
and_then (deep r) k = deep r
and_then starved k = starved

-- the symbol n comes next
abbrev pub expect : {X : Type 0} → ℕ → List Tok → (List Tok → Result X) → Result X
expect n [] k = bad []
expect n (x ∷ xs) k = elim (is_symbol n x.token) [ true ↦ k xs | false ↦ bad (x ∷ xs) ]

-- a cell comes next
abbrev pub expect_cell : {X : Type 0} → List Tok → (Bank → ℕ → List Tok → Result X) → Result X
expect_cell [] k = bad []
expect_cell (x ∷ xs) k =
    elim x.token [
      | Number v ↦ bad (x ∷ xs)
      | Cell b i ↦ k b i xs
      | Letter b ↦ bad (x ∷ xs)
      | Name g ↦ bad (x ∷ xs)
      | Symbol n ↦ bad (x ∷ xs)
    ]

-- an integer numeral comes next, with its place
abbrev pub expect_count : {X : Type 0} → List Tok → (ℕ → ℤ → List Tok → Result X) → Result X
expect_count [] k = bad []
expect_count (x ∷ xs) k =
    elim x.token [
      | Number v ↦ elim v [ Int z ↦ k x.place z xs | Real y ↦ bad (x ∷ xs) ]
      | Cell b i ↦ bad (x ∷ xs)
      | Letter b ↦ bad (x ∷ xs)
      | Name g ↦ bad (x ∷ xs)
      | Symbol n ↦ bad (x ∷ xs)
    ]

-- a first cell, a count and the closing parenthesis come next
abbrev pub expect_range : List Tok → (Bank → ℕ → ℕ → ℤ → Tree) → Result Tree
expect_range ts k = expect_cell ts (λ b i r. expect comma r (λ q. expect_count q (λ p n s. expect close_paren s (λ v. ok (k b i p n) v))))

-- "more than eight open"
abbrev pub most_open : ℕ
most_open = 8

-- the opener n comes next, with room for d brackets more, and one less after it
abbrev pub enter : {X : Type 0} → ℕ → ℕ → List Tok → (ℕ → List Tok → Result X) → Result X
enter zero n ts k = expect n ts (λ r. deep ts)
enter (suc d) n ts k = expect n ts (λ r. k d r)

-- the symbol's number; 0 for a token that is none, whose group is 0
abbrev pub symbol_number : Token → ℕ
symbol_number (Number v) = 0
symbol_number (Cell b i) = 0
symbol_number (Letter b) = 0
symbol_number (Name f) = 0
symbol_number (Symbol n) = n

-- a binary operator of the group l or tighter
abbrev pub binds : ℕ → Token → Bool
binds l x = leb 1 (group x) && leb (group x) l

-- what stands behind the opening parenthesis of a call at the place p, by its form, given how so many arguments after the first are read, and how an
-- expression is
abbrev pub call_body : Form → ℕ → (ℕ → List Tok → Result Arguments) → (List Tok → Result Tree) → List Tok → Result Tree
call_body (plain c) p read whole ts = and_then (read (more_arguments c) ts) (λ us r. ok (call_tree c p us) r)
call_body clock p read whole ts = expect close_paren ts (λ r. ok tick r)
call_body (ranged o) p read whole ts = expect_range ts (λ b i u n. total u o b i n)
call_body (matched o) p read whole ts = and_then (whole ts) (λ t r. expect comma r (λ q. expect_range q (λ b i u n. matching u o t b i n)))

unfoldable mutual
  -- an expression of the group l at the loosest, with room for d brackets
  pub expression : ℕ → ℕ → ℕ → List Tok → Result Tree
  expression zero d l ts = starved
  expression (suc f) d l ts = and_then (operand f d ts) (λ t r. climb f d l t r)

  -- what follows the tree t: operators of the group l or tighter, each with a right side of a tighter group
  pub climb : ℕ → ℕ → ℕ → Tree → List Tok → Result Tree
  climb zero d l t ts = starved
  climb (suc f) d l t [] = ok t []
  climb (suc f) d l t (x ∷ xs) =
      elim (binds l x.token) [
        | true ↦ and_then (expression f d (group x.token - 1) xs) (λ u r. climb f d l (infix_tree (symbol_number x.token) x.place t u) r)
        | false ↦ ok t (x ∷ xs)
      ]

  -- unary operators and a primary
  pub operand : ℕ → ℕ → List Tok → Result Tree
  operand zero d ts = starved
  operand (suc f) d [] = bad []
  operand (suc f) d (x ∷ xs) = elim (prefix_of x.token) [ is o ↦ and_then (operand f d xs) (λ t r. ok (unary x.place o t) r) | none ↦ primary f d x xs ]

  pub primary : ℕ → ℕ → Tok → List Tok → Result Tree
  primary zero d x xs = starved
  primary (suc f) d x xs =
      elim x.token [
        | Number v ↦ ok (literal x.place v) xs
        | Cell b i ↦ ok (cell b i) xs
        | Letter b ↦ enter d open_index xs (λ e r. and_then (bracket f e close_index r) (λ t q. ok (indexed b t) q))
        | Name g ↦ enter d open_paren xs (λ e r. call_body (form_of g) x.place (λ m q. arguments f e m q) (λ q. expression f e loosest q) r)
        | Symbol n ↦ enter d open_paren (x ∷ xs) (λ e r. bracket f e close_paren r)
      ]

  -- an expression and the closing symbol n
  pub bracket : ℕ → ℕ → ℕ → List Tok → Result Tree
  bracket zero d n ts = starved
  bracket (suc f) d n ts = and_then (expression f d loosest ts) (λ t r. expect n r (λ q. ok t q))

  -- m arguments after this one, and the closing parenthesis
  pub arguments : ℕ → ℕ → ℕ → List Tok → Result Arguments
  arguments zero d m ts = starved
  arguments (suc f) d zero ts = and_then (expression f d loosest ts) (λ t r. expect close_paren r (λ q. ok (one t) q))
  arguments (suc f) d (suc m) ts = and_then (expression f d loosest ts) (λ t r. expect comma r (λ q. and_then (arguments f d m q) (λ us p. ok (more t us) p)))

-- four steps a token are fuel enough
abbrev pub fuel : List Tok → ℕ
fuel ts = length ts * 4 + 4

-- an expression, no more and no less, with d brackets open before it
unfoldable pub parse_from : ℕ → List Tok → Result Tree
unfolding expression
parse_from d ts = expression (fuel ts) (most_open - d) loosest ts

-- a formula
abbrev pub parse : List Tok → Result Tree
parse ts = parse_from 0 ts
