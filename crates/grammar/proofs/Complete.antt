-- The parser accepts every formula and gives its tree, where there is room for as many brackets as there are tokens.
use mathlib.Core.Path.{◌≡◌, refl}
use mathlib.Core.List.{List, [], ◌∷◌, ◌++◌, append_assoc, append-nil}
use Prim.Native.Nat.{ℕ, zero, suc, ◌+◌, ◌-◌, ◌*◌, ◌≤◌}
use native.Mathlib.Omega.{arith}
use lib.ListN.{length, length-append}
use lib.IntN.{ℤ}
use borrow.Author.Tests.{eq-eqb}
use Rattle.operators.specs.declared.UnaryOp.{UnaryOp}
use Rattle.memory.specs.declared.Bank.{Bank}
use Rattle.totals.specs.declared.TotalOp.{TotalOp}
use Rattle.totals.specs.declared.MatchOp.{MatchOp}
use Rattle.tokens.specs.declared.Function.{Function}
use Rattle.tokens.specs.declared.Token.TheVariants.{Number, Cell, Letter, Name, Symbol}
use Rattle.tokens.specs.Scan.{Tok}
use Rattle.grammar.specs.Tree.{Tree, literal, cell, indexed, unary, tick, total, matching}
use Rattle.grammar.specs.Symbols.{group_number, loosest, open_paren, close_paren, open_index, close_index, comma, prefix_of, prefix_symbol, is, none}
use Rattle.grammar.specs.Symbols.{infix_tree, Callee, plain, clock, ranged, matched, form_of, more_arguments, Arguments, one, more, call_tree}
use Rattle.grammar.specs.Grammar.{tok, Range, range, Derives, number, name, index, parenthesis, call, clocked, totalled, tested, prefixed, up}
use Rattle.grammar.specs.Grammar.{infixed, last, next}
use Rattle.grammar.specs.Parse.{Result, ok, expect, expect_range, expression, climb, operand, primary, bracket, arguments}
use Rattle.grammar.proofs.Tests.{Follow, at-end, before, follow-less, binds-yes, binds-no}

-- reading the tokens w, an expression of the group m, at any group l from m on, goes on with what follows the tree t
abbrev Chain : ℕ → List Tok → Tree → Type 0
Chain m w t = (d l : ℕ) (rest : List Tok) (q : Result Tree) → length w ≤ d → m ≤ l → Follow m rest
    → ((f : ℕ) → length rest * 4 + 1 ≤ f → climb f d l t rest ≡ q)
    → (f : ℕ) → (length w + length rest) * 4 + 2 ≤ f → expression f d l (w ++ rest) ≡ q

abbrev Reads : ℕ → List Tok → Tree → Type 0
Reads zero w t = (d : ℕ) (rest : List Tok) → length w ≤ d → (f : ℕ) → (length w + length rest) * 4 + 1 ≤ f → operand f d (w ++ rest) ≡ ok t rest
Reads (suc m) w t = Chain (suc m) w t

abbrev ReadsAll : ℕ → List Tok → Arguments → Type 0
ReadsAll m w ts = (d : ℕ) (rest : List Tok) → length w ≤ d → (f : ℕ) → (length w + length rest) * 4 + 3 ≤ f → arguments f d m (w ++ rest) ≡ ok ts rest

chain : (m : ℕ) (w : List Tok) (t : Tree) → Reads m w t → Chain m w t
unfolding expression
chain zero w t g d l rest q n le h k zero c = absurd (omega arith)
chain zero w t g d l rest q n le h k (suc f) c = rw (g d rest n f (omega arith)) (k f (omega arith))
chain (suc m) w t g d l rest q n le h k f c = g d l rest q n le h k f c

climb-stops : (d l : ℕ) (t : Tree) (rest : List Tok) → Follow (suc l) rest → (f : ℕ) → length rest * 4 + 1 ≤ f → climb f d l t rest ≡ ok t rest
unfolding climb
climb-stops d l t rest h zero c = absurd (omega arith)
climb-stops d l t [] h (suc f) c = refl
climb-stops d l t (x ∷ xs) (before h) (suc f) c = rw (climb, binds-no l x.token h)

-- the whole expression, where no operator that follows belongs to it
full : (l m : ℕ) (w : List Tok) (t : Tree) → Reads m w t → (d : ℕ) (rest : List Tok) → length w ≤ d → m ≤ l → Follow (suc l) rest
    → (f : ℕ) → (length w + length rest) * 4 + 2 ≤ f → expression f d l (w ++ rest) ≡ ok t rest
full l m w t g d rest n le h f c = chain m w t g d l rest (ok t rest) n le (follow-less (omega arith) h) (climb-stops d l t rest h) f c

-- and before a symbol n that is no operator
before-symbol : (n p : ℕ) (w : List Tok) (t : Tree) → group_number n ≡ 0 → Reads loosest w t → (d : ℕ) (rest : List Tok) → length w ≤ d
    → (f : ℕ) → (length w + suc (length rest)) * 4 + 2 ≤ f → expression f d loosest (w ++ tok (Symbol n) p ∷ rest) ≡ ok t (tok (Symbol n) p ∷ rest)
before-symbol n p w t z g d rest le f c = full loosest loosest w t g d (tok (Symbol n) p ∷ rest) le (omega arith)
    (before {x = tok (Symbol n) p} (λ h. omega arith)) f c

r-up : (m : ℕ) (w : List Tok) (t : Tree) → Reads m w t → Reads (suc m) w t
r-up m w t g d l rest q n le h k f c = chain m w t g d l rest q n (omega arith) (follow-less (omega arith) h) k f c

r-infixed : (m n p : ℕ) (w v : List Tok) (t u : Tree) → group_number n ≡ suc m → Reads (suc m) w t → Reads m v u
    → Reads (suc m) (w ++ tok (Symbol n) p ∷ v) (infix_tree n p t u)
unfolding climb
r-infixed m n p w v t u e g g' d l rest q le ge h k f c =
    let i = length-append w (tok (Symbol n) p ∷ v) in
    rw append_assoc (g d l (tok (Symbol n) p ∷ (v ++ rest)) q (omega arith) ge (before {x = tok (Symbol n) p} (λ z. omega arith)) on f
    (omega (arith, length-append v rest)))
  where
    on : (f : ℕ) → length (tok (Symbol n) p ∷ (v ++ rest)) * 4 + 1 ≤ f → climb f d l t (tok (Symbol n) p ∷ (v ++ rest)) ≡ q
    on zero c = absurd (omega arith)
    on (suc f) c =
        let i = length-append w (tok (Symbol n) p ∷ v) in
        let j = length-append v rest in
        rw (
          climb,
          binds-yes l (Symbol n) (omega arith) (omega arith),
          full (group_number n - 1) m v u g' d rest (omega arith) (omega arith)
              (follow-less (omega arith) h) f (omega arith),
        )
        (k f (omega arith))

r-prefixed : (n p : ℕ) (o : UnaryOp) (w : List Tok) (t : Tree) → prefix_symbol n ≡ is o → Reads 0 w t → Reads 0 (tok (Symbol n) p ∷ w) (unary p o t)
unfolding operand
r-prefixed n p o w t e g d rest le zero c = absurd (omega arith)
r-prefixed n p o w t e g d rest le (suc f) c = rw (operand, e, g d rest (omega arith) f (omega arith))

r-primary : (x : Tok) (w : List Tok) (t : Tree) → prefix_of x.token ≡ none
    → ((d : ℕ) (rest : List Tok) → length w ≤ d → (f : ℕ) → (length w + length rest) * 4 + 3 ≤ f → primary (suc f) (suc d) x (w ++ rest) ≡ ok t rest)
    → Reads 0 (x ∷ w) t
unfolding operand
r-primary x w t e g zero rest n f c = absurd (omega arith)
r-primary x w t e g (suc d) rest n zero c = absurd (omega arith)
r-primary x w t e g (suc d) rest n (suc zero) c = absurd (omega arith)
r-primary x w t e g (suc d) rest n (suc (suc f)) c = rw (operand, e) (g d rest (omega arith) f (omega arith))

-- an expression and the closing symbol n
r-bracket : (n p : ℕ) (w : List Tok) (t : Tree) → group_number n ≡ 0 → Reads loosest w t → (d : ℕ) (rest : List Tok) → length (w ++ tok (Symbol n) p ∷ []) ≤ d
    → (f : ℕ) → (length (w ++ tok (Symbol n) p ∷ []) + length rest) * 4 + 3 ≤ f → bracket f d n ((w ++ tok (Symbol n) p ∷ []) ++ rest) ≡ ok t rest
unfolding bracket
r-bracket n p w t z g d rest le zero c = absurd (omega arith)
r-bracket n p w t z g d rest le (suc f) c =
    let i = length-append w (tok (Symbol n) p ∷ []) in
    rw (append_assoc, before-symbol n p w t z g d rest (omega arith) f (omega arith)) (rw (expect, eq-eqb n n refl))

r-index : (b : Bank) (p q r : ℕ) (w : List Tok) (t : Tree) → Reads loosest w t
    → Reads 0 (tok (Letter b) p ∷ tok (Symbol open_index) q ∷ (w ++ tok (Symbol close_index) r ∷ [])) (indexed b t)
unfolding primary group_number
r-index b p q r w t g =
    r-primary (tok (Letter b) p) (tok (Symbol open_index) q ∷ (w ++ tok (Symbol close_index) r ∷ [])) (indexed b t) refl
    (λ d rest n f c. rw (r-bracket close_index r w t refl g d rest (omega arith) f (omega arith)))

r-parenthesis : (p q : ℕ) (w : List Tok) (t : Tree) → Reads loosest w t → Reads 0 (tok (Symbol open_paren) p ∷ (w ++ tok (Symbol close_paren) q ∷ [])) t
unfolding primary group_number
r-parenthesis p q w t g =
    r-primary (tok (Symbol open_paren) p) (w ++ tok (Symbol close_paren) q ∷ []) t refl
    (λ d rest n f c. r-bracket close_paren q w t refl g d rest n f c)

r-call : (h : Function) (c : Callee) (p q : ℕ) (w : List Tok) (ts : Arguments) → form_of h ≡ plain c → ReadsAll (more_arguments c) w ts
    → Reads 0 (tok (Name h) p ∷ tok (Symbol open_paren) q ∷ w) (call_tree c p ts)
unfolding primary
r-call h c p q w ts e g =
    r-primary (tok (Name h) p) (tok (Symbol open_paren) q ∷ w) (call_tree c p ts) refl (λ d rest n f le. rw (e, g d rest (omega arith) f (omega arith)))

r-clocked : (h : Function) (p q r : ℕ) → form_of h ≡ clock → Reads 0 (tok (Name h) p ∷ tok (Symbol open_paren) q ∷ tok (Symbol close_paren) r ∷ []) tick
unfolding primary
r-clocked h p q r e = r-primary (tok (Name h) p) (tok (Symbol open_paren) q ∷ tok (Symbol close_paren) r ∷ []) tick refl (λ d rest n f le. rw e)

r-range : {b : Bank} {i : ℕ} {n : ℤ} {u : ℕ} {w : List Tok} (k : Bank → ℕ → ℕ → ℤ → Tree) (rest : List Tok) → Range b i n u w
    → expect_range (w ++ rest) k ≡ ok (k b i u n) rest
r-range k rest (range o q p r) = refl

r-totalled : (h : Function) (o : TotalOp) (p q : ℕ) {b : Bank} {i : ℕ} {n : ℤ} {u : ℕ} (w : List Tok) → form_of h ≡ ranged o → Range b i n u w
    → Reads 0 (tok (Name h) p ∷ tok (Symbol open_paren) q ∷ w) (total u o b i n)
unfolding primary
r-totalled h o p q {b} {i} {n} {u} w e g =
    r-primary (tok (Name h) p) (tok (Symbol open_paren) q ∷ w) (total u o b i n) refl (λ d rest le f c. rw e (r-range _ rest g))

r-tested : (h : Function) (o : MatchOp) (p q r : ℕ) {b : Bank} {i : ℕ} {n : ℤ} {u : ℕ} (w v : List Tok) (t : Tree) → form_of h ≡ matched o
    → Reads loosest w t → Range b i n u v
    → Reads 0 (tok (Name h) p ∷ tok (Symbol open_paren) q ∷ (w ++ tok (Symbol comma) r ∷ v)) (matching u o t b i n)
unfolding primary group_number
r-tested h o p q r {b} {i} {n} {u} w v t e g x =
    r-primary (tok (Name h) p) (tok (Symbol open_paren) q ∷ (w ++ tok (Symbol comma) r ∷ v)) (matching u o t b i n) refl
    (λ d rest le f c.
    let k = length-append w (tok (Symbol comma) r ∷ v) in
    let j = length-append v rest in
    rw (e, append_assoc, before-symbol comma r w t refl g d (v ++ rest) (omega arith) f (omega arith)) (r-range _ rest x))

r_last : (q : ℕ) (w : List Tok) (t : Tree) → Reads loosest w t → ReadsAll 0 (w ++ tok (Symbol close_paren) q ∷ []) (one t)
unfolding arguments group_number
r_last q w t g d rest n zero c = absurd (omega arith)
r_last q w t g d rest n (suc f) c =
    let i = length-append w (tok (Symbol close_paren) q ∷ []) in
    rw (append_assoc, before-symbol close_paren q w t refl g d rest (omega arith) f (omega arith))

r-next : (m q : ℕ) (w v : List Tok) (t : Tree) (ts : Arguments) → Reads loosest w t → ReadsAll m v ts
    → ReadsAll (suc m) (w ++ tok (Symbol comma) q ∷ v) (more t ts)
unfolding arguments group_number
r-next m q w v t ts g g' d rest n zero c = absurd (omega arith)
r-next m q w v t ts g g' d rest n (suc f) c =
    let i = length-append w (tok (Symbol comma) q ∷ v) in
    let j = length-append v rest in
    rw (append_assoc, before-symbol comma q w t refl g d (v ++ rest) (omega arith) f (omega arith)) (rw (g' d rest (omega arith) f (omega arith)))

complete : {m : ℕ} {w : List Tok} {t : Tree} → Derives m w t → Reads m w t
unfolding primary
complete a = elim a as (λ m w t a. Reads m w t) (λ m w ts a. ReadsAll m w ts) [
  | number {v} {p} ↦ r-primary (tok (Number v) p) [] (literal p v) refl (λ d rest n f c. refl)
  | name {b} {i} {p} ↦ r-primary (tok (Cell b i) p) [] (cell b i) refl (λ d rest n f c. refl)
  | index {b} {p} {q} r {w} {t} (a → h) ↦ r-index b p q r w t h
  | parenthesis {p} q {w} {t} (a → h) ↦ r-parenthesis p q w t h
  | call {f} {c} {p} {q} {w} {ts} e (a → h) ↦ r-call f c p q w ts e h
  | clocked {f} {p} {q} r e ↦ r-clocked f p q r e
  | totalled {f} {o} {p} {q} {w = w} e g ↦ r-totalled f o p q w e g
  | tested {f} {o} {p} {q} r {w = w} {v = v} {t = t} e (a → h) g ↦ r-tested f o p q r w v t e h g
  | prefixed {n} {p} {o} {w} {t} e (a → h) ↦ r-prefixed n p o w t e h
  | up {l} {w} {t} (a → h) ↦ r-up l w t h
  | infixed {l} n p {w} {v} {t} {u} e (a → h) (b → h') ↦ r-infixed l n p w v t u e h h'
  | last q {w} {t} (a → h) ↦ r_last q w t h
  | next {m} q {w} {v} {t} {ts} (a → h) (b → h') ↦ r-next m q w v t ts h h'
]

pub accepts : {w : List Tok} {t : Tree} → Derives loosest w t → (d f : ℕ) → length w ≤ d → length w * 4 + 2 ≤ f → expression f d loosest w ≡ ok t []
accepts {w} {t} a d f n c = rw append-nil at (full loosest loosest w t (complete a) d [] n (omega arith) at-end f (omega arith))
