-- Binary operators: what was written so far, climbed on from here, is what the whole expression says.
use mathlib.Core.Path.{◌≡◌, refl, sym, ap, subst, ◌∙◌}
use mathlib.Core.Bool.{Bool, false}
use mathlib.Core.List.{List, [], ◌∷◌}
use Prim.Native.Nat.{ℕ, zero, suc, ◌-◌, ◌≤◌, ◌<◌}
use native.Mathlib.Omega.{arith}
use lib.Dec.{ltb, eqb}
use lib.ListN.{get_or}
use borrow.Author.Tests.{le-leb, eqb-true, eqb-false, ltb-true, ltb-false}
use Rattle.operators.specs.declared.BinaryOp.TheVariants.{Power}
use Rattle.operators.specs.Tables.{binary_ops}
use Rattle.tokens.specs.declared.Token.TheVariants.{Symbol}
use Rattle.tokens.specs.Scan.{Tok}
use Rattle.grammar.specs.Tree.{Tree, binary, logic}
use Rattle.grammar.specs.Grammar.{tok}
use Rattle.grammar.specs.Symbols.{group_number, infix_tree}
use Rattle.grammar.specs.Parse.{ok, and_then, binds, expression, operand, climb}
use Rattle.format_laws.specs.Formatted.{lexeme, Notation, symbol, binary_notation, logic_symbol, notation_group, infix_text, binary_text, top, formatted}
use Rattle.formatter.specs.private.Walk.{says, SaysExpression, SaysOperand}
use Rattle.tokens.proofs.Tests.{by-test}
use Rattle.formatter.proofs.Inversion.{through, ok-tree}

-- ---- the text of a binary operator
pub record Infixed (s : List ℕ) (n p : ℕ) (t u : Tree) : Type 0 where
  pub text : formatted s (infix_tree n p t u) ≡ infix_text n (top t) (formatted s t) (top u) (formatted s u)
  pub group : top (infix_tree n p t u) ≡ group_number n

-- what holds at each of the first k numbers
abbrev Each : (ℕ → Type 0) → ℕ → Type 0
Each P zero = Unit {0}
Each P (suc k) = Each P k × P k

each : (P : ℕ → Type 0) (k : ℕ) → Each P k → (n : ℕ) → n < k → P n
each P zero all n h = absurd (omega arith)
each P (suc k) all n h = by-test (ltb n k) (λ e. each P k all.0 n (ltb-true n k e))
    (λ e. let q : k ≡ n = omega (arith, ltb-false n k e) in subst P q all.1)

-- the first eighteen symbols are the operators of values, in their order
abbrev Written : ℕ → Type 0
Written n = binary_notation (get_or binary_ops n Power) ≡ symbol n

written : (n : ℕ) → n < 18 → Written n
written n h = each Written 18 (
  (
    (
      (((((((((((((((tt, refl), refl), refl), refl), refl), refl), refl), refl), refl), refl), refl), refl), refl), refl), refl),
      refl,
    ),
    refl,
  ),
  refl,
) n h

-- then `&&` and `||`
logical : (n : ℕ) → 18 ≤ n → n < 20 → logic_symbol (eqb n 19) ≡ n
logical n l h =
    by-test (eqb n 19) (λ e. rw e (sym (eqb-true n 19 e)))
    (λ e. let k = eqb-false n 19 e in let q : 18 ≡ n = omega (arith, k) in rw e q)

pub infixed : (s : List ℕ) (n p : ℕ) (t u : Tree) → n < 20 → Infixed s n p t u
unfolding formatted
infixed s n p t u h =
    by-test (ltb n 18)
    (λ e. let w = written n (ltb-true n 18 e) in
    let same : infix_tree n p t u ≡ binary p (get_or binary_ops n Power) t u = rw e in
    record {
      text = ap (formatted s) same ∙ ap (λ (z : Notation). binary_text z (lexeme s p) (top t) (formatted s t) (top u) (formatted s u)) w;
      group =
          ap top same ∙ ap notation_group w;
    })
    (λ e. let w = logical n (ltb-false n 18 e) h in
    let same : infix_tree n p t u ≡ logic p (eqb n 19) t u = rw e in
    record {
      text = ap (formatted s) same ∙ ap (λ (z : ℕ). infix_text z (top t) (formatted s t) (top u) (formatted s u)) w;
      group = ap top same
          ∙ ap group_number w;
    })

-- ---- climbing on from a tree
pub record Climbs (l : ℕ) (s : List ℕ) (t : Tree) (ts : List Tok) (x : List ℕ) (g : ℕ) (r : List Tok) : Type 0 where
  pub fuel : ℕ
  pub room : ℕ
  pub tree : Tree
  pub climbs : climb fuel room l t ts ≡ ok tree r
  pub text : x ≡ formatted s tree
  pub group : g ≡ top tree

-- the operand of an expression, and what follows it
pub record Started (l : ℕ) (s : List ℕ) (ts : List Tok) (x : List ℕ) (g : ℕ) (r : List Tok) : Type 0 where
  pub first : Tree
  pub left : List Tok
  pub operand : SaysOperand s ts (formatted s first) (top first) left
  pub onward : Climbs l s first left x g r

pub started : (l : ℕ) (s : List ℕ) (ts : List Tok) {x : List ℕ} {g : ℕ} {r : List Tok} → SaysExpression l s ts x g r → Started l s ts x g r
unfolding expression
started l s ts (says zero d e) = let z : ◌≡◌ {A = ℕ} 0 1 = cc in absurd (omega arith)
started l s ts (says (suc f) d {t} {r} e) =
    let h = through (operand f d ts) (λ t z. climb f d l t z) e in
    record {
      first = h.first;
      left = h.left;
      operand = says f d h.is;
      onward =
          record { fuel = f; room = d; tree = t; climbs = h.then; text = refl; group = refl };
    }

-- no operator of the group l or tighter comes next
abbrev pub head_binds : ℕ → List Tok → Bool
head_binds l [] = false
head_binds l (x ∷ xs) = binds l x.token

-- so the tree is the whole
pub record Stopped (s : List ℕ) (t : Tree) (ts : List Tok) (x : List ℕ) (g : ℕ) (r : List Tok) : Type 0 where
  pub text : x ≡ formatted s t
  pub group : g ≡ top t
  pub left : ts ≡ r

pub stopped : (l : ℕ) (s : List ℕ) (t : Tree) (ts : List Tok) {x : List ℕ} {g : ℕ} {r : List Tok} → head_binds l ts ≡ false → Climbs l s t ts x g r
    → Stopped s t ts x g r
unfolding climb
stopped l s t ts {x} {g} {r} b h = go h.fuel h.climbs
  where
    halts : (f d : ℕ) (us : List Tok) → head_binds l us ≡ false → climb (suc f) d l t us ≡ ok t us
    halts f d [] e = refl
    halts f d (y ∷ ys) e = rw (climb, e) refl

    go : (f : ℕ) → climb f h.room l t ts ≡ ok h.tree r → Stopped s t ts x g r
    go zero e = let z : ◌≡◌ {A = ℕ} 0 1 = cc in absurd (omega arith)
    go (suc f) e =
        let q = ok-tree (sym (halts f h.room ts b) ∙ e) in
        record { text = h.text ∙ ap (formatted s) (sym q.0); group = h.group ∙ ap top (sym q.0); left = q.1 }

-- the operator n, with its right side
pub record Operated (l : ℕ) (s : List ℕ) (t : Tree) (n p : ℕ) (ts : List Tok) (x : List ℕ) (g : ℕ) (r : List Tok) : Type 0 where
  pub right : Tree
  pub left : List Tok
  pub says : SaysExpression (group_number n - 1) s ts (formatted s right) (top right) left
  pub onward : Climbs l s (infix_tree n p t right) left x g r

pub operated : (l : ℕ) (s : List ℕ) (t : Tree) (n p : ℕ) (ts : List Tok) {x : List ℕ} {g : ℕ} {r : List Tok} → 1 ≤ group_number n → group_number n ≤ l
    → Climbs l s t (tok (Symbol n) p ∷ ts) x g r → Operated l s t n p ts x g r
unfolding climb
operated l s t n p ts {x} {g} {r} low high h = go h.fuel h.climbs
  where
    go : (f : ℕ) → climb f h.room l t (tok (Symbol n) p ∷ ts) ≡ ok h.tree r → Operated l s t n p ts x g r
    go zero e = let z : ◌≡◌ {A = ℕ} 0 1 = cc in absurd (omega arith)
    go (suc f) e =
        let step : climb (suc f) h.room l t (tok (Symbol n) p ∷ ts) ≡ and_then (expression f h.room (group_number n - 1) ts)
        (λ u z. climb f h.room l (infix_tree n p t u) z) =
        rw (climb, le-leb 1 (group_number n) low, le-leb (group_number n) l high) in
        let y = through (expression f h.room (group_number n - 1) ts) (λ u z. climb f h.room l (infix_tree n p t u) z) (sym step ∙ e) in
        record {
          right = y.first;
          left = y.left;
          says = says f h.room y.is;
          onward =
              record { fuel = f; room = h.room; tree = h.tree; climbs = y.then; text = h.text; group = h.group };
        }
