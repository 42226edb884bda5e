-- The text of a node as the parser makes it: of an infix symbol, of a prefix, of a call.
use mathlib.Core.Path.{◌≡◌, refl, sym, ap, subst, ◌∙◌}
use mathlib.Core.Bool.{Bool, true, false, ◌||◌, cond, false≢true}
use mathlib.Core.List.{List, [], ◌∷◌, ◌++◌}
use Prim.Native.Nat.{ℕ, suc, ◌≤◌}
use native.Mathlib.Omega.{arith}
use lib.Dec.{eqb, ltb, leb}
use lib.ListN.{get_or}
use borrow.Author.Tests.{ltb-true, ltb-false, eqb-true, ne_eqb, leb-true}
use Rattle.values.specs.declared.ChoiceOp.TheVariants as Choose
use Rattle.operators.specs.declared.UnaryOp.{UnaryOp}
use Rattle.operators.specs.declared.UnaryOp.TheVariants as U
use Rattle.operators.specs.declared.BinaryOp.{BinaryOp}
use Rattle.operators.specs.declared.BinaryOp.TheVariants as B
use Rattle.operators.specs.Tables.{binary_ops}
use Rattle.tokens.specs.declared.Function.{Function}
use Rattle.tokens.specs.declared.Function.TheVariants.{Abs, ToReal, ToInt, Trunc, Round, Frac, Max, Min, If, TickMs, Since, Total, Match}
use Rattle.tokens.specs.Symbols.{symbol_count}
use Rattle.tokens.proofs.Below.{below, below_at}
use Rattle.grammar.specs.Tree.{Tree, unary, binary, logic, choice, since}
use Rattle.grammar.specs.Symbols.{group_number, loosest, minus, tilde, bang, prefix_symbol, is, none, infix_tree, Arguments, one, more, Callee}
use Rattle.grammar.specs.Symbols.{of_one, of_two, of_choice, of_since, plain, form_of, more_arguments, call_tree}
use Rattle.tree_code.proofs.Nodes.{no-group}
use Rattle.format_laws.specs.Formatted.{lexeme, Notation, symbol, function, unary_notation, binary_notation, logic_symbol, notation_group, top}
use Rattle.format_laws.specs.Formatted.{prefix_text, infix_text, call_text, unary_text, binary_text, formatted, without_places, named_before}
use Rattle.format_laws.specs.Formatted.{spellings}

-- ---- infix operators, by computing the table of symbols
is-symbol : ℕ → Notation → Bool
is-symbol n (symbol m) = eqb m n
is-symbol n function = false

entry : ℕ → Bool
entry n = eqb (group_number n) 0 || cond (ltb n 18) (is-symbol n (binary_notation (get_or binary_ops n B.Power))) (eqb (logic_symbol (eqb n 19)) n)

entries : below symbol_count entry ≡ true
unfolding below entry is-symbol group_number
entries = refl

of-symbol : (n : ℕ) (m : Notation) → is-symbol n m ≡ true → m ≡ symbol n
unfolding is-symbol
of-symbol n (symbol m) e = ap symbol (eqb-true m n e)
of-symbol n function e = absurd (false≢true e)

-- the symbol n, or the one of logic
pub data Infix (n : ℕ) (p : ℕ) (t u : Tree) : Tree → Type 0 where
  of_values : (o : BinaryOp) → binary_notation o ≡ symbol n → Infix n p t u (binary p o t u)
  of-truths : (d : Bool) → logic_symbol d ≡ n → Infix n p t u (logic p d t u)

pub infix-node : (n l p : ℕ) (t u : Tree) → group_number n ≡ suc l → Infix n p t u (infix_tree n p t u)
unfolding entry
infix-node n l p t u e = go (ltb n symbol_count) refl
  where
    of_entry : (x y : Bool) → x ≡ false → (x || cond y (is-symbol n (binary_notation (get_or binary_ops n B.Power))) (eqb (logic_symbol (eqb n 19)) n)) ≡ true
        → Infix n p t u (cond y (binary p (get_or binary_ops n B.Power) t u) (logic p (eqb n 19) t u))
    of_entry true y q h = absurd (false≢true (sym q))
    of_entry false true q h = of_values (get_or binary_ops n B.Power) (of-symbol n _ h)
    of_entry false false q h = of-truths (eqb n 19) (eqb-true _ n h)

    go : (x : Bool) → ltb n symbol_count ≡ x → Infix n p t u (infix_tree n p t u)
    go true q =
        of_entry (eqb (group_number n) 0) (ltb n 18) (ne_eqb (group_number n) 0 (λ z. omega arith))
        (below_at entry symbol_count n entries (ltb-true n symbol_count q))
    go false q = absurd (omega (arith, no-group n (ltb-false n symbol_count q)))

-- its text, its top, its spellings
pub record InfixNode (s : List ℕ) (n : ℕ) (t u x : Tree) : Type 0 where
  pub text : formatted s x ≡ infix_text n (top t) (formatted s t) (top u) (formatted s u)
  pub group : top x ≡ group_number n
  pub spelled : spellings s x ≡ spellings s t ++ spellings s u

infix-is : (s : List ℕ) (n p : ℕ) (t u x : Tree) → Infix n p t u x → InfixNode s n t u x
unfolding formatted spellings
infix-is s n p t u _ (of_values o e) =
    record {
      text = ap (λ m. binary_text m (lexeme s p) (top t) (formatted s t) (top u) (formatted s u)) e;
      group = ap notation_group e;
      spelled = ap (λ m. named_before m (lexeme s p) (spellings s t ++ spellings s u)) e;
    }
infix-is s n p t u _ (of-truths d e) =
    record { text = ap (λ m. infix_text m (top t) (formatted s t) (top u) (formatted s u)) e; group = ap group_number e; spelled = refl }

pub infix-law : (s : List ℕ) (n l p : ℕ) (t u : Tree) → group_number n ≡ suc l → InfixNode s n t u (infix_tree n p t u)
infix-law s n l p t u e = infix-is s n p t u (infix_tree n p t u) (infix-node n l p t u e)

cond-placeless : (x : Bool) (p : ℕ) (o : BinaryOp) (d : Bool) (t u : Tree)
    → without_places (cond x (binary p o t u) (logic p d t u)) ≡ cond x (binary 0 o (without_places t) (without_places u))
    (logic 0 d (without_places t) (without_places u))
unfolding without_places
cond-placeless true p o d t u = refl
cond-placeless false p o d t u = refl

pub infix-placeless : (n p : ℕ) (t u : Tree) → without_places (infix_tree n p t u) ≡ infix_tree n 0 (without_places t) (without_places u)
infix-placeless n p t u = cond-placeless (ltb n 18) p (get_or binary_ops n B.Power) (eqb n 19) t u

-- no group is looser than the loosest
low : ℕ → Bool
low n = leb (group_number n) loosest

lows : below symbol_count low ≡ true
unfolding below low group_number
lows = refl

pub group-most : (n : ℕ) → group_number n ≤ loosest
unfolding low
group-most n = go (ltb n symbol_count) refl
  where
    go : (x : Bool) → ltb n symbol_count ≡ x → group_number n ≤ loosest
    go true q = leb-true (group_number n) loosest (below_at low symbol_count n lows (ltb-true n symbol_count q))
    go false q = omega (arith, no-group n (ltb-false n symbol_count q))

notation-most : (m : Notation) → notation_group m ≤ loosest
notation-most (symbol n) = group-most n
notation-most function = omega arith

pub top-most : (t : Tree) → top t ≤ loosest
top-most (Tree.literal p v) = omega arith
top-most (Tree.cell b i) = omega arith
top-most (Tree.indexed b t) = omega arith
top-most (unary p o t) = omega arith
top-most (binary p o t u) = notation-most (binary_notation o)
top-most (logic p d t u) = group-most (logic_symbol d)
top-most (choice p c t u) = omega arith
top-most Tree.tick = omega arith
top-most (since p t) = omega arith
top-most (Tree.total p o b i n) = omega arith
top-most (Tree.matching p o t b i n) = omega arith

-- ---- prefixes
pub prefix-notation : (n : ℕ) (o : UnaryOp) → prefix_symbol n ≡ is o → unary_notation o ≡ symbol n
prefix-notation n o = go (eqb n minus) (eqb n tilde) (eqb n bang) refl refl refl
  where
    same : {x : UnaryOp} (m : ℕ) → unary_notation x ≡ symbol m → eqb n m ≡ true → x ≡ o → unary_notation o ≡ symbol n
    same m d q e = ap unary_notation (sym e) ∙ d ∙ ap symbol (sym (eqb-true n m q))

    go : (x y z : Bool) → eqb n minus ≡ x → eqb n tilde ≡ y → eqb n bang ≡ z → cond x (is U.Neg) (cond y (is U.Complement) (cond z (is U.Not) none)) ≡ is o
        → unary_notation o ≡ symbol n
    go true y z p q r e = same {x = U.Neg} minus refl p (cc)
    go false true z p q r e = same {x = U.Complement} tilde refl q (cc)
    go false false true p q r e = same {x = U.Not} bang refl r (cc)
    go false false false p q r e = let z : ◌≡◌ {A = ℕ} 0 1 = cc in absurd (omega arith)

pub prefix-text : (s : List ℕ) (n p : ℕ) (o : UnaryOp) (t : Tree) → prefix_symbol n ≡ is o → formatted s (unary p o t) ≡ prefix_text n (top t) (formatted s t)
unfolding formatted
prefix-text s n p o t e = ap (λ m. unary_text m (lexeme s p) (top t) (formatted s t)) (prefix-notation n o e)

pub prefix-spelled : (s : List ℕ) (n p : ℕ) (o : UnaryOp) (t : Tree) → prefix_symbol n ≡ is o → spellings s (unary p o t) ≡ spellings s t
unfolding spellings
prefix-spelled s n p o t e = ap (λ m. named_before m (lexeme s p) (spellings s t)) (prefix-notation n o e)

-- ---- calls
-- what a function makes of its arguments is no operator with a symbol
pub data Called : Callee → Type 0 where
  one_value : (o : UnaryOp) → unary_notation o ≡ function → Called (of_one o)
  two-values : (o : BinaryOp) → binary_notation o ≡ function → Called (of_two o)
  choices : Called of_choice
  times : Called of_since

same_callee : {c d : Callee} → plain c ≡ plain d → Called c → Called d
same_callee e h = subst Called (cc) h

pub called : (f : Function) (c : Callee) → form_of f ≡ plain c → Called c
called Abs c e = same_callee e (one_value U.Abs refl)
called ToReal c e = same_callee e (one_value U.ToReal refl)
called ToInt c e = same_callee e (one_value U.Trunc refl)
called Trunc c e = same_callee e (one_value U.Trunc refl)
called Round c e = same_callee e (one_value U.Round refl)
called Frac c e = same_callee e (one_value U.Frac refl)
called Max c e = same_callee e (two-values (B.Choice Choose.Max) refl)
called Min c e = same_callee e (two-values (B.Choice Choose.Min) refl)
called If c e = same_callee e choices
called TickMs c e = let z : ◌≡◌ {A = ℕ} 0 1 = cc in absurd (omega arith)
called Since c e = same_callee e times
called (Total o) c e = let z : ◌≡◌ {A = ℕ} 0 1 = cc in absurd (omega arith)
called (Match o) c e = let z : ◌≡◌ {A = ℕ} 0 1 = cc in absurd (omega arith)

-- the texts of arguments, their spellings, and how many follow the first
abbrev pub texts : List ℕ → Arguments → List (List ℕ)
texts s (one t) = formatted s t ∷ []
texts s (more t ts) = formatted s t ∷ texts s ts

abbrev pub all_spellings : List ℕ → Arguments → List (List ℕ)
all_spellings s (one t) = spellings s t
all_spellings s (more t ts) = spellings s t ++ all_spellings s ts

abbrev pub later : Arguments → ℕ
later (one t) = 0
later (more t ts) = suc (later ts)

pub record CallNode (s : List ℕ) (c : Callee) (p : ℕ) (ts : Arguments) : Type 0 where
  pub text : formatted s (call_tree c p ts) ≡ call_text (lexeme s p) (texts s ts)
  pub group : top (call_tree c p ts) ≡ 0
  pub spelled : spellings s (call_tree c p ts) ≡ lexeme s p ∷ all_spellings s ts

call-node : (s : List ℕ) (c : Callee) (p : ℕ) (ts : Arguments) → Called c → later ts ≡ more_arguments c → CallNode s c p ts
unfolding formatted spellings
call-node s _ p (one t) (one_value o e) h =
    record {
      text = ap (λ m. unary_text m (lexeme s p) (top t) (formatted s t)) e;
      group = refl;
      spelled = ap (λ m. named_before m (lexeme s p) (spellings s t)) e;
    }
call-node s _ p (more t ts) (one_value o e) h = absurd (omega arith)
call-node s _ p (one t) (two-values o e) h = absurd (omega arith)
call-node s _ p (more t (one u)) (two-values o e) h =
    record {
      text = ap (λ m. binary_text m (lexeme s p) (top t) (formatted s t) (top u) (formatted s u)) e;
      group = ap notation_group e;
      spelled = ap (λ m. named_before m (lexeme s p) (spellings s t ++ spellings s u)) e;
    }
call-node s _ p (more t (more u ts)) (two-values o e) h = absurd (omega arith)
call-node s _ p (one t) choices h = absurd (omega arith)
call-node s _ p (more t (one u)) choices h = absurd (omega arith)
call-node s _ p (more t (more u (one w))) choices h = record { text = refl; group = refl; spelled = refl }
call-node s _ p (more t (more u (more w ts))) choices h = absurd (omega arith)
call-node s _ p (one t) times h = record { text = refl; group = refl; spelled = refl }
call-node s _ p (more t ts) times h = absurd (omega arith)

pub call-law : (s : List ℕ) (f : Function) (c : Callee) (p : ℕ) (ts : Arguments) → form_of f ≡ plain c → later ts ≡ more_arguments c → CallNode s c p ts
call-law s f c p ts e h = call-node s c p ts (called f c e) h
