-- Real tokens and real parts: a formula has the one exactly if it has the other; without them every kind is Int.
use mathlib.Core.Path.{◌≡◌, refl, sym, ap, ◌∙◌, subst}
use mathlib.Core.Bool.{Bool, true, false, not, ◌&&◌, cond}
use mathlib.Core.List.{List, [], ◌∷◌, ◌++◌}
use Prim.Native.Nat.{ℕ, zero, suc}
use native.Mathlib.Omega.{arith}
use lib.Dec.{eqb, ltb}
use lib.IntN.{ℤ}
use lib.ListN.{get_or}
use Rattle.operators.specs.declared.UnaryOp.{UnaryOp}
use Rattle.operators.specs.declared.UnaryOp.TheVariants as U
use Rattle.operators.specs.declared.BinaryOp.TheVariants as B
use Rattle.operators.specs.Tables.{binary_ops}
use Rattle.memory.specs.declared.Bank.{Bank}
use Rattle.tokens.specs.declared.Function.{Function}
use Rattle.tokens.specs.declared.Function.TheVariants as F
use Rattle.tokens.specs.declared.Token.TheVariants.{Symbol}
use Rattle.tokens.specs.Scan.{Tok}
use Rattle.grammar.specs.Tree.{Tree, binary, logic}
use Rattle.grammar.specs.Symbols.{minus, tilde, bang, comma, prefix_symbol, is, none, infix_tree, Callee, of_one, of_two, of_choice, of_since, Form}
use Rattle.grammar.specs.Symbols.{plain, clock, ranged, matched, form_of, more_arguments, Arguments, more, argument, call_tree}
use Rattle.grammar.specs.Grammar.{tok, Range, range, Derives, number, name, index, parenthesis, call, clocked, totalled, tested, prefixed, up}
use Rattle.grammar.specs.Grammar.{infixed, last, next}
use Rattle.profile.specs.Parts.{real_bank, real_value, real_unary, real_total}
use Rattle.profile_text.specs.Tokens.{real_function, real_token, no_real}
use Rattle.profile_text.specs.Trees.{integer_only}

-- ---- tests
pub and-true : (b : Bool) → (b && true) ≡ b
and-true true = refl
and-true false = refl

pub and_assoc : (a b c : Bool) → ((a && b) && c) ≡ (a && (b && c))
and_assoc true b c = refl
and_assoc false b c = refl

and_comm : (a b : Bool) → (a && b) ≡ (b && a)
and_comm true true = refl
and_comm true false = refl
and_comm false true = refl
and_comm false false = refl

-- ---- tokens
pub none-append : (w v : List Tok) → no_real (w ++ v) ≡ (no_real w && no_real v)
unfolding no_real
none-append [] v = refl
none-append (x ∷ w) v = ap (λ b. not (real_token x.token) && b) (none-append w v) ∙ sym (and_assoc (not (real_token x.token)) (no_real w) (no_real v))

-- behind the last token that can be real
none-behind : (w v : List Tok) → no_real v ≡ true → no_real (w ++ v) ≡ no_real w
none-behind w v e = none-append w v ∙ ap (λ b. no_real w && b) e ∙ and-true (no_real w)

-- ---- calls
-- the operator of a call of values is real
abbrev real_callee : Callee → Bool
real_callee (of_one o) = real_unary o
real_callee (of_two o) = false
real_callee of_choice = false
real_callee of_since = false

abbrev real_form : Form → Bool
real_form (plain c) = real_callee c
real_form clock = false
real_form (ranged o) = real_total o
real_form (matched o) = false

function-form : (f : Function) → real_function f ≡ real_form (form_of f)
function-form F.Abs = refl
function-form F.ToReal = refl
function-form F.ToInt = refl
function-form F.Trunc = refl
function-form F.Round = refl
function-form F.Frac = refl
function-form F.Max = refl
function-form F.Min = refl
function-form F.If = refl
function-form F.TickMs = refl
function-form F.Since = refl
function-form (F.Total o) = refl
function-form (F.Match o) = refl

-- so many arguments after the first
abbrev integers : ℕ → Arguments → Bool
integers zero ts = integer_only (argument 0 ts)
integers (suc m) ts = integers m ts && integer_only (argument (suc m) ts)

integers-more : (m : ℕ) (t : Tree) (ts : Arguments) → integers (suc m) (more t ts) ≡ (integer_only t && integers m ts)
integers-more zero t ts = refl
integers-more (suc m) t ts =
    ap (λ b. b && integer_only (argument (suc m) ts)) (integers-more m t ts) ∙ and_assoc (integer_only t) (integers m ts) (integer_only (argument (suc m) ts))

call-only : (c : Callee) (p : ℕ) (ts : Arguments) → integer_only (call_tree c p ts) ≡ (not (real_callee c) && integers (more_arguments c) ts)
unfolding integer_only
call-only (of_one o) p ts = refl
call-only (of_two o) p ts = refl
call-only of_choice p ts = sym (and_assoc (integer_only (argument 0 ts)) (integer_only (argument 1 ts)) (integer_only (argument 2 ts)))
call-only of_since p ts = refl

-- ---- operators
prefix-whole : (n : ℕ) (o : UnaryOp) → prefix_symbol n ≡ is o → real_unary o ≡ false
prefix-whole n o = go (eqb n minus) (eqb n tilde) (eqb n bang)
  where
    same : (u : UnaryOp) → is u ≡ is o → real_unary u ≡ false → real_unary o ≡ false
    same u e h = let z : u ≡ o = cc in subst (λ (v : UnaryOp). real_unary v ≡ false) z h

    go : (a b c : Bool) → cond a (is U.Neg) (cond b (is U.Complement) (cond c (is U.Not) none)) ≡ is o → real_unary o ≡ false
    go true b c e = same U.Neg e refl
    go false true c e = same U.Complement e refl
    go false false true e = same U.Not e refl
    go false false false e = let z : ◌≡◌ {A = ℕ} 0 1 = cc in absurd (omega arith)

infix-only : (n p : ℕ) (t u : Tree) → integer_only (infix_tree n p t u) ≡ (integer_only t && integer_only u)
unfolding integer_only
infix-only n p t u = go (ltb n 18)
  where
    go : (x : Bool) → integer_only (cond x (binary p (get_or binary_ops n B.Power) t u) (logic p (eqb n 19) t u)) ≡ (integer_only t && integer_only u)
    go true = refl
    go false = refl

range-only : {b : Bank} {i : ℕ} {n : ℤ} {u : ℕ} {w : List Tok} → Range b i n u w → no_real w ≡ not (real_bank b)
unfolding no_real
range-only {b} (range o q p r) = and-true (not (real_bank b))

-- ---- formulas
pub tokens_tree : {l : ℕ} {w : List Tok} {t : Tree} → Derives l w t → no_real w ≡ integer_only t
unfolding no_real integer_only
tokens_tree d = elim d as (λ l w t d. no_real w ≡ integer_only t) (λ m w ts a. no_real w ≡ integers m ts) [
  | number {v} {p} ↦ and-true (not (real_value v))
  | name {b} {i} ↦ and-true (not (real_bank b))
  | index {b} r {w = w} (d → h) ↦ ap (λ x. not (real_bank b) && x) (none-behind w _ refl ∙ h)
  | parenthesis q {w = w} (d → h) ↦ none-behind w _ refl ∙ h
  | call {f} {c} {p} {w = w} {ts = ts} e (a → h) ↦
      ap (λ x. not x && no_real w) (function-form f ∙ ap real_form e) ∙ ap (λ x. not (real_callee c) && x) h ∙ sym (call-only c p ts)
  | clocked {f} r e ↦ ap (λ x. not x && true) (function-form f ∙ ap real_form e)
  | totalled {f} {o} {b = b} {w = w} e r ↦ ap (λ x. not x && no_real w) (function-form f ∙ ap real_form e) ∙ ap (λ x. not (real_total o) && x) (range-only r)
  | tested {f} {o} r {b = b} {w = w} {v = v} {t = t} e (d → h) g ↦
      ap (λ x. not x && no_real (w ++ tok (Symbol comma) r ∷ v)) (function-form f ∙ ap real_form e)
      ∙ none-append w (tok (Symbol comma) r ∷ v) ∙ ap (λ x. no_real w && x) (range-only g) ∙ ap (λ x. x && not (real_bank b)) h
  | prefixed {n} {p} {o} {t = t} e (d → h) ↦ h ∙ ap (λ x. not x && integer_only t) (sym (prefix-whole n o e))
  | up (d → h) ↦ h
  | infixed n p {w = w} {v = v} {t = t} {u = u} e (d → h) (d' → h') ↦
      none-append w _ ∙ ap (λ x. x && no_real v) h ∙ ap (λ x. integer_only t && x) h' ∙ sym (infix-only n p t u)
  | last q {w = w} (d → h) ↦ none-behind w _ refl ∙ h
  | next {m} q {w = w} {v = v} {t = t} {ts = ts} (d → h) (a → h') ↦
      none-append w _ ∙ ap (λ x. x && no_real v) h ∙ ap (λ x. integer_only t && x) h' ∙ sym (integers-more m t ts)
]
