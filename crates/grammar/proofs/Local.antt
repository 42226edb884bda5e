-- The parser looks no further than the token at which it stops: what follows that token changes nothing.
use mathlib.Core.Path.{◌≡◌, refl, sym, ap, subst, ◌∙◌}
use mathlib.Core.Bool.{Bool, true, false}
use mathlib.Core.List.{List, [], ◌∷◌, ◌++◌, append_assoc, append_cancel_right}
use Prim.Native.Nat.{ℕ, zero, suc, ◌-◌}
use native.Mathlib.Omega.{arith}
use lib.IntN.{ℤ}
use Rattle.values.specs.declared.Value.TheVariants.{Int, Real}
use Rattle.operators.specs.declared.UnaryOp.{UnaryOp}
use Rattle.memory.specs.declared.Bank.{Bank}
use Rattle.tokens.specs.declared.Token.{Token}
use Rattle.tokens.specs.declared.Token.TheVariants.{Number, Cell, Letter, Name, Symbol}
use Rattle.tokens.specs.Scan.{Tok}
use Rattle.grammar.specs.Tree.{Tree, literal, cell, indexed, unary, tick, total, matching}
use Rattle.grammar.specs.Symbols.{group, is_symbol, loosest, open_paren, close_paren, open_index, close_index, comma, Prefix, prefix_of, is, none}
use Rattle.grammar.specs.Symbols.{Form, plain, clock, ranged, matched, form_of, more_arguments, Arguments, one, more, call_tree}
use Rattle.grammar.specs.Grammar.{tok}
use Rattle.grammar.specs.Parse.{Result, ok, bad, deep, starved, and_then, expect, expect_cell, expect_count, expect_range, enter, binds, call_body}
use Rattle.grammar.specs.Parse.{expression, climb, operand, primary, bracket, arguments}
use Rattle.grammar.proofs.Levels.{joined_tree}

-- two lists with one first token
pub data Same : List Tok → List Tok → Type 0 where
  first : {x : Tok} {xs ys : List Tok} → Same (x ∷ xs) (x ∷ ys)

not-empty : {r r' : List Tok} → Same r r' → r ≡ [] → ⊥
not-empty first e = let z : ◌≡◌ {A = ℕ} 0 1 = cc in omega arith

same-append : {r r' : List Tok} (p : List Tok) → Same r r' → Same (p ++ r) (p ++ r')
same-append [] s = s
same-append (x ∷ p) s = first

-- of the tokens ts, F reads those before r and answers a r, and so it does where other tokens follow the first of r
pub record Agrees {X : Type 0} (F a : List Tok → Result X) (ts r : List Tok) : Type 0 where
  pub read : List Tok
  pub split : ts ≡ read ++ r
  pub agrees : (r' : List Tok) → Same r r' → F (read ++ r') ≡ a r'

pub data Local {X : Type 0} (F : List Tok → Result X) (ts : List Tok) : Result X → Type 0 where
  took : {t : X} {r : List Tok} → Agrees F (λ r. ok t r) ts r → Local F ts (ok t r)
  stop : {r : List Tok} → Agrees F (λ r. bad r) ts r → Local F ts (bad r)
  at-deep : {r : List Tok} → Local F ts (deep r)
  at_none : Local F ts starved

pub local-ok : {X : Type 0} {F : List Tok → Result X} {ts r : List Tok} {t : X} → Local F ts (ok t r) → Agrees F (λ r. ok t r) ts r
local-ok (took b) = b

pub local-bad : {X : Type 0} {F : List Tok → Result X} {ts r : List Tok} → Local F ts (bad r) → Agrees F (λ r. bad r) ts r
local-bad (stop b) = b

-- at a split that is known
pub agrees_at : {X : Type 0} {F a : List Tok → Result X} {ts r : List Tok} → Agrees F a ts r → (p r' : List Tok) → ts ≡ p ++ r → Same r r' → F (p ++ r') ≡ a r'
agrees_at {F = F} {a = a} {r = r} b p r' e s = subst (λ (p : List Tok). F (p ++ r') ≡ a r') (append_cancel_right b.read p r (sym b.split ∙ e))
    (b.agrees r' s)

module _ {X : Type 0} where
  -- F goes on as G after p
  later : {F G a : List Tok → Result X} {ts r r₂ : List Tok} (p : List Tok) → ts ≡ p ++ r → ((r' : List Tok) → Same r r' → F (p ++ r') ≡ G r')
      → Agrees G a r r₂ → Agrees F a ts r₂
  later {F} {r₂ = r₂} p e h b = record {
    read = p ++ b.read;
    split = e ∙ ap (λ (v : List Tok). p ++ v) b.split ∙ sym (append_assoc p b.read r₂);
    agrees = λ r' s. ap F (append_assoc p b.read r') ∙ h (b.read ++ r')
        (subst (λ (v : List Tok). Same v (b.read ++ r')) (sym b.split) (same-append b.read s)) ∙ b.agrees r' s;
  }

  after : {F G : List Tok → Result X} {ts r : List Tok} {q : Result X} (p : List Tok) → ts ≡ p ++ r → ((r' : List Tok) → Same r r' → F (p ++ r') ≡ G r')
      → Local G r q → Local F ts q
  after p e h (took b) = took (later p e h b)
  after p e h (stop b) = stop (later p e h b)
  after p e h at-deep = at-deep
  after p e h at_none = at_none

  -- F goes on as G after the token x
  push : {F G : List Tok → Result X} {q : Result X} (x : Tok) (xs : List Tok) → ((r' : List Tok) → F (x ∷ r') ≡ G r') → Local G xs q → Local F (x ∷ xs) q
  push x xs h l = after (x ∷ []) refl (λ r' s. h r') l

  -- F is G on lists that begin with x
  swap : {F G : List Tok → Result X} {q : Result X} (x : Tok) (xs : List Tok) → ((r' : List Tok) → F (x ∷ r') ≡ G (x ∷ r')) → Local G (x ∷ xs) q
      → Local F (x ∷ xs) q
  swap {F} {G} x xs h l = after [] refl go l
    where
      go : (r' : List Tok) → Same (x ∷ xs) r' → F r' ≡ G r'
      go _ (first {ys = ys}) = h ys

  kept : (t : X) (r : List Tok) → Local (λ r. ok t r) r (ok t r)
  kept t r = took (record { read = []; split = refl; agrees = λ r' s. refl })

  stopped : (r : List Tok) → Local {X = X} (λ r. bad r) r (bad r)
  stopped r = stop (record { read = []; split = refl; agrees = λ r' s. refl })

  ok_end : {F : List Tok → Result X} {t : X} → Local F [] (ok t [])
  ok_end = took (record { read = []; split = refl; agrees = λ r' s. absurd (not-empty s refl) })

  bad-end : {F : List Tok → Result X} → Local F [] (bad [])
  bad-end = stop (record { read = []; split = refl; agrees = λ r' s. absurd (not-empty s refl) })

  local-test : {F : List Tok → Result X} {ts : List Tok} {x y : Result X} (b : Bool) → (b ≡ true → Local F ts x) → (b ≡ false → Local F ts y)
      → Local {X = X} F ts (elim b [ true ↦ x | false ↦ y ])
  local-test true h k = h refl
  local-test false h k = k refl

  local-prefix : {F : List Tok → Result X} {ts : List Tok} {x : UnaryOp → Result X} {y : Result X} (b : Prefix)
      → ((o : UnaryOp) → b ≡ is o → Local F ts (x o)) → (b ≡ none → Local F ts y)
      → Local {X = X} F ts (elim b [ is o ↦ x o | none ↦ y ])
  local-prefix (is o) h k = h o refl
  local-prefix none h k = k refl

  local-expect : (n : ℕ) (k : List Tok → Result X) (r : List Tok) → ((ys : List Tok) → Local k ys (k ys)) → Local (λ r. expect n r k) r (expect n r k)
  local-expect n k [] h = bad-end
  local-expect n k (x ∷ ys) h =
      local-test (is_symbol n x.token) (λ e. push x ys (λ r'. rw (expect, e)) (h ys)) (λ e. swap x ys (λ r'. rw (expect, e)) (stopped (x ∷ ys)))

  local-enter : (d n : ℕ) (k : ℕ → List Tok → Result X) (r : List Tok) → ((e : ℕ) (ys : List Tok) → Local (k e) ys (k e ys))
      → Local (λ r. enter d n r k) r (enter d n r k)
  local-enter zero n k [] h = bad-end
  local-enter zero n k (x ∷ ys) h = local-test (is_symbol n x.token) (λ e. at-deep) (λ e. swap x ys (λ r'. rw (expect, e)) (stopped (x ∷ ys)))
  local-enter (suc d) n k r h = local-expect n (λ ys. k d ys) r (h d)

  -- a token that is not the one looked for
  barred : {F : List Tok → Result X} (x : Tok) (xs : List Tok) → ((r' : List Tok) → F (x ∷ r') ≡ bad (x ∷ r')) → Local F (x ∷ xs) (bad (x ∷ xs))
  barred x xs h = swap x xs h (stopped (x ∷ xs))

  local-cell : (k : Bank → ℕ → List Tok → Result X) (r : List Tok) → ((b : Bank) (i : ℕ) (ys : List Tok) → Local (k b i) ys (k b i ys))
      → Local (λ r. expect_cell r k) r (expect_cell r k)
  local-cell k [] h = bad-end
  local-cell k (x ∷ ys) h = go x.token x.place
    where
      go : (t : Token) (p : ℕ) → Local (λ r. expect_cell r k) (tok t p ∷ ys) (expect_cell (tok t p ∷ ys) k)
      go (Number v) p = barred (tok (Number v) p) ys (λ r'. refl)
      go (Cell b i) p = push (tok (Cell b i) p) ys (λ r'. refl) (h b i ys)
      go (Letter b) p = barred (tok (Letter b) p) ys (λ r'. refl)
      go (Name g) p = barred (tok (Name g) p) ys (λ r'. refl)
      go (Symbol n) p = barred (tok (Symbol n) p) ys (λ r'. refl)

  local-count : (k : ℕ → ℤ → List Tok → Result X) (r : List Tok) → ((p : ℕ) (z : ℤ) (ys : List Tok) → Local (k p z) ys (k p z ys))
      → Local (λ r. expect_count r k) r (expect_count r k)
  local-count k [] h = bad-end
  local-count k (x ∷ ys) h = go x.token x.place
    where
      go : (t : Token) (p : ℕ) → Local (λ r. expect_count r k) (tok t p ∷ ys) (expect_count (tok t p ∷ ys) k)
      go (Number (Int z)) p = push (tok (Number (Int z)) p) ys (λ r'. refl) (h p z ys)
      go (Number (Real y)) p = barred (tok (Number (Real y)) p) ys (λ r'. refl)
      go (Cell b i) p = barred (tok (Cell b i) p) ys (λ r'. refl)
      go (Letter b) p = barred (tok (Letter b) p) ys (λ r'. refl)
      go (Name g) p = barred (tok (Name g) p) ys (λ r'. refl)
      go (Symbol n) p = barred (tok (Symbol n) p) ys (λ r'. refl)

local-range : (k : Bank → ℕ → ℕ → ℤ → Tree) (r : List Tok) → Local (λ r. expect_range r k) r (expect_range r k)
local-range k r =
    local-cell _ r
    (λ b i ys. local-expect comma _ ys (λ zs. local-count _ zs (λ p n us. local-expect close_paren (λ v. ok (k b i p n) v) us (λ vs. kept _ vs))))

local-bind : {X Y : Type 0} {G : List Tok → Result X} {ts : List Tok} {q : Result X} (k : X → List Tok → Result Y) → Local G ts q
    → ((t : X) (r : List Tok) → Local (k t) r (k t r))
    → Local (λ ts. and_then (G ts) k) ts (and_then q k)
local-bind {X} k (took {t = t} {r = r} b) h = after b.read b.split (λ r' s. ap (λ (q : Result X). and_then q k) (b.agrees r' s)) (h t r)
local-bind {X} k (stop b) h = stop (record { read = b.read; split = b.split; agrees = λ r' s. ap (λ (q : Result X). and_then q k) (b.agrees r' s) })
local-bind k at-deep h = at-deep
local-bind k at_none h = at_none

local-call : (o : Form) (p : ℕ) (read : ℕ → List Tok → Result Arguments) (whole : List Tok → Result Tree) (ts : List Tok)
    → ((m : ℕ) → Local (λ ts. read m ts) ts (read m ts)) → Local (λ ts. whole ts) ts (whole ts)
    → Local (λ ts. call_body o p read whole ts) ts (call_body o p read whole ts)
local-call (plain c) p read whole ts h k = local-bind (λ us r. ok (call_tree c p us) r) (h (more_arguments c)) (λ us r. kept _ r)
local-call clock p read whole ts h k = local-expect close_paren (λ r. ok tick r) ts (λ ys. kept tick ys)
local-call (ranged o) p read whole ts h k = local-range (λ b i u n. total u o b i n) ts
local-call (matched o) p read whole ts h k =
    local-bind (λ t r. expect comma r (λ q. expect_range q (λ b i u n. matching u o t b i n))) k
    (λ t r. local-expect comma (λ q. expect_range q (λ b i u n. matching u o t b i n)) r (λ ys. local-range (λ b i u n. matching u o t b i n) ys))

mutual
  unfolding expression

  pub local-expression : (f d l : ℕ) (ts : List Tok) → Local (λ ts. expression f d l ts) ts (expression f d l ts)
  local-expression zero d l ts = at_none
  local-expression (suc f) d l ts = local-bind (λ t r. climb f d l t r) (local-operand f d ts) (λ t r. local-climb f d l t r)

  local-climb : (f d l : ℕ) (t : Tree) (ts : List Tok) → Local (λ ts. climb f d l t ts) ts (climb f d l t ts)
  local-climb zero d l t ts = at_none
  local-climb (suc f) d l t [] = ok_end
  local-climb (suc f) d l t (x ∷ xs) =
      local-test (binds l x.token)
      (λ b. push x xs (λ r'. rw (climb, b)) (local-bind (λ u r. climb f d l (joined_tree x t u) r) (local-expression f d (group x.token - 1) xs)
      (λ u r. local-climb f d l _ r)))
      (λ b. swap x xs (λ r'. rw (climb, b)) (kept t (x ∷ xs)))

  local-operand : (f d : ℕ) (ts : List Tok) → Local (λ ts. operand f d ts) ts (operand f d ts)
  local-operand zero d ts = at_none
  local-operand (suc f) d [] = bad-end
  local-operand (suc f) d (x ∷ xs) =
      local-prefix (prefix_of x.token)
      (λ o b. push x xs (λ r'. rw (operand, b)) (local-bind (λ t r. ok (unary x.place o t) r) (local-operand f d xs) (λ t r. kept _ r)))
      (λ b. local-primary f d x.token x.place xs (λ ts. operand (suc f) d ts) (λ r'. rw (operand, b)))

  -- as F reads it, with its first token
  local-primary : (f d : ℕ) (k : Token) (p : ℕ) (xs : List Tok) (F : List Tok → Result Tree) → ((r' : List Tok) → F (tok k p ∷ r') ≡ primary f d (tok k p) r')
      → Local F (tok k p ∷ xs) (primary f d (tok k p) xs)
  local-primary zero d k p xs F h = at_none
  local-primary (suc f) d (Number v) p xs F h = push (tok (Number v) p) xs h (kept (literal p v) xs)
  local-primary (suc f) d (Cell b i) p xs F h = push (tok (Cell b i) p) xs h (kept (cell b i) xs)
  local-primary (suc f) d (Letter b) p xs F h =
      push (tok (Letter b) p) xs h (local-enter d open_index _ xs (λ e ys. local-bind (λ t r. ok (indexed b t) r) (local-bracket f e close_index ys)
      (λ t r. kept _ r)))
  local-primary (suc f) d (Name g) p xs F h =
      push (tok (Name g) p) xs h
      (local-enter d open_paren _ xs (λ e ys. local-call (form_of g) p (λ m ts. arguments f e m ts)
      (λ ts. expression f e loosest ts) ys (λ m. local-arguments f e m ys) (local-expression f e loosest ys)))
  local-primary (suc f) d (Symbol n) p xs F h =
      swap (tok (Symbol n) p) xs h (local-enter d open_paren (λ e ys. bracket f e close_paren ys) (tok (Symbol n) p ∷ xs)
      (λ e ys. local-bracket f e close_paren ys))

  local-bracket : (f d n : ℕ) (ts : List Tok) → Local (λ ts. bracket f d n ts) ts (bracket f d n ts)
  local-bracket zero d n ts = at_none
  local-bracket (suc f) d n ts = local-bind _ (local-expression f d loosest ts) (λ t r. local-expect n (λ q. ok t q) r (λ ys. kept t ys))

  local-arguments : (f d m : ℕ) (ts : List Tok) → Local (λ ts. arguments f d m ts) ts (arguments f d m ts)
  local-arguments zero d m ts = at_none
  local-arguments (suc f) d zero ts = local-bind _ (local-expression f d loosest ts) (λ t r. local-expect close_paren (λ q. ok (one t) q) r (λ ys. kept _ ys))
  local-arguments (suc f) d (suc m) ts =
      local-bind _ (local-expression f d loosest ts)
      (λ t r. local-expect comma (λ q. and_then (arguments f d m q) (λ us p. ok (more t us) p)) r
      (λ ys. local-bind _ (local-arguments f d m ys) (λ us p. kept _ p)))
