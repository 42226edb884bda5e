-- What a result of the parser says of the tokens that it was made of, and how that is carried through the parser's steps.
use mathlib.Core.Path.{◌≡◌, refl, sym, ap, subst, ◌∙◌}
use mathlib.Core.Bool.{Bool, true, false}
use mathlib.Core.List.{List, [], ◌∷◌, ◌++◌, append_assoc, append-nil}
use Prim.Native.Nat.{ℕ, zero, suc, ◌+◌, ◌≤◌}
use native.Mathlib.Omega.{arith}
use lib.IntN.{ℤ}
use Rattle.values.specs.declared.Value.TheVariants.{Int, Real}
use Rattle.operators.specs.declared.UnaryOp.{UnaryOp}
use Rattle.memory.specs.declared.Bank.{Bank}
use Rattle.tokens.specs.declared.Token.{Token}
use Rattle.tokens.specs.declared.Token.TheVariants.{Number, Cell, Letter, Name, Symbol}
use Rattle.tokens.specs.Scan.{Tok}
use Rattle.grammar.specs.Symbols.{is_symbol, Prefix, is, none}
use Rattle.grammar.specs.Grammar.{tok}
use Rattle.grammar.specs.Parse.{Result, ok, bad, deep, starved, and_then, expect, expect_cell, expect_count, enter, most_open}
use Rattle.grammar.specs.Theorems.{is_opener, is_closer}
use Rattle.grammar.proofs.Tests.{symbol-is}
use Rattle.grammar.proofs.Nesting.{Spans, nothing, closing, along}

-- of the tokens ts some are read before r, from d open brackets to h, and z completes them to what P relates to a tree
pub record Part {X : Type 0} (d : ℕ) (P : List Tok → X → Type 0) (ts r z : List Tok) (h : ℕ) : Type 0 where
  pub read : List Tok
  pub tree : X
  pub split : ts ≡ read ++ r
  pub whole : P (read ++ z) tree
  pub spans : Spans d read h

-- the tokens read are what P relates to the tree, from d open brackets to e; those read before a refusal can be completed, and before a ninth bracket by
-- that bracket first
pub data Good {X : Type 0} (d e : ℕ) (P : List Tok → X → Type 0) (ts : List Tok) : Result X → Type 0 where
  took : {t : X} {r : List Tok} (w : List Tok) → ts ≡ w ++ r → P w t → Spans d w e → Good d e P ts (ok t r)
  stop : {r : List Tok} {h : ℕ} (z : List Tok) → Part d P ts r z h → Good d e P ts (bad r)
  over : {x : Tok} {ys : List Tok} {h : ℕ} (z : List Tok) → Part d P ts (x ∷ ys) (x ∷ z) h → is_opener x ≡ true → most_open ≤ h → Good d e P ts (deep (x ∷ ys))
  dry : Good d e P ts starved

-- a result q of the tokens ts, within all: the tokens o stand before ts
module _ {X Y : Type 0} {d d' : ℕ} {P : List Tok → X → Type 0} {Q : List Tok → Y → Type 0} {ts all : List Tok} where
  extend : {r z : List Tok} {h : ℕ} (o c : List Tok) (g : X → Y) → Spans d' o d → all ≡ o ++ ts → ((w : List Tok) (t : X) → P w t → Q (o ++ (w ++ c)) (g t))
      → Part d P ts r z h → Part d' Q all r (z ++ c) h
  extend {r} {z} o c g s a f b = record {
    read = o ++ b.read;
    tree = g b.tree;
    split = a ∙ ap (λ (v : List Tok). o ++ v) b.split ∙ sym (append_assoc o b.read r);
    whole = subst (λ (v : List Tok). Q v (g b.tree)) (regroup b.read) (f (b.read ++ z) b.tree b.whole);
    spans = along s b.spans;
  }
    where
      regroup : (p : List Tok) → o ++ ((p ++ z) ++ c) ≡ (o ++ p) ++ (z ++ c)
      regroup p = simp append_assoc

  -- where q refuses, c and the tree by g complete what it completes
  pub bind : {e e' : ℕ} {q : Result X} (k : X → List Tok → Result Y) → Good d e P ts q
      → (o c : List Tok) (g : X → Y) → Spans d' o d → all ≡ o ++ ts → ((w : List Tok) (t : X) → P w t → Q (o ++ (w ++ c)) (g t))
      → ((w : List Tok) (t : X) (r : List Tok) → q ≡ ok t r → ts ≡ w ++ r → P w t → Spans d w e → Good d' e' Q all (k t r))
      → Good d' e' Q all (and_then q k)
  bind k (took {t = t} {r = r} w a p s) o c g s' a' f h = h w t r refl a p s
  bind k (stop z b) o c g s' a' f h = stop (z ++ c) (extend o c g s' a' f b)
  bind k (over z b y le) o c g s' a' f h = over (z ++ c) (extend o c g s' a' f b) y le
  bind k dry o c g s' a' f h = dry

  pub wrap : {e : ℕ} {q : Result X} (o : List Tok) (g : X → Y) → Good d e P ts q → Spans d' o d → all ≡ o ++ ts
      → ((w : List Tok) (t : X) → P w t → Q (o ++ w) (g t))
      → Good d' e Q all (and_then q (λ t r. ok (g t) r))
  wrap o g b s a f =
      bind _ b o [] g s a (λ w t p. rw append-nil (f w t p))
      (λ w t r _ e p s'. took (o ++ w) (a ∙ ap (λ (v : List Tok). o ++ v) e ∙ sym (append_assoc o w r)) (f w t p) (along s s'))

module _ {X : Type 0} {d e : ℕ} {P : List Tok → X → Type 0} {all : List Tok} where
  pub plain : {q : Result X} → Good d e P all (and_then q (λ t r. ok t r)) → Good d e P all q
  plain {q} = subst (Good d e P all) (same q)
    where
      same : (q : Result X) → and_then q (λ t r. ok t r) ≡ q
      same (ok t r) = refl
      same (bad r) = refl
      same (deep r) = refl
      same starved = refl

  pub test : {x y : Result X} (b : Bool) → (b ≡ true → Good d e P all x) → (b ≡ false → Good d e P all y) → Good d e P all (elim b [ true ↦ x | false ↦ y ])
  test true h k = h refl
  test false h k = k refl

  pub prefixes : {x : UnaryOp → Result X} {y : Result X} (b : Prefix) → ((o : UnaryOp) → b ≡ is o → Good d e P all (x o)) → Good d e P all y
      → Good d e P all (elim b [ is o ↦ x o | none ↦ y ])
  prefixes (is o) h k = h o refl
  prefixes none h k = k

  pub expects : (n : ℕ) (r : List Tok) (k : List Tok → Result X) → ((p : ℕ) (ys : List Tok) → r ≡ tok (Symbol n) p ∷ ys → Good d e P all (k ys))
      → Good d e P all (bad r)
      → Good d e P all (expect n r k)
  expects n [] k h b = b
  expects n (x ∷ ys) k h b = test (is_symbol n x.token) (λ i. h x.place ys (ap (λ (y : Tok). y ∷ ys) (symbol-is n x i))) (λ i. b)

  pub expects-cell : (r : List Tok) (k : Bank → ℕ → List Tok → Result X)
      → ((b : Bank) (i p : ℕ) (ys : List Tok) → r ≡ tok (Cell b i) p ∷ ys → Good d e P all (k b i ys))
      → Good d e P all (bad r) → Good d e P all (expect_cell r k)
  expects-cell [] k h b = b
  expects-cell (x ∷ ys) k h b = go x.token x.place (λ c i p. h c i p ys) b
    where
      go : (t : Token) (p : ℕ) → ((c : Bank) (i q : ℕ) → tok t p ∷ ys ≡ tok (Cell c i) q ∷ ys → Good d e P all (k c i ys)) → Good d e P all (bad (tok t p ∷ ys))
          → Good d e P all (expect_cell (tok t p ∷ ys) k)
      go (Number v) p h b = b
      go (Cell c i) p h b = h c i p refl
      go (Letter c) p h b = b
      go (Name g) p h b = b
      go (Symbol n) p h b = b

  pub expects-count : (r : List Tok) (k : ℕ → ℤ → List Tok → Result X)
      → ((p : ℕ) (z : ℤ) (ys : List Tok) → r ≡ tok (Number (Int z)) p ∷ ys → Good d e P all (k p z ys))
      → Good d e P all (bad r) → Good d e P all (expect_count r k)
  expects-count [] k h b = b
  expects-count (x ∷ ys) k h b = go x.token x.place (λ p z. h p z ys) b
    where
      go : (t : Token) (p : ℕ) → ((q : ℕ) (z : ℤ) → tok t p ∷ ys ≡ tok (Number (Int z)) q ∷ ys → Good d e P all (k q z ys))
          → Good d e P all (bad (tok t p ∷ ys))
          → Good d e P all (expect_count (tok t p ∷ ys) k)
      go (Number (Int z)) p h b = h p z refl
      go (Number (Real y)) p h b = b
      go (Cell c i) p h b = b
      go (Letter c) p h b = b
      go (Name g) p h b = b
      go (Symbol n) p h b = b

  -- an opener after the tokens o; c completes it
  pub enters : (room n : ℕ) (ts o c : List Tok) (t : X) (k : ℕ → List Tok → Result X)
      → is_opener (tok (Symbol n) 0) ≡ true → room + d ≡ most_open → Spans d o d → all ≡ o ++ ts → ((p : ℕ) → P (o ++ tok (Symbol n) p ∷ c) t)
      → ((p room' : ℕ) (ys : List Tok) → room' + suc d ≡ most_open → ts ≡ tok (Symbol n) p ∷ ys → Good d e P all (k room' ys))
      → Good d e P all (enter room n ts k)
  enters zero n ts o c t k i m s a f h = expects n ts (λ r. deep ts) found
      (stop (tok (Symbol n) 0 ∷ c) (record { read = o; tree = t; split = a; whole = f 0; spans = s }))
    where
      found : (p : ℕ) (ys : List Tok) → ts ≡ tok (Symbol n) p ∷ ys → Good d e P all (deep ts)
      found p ys q = rw q (over c (record { read = o; tree = t; split = a ∙ ap (λ (v : List Tok). o ++ v) q; whole = f p; spans = s }) i (omega arith))
  enters (suc room) n ts o c t k i m s a f h =
      expects n ts (λ r. k room r) (λ p ys q. h p room ys (omega arith) q)
      (stop (tok (Symbol n) 0 ∷ c) (record { read = o; tree = t; split = a; whole = f 0; spans = s }))

-- a closing symbol n after the tokens w
pub closes : {X : Type 0} {d : ℕ} {P : List Tok → X → Type 0} {all : List Tok} (n : ℕ) (w r : List Tok) (t : X)
    → is_opener (tok (Symbol n) 0) ≡ false → is_closer (tok (Symbol n) 0) ≡ true → Spans (suc d) w (suc d) → all ≡ w ++ r
    → ((p : ℕ) → P (w ++ tok (Symbol n) p ∷ []) t)
    → Good (suc d) d P all (expect n r (λ ys. ok t ys))
closes n w r t i j s a f =
    expects n r _
    (λ p ys q. took (w ++ tok (Symbol n) p ∷ []) (a ∙ ap (λ (v : List Tok). w ++ v) q ∙ sym (append_assoc w (tok (Symbol n) p ∷ []) ys)) (f p)
    (along s (closing i j nothing)))
    (stop (tok (Symbol n) 0 ∷ []) (record { read = w; tree = t; split = a; whole = f 0; spans = s }))
