-- A token at a position of the table: what is typed there, and what comes behind it.
use mathlib.Core.Path.{◌≡◌, refl, sym, ap, subst, ◌∙◌}
use mathlib.Core.Bool.{Bool, true, false, cond}
use mathlib.Core.List.{List, [], ◌∷◌, ◌++◌, append_assoc}
use Prim.Native.Nat.{ℕ, zero, suc, ◌+◌, ◌≤◌, ◌<◌}
use native.Mathlib.Omega.{arith}
use lib.ListN.{length}
use Rattle.operators.specs.declared.UnaryOp.{UnaryOp}
use Rattle.operators.specs.declared.UnaryOp.TheVariants as U
use Rattle.tokens.specs.declared.Token.{Token}
use Rattle.tokens.specs.declared.Token.TheVariants.{Number, Cell, Letter, Name, Symbol}
use Rattle.tokens.specs.Symbols.{symbol_bytes}
use Rattle.tokens.specs.Scan.{Tok}
use Rattle.token_table.specs.private.Table.{word_class, word_operand, word_place, word_at, tokens_from, TokenWords}
use Rattle.token_table.proofs.Laws.{token_class, token_operand}
use Rattle.grammar.specs.Tree.{unary}
use Rattle.grammar.specs.Grammar.{tok}
use Rattle.grammar.specs.Symbols.{minus, tilde, bang, prefix_symbol, prefix_of, is, none, is_symbol}
use Rattle.grammar.specs.Parse.{ok, and_then, operand, primary}
use Rattle.draft.specs.private.Words.{prefix_number}
use Rattle.format_laws.specs.Formatted.{lexeme, symbol, unary_notation, parenthesized, is_infix, top, formatted}
use Rattle.format_writer.specs.private.Spelling.{Stands, StandsAt}
use Rattle.formatter.specs.private.Walk.{Typed, some, Position, says, SaysOperand, SaysPrimary, Some}
use Rattle.formatter.specs.private.Walk.{SignsText, none as no-signs, more}
use Rattle.formatter.proofs.Words.{word-of, behind, class-is, operand-is, place_is, mark-head, is-symbol}
use Rattle.formatter.proofs.Inversion.{through, ok-tree}
use Rattle.formatter.proofs.Spelt.{stands_at, symbol-spelt}

pub record Here (s table : List ℕ) (at : ℕ) (x : Tok) (xs : List Tok) : Type 0 where
  pub stands : StandsAt s (word_place (word_at table at)) (word_operand (word_at table at))
  pub end : ℕ
  pub typed : Stands s x.token x.place end
  pub place : word_place (word_at table at) ≡ x.place
  pub class : word_class (word_at table at) ≡ token_class x.token
  pub operand : word_operand (word_at table at) ≡ token_operand x.token
  pub within : at < length table
  pub next : Position s table (at + 1)
  pub left : tokens_from table (at + 1) ≡ xs

pub here : (s table : List ℕ) (at : ℕ) {x : Tok} {xs : List Tok} → Position s table at → tokens_from table at ≡ x ∷ xs → Here s table at x xs
here s table at {x} {xs} p q = go (subst (Typed s) q p.typed)
  where
    go : Typed s (x ∷ xs) → Here s table at x xs
    go (some e h k) =
        let w = word-of table at p.words q in
        let a = place_is w in
        let o = operand-is w in
        let l = behind table at p.words q in
        record {
          stands = subst (λ (i : ℕ). StandsAt s i (word_operand (word_at table at))) (sym a) (subst (StandsAt s x.place) (sym o) (stands_at h));
          end = e;
          typed = h;
          place = a;
          class = class-is w;
          operand = o;
          within = w.within;
          next = record { words = p.words; typed = subst (Typed s) (sym l) k };
          left = l;
        }

-- ---- unary operators
data Sign (u : Token) : Type 0 where
  sign : (n : ℕ) (o : UnaryOp) → u ≡ Symbol n → prefix_symbol n ≡ is o → unary_notation o ≡ symbol n → Sign u

abbrev signed : Bool → Bool → Bool → ℕ
signed a b c = cond a 0 (cond b 1 (cond c 2 3))

sign_of : (u : Token) (a b c : Bool) → is_symbol minus u ≡ a → is_symbol tilde u ≡ b → is_symbol bang u ≡ c → signed a b c < 3 → Sign u
sign_of u true b c p q r h = sign minus U.Neg (is-symbol minus u p) refl refl
sign_of u false true c p q r h = sign tilde U.Complement (is-symbol tilde u q) refl refl
sign_of u false false true p q r h = sign bang U.Not (is-symbol bang u r) refl refl
sign_of u false false false p q r h = absurd (omega arith)

no_sign : (u : Token) (a b c : Bool) → is_symbol minus u ≡ a → is_symbol tilde u ≡ b → is_symbol bang u ≡ c → signed a b c ≡ 3 → prefix_of u ≡ none
no_sign (Number v) a b c p q r h = refl
no_sign (Cell x i) a b c p q r h = refl
no_sign (Letter x) a b c p q r h = refl
no_sign (Name f) a b c p q r h = refl
no_sign (Symbol n) true b c p q r h = absurd (omega arith)
no_sign (Symbol n) false true c p q r h = absurd (omega arith)
no_sign (Symbol n) false false true p q r h = absurd (omega arith)
no_sign (Symbol n) false false false p q r h = rw (p, q, r)

module _ (table : List ℕ) (at : ℕ) (words : TokenWords table) {x : Tok} {xs : List Tok} (q : tokens_from table at ≡ x ∷ xs) where
  prefix-is : prefix_number (word_at table at) ≡ signed (is_symbol minus x.token) (is_symbol tilde x.token) (is_symbol bang x.token)
  prefix-is = rw (mark-head table at words minus, mark-head table at words tilde, mark-head table at words bang, q)

-- one operator before an operand
pub record Prefixed (s : List ℕ) (p : ℕ) (ts : List Tok) (y : List ℕ) (g : ℕ) (r : List Tok) : Type 0 where
  pub inner : List ℕ
  pub group : ℕ
  pub says : SaysOperand s ts inner group r
  pub text : y ≡ lexeme s p ++ parenthesized (is_infix group) inner
  pub bare : g ≡ 0

prefixed : (s : List ℕ) (n : ℕ) (o : UnaryOp) (p e : ℕ) (ts : List Tok) {y : List ℕ} {g : ℕ} {r : List Tok} → Stands s (Symbol n) p e
    → prefix_symbol n ≡ is o → unary_notation o ≡ symbol n
    → SaysOperand s (tok (Symbol n) p ∷ ts) y g r → Prefixed s p ts y g r
unfolding operand formatted
prefixed s n o p e ts h q w (says zero d m) = let z : ◌≡◌ {A = ℕ} 0 1 = cc in absurd (omega arith)
prefixed s n o p e ts h q w (says (suc f) d {t} {r} m) =
    let step : operand (suc f) d (tok (Symbol n) p ∷ ts) ≡ and_then (operand f d ts) (λ t z. ok (unary p o t) z) = rw (operand, q) in
    let a = through (operand f d ts) (λ t z. ok (unary p o t) z) (sym step ∙ m) in
    let k = ok-tree a.then in
    let u = a.first in
    let text : formatted s (unary p o u) ≡ symbol_bytes n ++ parenthesized (is_infix (top u)) (formatted s u) = rw w in
    record {
      inner = formatted s u;
      group = top u;
      says = says f d (a.is ∙ ap (ok u) k.1);
      text = ap (formatted s) (sym k.0) ∙ text ∙ ap (λ (z : List ℕ). z ++ parenthesized (is_infix (top u)) (formatted s u)) (sym (symbol-spelt s n p e h));
      bare = ap top (sym k.0);
    }

no_operand : (s : List ℕ) {y : List ℕ} {g : ℕ} {r : List Tok} → SaysOperand s [] y g r → ⊥
unfolding operand
no_operand s (says zero d e) = let z : ◌≡◌ {A = ℕ} 0 1 = cc in omega arith
no_operand s (says (suc f) d e) = let z : ◌≡◌ {A = ℕ} 0 1 = cc in omega arith

pub one-sign : (s table : List ℕ) (at : ℕ) {y : List ℕ} {g : ℕ} {r : List Tok} → Position s table at → prefix_number (word_at table at) < 3
    → SaysOperand s (tokens_from table at) y g r
    → Prefixed s (word_place (word_at table at)) (tokens_from table (at + 1)) y g r
unfolding operand
one-sign s table at {y} {g} {r} p h m = go (tokens_from table at) refl
  where
    by : {x : Tok} {xs : List Tok} → tokens_from table at ≡ x ∷ xs → Here s table at x xs → Sign x.token
        → Prefixed s (word_place (word_at table at)) (tokens_from table (at + 1)) y g r
    by {x} {xs} q k (sign n o e a b) =
        let st : Stands s (Symbol n) x.place k.end = subst (λ (u : Token). Stands s u x.place k.end) e k.typed in
        let sy : SaysOperand s (tok (Symbol n) x.place ∷ xs) y g r = subst (λ (ts : List Tok). SaysOperand s ts y g r)
        (q ∙ ap (λ (u : Token). tok u x.place ∷ xs) e) m in
        subst (λ (i : ℕ). Prefixed s i (tokens_from table (at + 1)) y g r) (sym k.place)
        (subst (λ (ts : List Tok). Prefixed s x.place ts y g r) (sym k.left) (prefixed s n o x.place k.end xs st a b sy))

    go : (ts : List Tok) → tokens_from table at ≡ ts → Prefixed s (word_place (word_at table at)) (tokens_from table (at + 1)) y g r
    go [] q = absurd (no_operand s (subst (λ (ts : List Tok). SaysOperand s ts y g r) q m))
    go (x ∷ xs) q = by q (here s table at p q) (sign_of x.token _ _ _ refl refl refl (rw (prefix-is table at p.words q) at h))

-- there is a token where an operand is read
pub operand-within : (s table : List ℕ) (at : ℕ) → Position s table at → Some (SaysOperand s (tokens_from table at)) → at < length table
operand-within s table at p k = go (tokens_from table at) refl k.is
  where
    go : (ts : List Tok) → tokens_from table at ≡ ts → SaysOperand s ts k.text k.group k.left → at < length table
    go [] q m = absurd (no_operand s m)
    go (x ∷ xs) q m = (here s table at p q).within

-- a sign stands at a position
pub sign-here : (s table : List ℕ) (at : ℕ) → Position s table at → prefix_number (word_at table at) < 3 → (x : Tok) × (xs : List Tok) × Here s table at x xs
sign-here s table at p h = go (tokens_from table at) refl
  where
    go : (ts : List Tok) → tokens_from table at ≡ ts → (x : Tok) × (xs : List Tok) × Here s table at x xs
    go [] q =
        let e : prefix_number (word_at table at) ≡ 3 = rw (
          mark-head table at p.words minus,
          mark-head table at p.words tilde,
          mark-head table at p.words bang,
          q,
        ) in
        absurd (omega (arith, e))
    go (x ∷ xs) q = (x, xs, here s table at p q)

-- no operator: a primary
as-primary : (s : List ℕ) (x : Tok) (xs : List Tok) {y : List ℕ} {g : ℕ} {r : List Tok} → prefix_of x.token ≡ none → SaysOperand s (x ∷ xs) y g r
    → SaysPrimary s (x ∷ xs) y g r
unfolding operand
as-primary s x xs n (says zero d e) = let z : ◌≡◌ {A = ℕ} 0 1 = cc in absurd (omega arith)
as-primary s x xs n (says (suc f) d e) =
    let step : operand (suc f) d (x ∷ xs) ≡ primary f d x xs = rw (operand, n) in
    says f d (sym step ∙ e)

pub no-more-signs : (s table : List ℕ) (at : ℕ) {y : List ℕ} {g : ℕ} {r : List Tok} → TokenWords table → prefix_number (word_at table at) ≡ 3
    → SaysOperand s (tokens_from table at) y g r
    → SaysPrimary s (tokens_from table at) y g r
no-more-signs s table at {y} {g} {r} words h m = go (tokens_from table at) refl m
  where
    go : (ts : List Tok) → tokens_from table at ≡ ts → SaysOperand s ts y g r → SaysPrimary s ts y g r
    go [] q k = absurd (no_operand s k)
    go (x ∷ xs) q k = as-primary s x xs (no_sign x.token _ _ _ refl refl refl (rw (prefix-is table at words q) at h)) k

-- all of them
pub data Chained (at first : ℕ) (x y : List ℕ) (g : ℕ) (inner : List ℕ) (group : ℕ) : Type 0 where
  bare : first ≡ at → x ≡ [] → y ≡ inner → g ≡ group → Chained at first x y g inner group
  signed_by : at < first → y ≡ x ++ parenthesized (is_infix group) inner → g ≡ 0 → Chained at first x y g inner group

pub record Chain (s table : List ℕ) (at first : ℕ) (x y : List ℕ) (g : ℕ) (r : List Tok) : Type 0 where
  pub inner : List ℕ
  pub group : ℕ
  pub says : SaysOperand s (tokens_from table first) inner group r
  pub position : Position s table first
  pub chained : Chained at first x y g inner group

one_more : {at i j : ℕ} {x y inner : List ℕ} {g h : ℕ} (v z : List ℕ) (k : ℕ) → j ≡ i + 1 → Chained at i x y g inner h → at ≤ i
    → inner ≡ v ++ parenthesized (is_infix k) z → h ≡ 0 → Chained at j (x ++ v) y g z k
one_more v z k e (bare f n q w) l a b =
    signed_by (omega arith) (q ∙ a ∙ ap (λ (u : List ℕ). u ++ v ++ parenthesized (is_infix k) z) (sym n)) (w ∙ b)
one_more {x = x} {inner = inner} v z k e (signed_by f q w) l a b =
    signed_by (omega arith) (q ∙ ap (λ (m : ℕ). x ++ parenthesized (is_infix m) inner) b ∙ ap (λ (u : List ℕ). x ++ u) a
    ∙ sym (append_assoc x v (parenthesized (is_infix k) z))) w

pub chain : {s table : List ℕ} {at first : ℕ} {x y : List ℕ} {g : ℕ} {r : List Tok} → Position s table at → SignsText s table at first x
    → ((i : ℕ) → at ≤ i → i < first → prefix_number (word_at table i) < 3) → SaysOperand s (tokens_from table at) y g r
    → (at ≤ first) × Chain s table at first x y g r
chain p no-signs all m = (omega arith, record { inner = _; group = _; says = m; position = p; chained = bare refl refl refl refl })
chain {s} {table} {r = r} p (more {i} e t) all m =
    let (l, c) = chain p t (λ k a b. all k a (omega arith)) m in
    let h = all i l (omega arith) in
    let k = one-sign s table i c.position h c.says in
    let (x, xs, w) = sign-here s table i c.position h in (
      omega arith,
      record {
        inner = k.inner;
        group = k.group;
        says = subst (λ (j : ℕ). SaysOperand s (tokens_from table j) k.inner k.group r) (sym e) k.says;
        position = subst (Position s table) (sym e) w.next;
        chained = one_more (lexeme s (word_place (word_at table i))) k.inner k.group e c.chained l k.text k.bare;
      },
    )
