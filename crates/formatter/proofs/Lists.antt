-- Lists: what was written of them up to a position, and what is left.
use mathlib.Core.Path.{◌≡◌, refl, sym, ap, subst, ◌∙◌}
use mathlib.Core.Bool.{true, false}
use mathlib.Core.List.{List, [], ◌∷◌, ◌++◌, append_assoc}
use Prim.Native.Nat.{ℕ, zero, suc, ◌+◌, ◌≤◌, ◌<◌}
use native.Mathlib.Omega.{arith}
use lib.Dec.{eqb}
use lib.ListN.{length}
use borrow.Author.Tests.{eqb-true}
use Rattle.tokens.proofs.Tests.{no}
use Rattle.words.specs.Ascii.{ascii}
use Rattle.tokens.specs.declared.Token.{Token}
use Rattle.tokens.specs.declared.Token.TheVariants.{Symbol}
use Rattle.tokens.specs.Symbols.{symbol_bytes}
use Rattle.tokens.specs.Scan.{Tok}
use Rattle.token_table.specs.private.Table.{word_operand, word_place, word_at, tokens_from}
use Rattle.grammar.specs.Tree.{Tree}
use Rattle.grammar.specs.Grammar.{tok}
use Rattle.grammar.specs.Symbols.{loosest, close_paren, comma}
use Rattle.grammar.specs.Parse.{ok, expression}
use Rattle.draft.specs.private.Words.{is_mark}
use Rattle.format_laws.specs.Formatted.{lexeme, top, formatted}
use Rattle.format_writer.specs.private.Scratch.{Counted}
use Rattle.format_writer.specs.private.Spelling.{StandsAt}
use Rattle.formatter.specs.private.Walk.{Position, says, SaysExpression, SaysItems, last, more, SaysList, empty, items, Some, Writes, Formats}
use Rattle.formatter.proofs.Words.{mark-head, head_is, is-symbol}
use Rattle.formatter.proofs.Spelt.{symbol-spelt}
use Rattle.formatter.proofs.Steps.{Here, here}
use Rattle.formatter.proofs.Pieces.{held-as, Appends, There, there}

no-close : (s : List ℕ) (f d p : ℕ) (xs : List Tok) {t : Tree} {r : List Tok} → expression f d loosest (tok (Symbol close_paren) p ∷ xs) ≡ ok t r → ⊥
unfolding expression
no-close s zero d p xs e = let z : ◌≡◌ {A = ℕ} 0 1 = cc in omega arith
no-close s (suc zero) d p xs e = let z : ◌≡◌ {A = ℕ} 0 1 = cc in omega arith
no-close s (suc (suc zero)) d p xs e = let z : ◌≡◌ {A = ℕ} 0 1 = cc in omega arith
no-close s (suc (suc (suc f))) zero p xs e = let z : ◌≡◌ {A = ℕ} 0 1 = cc in omega arith
no-close s (suc (suc (suc f))) (suc d) p xs e = let z : ◌≡◌ {A = ℕ} 0 1 = cc in omega arith

abbrev tail : List Tok → List Tok
tail [] = []
tail (x ∷ xs) = xs

-- the symbol n comes next
pub symbol-head : (n : ℕ) (ts : List Tok) → head_is n ts ≡ true → (p : ℕ) × (xs : List Tok) × (ts ≡ tok (Symbol n) p ∷ xs)
symbol-head n [] e = no e
symbol-head n (x ∷ xs) e = (x.place, xs, ap (λ (u : Token). tok u x.place ∷ xs) (is-symbol n x.token e))

head-symbol : (n m p : ℕ) (xs : List Tok) (ts : List Tok) → ts ≡ tok (Symbol m) p ∷ xs → head_is n ts ≡ eqb m n
head-symbol n m p xs ts q = ap (head_is n) q

items-expression : {s : List ℕ} {ts : List Tok} {x : List ℕ} {r : List Tok} → SaysItems s ts x r → Some (SaysExpression loosest s ts)
items-expression {s} (last f d {t} n p z e) = record { text = formatted s t; group = top t; left = _; is = says f d e }
items-expression {s} (more f d {t} p e m) = record { text = formatted s t; group = top t; left = _; is = says f d e }

pub data Behind (s : List ℕ) (ts : List Tok) : List ℕ → List Tok → Type 0 where
  ends_with : {r : List Tok} (n p : ℕ) → (n ≡ comma → ⊥) → ts ≡ tok (Symbol n) p ∷ r → Behind s ts (symbol_bytes n) r
  goes_on : {x : List ℕ} {q r : List Tok} (p : ℕ) → ts ≡ tok (Symbol comma) p ∷ q → SaysItems s q x r → Behind s ts (ascii ", " ++ x) r

-- what was written of a list up to j, and what is left of it
pub record Onward (s table buf out : List ℕ) (n j e : ℕ) (x : List ℕ) (g : ℕ) (r : List Tok) : Type 0 where
  pub written : List ℕ
  pub rest : List ℕ
  pub behind : Behind s (tokens_from table j) rest r
  pub whole : x ≡ written ++ rest
  pub bare : g ≡ 0
  pub text : Appends buf n out e written

pub record Listing (s table : List ℕ) (at : ℕ) (buf out : List ℕ) (n j e : ℕ) : Type 0 where
  pub ahead : at < j
  pub within : j ≤ length table
  pub counted : Counted e buf
  pub position : Position s table j
  pub lists : (x : List ℕ) (g : ℕ) (r : List Tok) → SaysList s (tokens_from table at) x g r → Onward s table buf out n j e x g r

-- ---- a closing parenthesis alone
module _ {s table : List ℕ} {at : ℕ} (p : Position s table at) (c : is_mark close_paren (word_at table at) ≡ true) where
  close : (q : ℕ) × (xs : List Tok) × (tokens_from table at ≡ tok (Symbol close_paren) q ∷ xs)
  close = symbol-head close_paren (tokens_from table at) (sym (mark-head table at p.words close_paren) ∙ c)

  spot : Here s table at (tok (Symbol close_paren) close.0) close.1
  spot = here s table at p close.2

  pub close-stands : StandsAt s (word_place (word_at table at)) (word_operand (word_at table at))
  close-stands = spot.stands

  pub close-within : at < length table
  close-within = spot.within

  no_items : {x : List ℕ} {r : List Tok} → SaysItems s (tokens_from table at) x r → ⊥
  no_items m = let k = items-expression m in go k.is
    where
      go : {x : List ℕ} {g : ℕ} {r : List Tok} → SaysExpression loosest s (tokens_from table at) x g r → ⊥
      go (says f d e) = no-close s f d close.0 close.1 (ap (expression f d loosest) (sym close.2) ∙ e)

  pub close-writes : {buf out : List ℕ} {n e : ℕ} → Counted e buf → Appends buf n out e (lexeme s (word_place (word_at table at)))
      → Formats (SaysList s (tokens_from table at)) s table at buf out n (at + 1) e 0
  close-writes {buf} {out} {n} {e} ct w =
      record { ahead = omega arith; within = omega (arith, spot.within); counted = ct; typed = spot.next.typed; writes = λ x g r m. go m }
    where
      lx : lexeme s (word_place (word_at table at)) ≡ ascii ")"
      lx = ap (lexeme s) spot.place ∙ symbol-spelt s close_paren close.0 spot.end spot.typed

      go : {x : List ℕ} {g : ℕ} {r : List Tok} → SaysList s (tokens_from table at) x g r → Writes table x g r buf out n (at + 1) e 0
      go (empty q m) = record { next = spot.left ∙ ap tail (sym close.2 ∙ m); top = refl; text = λ o z. held-as (ap (λ (u : List ℕ). o ++ u) lx) (w o z) }
      go (items m) = absurd (no_items m)

-- ---- expressions
module _ {s table : List ℕ} {at : ℕ} (p : Position s table at) (c : is_mark close_paren (word_at table at) ≡ false) where
  some-items : {x : List ℕ} {g : ℕ} {r : List Tok} → SaysList s (tokens_from table at) x g r → SaysItems s (tokens_from table at) x r × (g ≡ 0)
  some-items (empty q m) = no (sym c ∙ mark-head table at p.words close_paren ∙ ap (head_is close_paren) m)
  some-items (items m) = (m, refl)

  pub first_some : Some (SaysList s (tokens_from table at)) → Some (SaysExpression loosest s (tokens_from table at))
  first_some k = items-expression (some-items k.is).0

  module _ {buf out : List ℕ} {n j e h : ℕ} (f : Formats (SaysExpression loosest s (tokens_from table at)) s table at buf out n j e h) where
    onward : {x : List ℕ} {r : List Tok} → SaysItems s (tokens_from table at) x r → Onward s table buf out n j e x 0 r
    onward (last f' d {t} m q z y) =
        let v = f.writes (formatted s t) (top t) _ (says f' d y) in
        record { written = formatted s t; rest = symbol_bytes m; behind = ends_with m q z v.next; whole = refl; bare = refl; text = v.text }
    onward (more f' d {t} q y m) =
        let v = f.writes (formatted s t) (top t) _ (says f' d y) in
        record { written = formatted s t; rest = _; behind = goes_on q v.next m; whole = refl; bare = refl; text = v.text }

    pub list-starts : Listing s table at buf out n j e
    list-starts =
        record {
          ahead = f.ahead;
          within = f.within;
          counted = f.counted;
          position = record { words = p.words; typed = f.typed };
          lists = λ x g r m. let (a, b) = some-items m in subst (λ (i : ℕ). Onward s table buf out n j e x i r) (sym b) (onward a);
        }

module _ {s table : List ℕ} {at : ℕ} {buf out : List ℕ} {n j e : ℕ} (l : Listing s table at buf out n j e) where
  -- a comma
  module _ (c : is_mark comma (word_at table j) ≡ true) where
    comma-head : head_is comma (tokens_from table j) ≡ true
    comma-head = sym (mark-head table j l.position.words comma) ∙ c

    spot₁ : There s table j
    spot₁ = let (q, xs, m) = symbol-head comma (tokens_from table j) comma-head in there l.position (tok (Symbol comma) q) xs m

    pub next-position : Position s table (j + 1)
    next-position = spot₁.here.next

    pub comma-within : j < length table
    comma-within = spot₁.here.within

    record Further (x : List ℕ) (g : ℕ) (r : List Tok) : Type 0 where
      written : List ℕ
      later : List ℕ
      says : SaysItems s (tokens_from table (j + 1)) later r
      whole : x ≡ written ++ (ascii ", " ++ later)
      bare : g ≡ 0
      text : Appends buf n out e written

    further : {x : List ℕ} {g : ℕ} {r : List Tok} → Onward s table buf out n j e x g r → Further x g r
    further {x} {g} {r} o = go o.behind o.whole
      where
        go : {rest : List ℕ} {r : List Tok} → Behind s (tokens_from table j) rest r → x ≡ o.written ++ rest → Further x g r
        go (ends_with m q z y) w = absurd (z (eqb-true m comma (sym (ap (head_is comma) y) ∙ comma-head)))
        go {r = r} (goes_on {x = v} {q = t} q y m) w =
            let z : t ≡ tokens_from table (j + 1) = let a = spot₁.is in let b : spot₁.left ≡ t = cc in sym b ∙ sym spot₁.here.left in
            record { written = o.written; later = v; says = subst (λ (ts : List Tok). SaysItems s ts v r) z m; whole = w; bare = o.bare; text = o.text }

    pub next-some : Some (SaysList s (tokens_from table at)) → Some (SaysExpression loosest s (tokens_from table (j + 1)))
    next-some k = items-expression (further (l.lists k.text k.group k.left k.is)).says

    pub list-goes-on : {out₁ out₂ : List ℕ} {e₁ j₂ e₂ h : ℕ} → length out₁ ≡ length buf → Appends out e out₁ e₁ (ascii ", ") → Formats
        (SaysExpression loosest s (tokens_from table (j + 1))) s table (j + 1) out₁ out₂ e₁ j₂ e₂ h
        → Listing s table at buf out₂ n j₂ e₂
    list-goes-on {out₂ = out₂} {j₂ = j₂} {e₂ = e₂} ln a f =
        record {
          ahead = omega (arith, l.ahead, f.ahead);
          within = f.within;
          counted = omega (arith, f.counted, ln);
          position = record { words = l.position.words; typed = f.typed };
          lists = λ x g r m. let k = further (l.lists x g r m) in go k k.says refl;
        }
      where
        go : {x : List ℕ} {g : ℕ} {r : List Tok} (k : Further x g r) {v : List ℕ} → SaysItems s (tokens_from table (j + 1)) v r → k.later ≡ v
            → Onward s table buf out₂ n j₂ e₂ x g r
        go k (last f' d {t} m q z y) w =
            let v = f.writes (formatted s t) (top t) _ (says f' d y) in
            let b = k.written in
            record {
              written = b ++ (ascii ", " ++ formatted s t);
              rest = symbol_bytes m;
              behind = ends_with m q z v.next;
              whole = k.whole ∙ ap (λ (u : List ℕ). b ++ (ascii ", " ++ u)) w ∙ sym (append_assoc b (ascii ", " ++ formatted s t) (symbol_bytes m));
              bare = k.bare;
              text = λ o i. held-as (append_assoc (o ++ b) (ascii ", ") (formatted s t) ∙ append_assoc o b (ascii ", " ++ formatted s t))
                  (v.text _ (a _ (k.text o i)));
            }
        go k (more {x = later} f' d {t} q y m) w =
            let v = f.writes (formatted s t) (top t) _ (says f' d y) in
            let b = k.written in
            record {
              written = b ++ (ascii ", " ++ formatted s t);
              rest = ascii ", " ++ later;
              behind = goes_on q v.next m;
              whole = k.whole ∙ ap (λ (u : List ℕ). b ++ (ascii ", " ++ u)) w ∙ sym (append_assoc b (ascii ", " ++ formatted s t) (ascii ", " ++ later));
              bare = k.bare;
              text = λ o i. held-as (append_assoc (o ++ b) (ascii ", ") (formatted s t) ∙ append_assoc o b (ascii ", " ++ formatted s t))
                  (v.text _ (a _ (k.text o i)));
            }

  -- the closing bracket
  module _ (c : is_mark comma (word_at table j) ≡ false) where
    record Closed (x : List ℕ) (g : ℕ) (r : List Tok) : Type 0 where
      number : ℕ
      place : ℕ
      written : List ℕ
      spot : Here s table j (tok (Symbol number) place) r
      whole : x ≡ written ++ symbol_bytes number
      bare : g ≡ 0
      text : Appends buf n out e written

    closed : {x : List ℕ} {g : ℕ} {r : List Tok} → Onward s table buf out n j e x g r → Closed x g r
    closed {x} {g} {r} o = go o.behind o.whole
      where
        go : {rest : List ℕ} {r : List Tok} → Behind s (tokens_from table j) rest r → x ≡ o.written ++ rest → Closed x g r
        go (ends_with m q z y) w = record {
          number = m;
          place = q;
          written = o.written;
          spot = here s table j l.position y;
          whole = w;
          bare = o.bare;
          text = o.text;
        }
        go (goes_on q y m) w = no (sym c ∙ mark-head table j l.position.words comma ∙ ap (head_is comma) y)

    module _ (k : Some (SaysList s (tokens_from table at))) where
      known : Closed k.text k.group k.left
      known = closed (l.lists k.text k.group k.left k.is)

      pub closer-stands : StandsAt s (word_place (word_at table j)) (word_operand (word_at table j))
      closer-stands = known.spot.stands

      pub closer-within : j < length table
      closer-within = known.spot.within

      pub list-ends : {out' : List ℕ} {e' : ℕ} → Counted e' buf → Appends out e out' e' (lexeme s (word_place (word_at table j)))
          → Formats (SaysList s (tokens_from table at)) s table at buf out' n (j + 1) e' 0
      list-ends {out'} {e'} ct a =
          record {
            ahead = omega (arith, l.ahead);
            within = omega (arith, closer-within);
            counted = ct;
            typed = known.spot.next.typed;
            writes =
                λ x g r m. go (closed (l.lists x g r m));
          }
        where
          go : {x : List ℕ} {g : ℕ} {r : List Tok} → Closed x g r → Writes table x g r buf out' n (j + 1) e' 0
          go v =
              let lx : lexeme s (word_place (word_at table j)) ≡ symbol_bytes v.number = ap (lexeme s) v.spot.place
              ∙ symbol-spelt s v.number v.place v.spot.end v.spot.typed in
              record {
                next = v.spot.left;
                top = sym v.bare;
                text = λ o i. held-as (append_assoc o v.written _ ∙ ap (λ (u : List ℕ). o ++ u)
                    (ap (λ (u : List ℕ). v.written ++ u) lx ∙ sym v.whole)) (a _ (v.text o i));
              }
