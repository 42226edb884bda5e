-- What a function of the walk wrote, from what the functions that it calls wrote.
use mathlib.Core.Path.{◌≡◌, refl, sym, ap, subst, ◌∙◌}
use mathlib.Core.Bool.{Bool, true, false, or-true, or-false}
use mathlib.Core.List.{List, [], ◌∷◌, ◌++◌, append_assoc, append-nil}
use Prim.Native.Nat.{ℕ, ◌+◌, ◌-◌, ◌≤◌, ◌<◌}
use native.Mathlib.Omega.{arith}
use lib.ListN.{length, take, drop}
use borrow.Author.Tests.{eq-eqb, ne_eqb}
use Rattle.words.specs.Ascii.{ascii}
use Rattle.tokens.specs.declared.Token.TheVariants.{Symbol}
use Rattle.tokens.specs.Symbols.{symbol_bytes}
use Rattle.tokens.specs.Scan.{Tok}
use Rattle.token_table.specs.private.Table.{word_class, word_operand, word_place, word_at, tokens_from}
use Rattle.token_table.proofs.Laws.{token_class}
use Rattle.grammar.specs.Grammar.{tok}
use Rattle.grammar.specs.Symbols.{loosest, close_paren}
use Rattle.draft.specs.private.Words.{Signs}
use Rattle.format_laws.specs.Formatted.{lexeme, parenthesized, is_infix, is_other_infix}
use Rattle.format_writer.specs.private.Scratch.{Holds, Counted, StartsBehind}
use Rattle.format_writer.specs.private.Spelling.{StandsAt}
use Rattle.format_writer.proofs.Holding.{starts-behind, nothing_yet}
use Rattle.formatter.specs.private.Walk.{Typed, Position, says, SaysExpression, SaysOperand, SaysPrimary, SaysList, Some, Writes, Formats}
use Rattle.formatter.specs.private.Walk.{none, more, WritesSigns}
use Rattle.formatter.proofs.Spelt.{symbol-spelt, lexeme-is}
use Rattle.formatter.proofs.Primaries.{PrimaryOf, leaf, headed, grouped, primary-of}
use Rattle.formatter.proofs.Steps.{Here, here, Chain, chain, Chained, bare, signed_by, no-more-signs}

-- a text by another name
pub held-as : {o u buf : List ℕ} {n : ℕ} → o ≡ u → Holds o buf n → Holds u buf n
held-as {buf = buf} {n = n} q h = subst (λ (z : List ℕ). Holds z buf n) q h

-- what is put in parentheses if a test holds
abbrev pub Encloses : Bool → List ℕ → ℕ → ℕ → List ℕ → ℕ → Type 0
Encloses b buf start e buf' e' = (o x : List ℕ) → StartsBehind o buf start → Holds (o ++ x) buf e → Holds (o ++ parenthesized b x) buf' e'

-- what is put behind the text
abbrev pub Appends : List ℕ → ℕ → List ℕ → ℕ → List ℕ → Type 0
Appends buf n buf' e x = (o : List ℕ) → Holds o buf n → Holds (o ++ x) buf' e

-- of a word that the code has
pub by_word : (s : List ℕ) {v w : ℕ} → v ≡ w → {buf out : List ℕ} {n e : ℕ} → Appends buf n out e (lexeme s (word_place v))
    → Appends buf n out e (lexeme s (word_place w))
by_word s q {buf} {out} {n} {e} a = subst (λ (i : ℕ). Appends buf n out e (lexeme s (word_place i))) q a

-- ---- operands
module _ {s table : List ℕ} {at first : ℕ} (p : Position s table at)
    (g : Signs table at first) {buf out : List ℕ} {n start : ℕ} (w : WritesSigns s table at first buf out n start) where
  linked : {y : List ℕ} {h : ℕ} {r : List Tok} → SaysOperand s (tokens_from table at) y h r → Chain s table at first w.bytes y h r
  linked m = (chain p w.signs g.each m).1

  pub inner-position : Some (SaysOperand s (tokens_from table at)) → Position s table first
  inner-position k = (linked k.is).position

  pub inner-some : Some (SaysOperand s (tokens_from table at)) → Some (SaysPrimary s (tokens_from table first))
  inner-some k =
      let c = linked k.is in
      record { text = c.inner; group = c.group; left = k.left; is = no-more-signs s table first p.words g.stops c.says }

  module _ (long : length out ≡ length buf) {out₂ : List ℕ} {j e h : ℕ}
      (f : Formats (SaysPrimary s (tokens_from table first)) s table first out out₂ start j e h) where
    writes-inner : {y : List ℕ} {k : ℕ} {r : List Tok} (c : Chain s table at first w.bytes y k r) → Writes table c.inner c.group r out out₂ start j e h
    writes-inner {r = r} c = f.writes c.inner c.group r (no-more-signs s table first p.words g.stops c.says)

    pub operand-bare : first ≡ at → Formats (SaysOperand s (tokens_from table at)) s table at buf out₂ n j e h
    operand-bare q = record {
      ahead = omega (arith, f.ahead);
      within = f.within;
      counted = omega (arith, f.counted, long);
      typed = f.typed;
      writes =
          λ x k r m. go (linked m) (linked m).chained;
    }
      where
        go : {x : List ℕ} {k : ℕ} {r : List Tok} (c : Chain s table at first w.bytes x k r) → Chained at first w.bytes x k c.inner c.group
            → Writes table x k r buf out₂ n j e h
        go c (bare a b d i) =
            let v = writes-inner c in
            record {
              next = v.next;
              top = v.top ∙ sym i;
              text = λ o z. held-as
                  (ap (λ (u : List ℕ). o ++ u ++ c.inner) b ∙ ap (λ (u : List ℕ). u ++ c.inner) (append-nil o) ∙ ap (λ (u : List ℕ). o ++ u) (sym d))
                  (v.text (o ++ w.bytes) (w.text o z));
            }
        go c (signed_by a d i) = absurd (omega arith)

    pub operand-signed : (first ≡ at → ⊥) → {out₃ : List ℕ} {e' : ℕ} → length out₂ ≡ length out → Counted e' out₂
        → Encloses (is_infix h) out₂ start e out₃ e' → Formats (SaysOperand s (tokens_from table at)) s table at buf out₃ n j e' 0
    operand-signed q {out₃} {e'} l ct en = record {
      ahead = omega (arith, f.ahead, g.ahead);
      within = f.within;
      counted = omega (arith, ct, long, l);
      typed = f.typed;
      writes = λ x k r m. go (linked m) (linked m).chained;
    }
      where
        go : {x : List ℕ} {k : ℕ} {r : List Tok} (c : Chain s table at first w.bytes x k r) → Chained at first w.bytes x k c.inner c.group
            → Writes table x k r buf out₃ n j e' 0
        go c (bare a b d i) = absurd (q a)
        go {x} c (signed_by a d i) =
            let v = writes-inner c in
            let same : (o : List ℕ) → o ++ w.bytes ++ parenthesized (is_infix h) c.inner ≡ o ++ x =
            λ o. ap (λ (m : ℕ). o ++ w.bytes ++ parenthesized (is_infix m) c.inner) v.top
            ∙ append_assoc o w.bytes (parenthesized (is_infix c.group) c.inner) ∙ ap (λ (u : List ℕ). o ++ u) (sym d) in
            record {
              next = v.next;
              top = sym i;
              text = λ o z. held-as (same o)
                  (en (o ++ w.bytes) c.inner (starts-behind (w.text o z) out₂ l) (v.text (o ++ w.bytes) (w.text o z)));
            }

-- ---- a token that is there
pub record There (s table : List ℕ) (at : ℕ) : Type 0 where
  pub token : Tok
  pub left : List Tok
  pub is : tokens_from table at ≡ token ∷ left
  pub here : Here s table at token left

pub there : {s table : List ℕ} {at : ℕ} → Position s table at → (x : Tok) (xs : List Tok) → tokens_from table at ≡ x ∷ xs → There s table at
there {s} {table} {at} p x xs q = record { token = x; left = xs; is = q; here = here s table at p q }

-- ---- primaries
no-primary : (s : List ℕ) {y : List ℕ} {g : ℕ} {r : List Tok} → SaysPrimary s [] y g r → ⊥
no-primary s (says f d e) = let z : ◌≡◌ {A = ℕ} 0 1 = cc in omega arith

module _ {s table : List ℕ} {at : ℕ} (p : Position s table at) (k : Some (SaysPrimary s (tokens_from table at))) where
  pub first : There s table at
  first = go (tokens_from table at) refl k.is
    where
      go : (ts : List Tok) → tokens_from table at ≡ ts → SaysPrimary s ts k.text k.group k.left → There s table at
      go [] q m = absurd (no-primary s m)
      go (x ∷ xs) q m = there p x xs q

  cased : {y : List ℕ} {g : ℕ} {r : List Tok} → SaysPrimary s (tokens_from table at) y g r → PrimaryOf s first.token first.left y g r
  cased {y} {g} {r} m =
      primary-of s first.token.token first.token.place first.left (subst (Typed s) first.is p.typed)
      (subst (λ (ts : List Tok). SaysPrimary s ts y g r) first.is m)

  class : word_class (word_at table at) ≡ token_class first.token.token
  class = first.here.class

  -- parentheses
  module _ (c : word_class (word_at table at) ≡ 6) where
    pub grouped-some : Some (SaysExpression loosest s (tokens_from table (at + 1)))
    grouped-some = go (cased k.is)
      where
        go : PrimaryOf s first.token first.left k.text k.group k.left → Some (SaysExpression loosest s (tokens_from table (at + 1)))
        go (leaf a b d e) = absurd (omega (arith, class))
        go (headed a b n q d e f g) = absurd (omega (arith, class))
        go (grouped a q m) =
            record {
              text = k.text;
              group = k.group;
              left = tok (Symbol close_paren) q ∷ k.left;
              is =
                  subst (λ (ts : List Tok). SaysExpression loosest s ts k.text k.group (tok (Symbol close_paren) q ∷ k.left)) (sym first.here.left) m;
            }

    module _ {buf out : List ℕ} {n j e h : ℕ} (f : Formats (SaysExpression loosest s (tokens_from table (at + 1))) s table (at + 1) buf out n j e h) where
      closes : {y : List ℕ} {g : ℕ} {r : List Tok} → PrimaryOf s first.token first.left y g r
          → (q : ℕ) × Writes table y g (tok (Symbol close_paren) q ∷ r) buf out n j e h
      closes (leaf a b d e) = absurd (omega (arith, class))
      closes (headed a b n q d e f g) = absurd (omega (arith, class))
      closes {y} {g} {r} (grouped a q m) = (
        q,
        f.writes y g (tok (Symbol close_paren) q ∷ r)
            (subst (λ (ts : List Tok). SaysExpression loosest s ts y g (tok (Symbol close_paren) q ∷ r)) (sym first.here.left) m),
      )

      closer : {y : List ℕ} {g q : ℕ} {r : List Tok} → Writes table y g (tok (Symbol close_paren) q ∷ r) buf out n j e h
          → Here s table j (tok (Symbol close_paren) q) r
      closer v = here s table j (record { words = p.words; typed = f.typed }) v.next

      pub group-writes : Formats (SaysPrimary s (tokens_from table at)) s table at buf out n (j + 1) e h
      group-writes =
          let (q, v) = closes (cased k.is) in
          let c = closer v in
          record {
            ahead = omega (arith, f.ahead);
            within = omega (arith, c.within);
            counted = f.counted;
            typed = c.next.typed;
            writes = λ x g r m. let (i, u) = closes (cased m) in record { next = (closer u).left; top = u.top; text = u.text };
          }

  -- a number or a cell
  pub leaf-writes : word_class (word_at table at) < 4 → {buf out : List ℕ} {n e : ℕ} → Counted e buf
      → Appends buf n out e (lexeme s (word_place (word_at table at)))
      → Formats (SaysPrimary s (tokens_from table at)) s table at buf out n (at + 1) e 0
  leaf-writes c {buf} {out} {n} {e} ct w =
      record {
        ahead = omega arith;
        within = omega (arith, first.here.within);
        counted = ct;
        typed = first.here.next.typed;
        writes =
            λ x g r m. go (cased m);
      }
    where
      go : {x : List ℕ} {g : ℕ} {r : List Tok} → PrimaryOf s first.token first.left x g r → Writes table x g r buf out n (at + 1) e 0
      go (leaf a b d f) =
          record {
            next = first.here.left ∙ f;
            top = sym d;
            text = λ o z. held-as
                (ap (λ (u : List ℕ). o ++ u) (ap (lexeme s) first.here.place ∙ sym b)) (w o z);
          }
      go (headed a b n q d e f g) = absurd (omega (arith, class))
      go (grouped a q m) = absurd (omega (arith, class))

  -- a name or a bank letter, the bracket behind it, and a list
  module _ (c : 4 ≤ word_class (word_at table at)) (c' : word_class (word_at table at) ≡ 6 → ⊥) where
    record Head (y : List ℕ) (g : ℕ) (r : List Tok) : Type 0 where
      opener : ℕ
      place : ℕ
      zs : List Tok
      bytes : List ℕ
      behind : Here s table (at + 1) (tok (Symbol opener) place) zs
      says : SaysList s (tokens_from table (at + 2)) bytes 0 r
      text : y ≡ lexeme s (word_place (word_at table at)) ++ (lexeme s (word_place (word_at table (at + 1))) ++ bytes)
      bare : g ≡ 0

    two : at + 1 + 1 ≡ at + 2
    two = omega arith

    head : {y : List ℕ} {g : ℕ} {r : List Tok} → PrimaryOf s first.token first.left y g r → Head y g r
    head (leaf a b d e) = absurd (omega (arith, class))
    head {r = r} (headed {z} {zs} a b n q d e f g) =
        let h = here s table (at + 1) first.here.next (first.here.left ∙ d) in
        let lx : lexeme s (word_place (word_at table (at + 1))) ≡ symbol_bytes n = ap (lexeme s) h.place ∙ symbol-spelt s n q h.end h.typed in
        record {
          opener = n;
          place = q;
          zs = zs;
          bytes = z;
          behind = h;
          says = subst (λ (ts : List Tok). SaysList s ts z 0 r) (sym (ap (tokens_from table) (sym two) ∙ h.left)) e;
          text = f ∙ ap (λ (u : List ℕ). u ++ (symbol_bytes n ++ z)) (ap (lexeme s) (sym first.here.place))
              ∙ ap (λ (u : List ℕ). lexeme s (word_place (word_at table at)) ++ (u ++ z)) (sym lx);
          bare = g;
        }
    head (grouped a q m) = absurd (c' (class ∙ a))

    known : Head k.text k.group k.left
    known = head (cased k.is)

    pub opener-stands : StandsAt s (word_place (word_at table (at + 1))) (word_operand (word_at table (at + 1)))
    opener-stands = known.behind.stands

    pub opener-within : at + 1 < length table
    opener-within = known.behind.within

    pub list-position : Position s table (at + 2)
    list-position = subst (Position s table) two known.behind.next

    pub list-some : Some (SaysList s (tokens_from table (at + 2)))
    list-some = record { text = known.bytes; group = 0; left = k.left; is = known.says }

    pub headed-writes : {buf out out₂ out₃ : List ℕ} {n e e₂ j e₃ h : ℕ} → length out₂ ≡ length buf
        → Appends buf n out e (lexeme s (word_place (word_at table at))) → Appends out e out₂ e₂ (lexeme s (word_place (word_at table (at + 1))))
        → Formats (SaysList s (tokens_from table (at + 2))) s table (at + 2) out₂ out₃ e₂ j e₃ h
        → Formats (SaysPrimary s (tokens_from table at)) s table at buf out₃ n j e₃ h
    headed-writes {buf} {out₃ = out₃} {n} {j = j} {e₃ = e₃} {h = h} l a b f =
        record {
          ahead = omega (arith, f.ahead);
          within = f.within;
          counted = omega (arith, f.counted, l);
          typed = f.typed;
          writes =
              λ x g r m. go x g r (head (cased m));
        }
      where
        go : (x : List ℕ) (g : ℕ) (r : List Tok) → Head x g r → Writes table x g r buf out₃ n j e₃ h
        go x g r w =
            let v = f.writes w.bytes 0 r w.says in
            let l₁ = lexeme s (word_place (word_at table at)) in
            let l₂ = lexeme s (word_place (word_at table (at + 1))) in
            record {
              next = v.next;
              top = v.top ∙ sym w.bare;
              text = λ o z. held-as (append_assoc (o ++ l₁) l₂ w.bytes ∙ append_assoc o l₁ (l₂ ++ w.bytes)
                  ∙ ap (λ (u : List ℕ). o ++ u) (sym w.text)) (v.text (o ++ l₁ ++ l₂) (b (o ++ l₁) (a o z)));
            }

-- ---- the functions outside of the cycle
module _ (s : List ℕ) (a m r : ℕ) (f : (h : StandsAt s a m) → r ≡ h.end) where
  typed-bytes : StandsAt s a m → take (r - a) (drop a s) ≡ lexeme s a
  typed-bytes h = ap (λ (e : ℕ). take (e - a) (drop a s)) (f h) ∙ sym (lexeme-is s h.token a h.end h.stands)

  -- the bytes of the token at p, as the code has its place and number
  pub token-bytes : {p n : ℕ} → a ≡ p → m ≡ n → StandsAt s p n → take (r - a) (drop a s) ≡ lexeme s p
  token-bytes {p} {n} q w h = typed-bytes (subst (StandsAt s a) (sym w) (subst (λ (i : ℕ). StandsAt s i n) (sym q) h)) ∙ ap (lexeme s) q

pub bare-operand : {g : ℕ} → g ≡ 0 → (o x : List ℕ) {buf : List ℕ} {e : ℕ} → Holds (o ++ x) buf e → Holds (o ++ parenthesized (is_infix g) x) buf e
bare-operand {g} z o x {buf} {e} h = subst (λ (i : ℕ). Holds (o ++ parenthesized (is_infix i) x) buf e) (sym z) h

pub infix-operand : {g : ℕ} → (g ≡ 0 → ⊥) → is_infix g ≡ true
infix-operand {g} z = rw (ne_eqb g 0 z)

pub same-group : {g t : ℕ} → t ≡ g → is_other_infix g t ≡ false
same-group {g} {t} q = rw (eq-eqb t g q, or-true)

pub other-group : {g t : ℕ} → (t ≡ g → ⊥) → is_other_infix g t ≡ is_infix t
other-group {g} {t} q = rw (ne_eqb t g q, or-false)

pub no-signs-yet : {s table buf : List ℕ} {at n : ℕ} → Counted n buf → WritesSigns s table at at buf buf n n
no-signs-yet c = record { bytes = []; signs = none; text = λ o h. nothing_yet h; counted = c }

pub signs-more : {s table buf out out₂ : List ℕ} {at i n e e₂ v : ℕ} → WritesSigns s table at i buf out n e → v ≡ word_at table i → length out ≡ length buf
    → Counted e₂ out → Appends out e out₂ e₂ (lexeme s (word_place v))
    → WritesSigns s table at (i + 1) buf out₂ n e₂
signs-more {s} {table} {i = i} w q l c a =
    let lx = ap (λ (x : ℕ). lexeme s (word_place x)) q in
    record {
      bytes = w.bytes ++ lexeme s (word_place (word_at table i));
      signs = more refl w.signs;
      text = λ o h. held-as (append_assoc o w.bytes _ ∙ ap (λ (u : List ℕ). o ++ (w.bytes ++ u)) lx) (a (o ++ w.bytes) (w.text o h));
      counted = omega (arith, c, l);
    }

pub spaced : (s : List ℕ) (w : ℕ) {buf out out₂ out₃ : List ℕ} {n e e₂ e₃ : ℕ} → Appends buf n out e (32 ∷ [])
    → Appends out e out₂ e₂ (lexeme s (word_place w)) → Appends out₂ e₂ out₃ e₃ (32 ∷ [])
    → Appends buf n out₃ e₃ (ascii " " ++ (lexeme s (word_place w) ++ ascii " "))
spaced s w a b d o h =
    let x = lexeme s (word_place w) in
    held-as (append_assoc (o ++ (32 ∷ [])) x (32 ∷ []) ∙ append_assoc o (32 ∷ []) (x ++ (32 ∷ []))) (d (o ++ (32 ∷ []) ++ x) (b (o ++ (32 ∷ [])) (a o h)))
