-- Bytes made of spellings, symbols and single blanks: they scan to their tokens, their levels are those of the tokens, and at the tokens' places stand the
-- spellings.
use Rattle.std.specs.Prelude.{Ok}
use mathlib.Core.Path.{◌≡◌, refl, sym, ap, subst, ◌∙◌}
use mathlib.Core.Bool.{Bool, true, false, ◌||◌}
use mathlib.Core.List.{List, [], ◌∷◌, ◌++◌}
use Prim.Native.Nat.{ℕ, suc, ◌+◌, ◌-◌, ◌≤◌, ◌<◌}
use native.Mathlib.Omega.{arith}
use native.Mathlib.Nat.{add-zero}
use native.Mathlib.Numerals.{add-one}
use lib.Dec.{eqb}
use lib.ListN.{length, drop}
use lib.Seq.{drop-drop, drop-append_seam}
use borrow.Author.Tests.{eqb-true}
use Rattle.words.specs.Ascii.{byte}
use Rattle.tokens.specs.declared.Token.{Token}
use Rattle.tokens.specs.declared.Token.TheVariants.{Number, Cell, Letter, Name, Symbol}
use Rattle.tokens.specs.Bytes.{is_word, is_run, all}
use Rattle.tokens.specs.Symbols.{symbol_count, symbol_bytes}
use Rattle.tokens.specs.Numerals.{non_empty, is_sign, decimal_digits}
use Rattle.tokens.specs.Scan.{Tok, Scan, tokens, cons_token}
use Rattle.tokens.specs.Theorems.{Stops, LongestMatch, Mantissa, whole, dotted, LongestLexeme, Scans, token, stop}
use Rattle.tokens.specs.Theorems as T
use Rattle.tokens.proofs.Tests.{no, both, by-test}
use Rattle.tokens.proofs.Runs.{all_append}
use Rattle.tokens.proofs.Below.{below, below_at}
use Rattle.memory.specs.Names.{is_digit, all_digits}
use Rattle.tokens.proofs.numerals.Values.{as-all}
use Rattle.grammar.specs.Symbols.{open_paren, close_paren, open_index, close_index, Form, plain, clock, ranged, matched, form_of}
use Rattle.grammar.specs.Grammar.{tok}
use Rattle.grammar.specs.Parse.{most_open}
use Rattle.grammar.specs.Theorems.{is_opener, is_closer, Shallow, done, opens, goes_on}
use Rattle.format_laws.specs.Formatted.{lexeme, open_behind, levels_from}
use Rattle.format_laws.proofs.Levels.{at_least, is_no_bracket, plain-levels}
use Rattle.format_theorems.proofs.Lexemes.{continues, is_no_symbol, Spells, as-word, as-run, as-signed, spelled-before, lexeme-is}

-- ---- the spellings that a formatted text takes over: those of numerals, and of names whose place the tree has
abbrev pub kept_name : Form → List ℕ → List (List ℕ)
kept_name (plain c) w = w ∷ []
kept_name clock w = []
kept_name (ranged o) w = []
kept_name (matched o) w = []

abbrev pub kept : Token → List ℕ → List (List ℕ)
kept (Number v) w = w ∷ []
kept (Cell b i) w = []
kept (Letter b) w = []
kept (Name f) w = kept_name (form_of f) w
kept (Symbol n) w = []

-- in the text s, at the places of the tokens
abbrev pub kept_at : List ℕ → List Tok → List (List ℕ)
kept_at s [] = []
kept_at s (x ∷ xs) = kept x.token (lexeme s x.place) ++ kept_at s xs

-- the bytes r, which stand at p, are the tokens z with the kept spellings ys
pub data Lexed : ℕ → List ℕ → List Tok → List (List ℕ) → Type 0 where
  end : {p : ℕ} → Lexed p [] [] []
  blank : {p : ℕ} {r : List ℕ} {z : List Tok} {ys : List (List ℕ)} → Lexed (suc p) r z ys → Lexed p (byte " " ∷ r) z ys
  sign : {p : ℕ} {r : List ℕ} {z : List Tok} {ys : List (List ℕ)} (n : ℕ) → LongestMatch n r → Lexed (p + length (symbol_bytes n)) r z ys
      → Lexed p (symbol_bytes n ++ r) (tok (Symbol n) p ∷ z) ys
  piece : {p : ℕ} {r : List ℕ} {z : List Tok} {ys : List (List ℕ)} {x : Token} (w : List ℕ) → is_no_symbol x ≡ true → Spells x w → Stops continues r
      → Lexed (p + length w) r z ys → Lexed p (w ++ r) (tok x p ∷ z) (kept x w ++ ys)

-- ---- the scan
token-first : {p : ℕ} {t : Token} {w r : List ℕ} {z : Scan} → LongestLexeme w r (Ok t) → Scans (p + length w) r z → Scans p (w ++ r) (cons_token (tok t p) z)
token-first {p} {t} {w} {r} {z} l h =
    subst (λ (k : ℕ). Scans (k + length w) r z → Scans p (w ++ r) (cons_token (tok t k) z)) (add-zero p) (λ g. token [] w r refl refl l g) h

blank-first : {p : ℕ} {r : List ℕ} {z : Scan} → Scans (suc p) r z → Scans p (byte " " ∷ r) z
blank-first (T.end e) = T.end e
blank-first {p} {r = s} (token {t = t} {z = z} b w r q e l h) =
    let i : p + length (byte " " ∷ b) ≡ suc p + length b = omega arith in
    subst (λ (k : ℕ). Scans (k + length w) r z → Scans p (byte " " ∷ s) (cons_token (tok t k) z)) i
    (λ g. token (byte " " ∷ b) w r (ap (λ x. byte " " ∷ x) q) e l g) h
blank-first {p} {r = s} (stop {a = a} b w r q e l) =
    let i : p + length (byte " " ∷ b) ≡ suc p + length b = omega arith in
    subst (λ (k : ℕ). Scans p (byte " " ∷ s) (Scan.wrong a k)) i (stop (byte " " ∷ b) w r (ap (λ x. byte " " ∷ x) q) e l)

pub scans-of : {p : ℕ} {r : List ℕ} {z : List Tok} {ys : List (List ℕ)} → Lexed p r z ys → Scans p r (tokens z)
scans-of end = T.end refl
scans-of (blank h) = blank-first (scans-of h)
scans-of (sign n m h) = token-first (T.symbol n refl m) (scans-of h)
scans-of (piece {r = r} w n s t h) = token-first (spelled-before r s t) (scans-of h)

-- ---- the levels
pub record Alike (r : List ℕ) (z : List Tok) : Type 0 where
  pub shallow : (d : ℕ) → levels_from d r ≤ most_open → Shallow d z
  pub low : (d : ℕ) → d ≤ most_open → Shallow d z → levels_from d r ≤ most_open

module _ {r : List ℕ} {z : List Tok} (k : Alike r z) (x : Tok) where
  plain-alike : (w : List ℕ) → all is_no_bracket w ≡ true → is_opener x ≡ false → is_closer x ≡ false → Alike (w ++ r) (x ∷ z)
  plain-alike w a o c =
      record {
        shallow = λ d h. goes_on {d = d} {x = x} {xs = z} o (rw c (k.shallow d (omega (arith, plain-levels w a d r))));
        low = λ d l h. omega (arith, plain-levels w a d r, k.low d l (rest d h));
      }
    where
      rest : (d : ℕ) → Shallow d (x ∷ z) → Shallow d z
      rest d (opens e lt h) = no (sym o ∙ e)
      rest d (goes_on e h) = rw c at h

  opener-alike : (a : ℕ) → ((d : ℕ) → open_behind d a ≡ suc d) → is_opener x ≡ true → Alike (a ∷ r) (x ∷ z)
  opener-alike a up o =
      record {
        shallow = λ d h.
            let e : levels_from (open_behind d a) r ≡ levels_from (suc d) r = ap (λ (i : ℕ). levels_from i r) (up d) in
            opens {d = d} {x = x} {xs = z} o (omega (arith, e, at_least (suc d) r)) (k.shallow (suc d) (omega (arith, e)));
        low = λ d l h. within d l h;
      }
    where
      within : (d : ℕ) → d ≤ most_open → Shallow d (x ∷ z) → levels_from d (a ∷ r) ≤ most_open
      within d l (opens e lt h) =
          let i : levels_from (open_behind d a) r ≡ levels_from (suc d) r = ap (λ (j : ℕ). levels_from j r) (up d) in
          omega (arith, i, k.low (suc d) lt h)
      within d l (goes_on e h) = no (sym e ∙ o)

  closer-alike : (b : ℕ) → ((d : ℕ) → open_behind d b ≡ d - 1) → is_opener x ≡ false → is_closer x ≡ true → Alike (b ∷ r) (x ∷ z)
  closer-alike b down o c =
      record {
        shallow = λ d h.
            let e : levels_from (open_behind d b) r ≡ levels_from (d - 1) r = ap (λ (i : ℕ). levels_from i r) (down d) in
            goes_on {d = d} {x = x} {xs = z} o (rw c (k.shallow (d - 1) (omega (arith, e))));
        low = λ d l h. within d l h;
      }
    where
      within : (d : ℕ) → d ≤ most_open → Shallow d (x ∷ z) → levels_from d (b ∷ r) ≤ most_open
      within d l (opens e lt h) = no (sym o ∙ e)
      within d l (goes_on e h) =
          let i : levels_from (open_behind d b) r ≡ levels_from (d - 1) r = ap (λ (j : ℕ). levels_from j r) (down d) in
          omega (arith, i, k.low (d - 1) (omega arith) (rw c at h))

-- symbols, by computing the table: the brackets, and those without one
bracketless : ℕ → Bool
bracketless n = eqb n open_paren || (eqb n open_index || (eqb n close_paren || (eqb n close_index || all is_no_bracket (symbol_bytes n))))

bracketlesses : below symbol_count bracketless ≡ true
unfolding below bracketless
bracketlesses = refl

sign-alike : (n p : ℕ) {r : List ℕ} {z : List Tok} → n < symbol_count → Alike r z → Alike (symbol_bytes n ++ r) (tok (Symbol n) p ∷ z)
unfolding bracketless
sign-alike n p {r} {z} h k =
    go (eqb n open_paren) (eqb n open_index) (eqb n close_paren) (eqb n close_index) refl refl refl refl (below_at bracketless symbol_count n bracketlesses h)
  where
    bracket : (m : ℕ) → eqb n m ≡ true → Alike (symbol_bytes m ++ r) (tok (Symbol m) p ∷ z) → Alike (symbol_bytes n ++ r) (tok (Symbol n) p ∷ z)
    bracket m e a = subst (λ (i : ℕ). Alike (symbol_bytes i ++ r) (tok (Symbol i) p ∷ z)) (sym (eqb-true n m e)) a

    go : (a b c d : Bool) → eqb n open_paren ≡ a → eqb n open_index ≡ b → eqb n close_paren ≡ c → eqb n close_index ≡ d
        → (a || (b || (c || (d || all is_no_bracket (symbol_bytes n))))) ≡ true → Alike (symbol_bytes n ++ r) (tok (Symbol n) p ∷ z)
    go true b c d i j l m e = bracket open_paren i (opener-alike k (tok (Symbol open_paren) p) (byte "(") (λ d. refl) refl)
    go false true c d i j l m e = bracket open_index j (opener-alike k (tok (Symbol open_index) p) (byte "[") (λ d. refl) refl)
    go false false true d i j l m e = bracket close_paren l (closer-alike k (tok (Symbol close_paren) p) (byte ")") (λ d. refl) refl refl)
    go false false false true i j l m e = bracket close_index m (closer-alike k (tok (Symbol close_index) p) (byte "]") (λ d. refl) refl refl)
    go false false false false i j l m e = plain-alike k (tok (Symbol n) p) (symbol_bytes n) e (rw (i, j)) (rw (l, m))

-- a class without brackets
module _ (P : ℕ → Bool) (a : P (byte "(") ≡ false) (b : P (byte "[") ≡ false) (c : P (byte ")") ≡ false) (d : P (byte "]") ≡ false) where
  is-not : (x m : ℕ) → P x ≡ true → P m ≡ false → eqb x m ≡ false
  is-not x m e f = by-test (eqb x m) (λ t. no (sym f ∙ ap P (sym (eqb-true x m t)) ∙ e)) (λ t. t)

  not-bracket : (x : ℕ) → P x ≡ true → is_no_bracket x ≡ true
  not-bracket x e = rw (is-not x (byte "(") e a, is-not x (byte "[") e b, is-not x (byte ")") e c, is-not x (byte "]") e d)

  not-brackets : (w : List ℕ) → all P w ≡ true → all is_no_bracket w ≡ true
  not-brackets [] e = refl
  not-brackets (x ∷ xs) e = let h = both (P x) (all P xs) e in rw (not-bracket x h.0) (not-brackets xs h.1)

digits-plain : (ds : List ℕ) → decimal_digits ds ≡ true → all is_no_bracket ds ≡ true
digits-plain ds e = not-brackets is_digit refl refl refl refl ds (as-all ds (both (non_empty ds) (all_digits ds) e).1)

mantissa-plain : {m : List ℕ} → Mantissa m → all is_no_bracket m ≡ true
mantissa-plain (whole ds e) = digits-plain ds e
mantissa-plain (dotted ds ps e f) = all_append is_no_bracket ds (byte "." ∷ ps) (digits-plain ds e) (digits-plain ps f)

pub spelled-plain : {x : Token} {w : List ℕ} → Spells x w → all is_no_bracket w ≡ true
spelled-plain (as-word {w = w} s a e) = not-brackets is_word refl refl refl refl w a
spelled-plain (as-run {w = w} s a e) = not-brackets is_run refl refl refl refl w a
spelled-plain (as-signed m c v h s a e) =
    all_append is_no_bracket m (byte "E" ∷ c ∷ v) (mantissa-plain h)
    (rw (not-bracket is_sign refl refl refl refl c s) (not-brackets is_run refl refl refl refl v a))

no-opener : (x : Token) (p : ℕ) → is_no_symbol x ≡ true → is_opener (tok x p) ≡ false
no-opener (Number v) p e = refl
no-opener (Cell b i) p e = refl
no-opener (Letter b) p e = refl
no-opener (Name f) p e = refl
no-opener (Symbol n) p e = no e

no-closer : (x : Token) (p : ℕ) → is_no_symbol x ≡ true → is_closer (tok x p) ≡ false
no-closer (Number v) p e = refl
no-closer (Cell b i) p e = refl
no-closer (Letter b) p e = refl
no-closer (Name f) p e = refl
no-closer (Symbol n) p e = no e

pub alike_of : {p : ℕ} {r : List ℕ} {z : List Tok} {ys : List (List ℕ)} → Lexed p r z ys → Alike r z
alike_of end = record { shallow = λ d h. done; low = λ d l h. l }
alike_of (blank {r = r} h) =
    let k = alike_of h in
    record { shallow = λ d e. k.shallow d (omega arith); low = λ d l e. omega (arith, k.low d l e) }
alike_of (sign {p = p} n m h) = sign-alike n p m.known (alike_of h)
alike_of (piece {p = p} {x = x} w n s t h) = plain-alike (alike_of h) (tok x p) w (spelled-plain s) (no-opener x p n) (no-closer x p n)

-- ---- the spellings
pub behind : (s : List ℕ) (p : ℕ) (w r : List ℕ) → drop p s ≡ w ++ r → drop (p + length w) s ≡ r
behind s p w r q = sym (drop-drop (length w) p s) ∙ ap (drop (length w)) q ∙ drop-append_seam w r

pub kept_of : {p : ℕ} {r : List ℕ} {z : List Tok} {ys : List (List ℕ)} → Lexed p r z ys → (s : List ℕ) → drop p s ≡ r → kept_at s z ≡ ys
kept_of end s q = refl
kept_of (blank {p = p} {r = r} h) s q = kept_of h s (ap (λ (k : ℕ). drop k s) (sym (add-one p)) ∙ behind s p (byte " " ∷ []) r q)
kept_of (sign {p = p} {r = r} n m h) s q = kept_of h s (behind s p (symbol_bytes n) r q)
kept_of (piece {p = p} {r = r} {ys = ys} {x = x} w n e t h) s q =
    ap (λ (l : List (List ℕ)). kept x (lexeme s p) ++ l) (kept_of h s (behind s p w r q))
    ∙ ap (λ (v : List ℕ). kept x v ++ ys) (lexeme-is s p w r (spelled-before r e t) n q)
