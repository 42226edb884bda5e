-- The word of a symbol, and the longest match once the first byte is known: the table computes.
use mathlib.Core.Path.{◌≡◌, refl, sym, ap, subst, ◌∙◌}
use mathlib.Core.Bool.{Bool, true, false, ◌&&◌, ◌||◌, cond}
use mathlib.Core.List.{List, [], ◌∷◌}
use Prim.Native.Nat.{ℕ, suc, ◌+◌, ◌≤◌, ◌<◌}
use native.Mathlib.Omega.{arith}
use lib.Dec.{eqb, ltb}
use lib.ListN.{length, get_or, drop}
use borrow.Author.Tests.{eqb-true, ltb-true, ne_eqb}
use Rattle.tokens.specs.declared.Token.TheVariants.{Symbol}
use Rattle.tokens.specs.Bytes.{is_space}
use Rattle.tokens.specs.Symbols.{symbols, symbol_count, symbol_bytes, find_symbol, longest}
use Rattle.tokens.specs.Scan.{symbol_lexeme, lexeme_of}
use Rattle.tokens.proofs.Tests.{by-test, both, no}
use Rattle.tokens.proofs.symbols.Longest.{three}
use Rattle.token_table.specs.private.Table.{pack_fields}
use Rattle.token_table.specs.private.Lexing.{Lexes, found, wrong, SymbolSize}
use Rattle.token_table.proofs.Lexemes.{at_other, below-digits, lexes-as}

-- ---- the word of a symbol
pub a-symbol : (at n m : ℕ) → SymbolSize n m → Lexes (symbol_lexeme at n) (pack_fields 6 n 0 0) (at + m)
a-symbol at n m h =
    let other : (n ≡ symbol_count → ⊥) = λ e. omega (arith, h.symbol) in
    rw (ne_eqb n symbol_count other) (lexes-as refl (ap (λ (k : ℕ). at + k) h.size) (found (Symbol n) at (at + length (symbol_bytes n))))

-- what the bytes at a position say, once the first is known
pub seen : (s : List ℕ) (at : ℕ) {a b n w e : ℕ} → at < length s → get_or s at 0 ≡ a → b ≡ get_or s (at + 1) 0 → n ≡ longest (a ∷ b ∷ get_or s (at + 2) 0 ∷ [])
    → Lexes (symbol_lexeme at n) w e → Lexes (symbol_lexeme at (longest (drop at s))) w e
seen s at {a} {b} {n} {w} {e} h p q r l =
    let same : n ≡ longest (drop at s) = r ∙ ap (λ (k : ℕ). longest (a ∷ k ∷ get_or s (at + 2) 0 ∷ [])) q
    ∙ ap (λ (k : ℕ). longest (k ∷ get_or s (at + 1) 0 ∷ get_or s (at + 2) 0 ∷ [])) (sym p) ∙ sym (three s at h) in
    subst (λ (k : ℕ). Lexes (symbol_lexeme at k) w e) same l

-- ---- a symbol that another one doubles
pub star : (b c : ℕ) → cond (eqb 42 b) 0 1 ≡ longest (42 ∷ b ∷ c ∷ [])
star b c = by-test (eqb 42 b) (λ e. rw e) (λ e. rw e)

pub bang : (b c : ℕ) → cond (eqb 61 b) 14 21 ≡ longest (33 ∷ b ∷ c ∷ [])
bang b c = by-test (eqb 61 b) (λ e. rw e) (λ e. rw e)

pub ampersand : (b c : ℕ) → cond (eqb 38 b) 18 15 ≡ longest (38 ∷ b ∷ c ∷ [])
ampersand b c = by-test (eqb 38 b) (λ e. rw e) (λ e. rw e)

pub bar : (b c : ℕ) → cond (eqb 124 b) 19 17 ≡ longest (124 ∷ b ∷ c ∷ [])
bar b c = by-test (eqb 124 b) (λ e. rw e) (λ e. rw e)

-- ---- `<`, `>` and `=`
pub less-once : (b c : ℕ) → eqb 60 b ≡ false → cond (eqb 61 b) 11 9 ≡ longest (60 ∷ b ∷ c ∷ [])
less-once b c n = rw n (by-test (eqb 61 b) (λ e. rw e) (λ e. rw e))

pub greater-once : (b c : ℕ) → eqb 62 b ≡ false → cond (eqb 61 b) 12 10 ≡ longest (62 ∷ b ∷ c ∷ [])
greater-once b c n = rw n (by-test (eqb 61 b) (λ e. rw e) (λ e. rw e))

pub greater-twice : (c : ℕ) → eqb 62 c ≡ false → 7 ≡ longest (62 ∷ 62 ∷ c ∷ [])
greater-twice c e = rw e

pub equals-once : (b c : ℕ) → eqb 61 b ≡ false → symbol_count ≡ longest (61 ∷ b ∷ c ∷ [])
equals-once b c e = rw e

-- ---- a byte that begins no symbol
-- a is none of the numbers ks, cs a match leaves it: the last one tested first
abbrev pub Avoids : ℕ → List ℕ → Type 0
Avoids a [] = Unit
Avoids a (k ∷ ks) = Avoids a ks × (a ≡ k → ⊥)

abbrev has : ℕ → List ℕ → Bool
has x [] = false
has x (k ∷ ks) = eqb x k || has x ks

-- every string of ss begins with one of ks
abbrev begin : List ℕ → List (List ℕ) → Bool
begin ks [] = true
begin ks ([] ∷ ss) = false
begin ks ((x ∷ xs) ∷ ss) = has x ks && begin ks ss

avoided : (a x : ℕ) (ks : List ℕ) → Avoids a ks → has x ks ≡ true → eqb x a ≡ false
avoided a x [] v e = no e
avoided a x (k ∷ ks) v e =
    by-test (eqb x k)
    (λ t. ne_eqb x a (λ p. v.1 (sym p ∙ eqb-true x k t)))
    (λ t. avoided a x ks v.0 (rw t at e))

unfound : (n a : ℕ) (cs ks : List ℕ) (ss : List (List ℕ)) → Avoids a ks → begin ks ss ≡ true → find_symbol n ss (a ∷ cs) ≡ n + length ss
unfound n a cs ks [] v e = omega arith
unfound n a cs ks ([] ∷ ss) v e = no e
unfound n a cs ks ((x ∷ xs) ∷ ss) v e =
    let h = both (has x ks) (begin ks ss) e in
    rw (avoided a x ks v h.0, unfound (suc n) a cs ks ss v h.1) (omega arith)

abbrev pub starts : List ℕ
starts = 44 ∷ 93 ∷ 91 ∷ 41 ∷ 40 ∷ 126 ∷ 124 ∷ 94 ∷ 38 ∷ 33 ∷ 61 ∷ 62 ∷ 60 ∷ 45 ∷ 43 ∷ 37 ∷ 47 ∷ 42 ∷ []

pub nothing : (a b c : ℕ) → Avoids a starts → symbol_count ≡ longest (a ∷ b ∷ c ∷ [])
nothing a b c v =
    let u : (cs : List ℕ) → find_symbol 0 symbols (a ∷ cs) ≡ symbol_count = λ cs. unfound 0 a cs starts symbols v refl in
    rw (u (b ∷ c ∷ []), u (b ∷ []), u [])

-- ---- no token begins with a byte up to the space
abbrev above : ℕ → List ℕ → Bool
above n [] = true
above n (k ∷ ks) = ltb n k && above n ks

avoids : (n a : ℕ) → a ≤ n → (ks : List ℕ) → above n ks ≡ true → Avoids a ks
avoids n a h [] t = tt
avoids n a h (k ∷ ks) t = let g = both (ltb n k) (above n ks) t in (avoids n a h ks g.1, λ e. omega (arith, ltb-true n k g.0))

pub no-token : (s : List ℕ) (at : ℕ) → at < length s → get_or s at 0 ≤ 32 → Lexes (lexeme_of (drop at s) at) (pack_fields 0 0 4 0) 0
no-token s at h l =
    let a = get_or s at 0 in
    let low = below-digits a (omega arith) in
    rw (← at_other s at h low.0 low.1)
    (seen s at h refl refl (nothing a (get_or s (at + 1) 0) (get_or s (at + 2) 0) (avoids 32 a l starts refl)) (wrong 4 at 0))

pub past-space : (b : ℕ) → 32 < b → is_space b ≡ false
past-space b h = rw (ne_eqb b 32 (λ e. omega arith), ne_eqb b 9 (λ e. omega arith)) refl
