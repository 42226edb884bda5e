-- A byte that no space, numeral, word or symbol holds stands in no text that is all tokens: stated once over the byte, and used for `k` and the line end.
-- Assumes nothing.
use Rattle.std.specs.Prelude.{Option, Result, Some, None, Ok, Err}
use mathlib.Core.Path.{◌≡◌, refl, sym, ap, subst, ◌∙◌}
use mathlib.Core.Bool.{Bool, true, false, ◌&&◌, ◌||◌, not, cond}
use mathlib.Core.List.{List, [], ◌∷◌, ◌++◌}
use Prim.Native.Nat.{ℕ, zero, suc, ◌+◌, ◌-◌, ◌≤◌, ◌<◌}
use native.Mathlib.Omega.{arith}
use lib.Dec.{eqb, ltb}
use lib.ListN.{length, get_or, take, drop}
use borrow.Author.Tests.{eqb-true, eq-eqb}
use Rattle.words.specs.Ascii.{ascii}
use Rattle.memory.specs.declared.Bank.{Bank}
use Rattle.memory.specs.Layout.{layout_of}
use Rattle.memory.specs.Names.{is_digit, all_digits, digits_of, decimal_value, no_leading_zero, number_below, letter_bank, cell_after_letter, named_rule}
use Rattle.memory.proofs.names.Decimals.{digits-split, digits-only}
use Rattle.tokens.specs.declared.Function.{Function}
use Rattle.tokens.specs.declared.Token.{Token}
use Rattle.tokens.specs.declared.Token.TheVariants as Token
use Rattle.tokens.specs.Bytes.{is_space, is_hex, all}
use Rattle.tokens.specs.Symbols.{equal_bytes, symbols, symbol_count, symbol_bytes}
use Rattle.tokens.specs.Numerals.{non_empty, decimal_digits, hex_of, is_hex_run, behind_digits, has_part, behind_part, behind_mantissa, is_sign, without_sign}
use Rattle.tokens.specs.Numerals.{is_exponent, real_of, numeral_of, decimal_of}
use Rattle.tokens.specs.Words.{name_of, functions, function_named, cell_word, letter_word, other_word, word_token}
use Rattle.tokens.specs.Scan.{Tok, Scan, tokens, wrong, cons_token, scan}
use Rattle.tokens.specs.Theorems.{LongestLexeme, word, numeral, symbol, stray, Scans, end, token, stop}
use Rattle.tokens.proofs.Tests.{both, no}
use Rattle.tokens.proofs.Theorems.{token-theorems}
use Rattle.tokens.proofs.Same.{equal as same_bytes}
use Rattle.lines.specs.Lines.{except}
use Rattle.card_laws.specs.Lines.{Lacks, lacks}
use Rattle.card_laws.proofs.Lines.{lacks-append, lacks-left, lacks-right, lacks-cons}

-- every name of a list of functions lacks the byte
abbrev names_lack : ℕ → List Function → Bool
names_lack b [] = true
names_lack b (f ∷ fs) = lacks b (name_of f) && names_lack b fs

abbrev all_lack : ℕ → List (List ℕ) → Bool
all_lack b [] = true
all_lack b (s ∷ ss) = lacks b s && all_lack b ss

-- the byte stands in nothing that a token is made of
pub record Unused (b : ℕ) : Type 0 where
  pub space : is_space b ≡ false
  pub digit : is_digit b ≡ false
  pub hex : is_hex b ≡ false
  pub sign : is_sign b ≡ false
  pub letter : letter_bank b ≡ None
  pub marks : Lacks b (ascii "0x.E[]")
  pub names : names_lack b functions ≡ true
  pub symbols-lack : all_lack b symbols ≡ true

bad-good : {A : Type 0} {a : ℕ} {t : Token} → Err a ≡ Ok t → A
bad-good e = absurd (let z : ◌≡◌ {A = ℕ} 0 1 = cc in omega arith)

-- a test that a good token has passed
passed : (x : Bool) (y : (Result Token ℕ)) {t : Token} → cond x y (Err 4) ≡ Ok t → x ≡ true
passed true y e = refl
passed false y e = bad-good e

module _ (b : ℕ) (u : Unused b) where
  -- a class without the byte
  misses : (p : ℕ → Bool) → p b ≡ false → (c : ℕ) → p c ≡ true → c ≡ b → ⊥
  misses p e c h q = no {A = ⊥} (sym e ∙ ap p (sym q) ∙ h)

  every : (p : ℕ → Bool) → p b ≡ false → (s : List ℕ) → all p s ≡ true → Lacks b s
  every p e [] h = refl
  every p e (c ∷ s) h = let k = both (p c) (all p s) h in lacks-cons b c s (misses p e c k.0) (every p e s k.1)

  digits-lack : (s : List ℕ) → all_digits s ≡ true → Lacks b s
  digits-lack [] h = refl
  digits-lack (c ∷ s) h = let k = both (is_digit c) (all_digits s) h in lacks-cons b c s (misses is_digit u.digit c k.0) (digits-lack s k.1)

  -- one of the marks
  pub mark-in : (s : List ℕ) (m : ℕ) (r : List ℕ) → Lacks b (s ++ m ∷ r) → (c : ℕ) → eqb c m ≡ true → c ≡ b → ⊥
  mark-in s m r h c e q =
      let k = (both (except b m) (all (except b) r) (lacks-right b s (m ∷ r) h)).0 in
      let z : eqb m b ≡ true = ap (λ (x : ℕ). eqb x b) (sym (eqb-true c m e)) ∙ same c q in
      no {A = ⊥} (ap not (sym z) ∙ k)
    where
      same : (c : ℕ) → c ≡ b → eqb c b ≡ true
      same c q = eq-eqb c b q

  -- ---- numerals
  decimals-lack : (s : List ℕ) → decimal_digits s ≡ true → Lacks b s
  decimals-lack s h = digits-lack s (both (non_empty s) (all_digits s) h).1

  hex-lacks : (s : List ℕ) {t : Token} → is_hex_run s ≡ true → hex_of (drop 2 s) ≡ Ok t → Lacks b s
  hex-lacks [] h e = no h
  hex-lacks (c ∷ []) h e = no h
  hex-lacks (c ∷ d ∷ s) h e =
      let k = both (eqb c 48) (eqb d 120) h in
      lacks-cons b c (d ∷ s) (mark-in [] 48 (ascii "x.E[]") u.marks c k.0)
      (lacks-cons b d s (mark-in (ascii "0") 120 (ascii ".E[]") u.marks d k.1)
      (every is_hex u.hex s (both (non_empty s) (all is_hex s) (passed (non_empty s && all is_hex s) _ e)).1))

  exponent-lacks : (x : List ℕ) → is_exponent x ≡ true → Lacks b x
  exponent-lacks [] h = refl
  exponent-lacks (c ∷ cs) h =
      let k = both (eqb c 69) (decimal_digits (without_sign cs)) h in
      lacks-cons b c cs (mark-in (ascii "0x.") 69 (ascii "[]") u.marks c k.0) (signed cs k.1)
    where
      signed : (s : List ℕ) → decimal_digits (without_sign s) ≡ true → Lacks b s
      signed [] k = refl
      signed (d ∷ ds) k = by (is_sign d) refl k
        where
          by : (x : Bool) → is_sign d ≡ x → decimal_digits (cond x ds (d ∷ ds)) ≡ true → Lacks b (d ∷ ds)
          by true q w = lacks-cons b d ds (misses is_sign u.sign d q) (decimals-lack ds w)
          by false q w = decimals-lack (d ∷ ds) w

  -- digits, and what follows them
  front-lacks : (s : List ℕ) → Lacks b (behind_digits s) → Lacks b s
  front-lacks s h = subst (Lacks b) (sym (digits-split s)) (lacks-append b (digits_of s) (behind_digits s) (digits-lack (digits_of s) (digits-only s)) h)

  part-lacks : (x : List ℕ) → Lacks b (behind_part x) → Lacks b x
  part-lacks [] h = refl
  part-lacks (c ∷ cs) h = by (has_part (c ∷ cs)) refl h
    where
      by : (t : Bool) → has_part (c ∷ cs) ≡ t → Lacks b (cond t (behind_digits cs) (c ∷ cs)) → Lacks b (c ∷ cs)
      by true q w = lacks-cons b c cs (mark-in (ascii "0x") 46 (ascii "E[]") u.marks c (both (eqb c 46) (non_empty (digits_of cs)) q).0) (front-lacks cs w)
      by false q w = w

  real-lacks : (s : List ℕ) {t : Token} → real_of s ≡ Ok t → Lacks b s
  real-lacks s e = front-lacks s (part-lacks (behind_digits s) (exponent-lacks (behind_mantissa s) (passed (is_exponent (behind_mantissa s)) _ e)))

  numeral-lacks : (s : List ℕ) {t : Token} → numeral_of s ≡ Ok t → Lacks b s
  numeral-lacks s {t} e = by (decimal_digits s) refl (is_hex_run s) refl e
    where
      by : (x : Bool) → decimal_digits s ≡ x → (y : Bool) → is_hex_run s ≡ y → cond x (decimal_of s) (cond y (hex_of (drop 2 s)) (real_of s)) ≡ Ok t → Lacks b s
      by true p y q w = decimals-lack s p
      by false p true q w = hex-lacks s q w
      by false p false q w = real-lacks s w

  -- ---- words
  pub letter-not : (c : ℕ) {k : Bank} → letter_bank c ≡ Some k → c ≡ b → ⊥
  letter-not c e q = let z : letter_bank b ≡ None = u.letter in let w : letter_bank c ≡ letter_bank b = ap letter_bank q in let f : ◌≡◌ {A = ℕ} 0 1 = cc in
      omega arith

  cell-lacks : (c : ℕ) (cs : List ℕ) (l : Option Bank) → letter_bank c ≡ l → {t : Token} → cell_word (cell_after_letter cs l) ≡ Ok t → Lacks b (c ∷ cs)
  cell-lacks c cs None q e = bad-good e
  cell-lacks c cs (Some k) q {t} e = by (number_below (layout_of k).elements cs) refl e
    where
      by : (x : Bool) → number_below (layout_of k).elements cs ≡ x → cell_word (cond x (Some (k, decimal_value cs)) None) ≡ Ok t → Lacks b (c ∷ cs)
      by true p w =
          lacks-cons b c cs (letter-not c q) (digits-lack cs (both (no_leading_zero cs) (all_digits cs)
          (both (no_leading_zero cs && all_digits cs) (ltb (decimal_value cs) (layout_of k).elements) p).0).1)
      by false p w = bad-good w

  pub name-lacks : (s : List ℕ) {k : Bank} {i : ℕ} → named_rule s ≡ Some (k, i) → Lacks b s
  unfolding named_rule
  name-lacks [] e = refl
  name-lacks (c ∷ cs) {k} {i} e = cell-lacks c cs (letter_bank c) refl {t = Token.Cell k i} (ap cell_word e)

  other-lacks : (s : List ℕ) {t : Token} → other_word s ≡ Ok t → Lacks b s
  unfolding other_word named_rule
  other-lacks [] e = refl
  other-lacks (c ∷ []) {t} e = by (letter_bank c) refl e
    where
      by : (l : Option Bank) → letter_bank c ≡ l → letter_word l ≡ Ok t → Lacks b (c ∷ [])
      by (Some k) q w = lacks-cons b c [] (letter-not c q) refl
      by None q w = bad-good w
  other-lacks (c ∷ d ∷ s) e = cell-lacks c (d ∷ s) (letter_bank c) refl e

  named-lacks : (fs : List Function) → names_lack b fs ≡ true → (s : List ℕ) (o : (Result Token ℕ)) {t : Token} → (o ≡ Ok t → Lacks b s)
      → function_named fs s o ≡ Ok t → Lacks b s
  named-lacks [] n s o h e = h e
  named-lacks (f ∷ fs) n s o {t} h e = by (equal_bytes (name_of f) s) refl e (λ w. named-lacks fs (both (lacks b (name_of f)) (names_lack b fs) n).1 s o h w)
    where
      by : (x : Bool) → equal_bytes (name_of f) s ≡ x → cond x (Ok (Token.Name f)) (function_named fs s o) ≡ Ok t
          → (function_named fs s o ≡ Ok t → Lacks b s) → Lacks b s
      by true q w ih = subst (Lacks b) (same_bytes (name_of f) s q) (both (lacks b (name_of f)) (names_lack b fs) n).0
      by false q w ih = ih w

  word-lacks : (s : List ℕ) {t : Token} → word_token s ≡ Ok t → Lacks b s
  unfolding word_token
  word-lacks s e = named-lacks functions u.names s (other_word s) (other-lacks s) e

  -- ---- symbols
  symbol-lacks : (ss : List (List ℕ)) → all_lack b ss ≡ true → (n : ℕ) → Lacks b (get_or ss n [])
  symbol-lacks [] h n = refl
  symbol-lacks (s ∷ ss) h zero = (both (lacks b s) (all_lack b ss) h).0
  symbol-lacks (s ∷ ss) h (suc n) = symbol-lacks ss (both (lacks b s) (all_lack b ss) h).1 n

  -- ---- a text
  lexeme-lacks : {w r : List ℕ} {j : (Result Token ℕ)} {t : Token} → LongestLexeme w r j → j ≡ Ok t → Lacks b w
  lexeme-lacks {w} (word h) e = word-lacks w e
  lexeme-lacks {w} (numeral h) e = numeral-lacks w e
  lexeme-lacks (symbol n q h) e = subst (Lacks b) (sym q) (symbol-lacks symbols u.symbols-lack n)
  lexeme-lacks (stray c q s l d n) e = bad-good e

  rest-good : (x : Tok) (z : Scan) (ts : List Tok) → cons_token x z ≡ tokens ts → (us : List Tok) × (z ≡ tokens us)
  rest-good x (tokens us) ts e = (us, refl)
  rest-good x (wrong a p) ts e = absurd (let z : ◌≡◌ {A = ℕ} 0 1 = cc in omega arith)

  scan-lacks : {p : ℕ} {s : List ℕ} {z : Scan} → Scans p s z → (ts : List Tok) → z ≡ tokens ts → Lacks b s
  scan-lacks {s = s} (end e) ts q = every is_space u.space s e
  scan-lacks (token {z = z} c w r i e l h) ts q =
      let g : (us : List Tok) × (z ≡ tokens us) = rest-good _ z ts q in
      subst (Lacks b) (sym i) (lacks-append b c (w ++ r) (every is_space u.space c e) (lacks-append b w r (lexeme-lacks l refl) (scan-lacks h g.0 g.1)))
  scan-lacks (stop c w r i e l) ts q = absurd (let z : ◌≡◌ {A = ℕ} 0 1 = cc in omega arith)

  pub tokens-lack : (s : List ℕ) (ts : List Tok) → scan s ≡ tokens ts → Lacks b s
  tokens-lack s ts e = scan-lacks (token-theorems.scans s) ts e

pub no-line-end : Unused 10
unfolding letter_bank
no-line-end = record { space = refl; digit = refl; hex = refl; sign = refl; letter = refl; marks = refl; names = refl; symbols-lack = refl }

pub no_k : Unused 107
unfolding letter_bank
no_k = record { space = refl; digit = refl; hex = refl; sign = refl; letter = refl; marks = refl; names = refl; symbols-lack = refl }
