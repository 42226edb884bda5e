-- How a token that stands in a text is spelt: symbols, names, cells and bank letters have one spelling.
use Rattle.std.specs.Prelude.{Option, Result, Some, None, Ok, Err}
use mathlib.Core.Path.{◌≡◌, refl, sym, ap, subst, ◌∙◌}
use mathlib.Core.Bool.{◌&&◌}
use mathlib.Core.List.{List, [], ◌∷◌}
use Prim.Native.Nat.{ℕ, suc, ◌+◌, ◌-◌, ◌<◌}
use native.Mathlib.Omega.{arith}
use lib.Dec.{eqb, leb}
use lib.ListN.{length, get_or, take, drop}
use lib.Seq.{take-append_seam}
use borrow.Author.Tests.{eqb-true}
use Rattle.words.specs.Ascii.{byte}
use Rattle.values.specs.declared.Value.{Value}
use Rattle.memory.specs.declared.Bank.{Bank}
use Rattle.memory.specs.declared.Bank.TheVariants.{X, C, «V», N, D, R}
use Rattle.memory.specs.Layout.{layout_of}
use Rattle.memory.specs.Names.{is_digit, decimal_value, number_below, cell_after_letter, letter_bank, named_rule}
use Rattle.tokens.specs.declared.Function.{Function}
use Rattle.tokens.specs.declared.Token.{Token}
use Rattle.tokens.specs.declared.Token.TheVariants.{Number, Cell, Letter, Name, Symbol}
use Rattle.tokens.specs.Bytes.{is_letter, is_word, is_hex, run_len, all}
use Rattle.tokens.specs.Symbols.{equal_bytes, symbol_count, symbol_bytes, longest}
use Rattle.tokens.specs.Numerals.{non_empty, decimal_digits, is_hex_run, mantissa_digits, behind_mantissa, is_exponent, exponent_size, numeral_len, numeral_of}
use Rattle.tokens.specs.Words.{name_of, function_named, functions, letter_word, cell_word, other_word, word_token}
use Rattle.tokens.specs.Scan.{Found, lexeme as judged_as}
use Rattle.tokens.specs.Theorems.{first as starts}
use Rattle.tokens.proofs.Tests.{by-test, choose}
use Rattle.tokens.proofs.symbols.Longest.{front-matches, front as longest-front}
use Rattle.tokens.proofs.Theorems.{digit-lexeme, letter-lexeme}
use Rattle.tokens.proofs.Same.{equal}
use Rattle.token_table.proofs.Laws.{token_operand}
use Rattle.lines.specs.Printing.{letter_byte, cell_name}
use Rattle.lines.proofs.Laws.{number-text}
use Rattle.format_laws.specs.Formatted.{lexeme}
use Rattle.format_writer.specs.private.Spelling.{Stands, StandsAt}
use Rattle.format_writer.proofs.spelling.Ends.{judged-end, lexed, front, split, symbol-found, symbol-is, symbol-known}

-- ---- a run that starts with a digit is a number, or none
data Numeralish : Result Token ℕ → Type 0 where
  number : (v : Value) → Numeralish (Ok (Number v))
  bad : (a : ℕ) → Numeralish (Err a)

numeralish : (cs : List ℕ) → Numeralish (numeral_of cs)
numeralish cs =
    choose Numeralish (decimal_digits cs) _ _ (λ _. choose Numeralish (leb (decimal_value cs) 2147483647) _ _ (λ _. number _) (λ _. bad 5))
    (λ _. choose Numeralish (is_hex_run cs) _ _
    (λ _. choose Numeralish (non_empty (drop 2 cs) && all is_hex (drop 2 cs)) _ _
    (λ _. choose Numeralish (leb (length (drop 2 cs)) 8) _ _ (λ _. number _) (λ _. bad 5)) (λ _. bad 4))
    (λ _. choose Numeralish (is_exponent (behind_mantissa cs)) _ _
    (λ _. choose Numeralish (leb (length (mantissa_digits cs)) 9 && leb (exponent_size (behind_mantissa cs)) 20) _ _ (λ _. number _) (λ _. bad 5)) (λ _. bad 4)))

-- ---- a word is a name, a bank letter or a cell, in its one spelling, or none
data Wordish (cs : List ℕ) : Result Token ℕ → Type 0 where
  name : (f : Function) → cs ≡ name_of f → Wordish cs (Ok (Name f))
  letter : (b : Bank) → cs ≡ letter_byte b ∷ [] → Wordish cs (Ok (Letter b))
  cell : (b : Bank) (i : ℕ) → cs ≡ cell_name b i → Wordish cs (Ok (Cell b i))
  bad : (a : ℕ) → Wordish cs (Err a)

data Lettered (c : ℕ) : Option Bank → Type 0 where
  of : (b : Bank) → c ≡ letter_byte b → Lettered c (Some b)
  other : Lettered c None

lettered : (c : ℕ) → Lettered c (letter_bank c)
unfolding letter_bank
lettered c =
    choose (Lettered c) (eqb c (byte "X")) _ _ (λ e. of X (eqb-true c _ e))
    (λ _. choose (Lettered c) (eqb c (byte "C")) _ _ (λ e. of C (eqb-true c _ e))
    (λ _. choose (Lettered c) (eqb c (byte "V")) _ _ (λ e. of «V» (eqb-true c _ e))
    (λ _. choose (Lettered c) (eqb c (byte "N")) _ _ (λ e. of N (eqb-true c _ e))
    (λ _. choose (Lettered c) (eqb c (byte "D")) _ _ (λ e. of D (eqb-true c _ e))
    (λ _. choose (Lettered c) (eqb c (byte "R")) _ _ (λ e. of R (eqb-true c _ e)) (λ _. other))))))

a-letter : (c : ℕ) (l : Option Bank) → Lettered c l → Wordish (c ∷ []) (letter_word l)
a-letter c l (of b e) = letter b (ap (λ (x : ℕ). x ∷ []) e)
a-letter c l other = bad 6

a-cell : (c : ℕ) (cs : List ℕ) (l : Option Bank) → Lettered c l → Wordish (c ∷ cs) (cell_word (cell_after_letter cs l))
a-cell c cs l (of b e) =
    by-test (number_below (layout_of b).elements cs)
    (λ k. rw k (cell b (decimal_value cs) (ap (λ (x : ℕ). x ∷ cs) e ∙ ap (λ (x : List ℕ). letter_byte b ∷ x) (number-text (layout_of b).elements cs k))))
    (λ k. rw k (bad 6))
a-cell c cs l other = bad 6

another : (cs : List ℕ) → Wordish cs (other_word cs)
unfolding other_word named_rule
another [] = bad 6
another (c ∷ []) = a-letter c (letter_bank c) (lettered c)
another (c ∷ d ∷ cs) = a-cell c (d ∷ cs) (letter_bank c) (lettered c)

named : (fs : List Function) (cs : List ℕ) (o : (Result Token ℕ)) → Wordish cs o → Wordish cs (function_named fs cs o)
named [] cs o j = j
named (f ∷ fs) cs o j = choose (Wordish cs) (equal_bytes (name_of f) cs) _ _ (λ e. name f (sym (equal (name_of f) cs e))) (λ _. named fs cs o j)

wordish : (cs : List ℕ) → Wordish cs (word_token cs)
unfolding word_token
wordish cs = named functions cs (other_word cs) (another cs)

-- ---- what stands in a text
pub stands_at : {s : List ℕ} {t : Token} {p e : ℕ} → Stands s t p e → StandsAt s p (token_operand t)
stands_at {t = t} {e = e} h = record { token = t; end = e; stands = h; number = λ m q. sym (ap token_operand q) }

pub lexeme-is : (s : List ℕ) (t : Token) (p e : ℕ) → Stands s t p e → lexeme s p ≡ take (e - p) (drop p s)
unfolding lexeme
lexeme-is s t p e h = rw h

judged-token : (p n : ℕ) (j : (Result Token ℕ)) {t : Token} {q e : ℕ} → judged_as p n j ≡ Found t q e → j ≡ Ok t
judged-token p n (Ok u) m = cc
judged-token p n (Err a) m = let z : ◌≡◌ {A = ℕ} 0 1 = cc in absurd (omega arith)

data Spelling (s : List ℕ) (p : ℕ) (t : Token) : Type 0 where
  numeral : Numeralish (Ok t) → Spelling s p t
  word : Wordish (lexeme s p) (Ok t) → Spelling s p t
  symbol : (n : ℕ) → t ≡ Symbol n → lexeme s p ≡ symbol_bytes n → Spelling s p t

module _ (s : List ℕ) (t : Token) (p e : ℕ) (h : Stands s t p e) where
  abbrev k : StandsAt s p (token_operand t)
  k = stands_at h

  first : ℕ
  first = get_or s p 0

  -- the first n bytes, where the token ends behind them
  cut : (n : ℕ) → e ≡ p + n → lexeme s p ≡ take n (front k)
  cut n q = let m : e - p ≡ n = omega arith in lexeme-is s t p e h ∙ ap (λ (i : ℕ). take i (drop p s)) m ∙ ap (take n) (split k)

  spelling : Spelling s p t
  unfolding stands_at
  spelling =
      by-test (is_digit (get_or s p 0))
      (λ d. let m = sym (digit-lexeme (front k) p (starts d)) ∙ lexed k in
      let w = take (numeral_len (front k)) (front k) in
      numeral (subst Numeralish (judged-token p (numeral_len (front k)) (numeral_of w) m) (numeralish w)))
      (λ d. by-test (is_letter (get_or s p 0))
      (λ l. let m = sym (letter-lexeme (get_or s p 0) (drop (suc p) s) p l) ∙ lexed k in
      let n = run_len is_word (front k) in
      let w = take n (front k) in
      let j = judged-token p n (word_token w) m in
      let c = cut n (judged-end p n (word_token w) m) in
      word (subst (λ (x : List ℕ). Wordish x (Ok t)) (sym c) (subst (Wordish w) j (wordish w))))
      (λ l. let f = symbol-found k d l in
      let n = longest (front k) in
      let y = symbol-is k d l in
      let q = k.number n f.0 in
      let few = symbol-known k d l in
      let x = front-matches (front k) n (longest-front (front k)) (λ z. let z' : n < symbol_count = rw q few in omega arith) in
      symbol n f.0 (cut (length (symbol_bytes n)) f.1 ∙ ap (take (length (symbol_bytes n))) x.1.1 ∙ take-append_seam (symbol_bytes n) x.1.0)))

-- ---- by token
no_number : {A : Type 0} {j : (Result Token ℕ)} {t : Token} → Numeralish j → j ≡ Ok t → ((v : Value) → t ≡ Number v → A) → A
no_number {t = t} (number v) e f = let q : t ≡ Number v = cc in f v q
no_number (bad a) e f = let z : ◌≡◌ {A = ℕ} 0 1 = cc in absurd (omega arith)

pub symbol-spelt : (s : List ℕ) (n p e : ℕ) → Stands s (Symbol n) p e → lexeme s p ≡ symbol_bytes n
symbol-spelt s n p e h = go (spelling s (Symbol n) p e h)
  where
    of_word : {j : (Result Token ℕ)} → Wordish (lexeme s p) j → j ≡ Ok (Symbol n) → lexeme s p ≡ symbol_bytes n
    of_word (name f q) m = let z : ◌≡◌ {A = ℕ} 0 1 = cc in absurd (omega arith)
    of_word (letter b q) m = let z : ◌≡◌ {A = ℕ} 0 1 = cc in absurd (omega arith)
    of_word (cell b i q) m = let z : ◌≡◌ {A = ℕ} 0 1 = cc in absurd (omega arith)
    of_word (bad a) m = let z : ◌≡◌ {A = ℕ} 0 1 = cc in absurd (omega arith)

    go : Spelling s p (Symbol n) → lexeme s p ≡ symbol_bytes n
    go (numeral x) = no_number x refl (λ v q. let z : ◌≡◌ {A = ℕ} 0 1 = cc in absurd (omega arith))
    go (word x) = of_word x refl
    go (symbol m q c) = let i : n ≡ m = cc in c ∙ ap symbol_bytes (sym i)

pub name-spelt : (s : List ℕ) (g : Function) (p e : ℕ) → Stands s (Name g) p e → lexeme s p ≡ name_of g
name-spelt s g p e h = go (spelling s (Name g) p e h)
  where
    of_word : {j : (Result Token ℕ)} → Wordish (lexeme s p) j → j ≡ Ok (Name g) → lexeme s p ≡ name_of g
    of_word (name f q) m = let i : f ≡ g = cc in q ∙ ap name_of i
    of_word (letter b q) m = let z : ◌≡◌ {A = ℕ} 0 1 = cc in absurd (omega arith)
    of_word (cell b i q) m = let z : ◌≡◌ {A = ℕ} 0 1 = cc in absurd (omega arith)
    of_word (bad a) m = let z : ◌≡◌ {A = ℕ} 0 1 = cc in absurd (omega arith)

    go : Spelling s p (Name g) → lexeme s p ≡ name_of g
    go (numeral x) = no_number x refl (λ v q. let z : ◌≡◌ {A = ℕ} 0 1 = cc in absurd (omega arith))
    go (word x) = of_word x refl
    go (symbol m q c) = let z : ◌≡◌ {A = ℕ} 0 1 = cc in absurd (omega arith)

pub cell-spelt : (s : List ℕ) (b : Bank) (i p e : ℕ) → Stands s (Cell b i) p e → lexeme s p ≡ cell_name b i
cell-spelt s b i p e h = go (spelling s (Cell b i) p e h)
  where
    of_word : {j : (Result Token ℕ)} → Wordish (lexeme s p) j → j ≡ Ok (Cell b i) → lexeme s p ≡ cell_name b i
    of_word (name f q) m = let z : ◌≡◌ {A = ℕ} 0 1 = cc in absurd (omega arith)
    of_word (letter a q) m = let z : ◌≡◌ {A = ℕ} 0 1 = cc in absurd (omega arith)
    of_word (cell a k q) m = let x : a ≡ b = cc in let y : k ≡ i = cc in q ∙ ap (λ (c : Bank). cell_name c k) x ∙ ap (cell_name b) y
    of_word (bad a) m = let z : ◌≡◌ {A = ℕ} 0 1 = cc in absurd (omega arith)

    go : Spelling s p (Cell b i) → lexeme s p ≡ cell_name b i
    go (numeral x) = no_number x refl (λ v q. let z : ◌≡◌ {A = ℕ} 0 1 = cc in absurd (omega arith))
    go (word x) = of_word x refl
    go (symbol m q c) = let z : ◌≡◌ {A = ℕ} 0 1 = cc in absurd (omega arith)

pub letter-spelt : (s : List ℕ) (b : Bank) (p e : ℕ) → Stands s (Letter b) p e → lexeme s p ≡ letter_byte b ∷ []
letter-spelt s b p e h = go (spelling s (Letter b) p e h)
  where
    of_word : {j : (Result Token ℕ)} → Wordish (lexeme s p) j → j ≡ Ok (Letter b) → lexeme s p ≡ letter_byte b ∷ []
    of_word (name f q) m = let z : ◌≡◌ {A = ℕ} 0 1 = cc in absurd (omega arith)
    of_word (letter a q) m = let x : a ≡ b = cc in q ∙ ap (λ (c : Bank). letter_byte c ∷ []) x
    of_word (cell a i q) m = let z : ◌≡◌ {A = ℕ} 0 1 = cc in absurd (omega arith)
    of_word (bad a) m = let z : ◌≡◌ {A = ℕ} 0 1 = cc in absurd (omega arith)

    go : Spelling s p (Letter b) → lexeme s p ≡ letter_byte b ∷ []
    go (numeral x) = no_number x refl (λ v q. let z : ◌≡◌ {A = ℕ} 0 1 = cc in absurd (omega arith))
    go (word x) = of_word x refl
    go (symbol m q c) = let z : ◌≡◌ {A = ℕ} 0 1 = cc in absurd (omega arith)
