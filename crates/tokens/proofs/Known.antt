-- What holds of every token that is found, for the code's check: its value is proper, its cell in its bank, its symbol in the table.
use Rattle.std.specs.Prelude.{Option, Result, Some, None, Ok, Err}
use mathlib.Core.Path.{◌≡◌, refl, sym, subst}
use mathlib.Core.Bool.{true, ◌&&◌}
use mathlib.Core.List.{List, [], ◌∷◌, ◌++◌}
use Prim.Native.Nat.{ℕ, zero, suc, ◌+◌, ◌^◌, ◌≤◌, ◌<◌}
use native.Mathlib.Omega.{arith}
use lib.Dec.{T, leb, eqb, lit<}
use lib.IntN.{ℤ, pos}
use lib.Signed.{mag}
use lib.ListN.{length, drop, take, length-append}
use borrow.Author.Tests.{leb-true, ltb-true}
use Rattle.values.specs.declared.Value.{Value}
use Rattle.values.specs.declared.Value.TheVariants.{Int}
use Rattle.values.specs.Patterns.{signed_of}
use Rattle.values.proofs.Ranges.{sfits-range}
use Rattle.values.proofs.patterns.Readings.{signed-mag}
use Rattle.operators.specs.Laws.{Proper}
use Rattle.memory.specs.declared.Bank.{Bank}
use Rattle.memory.specs.Layout.{layout_of}
use Rattle.memory.specs.Names.{is_digit, all_digits, digits_of, no_leading_zero, decimal_value, number_below, cell_after_letter, letter_bank, named_rule}
use Rattle.memory.proofs.names.Decimals.{digits-only}
use Rattle.tokens.specs.declared.Function.{Function}
use Rattle.tokens.specs.declared.Token.{Token}
use Rattle.tokens.specs.declared.Token.TheVariants.{Number, Cell, Letter, Name, Symbol}
use Rattle.tokens.specs.Bytes.{all, is_letter, is_word, run_len, is_hex}
use Rattle.tokens.specs.Symbols.{equal_bytes, symbol_count, longest}
use Rattle.tokens.specs.Numerals.{non_empty, decimal_digits, is_hex_run, hex_from, hex_of, behind_digits, has_part, part_of, fraction_digits}
use Rattle.tokens.specs.Numerals.{behind_mantissa, mantissa_digits, is_exponent, is_negative, exponent_size, real_of, decimal_of, numeral_of}
use Rattle.tokens.specs.Numerals.{numeral_len}
use Rattle.tokens.specs.Words.{name_of, function_named, functions, letter_word, cell_word, other_word, word_token}
use Rattle.tokens.specs.Scan.{Lexeme, Found, Wrong, End, lexeme, symbol_lexeme, lexeme_of, blanks, lexeme_at}
use Rattle.tokens.proofs.Tests.{by-test, choose, both, hex-small}
use Rattle.tokens.proofs.Readings.{hexes, below}
use Rattle.tokens.proofs.numerals.Runs.{numeral-size}
use Rattle.tokens.proofs.numerals.Values.{literal-single}
use Rattle.tokens.proofs.symbols.Longest.{Front, none, symbol, front}

pub data Known : Token → Type 0 where
  number : (v : Value) → Proper v → Known (Number v)
  cell : (b : Bank) (i : ℕ) → i < (layout_of b).elements → Known (Cell b i)
  letter : (b : Bank) → Known (Letter b)
  name : (f : Function) → Known (Name f)
  sign : (n : ℕ) → n < symbol_count → Known (Symbol n)

data Judged : Result Token ℕ → Type 0 where
  good : (t : Token) → Known t → Judged (Ok t)
  bad : (a : ℕ) → Judged (Err a)

-- ---- numerals
whole : (z : ℤ) → mag z < 2 ^ 31 → Judged (Ok (Number (Int z)))
whole z h =
    good (Number (Int z)) (number (Int z) (Proper.int z (subst T (sym (sfits-range z (record { sfits = h }))) tt)))

a-decimal : (cs : List ℕ) → Judged (decimal_of cs)
a-decimal cs =
    choose Judged (leb (decimal_value cs) 2147483647) _ _
    (λ e. whole (pos (decimal_value cs)) (omega (arith, leb-true (decimal_value cs) 2147483647 e)))
    (λ _. bad 5)

a-hex : (cs : List ℕ) → Judged (hex_of cs)
a-hex cs =
    choose Judged (non_empty cs && all is_hex cs) _ _
    (λ e. choose Judged (leb (length cs) 8) _ _
    (λ l. whole (signed_of 32 (hex_from 0 cs))
    (signed-mag 32 (hex_from 0 cs) (lit< tt)
    (below hexes hex-small 8 cs (lit< tt) (both (non_empty cs) (all is_hex cs) e).1 (leb-true (length cs) 8 l))))
    (λ _. bad 5))
    (λ _. bad 4)

-- the parts of a run that starts with a digit
digits-first : (c : ℕ) (cs : List ℕ) → is_digit c ≡ true → 1 ≤ length (digits_of (c ∷ cs))
digits-first c cs d = rw d (omega arith)

part-digits : (cs : List ℕ) → all_digits (part_of cs) ≡ true
part-digits cs = choose (λ (l : List ℕ). all_digits l ≡ true) (has_part cs) _ _ (λ _. digits-only (drop 1 cs)) (λ _. refl)

both-digits : (s t : List ℕ) → all_digits s ≡ true → all_digits t ≡ true → all_digits (s ++ t) ≡ true
both-digits [] t e f = f
both-digits (c ∷ cs) t e f =
    let h = both (is_digit c) (all_digits cs) e in rw h.0 (both-digits cs t h.1 f)

a-real : (c : ℕ) (cs : List ℕ) → is_digit c ≡ true → Judged (real_of (c ∷ cs))
a-real c cs d =
    let s = c ∷ cs in
    let x = behind_mantissa s in
    choose Judged (is_exponent x) _ _
    (λ _. choose Judged (leb (length (mantissa_digits s)) 9 && leb (exponent_size x) 20) _ _
    (λ e. let h = both (leb (length (mantissa_digits s)) 9) (leb (exponent_size x) 20) e in
    let n = leb-true (length (mantissa_digits s)) 9 h.0 in
    let few : length (fraction_digits s) ≤ 8 = omega (arith, digits-first c cs d, length-append (digits_of s) (fraction_digits s)) in
    let all = both-digits (digits_of s) (fraction_digits s) (digits-only s) (part-digits (behind_digits s)) in
    good _ (number _ (Proper.real _ (literal-single (is_negative x) (mantissa_digits s) (exponent_size x)
    (length (fraction_digits s)) all n (leb-true (exponent_size x) 20 h.1) few))))
    (λ _. bad 5))
    (λ _. bad 4)

a-numeral : (c : ℕ) (cs : List ℕ) → is_digit c ≡ true → Judged (numeral_of (c ∷ cs))
a-numeral c cs d =
    choose Judged (decimal_digits (c ∷ cs)) _ _ (λ _. a-decimal (c ∷ cs))
    (λ _. choose Judged (is_hex_run (c ∷ cs)) _ _ (λ _. a-hex (drop 2 (c ∷ cs))) (λ _. a-real c cs d))

-- a part of at least one byte starts as the whole
a-part : (c : ℕ) (cs : List ℕ) (n : ℕ) → is_digit c ≡ true → 0 < n → Judged (numeral_of (take n (c ∷ cs)))
a-part c cs zero d h = absurd (omega arith)
a-part c cs (suc n) d h = a-numeral c (take n cs) d

-- ---- words
a-letter : (l : Option Bank) → Judged (letter_word l)
a-letter (Some b) = good _ (letter b)
a-letter None = bad 6

a-cell : (cs : List ℕ) (l : Option Bank) → Judged (cell_word (cell_after_letter cs l))
a-cell cs (Some b) =
    by-test (number_below (layout_of b).elements cs)
    (λ e. rw e (good _ (cell b (decimal_value cs) (ltb-true _ _ (both (no_leading_zero cs && all_digits cs) _ e).1))))
    (λ e. rw e (bad 6))
a-cell cs None = bad 6

another : (cs : List ℕ) → Judged (other_word cs)
unfolding other_word named_rule
another [] = bad 6
another (c ∷ []) = a-letter (letter_bank c)
another (c ∷ d ∷ cs) = a-cell (d ∷ cs) (letter_bank c)

a-name : (fs : List Function) (cs : List ℕ) (o : (Result Token ℕ)) → Judged o → Judged (function_named fs cs o)
a-name [] cs o j = j
a-name (f ∷ fs) cs o j =
    choose Judged (equal_bytes (name_of f) cs) _ _ (λ _. good _ (name f)) (λ _. a-name fs cs o j)

a_word : (cs : List ℕ) → Judged (word_token cs)
unfolding word_token
a_word cs = a-name functions cs (other_word cs) (another cs)

-- ---- lexemes
data Told : Lexeme → Type 0 where
  found : (t : Token) (p e : ℕ) → Known t → Told (Found t p e)
  wrong : (a p : ℕ) → Told (Wrong a p)
  end : Told End

told : (p n : ℕ) (r : (Result Token ℕ)) → Judged r → Told (lexeme p n r)
told p n r (good t k) = found t p (p + n) k
told p n r (bad a) = wrong a p

a-symbol : (cs : List ℕ) (p n : ℕ) → Front cs n → Told (symbol_lexeme p n)
a-symbol cs p n (none e) = rw e (wrong 4 p)
a-symbol cs p n (symbol l k e) =
    choose Told (eqb n symbol_count) _ _ (λ _. wrong 4 p) (λ _. found _ _ _ (sign n l))

all_told : (cs : List ℕ) (p : ℕ) → Told (lexeme_of cs p)
unfolding lexeme_of
all_told [] p = end
all_told (c ∷ cs) p =
    choose Told (is_digit c) _ _ (λ d. told p _ _ (a-part c cs (numeral_len (c ∷ cs)) d (numeral-size c cs d).0))
    (λ _. choose Told (is_letter c) _ _ (λ _. told p _ _ (a_word (take (run_len is_word (c ∷ cs)) (c ∷ cs))))
    (λ _. a-symbol (c ∷ cs) p (longest (c ∷ cs)) (front (c ∷ cs))))

of-found : {t : Token} {p e : ℕ} (l : Lexeme) → Told l → l ≡ Found t p e → Known t
of-found {t} l (found u p e k) m = let x : u ≡ t = cc in subst Known x k
of-found l (wrong a p) m = let z : ◌≡◌ {A = ℕ} 0 1 = cc in absurd (omega arith)
of-found l end m = let z : ◌≡◌ {A = ℕ} 0 1 = cc in absurd (omega arith)

pub known : (s : List ℕ) (at : ℕ) {t : Token} {p e : ℕ} → lexeme_at s at ≡ Found t p e → Known t
known s at m = of-found (lexeme_at s at) (all_told (drop (at + blanks s at) s) (at + blanks s at)) m
