-- A lexeme takes at least the bytes of its token, if it takes a byte at all.
use Rattle.std.specs.Prelude.{Option, Result, Some, None, Ok, Err}
use mathlib.Core.Path.{◌≡◌, refl, ap, subst}
use mathlib.Core.Bool.{Bool, true, false, cond}
use mathlib.Core.List.{List, [], ◌∷◌}
use Prim.Native.Nat.{ℕ, ◌+◌, ◌≤◌, ◌<◌}
use native.Mathlib.Omega.{arith}
use lib.Dec.{eqb}
use lib.ListN.{length, take, drop, length-take}
use Rattle.values.specs.declared.Value.{Value}
use Rattle.memory.specs.Names.{is_digit, letter_bank, named_rule}
use Rattle.tokens.specs.declared.Function.{Function}
use Rattle.tokens.specs.declared.Token.{Token}
use Rattle.tokens.specs.declared.Token.TheVariants.{Number}
use Rattle.tokens.specs.Bytes.{is_letter, is_word, run_len}
use Rattle.tokens.specs.Symbols.{equal_bytes, symbol_count, longest}
use Rattle.tokens.specs.Numerals.{numeral_of, numeral_len}
use Rattle.tokens.specs.Words.{name_of, function_named, functions, letter_word, cell_word, other_word, word_token}
use Rattle.tokens.specs.Scan.{Lexeme, Found, Wrong, End, lexeme, run_lexeme, numeral_lexeme, lexeme_of, blanks, lexeme_at}
use Rattle.tokens.proofs.Laws.{found}
use Rattle.tokens.proofs.numerals.Values.{NumberOrRefused, number, refused, number-or-refused}
use Rattle.tokens.proofs.Same.{equal}
use Rattle.tree_code.specs.Demand.{bytes_of_token}
use Rattle.memory.specs.declared.Bank.{Bank}

-- n bytes, if they are any, have room for what they are judged to be
data Room (n : ℕ) : Result Token ℕ → Type 0 where
  good : {t : Token} → (0 < n → bytes_of_token t ≤ n) → Room n (Ok t)
  bad : {a : ℕ} → Room n (Err a)

-- what holds of each choice holds of the one that a test makes
when : {A : Type 0} (P : A → Type 0) (b : Bool) {x y : A} → (b ≡ true → P x) → P y → P (cond b x y)
when P true f g = f refl
when P false f g = g

module _ (n : ℕ) where
  either : (b : Bool) {x y : (Result Token ℕ)} → Room n x → Room n y → Room n (cond b x y)
  either b f g = when (Room n) b (λ e. f) g

  -- ---- numerals
  a-number : {v : Value} → Room n (Ok (Number v))
  a-number = good (λ h. h)

  of-numeral : {r : (Result Token ℕ)} → NumberOrRefused r → Room n r
  of-numeral (number v) = a-number
  of-numeral (refused a l h) = bad

  a-numeral : (cs : List ℕ) → Room n (numeral_of cs)
  a-numeral cs = of-numeral (number-or-refused cs)

  -- ---- words
  a-letter : (l : Option Bank) → Room n (letter_word l)
  a-letter (Some b) = good (λ h. h)
  a-letter None = bad

  a-cell : 2 ≤ n → (c : (Option (Bank × ℕ))) → Room n (cell_word c)
  a-cell l (Some (b, i)) = good (λ h. l)
  a-cell l None = bad

  other : (cs : List ℕ) → length cs ≤ n → Room n (other_word cs)
  unfolding other_word
  other [] l = bad
  other (c ∷ []) l = a-letter (letter_bank c)
  other (c ∷ d ∷ cs) l = a-cell (omega arith) (named_rule (c ∷ d ∷ cs))

  a-name : (fs : List Function) (cs : List ℕ) {o : (Result Token ℕ)} → length cs ≤ n → Room n o → Room n (function_named fs cs o)
  a-name [] cs l r = r
  a-name (f ∷ fs) cs l r = when (Room n) (equal_bytes (name_of f) cs) (λ e. good (λ h. omega (arith, ap length (equal (name_of f) cs e)))) (a-name fs cs l r)

  a_word : (cs : List ℕ) → length cs ≤ n → Room n (word_token cs)
  unfolding word_token
  a_word cs l = a-name functions cs l (other cs l)

-- ---- lexemes
data Takes : Lexeme → Type 0 where
  token : (t : Token) (p e : ℕ) → (p < e → p + bytes_of_token t ≤ e) → Takes (Found t p e)
  wrong : {a p : ℕ} → Takes (Wrong a p)
  end : Takes End

judged : (p n : ℕ) {r : (Result Token ℕ)} → Room n r → Takes (lexeme p n r)
judged p n (good {t = t} h) = token t p (p + n) (λ l. omega (arith, h (omega arith)))
judged p n bad = wrong

run : (test : ℕ → Bool) (f : List ℕ → (Result Token ℕ)) → ((n : ℕ) (cs : List ℕ) → length cs ≤ n → Room n (f cs))
    → (cs : List ℕ) (p : ℕ) → Takes (run_lexeme test f cs p)
run test f room cs p =
    let n = run_len test cs in
    judged p n (room n (take n cs) (rw length-take (omega arith)))

a-run : (cs : List ℕ) (p : ℕ) → Takes (numeral_lexeme cs p)
a-run cs p = judged p (numeral_len cs) (a-numeral (numeral_len cs) (take (numeral_len cs) cs))

takes : (cs : List ℕ) (p : ℕ) → Takes (lexeme_of cs p)
unfolding lexeme_of
takes [] p = end
takes (c ∷ cs) p =
    when Takes (is_digit c) (λ d. a-run (c ∷ cs) p)
    (when Takes (is_letter c) (λ d. run is_word word_token a_word (c ∷ cs) p)
    (when Takes (eqb (longest (c ∷ cs)) symbol_count) (λ e. wrong) (token _ p _ (λ l. omega arith))))

of-token : {t : Token} {p e : ℕ} → Takes (Found t p e) → p < e → p + bytes_of_token t ≤ e
of-token (token t p e h) = h

pub long : (s : List ℕ) (at : ℕ) {t : Token} {p e : ℕ} → lexeme_at s at ≡ Found t p e → p + bytes_of_token t ≤ e
long s at m = of-token (subst Takes m (takes (drop (at + blanks s at) s) (at + blanks s at))) (found s at m).some
