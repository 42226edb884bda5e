-- The refusals of bytes that are no token are 4 to 6.
use Rattle.std.specs.Prelude.{Option, Result, Some, None, Ok, Err}
use mathlib.Core.Path.{◌≡◌}
use mathlib.Core.Bool.{Bool, true, false, cond}
use mathlib.Core.List.{List, [], ◌∷◌}
use Prim.Native.Nat.{ℕ, ◌≤◌}
use native.Mathlib.Omega.{arith}
use Rattle.memory.specs.Names.{letter_bank, named_rule}
use Rattle.tokens.specs.declared.Function.{Function}
use Rattle.tokens.specs.declared.Token.{Token}
use Rattle.tokens.specs.Symbols.{equal_bytes}
use Rattle.tokens.specs.Words.{name_of, function_named, functions, letter_word, cell_word, other_word, word_token}
use Rattle.tokens.specs.Scan.{Tok, Scan, tokens, wrong, cons_token, scan}
use Rattle.tokens.specs.Theorems.{LongestLexeme, Scans}
use Rattle.tokens.specs.Theorems as T'
use Rattle.tokens.proofs.Theorems.{token-theorems}
use Rattle.tokens.proofs.numerals.Values.{NumberOrRefused, number-or-refused}
use Rattle.tokens.proofs.numerals.Values as Values
use Rattle.memory.specs.declared.Bank.{Bank}

abbrev Few : Result Token ℕ → Type 0
Few x = (a : ℕ) → x ≡ Err a → a ≤ 6

few-good : (t : Token) → Few (Ok t)
few-good t a e = let z : ◌≡◌ {A = ℕ} 0 1 = cc in absurd (omega arith)

few-six : Few (Err 6)
few-six a e = let z : a ≡ 6 = cc in omega arith

few-numeral : {x : (Result Token ℕ)} → NumberOrRefused x → Few x
few-numeral (Values.number v) = few-good _
few-numeral (Values.refused b l h) = λ a e. let z : a ≡ b = cc in omega (arith, l, h)

few-letter : (l : Option Bank) → Few (letter_word l)
few-letter (Some b) = few-good _
few-letter None = few-six

few-cell : (n : (Option (Bank × ℕ))) → Few (cell_word n)
few-cell (Some (b, i)) = few-good _
few-cell None = few-six

few-other : (cs : List ℕ) → Few (other_word cs)
unfolding other_word
few-other [] = few-six
few-other (c ∷ []) = few-letter (letter_bank c)
few-other (c ∷ d ∷ cs) = few-cell (named_rule (c ∷ d ∷ cs))

few-cond : (b : Bool) {x y : (Result Token ℕ)} → Few x → Few y → Few (cond b x y)
few-cond true h k = h
few-cond false h k = k

few-name : (fs : List Function) (cs : List ℕ) {o : (Result Token ℕ)} → Few o → Few (function_named fs cs o)
few-name [] cs h = h
few-name (f ∷ fs) cs h = few-cond (equal_bytes (name_of f) cs) (few-good _) (few-name fs cs h)

few-word : (cs : List ℕ) → Few (word_token cs)
unfolding word_token
few-word cs = few-name functions cs (few-other cs)

few-lexeme : {w r : List ℕ} {x : (Result Token ℕ)} → LongestLexeme w r x → Few x
few-lexeme {w} (T'.word h) = few-word w
few-lexeme {w} (T'.numeral h) = few-numeral (number-or-refused w)
few-lexeme (T'.symbol n e h) = few-good _
few-lexeme (T'.stray c e s l d n) = λ a f. let z : a ≡ 4 = cc in omega arith

behind : (t : Tok) (x : Scan) (a q : ℕ) → cons_token t x ≡ wrong a q → (x ≡ wrong a q → a ≤ 6) → a ≤ 6
behind t (tokens ts) a q e k = let z : ◌≡◌ {A = ℕ} 0 1 = cc in absurd (omega arith)
behind t (wrong c d) a q e k = k e

few-scan : {p : ℕ} {s : List ℕ} {z : Scan} → Scans p s z → (a q : ℕ) → z ≡ wrong a q → a ≤ 6
few-scan (T'.end h) a q e = let z : ◌≡◌ {A = ℕ} 0 1 = cc in absurd (omega arith)
few-scan (T'.token {z = x} b w r i k l h) a q e = behind _ x a q e (λ f. few-scan h a q f)
few-scan (T'.stop {a = c} b w r i k l) a q e = few-lexeme l a (let z : c ≡ a = cc in cc)

pub scan-answers : (s : List ℕ) (a p : ℕ) → scan s ≡ wrong a p → a ≤ 6
scan-answers s a p e = few-scan (token-theorems.scans s) a p e
