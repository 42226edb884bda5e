-- The refusals of a text are 3 to 9: bytes that are no token are 4, 5 or 6.
use Rattle.std.specs.Prelude.{Option, Result, Some, None, Ok, Err}
use mathlib.Core.Path.{◌≡◌}
use mathlib.Core.Logic.{⊎_elim}
use mathlib.Core.Bool.{Bool, true, false, cond}
use mathlib.Core.List.{List, [], ◌∷◌}
use Prim.Native.Nat.{ℕ, zero, suc, ◌+◌, ◌≤◌}
use native.Mathlib.Omega.{arith}
use lib.Dec.{eqb}
use lib.ListN.{length, take, drop}
use Rattle.memory.specs.Names.{is_digit, letter_bank, named_rule}
use Rattle.tokens.specs.declared.Function.{Function}
use Rattle.tokens.specs.declared.Token.{Token}
use Rattle.tokens.specs.Bytes.{is_letter, is_word, run_len}
use Rattle.tokens.specs.Symbols.{equal_bytes, symbol_count, longest}
use Rattle.tokens.specs.Numerals.{numeral_of, numeral_len}
use Rattle.tokens.specs.Words.{name_of, function_named, functions, letter_word, cell_word, other_word, word_token}
use Rattle.tokens.specs.Scan.{Lexeme, Found, Wrong, End, lexeme, lexeme_of, blanks, lexeme_at, Tok, Scan, tokens, wrong, cons_token, scan_from, scan}
use Rattle.tokens.proofs.numerals.Values.{NumberOrRefused, number-or-refused}
use Rattle.tokens.proofs.numerals.Values as Values
use Rattle.grammar.specs.Tree.{Tree}
use Rattle.grammar.proofs.Diagnostics.{shown-late}
use Rattle.text.specs.Judge.{Judgement, accepted, refused}
use Rattle.text.specs.Theorems as Text
use Rattle.text.specs.Theorems.{HasJudgementFrom}
use Rattle.memory.specs.declared.Bank.{Bank}

-- ---- what holds of both choices holds of the one that a test makes
pub either : {A : Type 0} (P : A → Type 0) (t : Bool) {x y : A} → P x → P y → P (cond t x y)
either P true p q = p
either P false p q = q

-- ---- tokens

abbrev Bound : ℕ → Type 0
Bound a = (4 ≤ a) × (a ≤ 6)

data Marked : Result Token ℕ → Type 0 where
  good : {t : Token} → Marked (Ok t)
  bad : (a : ℕ) → Bound a → Marked (Err a)

six : Marked (Err 6)
six = bad 6 (omega arith, omega arith)

of-numeral : {x : (Result Token ℕ)} → NumberOrRefused x → Marked x
of-numeral (Values.number v) = good
of-numeral (Values.refused a l h) = bad a (l, omega arith)

numeral : (cs : List ℕ) → Marked (numeral_of cs)
numeral cs = of-numeral (number-or-refused cs)

letter : (l : Option Bank) → Marked (letter_word l)
letter (Some b) = good
letter None = six

cell : (n : (Option (Bank × ℕ))) → Marked (cell_word n)
cell (Some (b, i)) = good
cell None = six

another : (cs : List ℕ) → Marked (other_word cs)
unfolding other_word
another [] = six
another (c ∷ []) = letter (letter_bank c)
another (c ∷ d ∷ cs) = cell (named_rule (c ∷ d ∷ cs))

name : (fs : List Function) (cs : List ℕ) {o : (Result Token ℕ)} → Marked o → Marked (function_named fs cs o)
name [] cs w = w
name (f ∷ fs) cs w = either Marked (equal_bytes (name_of f) cs) good (name fs cs w)

word : (cs : List ℕ) → Marked (word_token cs)
unfolding word_token
word cs = name functions cs (another cs)

data Told : Lexeme → Type 0 where
  found : {t : Token} {p e : ℕ} → Told (Found t p e)
  wrong-at : (a p : ℕ) → Bound a → Told (Wrong a p)
  end : Told End

told : (p n : ℕ) {x : (Result Token ℕ)} → Marked x → Told (lexeme p n x)
told p n good = found
told p n (bad a b) = wrong-at a p b

lexemes : (cs : List ℕ) (p : ℕ) → Told (lexeme_of cs p)
unfolding lexeme_of
lexemes [] p = end
lexemes (c ∷ cs) p =
    either Told (is_digit c) (told p _ (numeral (take (numeral_len (c ∷ cs)) (c ∷ cs))))
    (either Told (is_letter c) (told p _ (word (take (run_len is_word (c ∷ cs)) (c ∷ cs))))
    (either Told (eqb (longest (c ∷ cs)) symbol_count) (wrong-at 4 p (omega arith, omega arith)) found))

data Read : Scan → Type 0 where
  whole : {ts : List Tok} → Read (tokens ts)
  broken : (a p : ℕ) → Bound a → Read (wrong a p)

after : (t : Tok) {x : Scan} → Read x → Read (cons_token t x)
after t whole = whole
after t (broken a p b) = broken a p b

scans : (f : ℕ) (s : List ℕ) (at : ℕ) → Read (scan_from f s at)
unfolding scan_from
scans zero s at = whole
scans (suc f) s at = next (lexeme_at s at) (lexemes (drop (at + blanks s at) s) (at + blanks s at)) (λ e. scans f s e)
  where
    next : (l : Lexeme) → Told l → ((e : ℕ) → Read (scan_from f s e))
        → Read (elim l as (λ _. Scan) [ Found t p e ↦ cons_token (record { token = t; place = p }) (scan_from f s e) | Wrong a p ↦ wrong a p | End ↦ tokens [] ])
    next (Found t p e) found rest = after (record { token = t; place = p }) (rest e)
    next (Wrong _ _) (wrong-at a p b) rest = broken a p b
    next End end rest = whole

-- ---- texts

pub data Numbered : Judgement → Type 0 where
  formula : {t : Tree} → Numbered (accepted t)
  three-to-nine : (a p : ℕ) → 3 ≤ a → a ≤ 9 → Numbered (refused a p)

wrong-number : {a p : ℕ} (x : Scan) → Read x → x ≡ wrong a p → Numbered (refused a p)
wrong-number x whole e = let z : ◌≡◌ {A = ℕ} 0 1 = cc in absurd (omega arith)
wrong-number {a} {p} x (broken b q h) e = let z : b ≡ a = cc in three-to-nine a p (omega arith) (omega arith)

pub numbered : {d : ℕ} {s : List ℕ} {j : Judgement} → HasJudgementFrom d s j → Numbered j
numbered (Text.wrong_size h) = three-to-nine 3 0 (omega arith) (omega arith)
numbered {d} {s} (Text.wrong_token h e) = wrong-number (scan s) (scans (suc (length s)) s 0) e
numbered {d} {s} (Text.wrong_end w r v n l) = three-to-nine 7 (length s) (omega arith) (omega arith)
numbered (Text.wrong_next p x ys r v n l) = three-to-nine 7 x.place (omega arith) (omega arith)
numbered (Text.too_deep p x ys r v l o d) = three-to-nine 8 x.place (omega arith) (omega arith)
numbered (Text.diagnosed {p} {a} w t r f l k) =
    ⊎_elim (λ e. three-to-nine a p (omega arith) (omega arith)) (λ e. three-to-nine a p (omega arith) (omega arith)) (shown-late t k)
numbered (Text.formula a) = formula

pub three-nine : {a p : ℕ} → Numbered (refused a p) → (3 ≤ a) × (a ≤ 9)
three-nine (three-to-nine a p l h) = (l, h)
