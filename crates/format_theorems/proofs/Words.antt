-- A word has one spelling: the name of its function, the letter of its bank, the name of its cell.
use Rattle.std.specs.Prelude.{Option, Result, Some, None, Ok, Err}
use mathlib.Core.Path.{◌≡◌, refl, sym, ap}
use mathlib.Core.Bool.{Bool, true, false}
use mathlib.Core.List.{List, [], ◌∷◌}
use Prim.Native.Nat.{ℕ}
use lib.Dec.{eqb}
use borrow.Author.Tests.{eqb-true}
use Rattle.words.specs.Ascii.{byte}
use Rattle.values.specs.declared.Value.{Value}
use Rattle.memory.specs.declared.Bank.{Bank}
use Rattle.memory.specs.Layout.{layout_of}
use Rattle.memory.specs.Names.{letter_bank, decimal_value, number_below, cell_after_letter, named_rule}
use Rattle.tokens.specs.declared.Function.{Function}
use Rattle.tokens.specs.declared.Token.TheVariants.{Number, Cell, Letter, Name}
use Rattle.tokens.specs.Symbols.{equal_bytes}
use Rattle.tokens.specs.Numerals.{numeral_of}
use Rattle.tokens.specs.Words.{name_of, letter_word, cell_word, other_word, function_named, functions, word_token}
use Rattle.tokens.proofs.Tests.{choose}
use Rattle.tokens.proofs.numerals.Values.{NumberOrRefused, number-or-refused}
use Rattle.tokens.proofs.numerals.Values as Values
use Rattle.tokens.proofs.Same.{equal}
use Rattle.lines.specs.Printing.{decimal_text, letter_byte, cell_name}
use Rattle.lines.proofs.Laws.{number-text}
use Rattle.tokens.specs.declared.Token.{Token}

-- what the bytes w are, by what they are judged as
pub data Spelling (w : List ℕ) : Result Token ℕ → Type 0 where
  number : {v : Value} → Spelling w (Ok (Number v))
  cell : {b : Bank} {i : ℕ} → w ≡ cell_name b i → Spelling w (Ok (Cell b i))
  letter : {b : Bank} → w ≡ letter_byte b ∷ [] → Spelling w (Ok (Letter b))
  name : {f : Function} → w ≡ name_of f → Spelling w (Ok (Name f))
  bad : {a : ℕ} → Spelling w (Err a)

-- ---- bank letters
data LetterIs (c : ℕ) : Option Bank → Type 0 where
  of : {b : Bank} → c ≡ letter_byte b → LetterIs c (Some b)
  other : LetterIs c None

letter-is : (c : ℕ) → LetterIs c (letter_bank c)
unfolding letter_bank
letter-is c =
    choose (LetterIs c) (eqb c (byte "X")) _ _ (λ e. of (eqb-true c (byte "X") e))
    (λ _. choose (LetterIs c) (eqb c (byte "C")) _ _ (λ e. of (eqb-true c (byte "C") e))
    (λ _. choose (LetterIs c) (eqb c (byte "V")) _ _ (λ e. of (eqb-true c (byte "V") e))
    (λ _. choose (LetterIs c) (eqb c (byte "N")) _ _ (λ e. of (eqb-true c (byte "N") e))
    (λ _. choose (LetterIs c) (eqb c (byte "D")) _ _ (λ e. of (eqb-true c (byte "D") e))
    (λ _. choose (LetterIs c) (eqb c (byte "R")) _ _ (λ e. of (eqb-true c (byte "R") e))
    (λ _. other))))))

-- ---- cells: a number without a leading zero is its decimal
cell-after : (c : ℕ) (cs : List ℕ) (l : Option Bank) → LetterIs c l → Spelling (c ∷ cs) (cell_word (cell_after_letter cs l))
cell-after c cs (Some b) (of e) = go (number_below (layout_of b).elements cs) refl
  where
    spelled : number_below (layout_of b).elements cs ≡ true → c ∷ cs ≡ cell_name b (decimal_value cs)
    spelled q = let d : cs ≡ decimal_text (decimal_value cs) = number-text (layout_of b).elements cs q in cc

    go : (x : Bool) → number_below (layout_of b).elements cs ≡ x → Spelling (c ∷ cs) (cell_word (cell_after_letter cs (Some b)))
    go true q = rw q (cell (spelled q))
    go false q = rw q bad
cell-after c cs None h = bad

a-letter : (c : ℕ) (l : Option Bank) → LetterIs c l → Spelling (c ∷ []) (letter_word l)
a-letter c (Some b) (of e) = letter (ap (λ d. d ∷ []) e)
a-letter c None h = bad

another : (w : List ℕ) → Spelling w (other_word w)
unfolding other_word named_rule
another [] = bad
another (c ∷ []) = a-letter c (letter_bank c) (letter-is c)
another (c ∷ d ∷ cs) = cell-after c (d ∷ cs) (letter_bank c) (letter-is c)

a-name : (fs : List Function) (w : List ℕ) (o : (Result Token ℕ)) → Spelling w o → Spelling w (function_named fs w o)
a-name [] w o h = h
a-name (f ∷ fs) w o h = choose (Spelling w) (equal_bytes (name_of f) w) _ _ (λ e. name (sym (equal (name_of f) w e))) (λ _. a-name fs w o h)

pub word-spelling : (w : List ℕ) → Spelling w (word_token w)
unfolding word_token
word-spelling w = a-name functions w (other_word w) (another w)

of-numeral : {w : List ℕ} {j : (Result Token ℕ)} → NumberOrRefused j → Spelling w j
of-numeral (Values.number v) = number
of-numeral (Values.refused a l h) = bad

pub numeral-spelling : (w : List ℕ) → Spelling w (numeral_of w)
numeral-spelling w = of-numeral (number-or-refused w)

-- ---- read off
pub cell-spelling : {w : List ℕ} {b : Bank} {i : ℕ} → Spelling w (Ok (Cell b i)) → w ≡ cell_name b i
cell-spelling (cell e) = e

pub letter-spelling : {w : List ℕ} {b : Bank} → Spelling w (Ok (Letter b)) → w ≡ letter_byte b ∷ []
letter-spelling (letter e) = e

pub name-spelling : {w : List ℕ} {f : Function} → Spelling w (Ok (Name f)) → w ≡ name_of f
name-spelling (name e) = e
