-- The lines of a text, and what a line of "key=value" (paper 01) is made of.
use Rattle.std.specs.Prelude.{Bool, not, cond, List, [], ◌∷◌, ℕ, suc, eqb, take, drop}
use Rattle.tokens.specs.Bytes.{run_len}
use Rattle.words.specs.Ascii.{byte}

-- a byte before the first of the lines that follow it
abbrev pub cons_line : ℕ → List (List ℕ) → List (List ℕ)
cons_line c [] = (c ∷ []) ∷ []
cons_line c (l ∷ ls) = (c ∷ l) ∷ ls

-- a line ends at byte 10; a last piece without one counts
abbrev pub lines : List ℕ → List (List ℕ)
lines [] = []
lines (c ∷ cs) = cond (eqb c (byte "\n")) ([] ∷ lines cs) (cons_line c (lines cs))

-- a byte that is not b
abbrev pub except : ℕ → ℕ → Bool
except b c = not (eqb c b)

-- "key=value": the key ends before the first `=`, and the value is all that follows it. How long the key is; without `=` the whole line
abbrev pub key_length : List ℕ → ℕ
key_length l = run_len (except (byte "=")) l

-- the key
abbrev pub key_of : List ℕ → List ℕ
key_of l = take (key_length l) l

-- the value, blanks at either end included
abbrev pub value_of : List ℕ → List ℕ
value_of l = drop (suc (key_length l)) l
