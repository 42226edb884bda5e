-- The lines of a case (paper 01): "The program reads lines of key=value from standard input: cells (R as its pattern), then target, then expr. Lines of any
-- other form are skipped." The order of lines is not enforced, and a later line for the same key wins.
use Rattle.std.specs.Prelude.{cond, List, [], ◌∷◌, ℕ, ltb, length, replicate, Option, Some, None}
use Rattle.memory.specs.declared.Bank.{Bank}
use Rattle.memory.specs.Layout.{image_size, packed}
use Rattle.memory.specs.Names.{named_rule}
use Rattle.tokens.specs.Symbols.{equal_bytes}
use Rattle.lines.specs.Lines.{lines, key_length, key_of, value_of}
use Rattle.lines.specs.Forms.{cell_pattern}
use Rattle.words.specs.Ascii.{ascii}
use Rattle.program.specs.declared.case.Case.{Case}

-- the cell holds the pattern, every other cell is as it was
abbrev pub put_form : List ℕ → Bank → ℕ → Option ℕ → List ℕ
put_form m b i (Some n) = packed.put m b i n
put_form m b i None = m

-- a key that names a cell, of X too, and a value of the bank's form; "Lines of any other form are skipped"
abbrev pub set_cell : List ℕ → List ℕ → Option (Bank × ℕ) → List ℕ
set_cell m v (Some (b, i)) = put_form m b i (cell_pattern b v)
set_cell m v None = m

-- `target`
abbrev pub target_key : List ℕ
target_key = ascii "target"

-- `expr`
abbrev pub expr_key : List ℕ
expr_key = ascii "expr"

-- any key but the two names a cell, or the line is skipped
unfoldable pub keyed : Case → List ℕ → List ℕ → Case
unfolding named_rule
keyed s key v =
    cond (equal_bytes key target_key) (record { memory = s.memory; target = v; text = s.text })
    (cond (equal_bytes key expr_key) (record { memory = s.memory; target = s.target; text = v })
    (record { memory = set_cell s.memory v (named_rule key); target = s.target; text = s.text }))

-- a line without `=` is skipped
unfoldable pub after_line : Case → List ℕ → Case
unfolding keyed
after_line s l = cond (ltb (key_length l) (length l)) (keyed s (key_of l) (value_of l)) s

-- line after line, in any order of keys
unfoldable pub after_lines : Case → List (List ℕ) → Case
unfolding after_line
after_lines s [] = s
after_lines s (l ∷ ls) = after_lines (after_line s l) ls

-- without a line for it the target, and the expression, is the empty text
abbrev pub empty_case : List ℕ → Case
empty_case m = record { memory = m; target = []; text = [] }

-- n zero bytes
unfoldable pub zeros : ℕ → List ℕ
zeros n = replicate n 0

-- the lines of the input, over an image of zero bytes
unfoldable pub case_of : List ℕ → Case
unfolding after_lines zeros
case_of input = after_lines (empty_case (zeros image_size)) (lines input)
