-- A table of texts: one text, of which each line is a row, counted from 0. A definition then shows the whole table, and the code reads the same bytes.
use Rattle.std.specs.Prelude.{List, ℕ, zero, suc, take, drop}
use Rattle.words.specs.Ascii.{byte}
use Rattle.tokens.specs.Bytes.{run_len}
use Rattle.lines.specs.Lines.{except}

-- how many bytes stand before the first byte 10, or in all
abbrev pub line_length : List ℕ → ℕ
line_length s = run_len (except (byte "\n")) s

-- the row of a number; nothing where the table has none
unfoldable pub row_at : ℕ → List ℕ → List ℕ
row_at zero s = take (line_length s) s
row_at (suc k) s = row_at k (drop (suc (line_length s)) s)
