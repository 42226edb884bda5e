-- Lines of a file of cards (paper 02, request 6): "each ended by one byte 10".
use Rattle.std.specs.Prelude.{◌≡◌, Bool, true, cond, List, ◌∷◌, ◌++◌, ℕ, suc, ltb, length, take, drop}
use Rattle.words.specs.Ascii.{byte}
use Rattle.tokens.specs.Bytes.{run_len, all}
use Rattle.tokens.specs.Symbols.{equal_bytes}
use Rattle.lines.specs.Lines.{except}

abbrev pub line_end : ℕ
line_end = byte "\n"

-- a line, and what follows its end
abbrev pub ended : List ℕ → List ℕ → List ℕ
ended l r = l ++ line_end ∷ r

abbrev pub lacks : ℕ → List ℕ → Bool
lacks b s = all (except b) s

-- none of the bytes is b
abbrev pub Lacks : ℕ → List ℕ → Type 0
Lacks b s = lacks b s ≡ true

abbrev pub begins : List ℕ → List ℕ → Bool
begins key s = equal_bytes key (take (length key) s)

-- the value of a line, and what follows the line's end; or there is no such line
pub data Field : Type 0 where
  field : List ℕ → List ℕ → Field
  wrong : Field

-- how far it is to the line's end
abbrev pub to_end : List ℕ → ℕ
to_end s = run_len (except line_end) s

abbrev pub rest_of_line : List ℕ → Field
rest_of_line s = cond (ltb (to_end s) (length s)) (field (take (to_end s) s) (drop (suc (to_end s)) s)) wrong

-- the line at the front of s that begins with a key
abbrev pub field_of : List ℕ → List ℕ → Field
field_of key s = cond (begins key s) (rest_of_line (drop (length key) s)) wrong
