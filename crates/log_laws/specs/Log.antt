-- A night's log (paper 02, request 13): "The box records each night as key=value lines, each ended by one byte 10: cell changes in the form that the program
-- prints (bits 0 or 1), `tick=` (0x and eight hex digits) and `run=` with a card number as in Ask 6."
use Rattle.std.specs.Prelude.{Bool, cond, List, ℕ, zero, suc, eqb, ltb, length, Option, Some, None}
use Rattle.words.specs.Ascii.{ascii}
use Rattle.memory.specs.declared.Bank.{Bank}
use Rattle.memory.specs.Names.{named_rule}
use Rattle.tokens.specs.Symbols.{equal_bytes}
use Rattle.lines.specs.Lines.{key_length, key_of, value_of}
use Rattle.lines.specs.Forms.{hex_form, cell_pattern}
use Rattle.lines.specs.Printing.{cell_text}
use Rattle.card_laws.specs.Lines.{line_end, Field, field, wrong, rest_of_line}
use Rattle.card_laws.specs.Cards.{card_number}
use Rattle.salvage_laws.specs.Cut.{cut}

-- what a line says: a cell holds a pattern, the tick, the card that is run
pub data LogEntry : Type 0 where
  change : Bank → ℕ → ℕ → LogEntry
  tick : ℕ → LogEntry
  run : ℕ → LogEntry
  bad : LogEntry

-- the lines, each with its end; what is left behind the last end is a line without one
abbrev pub ends_line : ℕ → List ℕ → Bool
ends_line c cs = eqb c line_end

abbrev pub log_lines : List ℕ → List (List ℕ)
log_lines s = cut ends_line s

-- "0x and eight hex digits", of either case
abbrev pub tick_entry : Option ℕ → LogEntry
tick_entry (Some n) = tick n
tick_entry None = bad

-- "a card number as in Ask 6"
abbrev pub run_entry : ℕ → LogEntry
run_entry zero = bad
run_entry (suc k) = run (suc k)

-- "in the form that the program prints": the value is what is printed of its pattern
abbrev pub change_entry : Bank → ℕ → List ℕ → Option ℕ → LogEntry
change_entry b i v (Some n) = cond (equal_bytes v (cell_text b n)) (change b i n) bad
change_entry b i v None = bad

-- a key that names a cell, of X too
abbrev pub cell_entry : List ℕ → Option (Bank × ℕ) → LogEntry
cell_entry v (Some (b, i)) = change_entry b i v (cell_pattern b v)
cell_entry v None = bad

abbrev pub keyed_entry : List ℕ → List ℕ → LogEntry
keyed_entry key v =
    cond (equal_bytes key (ascii "tick")) (tick_entry (hex_form v)) (cond (equal_bytes key (ascii "run")) (run_entry (card_number v)) (cell_entry v (named_rule key)))

-- "key=value lines": any other is bad
abbrev pub text_entry : List ℕ → LogEntry
text_entry l = cond (ltb (key_length l) (length l)) (keyed_entry (key_of l) (value_of l)) bad

-- "each ended by one byte 10": a line without its end is bad
abbrev pub ended_entry : Field → LogEntry
ended_entry (field l r) = text_entry l
ended_entry wrong = bad

unfoldable pub log_entry_of : List ℕ → LogEntry
log_entry_of l = ended_entry (rest_of_line l)
