-- The listing of code: a line an instruction, with its place, its name and what it works on. The names are those of docs/INSTRUCTIONS.md.
use Rattle.std.specs.Prelude.{true, false, cond, List, [], ◌∷◌, ◌++◌, ℕ, suc, ◌+◌, ltb, Option, Some, None}
use Rattle.std.specs.Float.{binary32}
use Rattle.std.specs.Float.Ieee.{to_bits}
use Rattle.operators.specs.Tables.{unary_number, binary_number}
use Rattle.words.specs.Ascii.{ascii}
use Rattle.memory.specs.declared.Bank.{Bank}
use Rattle.memory.specs.declared.Bank.TheVariants.{R}
use Rattle.totals.specs.Numbers.{total_number, match_number}
use Rattle.code.specs.declared.Instr.{Instr}
use Rattle.code.specs.declared.Instr.TheVariants.{PushInt, PushReal, Load, LoadIndexed, Unary, Binary, Jump, JumpIf, Tick, Since, Total, Match, Unknown}
use Rattle.verifier.specs.Verdicts.{verdict}
use Rattle.lines.specs.Printing.{decimal_text, signed_text, cell_text, letter_byte, cell_name}
use Rattle.text_tables.specs.Tables.{row_at}
use Rattle.values.specs.declared.Kind.{Kind}

-- ---- the names of the numbered operators, a row each
abbrev pub unary_names : List ℕ
unary_names = ascii "NEGATE\n~\n!\nABS\nTOREAL\nTRUNC\nROUND\nFRAC"

abbrev pub binary_names : List ℕ
binary_names = ascii "**\n*\n/\n%\n+\n-\n<<\n>>\n>>>\n<\n>\n<=\n>=\n==\n!=\n&\n^\n|\nMAX\nMIN"

abbrev pub total_names : List ℕ
total_names = ascii "SUMR\nAVGR\nMAXR\nMINR"

abbrev pub match_names : List ℕ
match_names =
    ascii "COUNTIFEQ\nCOUNTIFNE\nCOUNTIFGE\nCOUNTIFGT\nCOUNTIFLE\nCOUNTIFLT\nSUMIFEQ\nSUMIFNE\nSUMIFGE\nSUMIFGT\nSUMIFLE\nSUMIFLT"

-- ---- an instruction at the place p
-- a run of cells: its first and how many, as in the text of a formula
abbrev pub range_text : Bank → ℕ → ℕ → List ℕ
range_text b i n = ascii " " ++ (cell_name b i ++ (ascii " " ++ decimal_text n))

-- a jump shows the place that it leads to: it skips d instructions after itself
abbrev pub jump_text : List ℕ → ℕ → ℕ → List ℕ
jump_text name p d = name ++ decimal_text (suc p + d)

-- integers "in signed decimal", a real "as its pattern" (paper 01); accepted code has no Unknown
abbrev pub instr_text : ℕ → Instr → List ℕ
instr_text p (PushInt z) = ascii "PUSH_INT " ++ signed_text z
instr_text p (PushReal x) = ascii "PUSH_REAL " ++ cell_text R (to_bits binary32 x)
instr_text p (Load b i) = ascii "LOAD " ++ cell_name b i
instr_text p (LoadIndexed b) = ascii "LOAD_INDEXED " ++ (letter_byte b ∷ [])
instr_text p (Unary o) = row_at (unary_number o) unary_names
instr_text p (Binary o) = row_at (binary_number o) binary_names
instr_text p (Jump d) = jump_text (ascii "JUMP ") p d
instr_text p (JumpIf false d) = jump_text (ascii "JUMP_IF_FALSE ") p d
instr_text p (JumpIf true d) = jump_text (ascii "JUMP_IF_TRUE ") p d
instr_text p Tick = ascii "TICK"
instr_text p Since = ascii "SINCE"
instr_text p (Total o b i n) = row_at (total_number o) total_names ++ range_text b i n
instr_text p (Match o b i n) = row_at (match_number o) match_names ++ range_text b i n
instr_text p Unknown = []

-- ---- the lines
abbrev pub line_text : ℕ → Instr → List ℕ
line_text p i = decimal_text p ++ (ascii " " ++ (instr_text p i ++ ascii "\n"))

-- of the instructions from the place p on
unfoldable pub lines_from : ℕ → List Instr → List ℕ
lines_from p [] = []
lines_from p (i ∷ c) = line_text p i ++ lines_from (suc p) c

-- ---- the operation
-- 32 bytes a line are enough for any code that is accepted, and so many must be lent, as 16,384 must for compiling
abbrev pub listing_room : ℕ
listing_room = 65536

-- an answer, and the text that is written
pub record Listed : Type 0 where
  pub answer : ℕ
  pub text : List ℕ

abbrev pub verdict_listed : List Instr → Option Kind → Listed
verdict_listed c (Some k) = record { answer = 0; text = lines_from 0 c }
verdict_listed c None = record { answer = 15; text = [] }

-- in paper 01's order: 10 for a buffer that is too short, then 15 for code that the check does not accept
abbrev pub listed : ℕ → List Instr → Listed
listed room c = cond (ltb room listing_room) (record { answer = 10; text = [] }) (verdict_listed c (verdict c))
