-- The program's reply to a case (paper 01, "Sheet of sums"): the answer, its place and, on answer 0, the cell stored to, after the store (paper 02: "The
-- program prints the cell stored to, as `D42=`."). "A refusal or fault prints the first two lines only." Each line ends with byte 10. No reply is longer
-- than 64 bytes: that is part of the contract of `respond`.
use Rattle.std.specs.Prelude.{◌≡◌, cond, List, [], ◌++◌, ℕ, ◌≤◌, ◌<◌, ltb, length, take}
use Rattle.std.proofs.lemmas.List.Edits.{sets}
use Rattle.values.specs.declared.Value.{Value}
use Rattle.memory.specs.declared.Bank.{Bank}
use Rattle.memory.specs.Layout.{layout_of, ImageLayout, packed}
use Rattle.delivery.specs.declared.Answer.{Answer}
use Rattle.delivery.specs.declared.Answer.TheVariants.{Done, Fault, Refused}
use Rattle.operations.specs.declared.Report.{Report}
use Rattle.operations.specs.Operations.{report_of, Request, request, request_answer, request_memory}
use Rattle.program.specs.declared.case.Case.{Case}
use Rattle.program.specs.Cases.{zeros, case_of}
use Rattle.lines.specs.Printing.{decimal_text, cell_text, cell_name}
use Rattle.words.specs.Ascii.{ascii}

-- `answer=`
abbrev pub answer_key : List ℕ
answer_key = ascii "answer="

-- a line end and `place=`
abbrev pub place_key : List ℕ
place_key = ascii "\nplace="

-- the first two lines
abbrev pub report_text : Report → List ℕ
report_text r = answer_key ++ decimal_text r.answer ++ place_key ++ decimal_text r.place ++ ascii "\n"

-- ---- of an image of any layout
module _ (F : ImageLayout) where
  -- a cell's name and what it holds
  abbrev pub cell_line_in : List ℕ → Bank → ℕ → List ℕ
  cell_line_in m b i = cell_name b i ++ ascii "=" ++ cell_text b (F.get m b i) ++ ascii "\n"

  -- the third line, in the memory after the store
  abbrev pub stored_text_in : List ℕ → Answer → List ℕ
  stored_text_in m (Done v n b i) = cell_line_in m b i
  stored_text_in m (Fault f n) = []
  stored_text_in m (Refused a p) = []

  -- the lines of an answer, with the memory that is left
  abbrev pub answer_text_in : List ℕ → Answer → List ℕ
  answer_text_in m a = report_text (report_of a) ++ stored_text_in m a

-- ---- of the box's image
abbrev pub cell_line : List ℕ → Bank → ℕ → List ℕ
cell_line = cell_line_in packed

abbrev pub stored_text : List ℕ → Answer → List ℕ
stored_text = stored_text_in packed

abbrev pub answer_text : List ℕ → Answer → List ℕ
answer_text = answer_text_in packed

-- the cell that an answer names is one of its bank
pub record CellInside (a : Answer) : Type 0 where
  pub inside : {v : Value} {n : ℕ} {b : Bank} {i : ℕ} → a ≡ Done v n b i → i < (layout_of b).elements

-- paper 02: the tick is "0 in document 01's program"
abbrev pub program_tick : ℕ
program_tick = 0

-- what compile-and-run answers, and the memory that it leaves
abbrev pub outcome_text : Case → Request → List ℕ
outcome_text s q = answer_text (request_memory program_tick s.memory q) (request_answer program_tick s.memory q)

-- the two code buffers have 16,384 zero bytes each
abbrev pub reply_to : Case → List ℕ
reply_to s = outcome_text s (request s.target s.text s.memory (zeros 16384) (zeros 16384))

-- the reply to an input, which is one case
unfoldable pub reply : List ℕ → List ℕ
unfolding case_of
reply input = reply_to (case_of input)

-- a text goes to the front of a lent slice, if there is room for all of it
abbrev pub write_text : List ℕ → List ℕ → List ℕ
write_text out text = cond (ltb (length out) (length text)) out (sets out 0 text)

-- how many bytes are handed over
abbrev pub written_length : List ℕ → List ℕ → ℕ
written_length out text = cond (ltb (length out) (length text)) 0 (length text)

-- for callers that take the first n bytes out of the slice: they are there
abbrev pub HasPrefix : ℕ → List ℕ → Type 0
HasPrefix n out = (n ≤ length out) × (n ≡ length (take n out))

-- `error=read` and byte 10: printed where the input cannot be read. No reply begins so
abbrev pub unread_line : List ℕ
unread_line = ascii "error=read\n"

-- what the program may print: the reply to an input that was read to its end, or that line
pub data Output : List ℕ → Type 0 where
  answer : (input : List ℕ) → Output (reply input)
  unread : Output unread_line

-- an output goes to the front of a lent slice; n is how many bytes it has there
pub record Outputs (out : List ℕ) (n : ℕ) (new : List ℕ) : Type 0 where
  pub text : List ℕ
  pub output : Output text
  pub count : n ≡ written_length out text
  pub bytes : new ≡ write_text out text
