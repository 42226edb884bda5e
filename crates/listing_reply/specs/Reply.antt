-- What the program `listing` prints: the code of a formula, a line an instruction, and for a target with an index a line `index=` with the bank and the code of
-- the index; of a refusal the two lines that the program of paper 01 prints, and the answer in words.
use Rattle.std.specs.Prelude.{List, [], ◌∷◌, ◌++◌, ℕ}
use Rattle.words.specs.Ascii.{ascii, byte}
use Rattle.memory.specs.Layout.{image_size}
use Rattle.lines.specs.Printing.{letter_byte}
use Rattle.answer_words.specs.Words.{words_of}
use Rattle.text.specs.Targets.{Target, to_cell, to_indexed, no_target}
use Rattle.tree_code.specs.Code.{code_of}
use Rattle.code_listing.specs.Listing.{lines_from}
use Rattle.operations.specs.declared.Report.{Report}
use Rattle.delivery.specs.declared.Answer.TheVariants.{Refused}
use Rattle.operations.specs.Operations.{report_of, Request, stores, stops, request}
use Rattle.program.specs.Cases.{zeros, case_of}
use Rattle.program.specs.Reply.{report_text, unread_line}

-- of a target: nothing for a plain cell
abbrev pub index_lines : Target → List ℕ
index_lines (to_cell b i) = []
index_lines (to_indexed b t) = (ascii "index=" ++ (letter_byte b ∷ byte "\n" ∷ [])) ++ lines_from 0 (code_of t)
index_lines no_target = []

abbrev pub refusal_text : Report → List ℕ
refusal_text r = report_text r ++ (ascii "words=" ++ (words_of r.answer ++ ascii "\n"))

-- of what compile-and-run is asked for
unfoldable pub request_text : Request → List ℕ
request_text (stores g t code index) = lines_from 0 (code_of t) ++ index_lines g
request_text (stops a p) = refusal_text (report_of (Refused a p))

-- of a target and an expression, in compile-and-run's order of refusals
unfoldable pub listing_text : List ℕ → List ℕ → List ℕ
listing_text target text = request_text (request target text (zeros image_size) (zeros 16384) (zeros 16384))

-- of an input of key=value lines, as the program of paper 01 reads them
unfoldable pub listing_of : List ℕ → List ℕ
listing_of input = listing_text (case_of input).target (case_of input).text

-- what the program may print: the lines of an input that was read to its end, or `error=read`
pub data Printed : List ℕ → Type 0 where
  lines : (input : List ℕ) → Printed (listing_of input)
  unread : Printed unread_line
