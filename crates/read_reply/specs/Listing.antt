-- What the program `cells` prints (paper 02, Ask 11): "Before replacing a scale we ask which formulas touch it." A line for each cell that a formula and its
-- target's index read, "in memory order, each once"; of a refusal the two lines that the program of paper 01 prints.
use Rattle.std.specs.Prelude.{List, [], ◌∷◌, ◌++◌, ℕ}
use Rattle.words.specs.Ascii.{ascii}
use Rattle.memory.specs.Layout.{image_size}
use Rattle.lines.specs.Printing.{cell_name}
use Rattle.read_set.specs.Cells.{Cell, cell_list}
use Rattle.delivery.specs.declared.Answer.TheVariants.{Refused}
use Rattle.operations.specs.Operations.{report_of, Request, stores, stops, request}
use Rattle.read_answers.specs.Answers.{request_cells}
use Rattle.program.specs.Cases.{zeros, case_of}
use Rattle.program.specs.Reply.{report_text, unread_line}

-- `D12` and byte 10 for each
unfoldable pub cell_lines : List Cell → List ℕ
cell_lines [] = []
cell_lines (c ∷ cs) = cell_name c.bank c.element ++ ascii "\n" ++ cell_lines cs

-- of what compile-and-run is asked for: "A formula that reads nothing prints nothing"
unfoldable pub request_lines : Request → List ℕ
request_lines (stores g t code index) = cell_lines (cell_list (request_cells (stores g t code index)))
request_lines (stops a p) = report_text (report_of (Refused a p))

-- of a target and an expression, in compile-and-run's order of refusals. What a memory of the right size holds does not matter (`asked` of read_answers)
unfoldable pub listing : List ℕ → List ℕ → List ℕ
listing target text = request_lines (request target text (zeros image_size) (zeros 16384) (zeros 16384))

-- of an input of key=value lines, as the program of paper 01 reads them
unfoldable pub listing_of : List ℕ → List ℕ
listing_of input = listing (case_of input).target (case_of input).text

-- what the program may print: the lines of an input that was read to its end, or `error=read`
pub data Printed : List ℕ → Type 0 where
  cells : (input : List ℕ) → Printed (listing_of input)
  unread : Printed unread_line
