-- What the program `cards` prints of a file (paper 02, request 6), three lines always, and two more on a refusal: `card=` the number in the refused card's
-- first line, left out where that line has not its form, and `words=` the answer in words.
use Rattle.std.specs.Prelude.{cond, List, [], ◌++◌, ℕ, eqb, drop, get_or}
use Rattle.words.specs.Ascii.{ascii}
use Rattle.lines.specs.Printing.{decimal_text}
use Rattle.answer_words.specs.Words.{words_of}
use Rattle.card_laws.specs.Lines.{ended}
use Rattle.card_laws.specs.Cards.{card_key}
use Rattle.card_file.specs.Spans.{line_number}

-- a line `key=` and a number
abbrev pub number_line : List ℕ → ℕ → List ℕ → List ℕ
number_line key n r = ended (key ++ decimal_text n) r

abbrev pub result_lines : ℕ → ℕ → ℕ → List ℕ
result_lines a p n = number_line (ascii "answer=") a (number_line (ascii "place=") p (number_line (ascii "cards=") n []))

abbrev pub card_text : List ℕ → List ℕ
card_text s = cond (eqb (line_number s) 0) [] (number_line card_key (line_number s) [])

abbrev pub refused_lines : List ℕ → ℕ → List ℕ
refused_lines s a = card_text s ++ ended (ascii "words=" ++ words_of a) []

-- of the words that reading leaves: answer, place and count are the first three
abbrev pub reply_text : List ℕ → List ℕ → List ℕ
reply_text file ws =
    result_lines (get_or ws 0 0) (get_or ws 1 0) (get_or ws 2 0)
    ++ cond (eqb (get_or ws 0 0) 0) [] (refused_lines (drop (get_or ws 1 0) file) (get_or ws 0 0))
