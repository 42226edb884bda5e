-- What an answer means, in a few words: one table for every program, for C and for the page. docs/ANSWERS.md has the answers at length.
use Rattle.std.specs.Prelude.{List, ◌++◌, ℕ}
use Rattle.words.specs.Ascii.{ascii}
use Rattle.text_tables.specs.Tables.{row_at}

-- the row of each answer, from 0 on
abbrev pub answer_table : List ℕ
answer_table =
    ascii "done\n"
    ++ ascii "the memory has not its size, 3,092 bytes\n"
    ++ ascii "no C, V, N, D or R cell, nor indexed bank\n"
    ++ ascii "the expression is empty or has over 1,024 bytes\n"
    ++ ascii "bytes that form no token\n"
    ++ ascii "a number out of range\n"
    ++ ascii "no such name, cell or run of cells\n"
    ++ ascii "not in the grammar\n"
    ++ ascii "more than eight open ( and [\n"
    ++ ascii "a real where an integer is needed\n"
    ++ ascii "a lent buffer is too small\n"
    ++ ascii "divided by zero\n"
    ++ ascii "overflow\n"
    ++ ascii "out of range\n"
    ++ ascii "an index below zero or beyond its bank\n"
    ++ ascii "the check does not accept the code\n"
    ++ ascii "a line out of form or order\n"
    ++ ascii "the check differs\n"
    ++ ascii "the number is not above the one before\n"
    ++ ascii "a real in the profile without reals\n"
    ++ ascii "more than forty formulas in a list"

-- the words of an answer; none where the number is no answer
abbrev pub words_of : ℕ → List ℕ
words_of a = row_at a answer_table

-- "a few": no row is longer
abbrev pub most_words : ℕ
most_words = 47
