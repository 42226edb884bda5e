-- What is put of the two codes that were compiled, for the contracts of private functions.
use Rattle.std.specs.Prelude.{cond, List, [], ◌∷◌, ◌++◌, ℕ, eqb}
use Rattle.words.specs.Ascii.{ascii, byte}
use Rattle.memory.specs.declared.Bank.{Bank}
use Rattle.lines.specs.Printing.{letter_byte}
use Rattle.code.specs.Instructions.{instructions}
use Rattle.code_listing.specs.Listing.{listing_room, listed}

-- the first n instructions of a code
unfoldable pub code_text : List ℕ → ℕ → List ℕ
code_text code n = (listed listing_room (instructions code n)).text

-- the first k of an index code, in a bank; nothing where there is none
unfoldable pub index_part : List ℕ → ℕ → Bank → List ℕ
index_part index k b = cond (eqb k 0) [] ((ascii "index=" ++ (letter_byte b ∷ byte "\n" ∷ [])) ++ code_text index k)
