-- The words of a listing's result for C: the answer, and how many bytes were written.
use Rattle.std.specs.Prelude.{List, [], ◌∷◌, ℕ, ◌%◌, ◌^◌, length}
use Rattle.code_listing.specs.Listing.{Listed}

abbrev pub listed_words : Listed → List ℕ
listed_words l = l.answer ∷ length l.text % 2 ^ 32 ∷ []
