-- The three words of a written file of cards: answer, place and length.
use Rattle.std.specs.Prelude.{List, [], ◌∷◌, ℕ, length}
use Rattle.card_laws.specs.Writing.{CardsWritten, done, unwritten}

abbrev pub written_words : CardsWritten → List ℕ
written_words (done s) = 0 ∷ 0 ∷ length s ∷ []
written_words (unwritten a p) = a ∷ p ∷ 0 ∷ []
