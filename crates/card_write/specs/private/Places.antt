-- For the contracts of private functions: cards as rows of five words, and how their judgement is returned.
use Rattle.std.specs.Prelude.{List, [], ◌∷◌, ℕ, length}
use Rattle.card_laws.specs.Cards.{Card, cards_bytes}
use Rattle.card_laws.specs.Writing.{CardsWritten, done, unwritten, write_from}
use Rattle.card_laws.specs.Formulas.{formula_answer}
use Rattle.card_write.specs.declared.Judged.{Judged}
use Rattle.card_write.specs.Given.{first_card}

-- a card a row
abbrev pub cards_of : List ℕ → List (List ℕ) → List Card
cards_of texts [] = []
cards_of texts (w ∷ ws) = first_card texts w ∷ cards_of texts ws

-- what judging n cards returns: all of them are put, or none
abbrev pub judged_in : ℕ → CardsWritten → Judged
judged_in n (done s) = record { answer = 0; place = 0; length = length s; cards = n }
judged_in n (unwritten a p) = record { answer = a; place = p; length = 0; cards = 0 }

abbrev pub judged_cards : List ℕ → List (List ℕ) → Judged
judged_cards texts ws = judged_in (length ws) (write_from formula_answer 0 0 (cards_of texts ws) (cards_bytes (cards_of texts ws)))
