-- Cards as a caller gives them for writing: five words a card, as reading leaves them, which name parts of lent texts. "words behind the last whole five are
-- not looked at; bytes beyond the texts are not there".
use Rattle.std.specs.Prelude.{List, [], ◌∷◌, ℕ, zero, suc, ◌/◌, length, take, drop, get_or}
use Rattle.card_laws.specs.Cards.{Card, card}
use Rattle.card_laws.specs.Writing.{CardsWritten, done, unwritten, write_cards}
use Rattle.card_laws.specs.Formulas.{formula_answer}
use Rattle.card_write.specs.declared.Written.{Written}

-- n bytes of the texts from a place on
abbrev pub part : List ℕ → ℕ → ℕ → List ℕ
part texts a n = take n (drop a texts)

-- the card of the first five words
abbrev pub first_card : List ℕ → List ℕ → Card
first_card texts ws = card (get_or ws 0 0) (part texts (get_or ws 1 0) (get_or ws 2 0)) (part texts (get_or ws 3 0) (get_or ws 4 0))

-- so many cards
abbrev pub first_cards : List ℕ → ℕ → List ℕ → List Card
first_cards texts zero ws = []
first_cards texts (suc k) ws = first_card texts ws ∷ first_cards texts k (drop 5 ws)

unfoldable pub cards_in : List ℕ → List ℕ → List Card
cards_in texts ws = first_cards texts (length ws / 5) ws

-- the cards of the words ws, written into a buffer
abbrev pub writing : List ℕ → List ℕ → List ℕ → CardsWritten
writing texts ws buffer = write_cards formula_answer (length buffer) (cards_in texts ws)

-- ---- what is returned
abbrev pub written_in : CardsWritten → Written
written_in (done s) = record { answer = 0; place = 0; length = length s }
written_in (unwritten a p) = record { answer = a; place = p; length = 0 }
