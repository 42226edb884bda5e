-- What reading a good file hands out (paper 02, request 6: "Up to 64 cards in one file, to read and write"). proofs/Tables.antt proves the record.
use Rattle.std.specs.Prelude.{◌≡◌, List, ℕ, ◌*◌, ◌≤◌, length, take, drop}
use Rattle.card_laws.specs.Cards.{Card, most_cards}
use Rattle.card_laws.specs.Reading.{good, read_cards}
use Rattle.card_laws.specs.Formulas.{formula_answer}
use Rattle.card_file.specs.Words.{read_words}
use Rattle.card_write.specs.Given.{cards_in}

pub record TableTheorems : Type 0 where
  -- the words name the texts of the cards in the file itself: given to a writing, they are those cards
  pub handed : (s : List ℕ) (cs : List Card) → read_cards formula_answer s ≡ good cs → cards_in s (take (5 * length cs) (drop 3 (read_words (good cs)))) ≡ cs
  -- "Up to 64 cards"
  pub few : (s : List ℕ) (cs : List Card) → read_cards formula_answer s ≡ good cs → length cs ≤ most_cards
  -- and so no good file is longer than 64 cards of 1,024 bytes in both texts
  pub longest : (s : List ℕ) (cs : List Card) → read_cards formula_answer s ≡ good cs → length s ≤ 133239
