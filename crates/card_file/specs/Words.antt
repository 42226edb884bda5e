-- Cards as words: what reading a file leaves in a table of 323 words, five of them a card.
use Rattle.std.specs.Prelude.{List, [], ◌∷◌, ◌++◌, ℕ, ◌+◌, ◌-◌, ◌≤◌, ◌<◌, length, replicate}
use Rattle.std.proofs.lemmas.List.Edits.{sets}
use Rattle.lines.specs.Printing.{width_of}
use Rattle.card_laws.specs.Cards.{Card, card, card_bytes}
use Rattle.card_laws.specs.Reading.{CardsRead, good, bad}
use Rattle.card_file.specs.declared.form.FourLines.{FourLines}
use Rattle.card_file.specs.Spans.{target_at, expr_at}

-- ---- reading: a card that stands at a place of the file
abbrev pub card_words : ℕ → Card → List ℕ
card_words at (card n t e) = n ∷ (at + target_at (width_of n)) ∷ length t ∷ (at + expr_at (width_of n) (length t)) ∷ length e ∷ []

-- cards one behind the other, from a place on
abbrev pub cards_words : ℕ → List Card → List ℕ
cards_words at [] = []
cards_words at (c ∷ cs) = card_words at c ++ cards_words (at + length (card_bytes c)) cs

-- answer, place and count before them; "no card is handed out" of a refused file, and all behind the last card is 0
unfoldable pub read_words : CardsRead → List ℕ
read_words (good cs) = sets (replicate 323 0) 0 (0 ∷ 0 ∷ length cs ∷ cards_words 0 cs)
read_words (bad a p) = sets (replicate 323 0) 0 (a ∷ p ∷ [])

-- the same words of a form's places
abbrev pub span_words : ℕ → FourLines → List ℕ
span_words at f = f.number ∷ (at + f.target) ∷ (f.expr - 6 - f.target) ∷ (at + f.expr) ∷ (f.check - 7 - f.expr) ∷ []

-- the places are in order, and fit 32 bits
pub record SmallSpans (at : ℕ) (f : FourLines) : Type 0 where
  pub target : f.target + 6 ≤ f.expr
  pub expr : f.expr + 7 ≤ f.check
  pub small : at + f.check < 4294967296
