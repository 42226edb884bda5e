-- What is promised of reading and writing cards (paper 02, request 6): proofs/Theorems.antt proves this record for every judge that keeps the laws
-- `JudgeLaws`, and for the real one.
use Rattle.std.specs.Prelude.{◌≡◌, ◌⊎◌, ◌↔◌, List, [], ◌∷◌, ◌++◌, ℕ, ◌+◌, ◌≤◌, ◌<◌, length, set, get_or, Ok, Err}
use Rattle.words.specs.Ascii.{byte}
use Rattle.card_laws.specs.Lines.{line_end, ended, Lacks}
use Rattle.card_laws.specs.Cards.{Card, card, card_line, checked_lines, cards_bytes, card_form}
use Rattle.card_laws.specs.Verdicts.{Verdict}
use Rattle.card_laws.specs.Reading.{refused, read_card, CardsRead, good, bad, read_cards, Valid}
use Rattle.card_laws.specs.Writing.{done, unwritten, written_bytes, write_cards}
use Rattle.card_laws.specs.Refusals.{Refused, FirstRefused, NotWritten}

-- What is asked of a judge: an accepted text has at most 1,024 bytes and no line end; an accepted expression has no `k`, so that no line of it can become
-- a `check=` line; its refusals are 2 to 9.
pub record JudgeLaws (formula : List ℕ → List ℕ → Verdict) : Type 0 where
  pub target_short : (t e : List ℕ) → formula t e ≡ Ok tt → length t ≤ 1024
  pub expr_short : (t e : List ℕ) → formula t e ≡ Ok tt → length e ≤ 1024
  pub target_line : (t e : List ℕ) → formula t e ≡ Ok tt → Lacks line_end t
  pub expr_line : (t e : List ℕ) → formula t e ≡ Ok tt → Lacks line_end e
  pub no_k : (t e : List ℕ) → formula t e ≡ Ok tt → Lacks (byte "k") e
  -- "the formula's own number, target included"
  pub own_answer : (t e : List ℕ) (a : ℕ) → formula t e ≡ Err a → (2 ≤ a) × (a ≤ 9)

-- refused at a place with 16 or 17
pub record Spoilt (r : CardsRead) (place : ℕ) : Type 0 where
  pub answer : ℕ
  pub is : r ≡ bad answer place
  pub which : (answer ≡ 16) ⊎ (answer ≡ 17)

-- where the target line stands of a card numbered n, behind the cards ks
abbrev pub lines_at : List Card → ℕ → ℕ
lines_at ks n = length (cards_bytes ks) + length (ended (card_line n) [])

pub record Written (formula : List ℕ → List ℕ → Verdict) (room : ℕ) (cs : List Card) (s : List ℕ) : Type 0 where
  pub bytes : s ≡ cards_bytes cs
  pub fits : length s ≤ room
  pub valid : Valid formula 0 cs
  pub reads : read_cards formula s ≡ good cs

pub record CardTheorems (formula : List ℕ → List ℕ → Verdict) : Type 0 where
  -- a file is good exactly if it is the bytes of accepted cards, numbers rising
  pub sound : (s : List ℕ) (cs : List Card) → read_cards formula s ≡ good cs → (s ≡ cards_bytes cs) × Valid formula 0 cs
  -- "a book written from accepted cards, numbers rising, reads back as those cards"
  pub back : (cs : List Card) → Valid formula 0 cs → read_cards formula (cards_bytes cs) ≡ good cs
  -- "an accepted book with one byte of those two lines of a card replaced by another is refused at that card with 16 or 17"
  pub damaged : (s : List ℕ) (ks : List Card) (n : ℕ) (t e : List ℕ) (bs : List Card) → read_cards formula s ≡ good (ks ++ card n t e ∷ bs)
      → (j : ℕ) → lines_at ks n ≤ j → j < lines_at ks n + length (checked_lines t e)
      → (x : ℕ) → x < 256 → get_or s j 0 < 256 → (x ≡ get_or s j 0 → ⊥) → Spoilt (read_cards formula (set s j x)) (length (cards_bytes ks))
  -- what is written is the cards' bytes, and reads back
  pub written : (room : ℕ) (cs : List Card) (s : List ℕ) → write_cards formula room cs ≡ done s → Written formula room cs s
  -- accepted cards, numbers rising, are written where there is room
  pub writes : (room : ℕ) (cs : List Card) → Valid formula 0 cs → length (cards_bytes cs) ≤ room → write_cards formula room cs ≡ done (cards_bytes cs)
  -- "16 a line out of form or order .., 17 check differs, 18 a card number repeated or falling, in that order; then the formula's own number, target included"
  pub check_first : (last : ℕ) (s : List ℕ) (a : ℕ) → read_card formula last s ≡ refused a ↔ Refused formula last (card_form s) a
  -- "The first refused card decides; its first byte is returned": for this reason a file is refused, and for no other
  pub first_refused : (s : List ℕ) (a p : ℕ) → read_cards formula s ≡ bad a p ↔ FirstRefused formula s a p
  -- a refusal of reading is 2 to 9 or 16 to 18
  pub answers : (s : List ℕ) (a p : ℕ) → read_cards formula s ≡ bad a p → ((2 ≤ a) × (a ≤ 9)) ⊎ ((16 ≤ a) × (a ≤ 18))
  -- "In writing, 10 comes first if the book would not fit the lent buffer. The first refused card decides; its first byte is returned (in writing,
  -- where it would stand)"
  pub first_unwritten : (room : ℕ) (cs : List Card) (a p : ℕ) → write_cards formula room cs ≡ unwritten a p ↔ NotWritten formula room cs a p
  -- cards that are refused leave the lent buffer as it was
  pub untouched : (out : List ℕ) (cs : List Card) (a p : ℕ) → write_cards formula (length out) cs ≡ unwritten a p
      → written_bytes out (write_cards formula (length out) cs) ≡ out
