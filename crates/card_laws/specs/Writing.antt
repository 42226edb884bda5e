-- Writing a file of cards (paper 02, request 6): "16 .. (in writing, also a byte 10 in a text)"; "In writing, 10 comes first if the book would not fit the
-- lent buffer. The first refused card decides; its first byte is returned (in writing, where it would stand)". A number outside 1 to 64 is out of form. 17
-- cannot arise.
use Rattle.std.specs.Prelude.{Bool, ◌&&◌, cond, List, [], ◌∷◌, ℕ, suc, ◌+◌, ltb, length, Ok, Err}
use Rattle.std.proofs.lemmas.List.Edits.{sets}
use Rattle.card_laws.specs.Lines.{line_end, lacks}
use Rattle.card_laws.specs.Cards.{Card, card, number_of, card_bytes, cards_bytes, most_cards}
use Rattle.card_laws.specs.Verdicts.{Verdict}

pub data CardsWritten : Type 0 where
  done : List ℕ → CardsWritten
  unwritten : ℕ → ℕ → CardsWritten

-- the lent buffer afterwards
abbrev pub written_bytes : List ℕ → CardsWritten → List ℕ
written_bytes out (done s) = sets out 0 s
written_bytes out (unwritten a p) = out

-- the card's lines would be in form
abbrev pub writable : Card → Bool
writable (card n t e) = lacks line_end t && lacks line_end e && ltb 0 n && ltb n (suc most_cards)

abbrev pub unless_here : Verdict → ℕ → CardsWritten → CardsWritten
unless_here (Ok _) at w = w
unless_here (Err a) at w = unwritten a at

module _ (formula : List ℕ → List ℕ → Verdict) where
  -- 16, 18 and the formula's own, in this order
  abbrev pub card_verdict : ℕ → Card → Verdict
  card_verdict last (card n t e) = cond (writable (card n t e)) (cond (ltb last n) (formula t e) (Err 18)) (Err 16)

  -- the first refused card, else these bytes
  abbrev pub write_from : ℕ → ℕ → List Card → List ℕ → CardsWritten
  write_from last at [] s = done s
  write_from last at (c ∷ cs) s = unless_here (card_verdict last c) at (write_from (number_of c) (at + length (card_bytes c)) cs s)

  abbrev pub write_cards : ℕ → List Card → CardsWritten
  write_cards room cs = cond (ltb room (length (cards_bytes cs))) (unwritten 10 0) (write_from 0 0 cs (cards_bytes cs))
