-- Reading a file of cards (paper 02, request 6): "refusals: 16 a line out of form or order .., 17 check differs, 18 a card number repeated or falling, in
-- that order; then the formula's own number, target included. .. The first refused card decides; its first byte is returned .. and no card is handed out."
-- What is refused of a target and an expression is a parameter; Formulas has the real one.
use Rattle.std.specs.Prelude.{◌≡◌, Bool, true, false, cond, List, [], ◌∷◌, ℕ, zero, suc, ◌+◌, ◌≤◌, ◌<◌, ltb, length, Ok, Err}
use Rattle.tokens.specs.Symbols.{equal_bytes}
use Rattle.card_laws.specs.Verdicts.{Verdict}
use Rattle.card_laws.specs.Cards.{Card, card, number_of, card_bytes, check_text, Form, formed, out, card_form, most_cards}

-- a card and what follows it, or its refusal
pub data CardRead : Type 0 where
  taken : Card → List ℕ → CardRead
  refused : ℕ → CardRead

abbrev pub unless_refused : Card → List ℕ → Verdict → CardRead
unless_refused c r (Ok _) = taken c r
unless_refused c r (Err a) = refused a

-- the cards of a file, or the refusal of its first refused card and that card's first byte
pub data CardsRead : Type 0 where
  good : List Card → CardsRead
  bad : ℕ → ℕ → CardsRead

abbrev pub also_card : Card → CardsRead → CardsRead
also_card c (good cs) = good (c ∷ cs)
also_card c (bad a p) = bad a p

abbrev pub then_cards : ℕ → CardRead → (Card → List ℕ → CardsRead) → CardsRead
then_cards at (taken c r) rest = also_card c (rest c r)
then_cards at (refused a) rest = bad a at

-- the number of the last card; of none the given one
abbrev pub last_of : ℕ → List Card → ℕ
last_of last [] = last
last_of last (c ∷ cs) = last_of (number_of c) cs

abbrev pub is_empty : List ℕ → Bool
is_empty [] = true
is_empty (c ∷ s) = false

module _ (formula : List ℕ → List ℕ → Verdict) where
  -- 16, 17, 18 and the formula's own, in this order
  unfoldable pub judged : ℕ → Form → CardRead
  judged last out = refused 16
  judged last (formed n t e k r) =
      cond (equal_bytes k (check_text t e)) (cond (ltb last n) (unless_refused (card n t e) r (formula t e)) (refused 18)) (refused 17)

  abbrev pub read_card : ℕ → List ℕ → CardRead
  read_card last s = judged last (card_form s)

  -- card after card until nothing is left; a card has a byte, so as many steps as bytes are enough
  unfoldable pub read_from : ℕ → ℕ → ℕ → List ℕ → CardsRead
  read_from zero last at s = good []
  read_from (suc f) last at s =
      cond (is_empty s) (good []) (then_cards at (read_card last s) (λ c r. read_from f (number_of c) (at + length (card_bytes c)) r))

  abbrev pub read_cards : List ℕ → CardsRead
  read_cards s = read_from (length s) 0 0 s

  -- a good card above the number `last`
  pub data GoodCard (last : ℕ) : Card → Type 0 where
    good_card : {n : ℕ} {t e : List ℕ} → last < n → n ≤ most_cards → formula t e ≡ Ok tt → GoodCard last (card n t e)

  -- "accepted cards, numbers rising"
  pub data Valid : ℕ → List Card → Type 0 where
    none : {last : ℕ} → Valid last []
    next : {last : ℕ} {c : Card} {cs : List Card} → GoodCard last c → Valid (number_of c) cs → Valid last (c ∷ cs)
