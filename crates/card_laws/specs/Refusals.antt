-- Why a file of cards is refused (paper 02, request 6): "Refusals: 16 a line out of form or order (in writing, also a byte 10 in a text), 17 check differs,
-- 18 a card number repeated or falling, in that order; then the formula's own number, target included. In writing, 10 comes first if the book would not fit
-- the lent buffer. The first refused card decides; its first byte is returned (in writing, where it would stand)".
use Rattle.std.specs.Prelude.{◌≡◌, true, false, List, ◌∷◌, ◌++◌, ℕ, ◌≤◌, ◌<◌, length, Err}
use Rattle.card_laws.specs.Verdicts.{Verdict}
use Rattle.card_laws.specs.Cards.{Card, card, check_text, cards_bytes, Form, formed, out, card_form}
use Rattle.card_laws.specs.Reading.{last_of, Valid}
use Rattle.card_laws.specs.Writing.{writable}

module _ (formula : List ℕ → List ℕ → Verdict) where
  -- why the card of a form is refused behind the number `last`: each reason stands only where none before it does
  pub data Refused (last : ℕ) : Form → ℕ → Type 0 where
    out_of_form : Refused last out 16
    wrong_check : {n : ℕ} {t e k r : List ℕ} → (k ≡ check_text t e → ⊥) → Refused last (formed n t e k r) 17
    not_above : {n : ℕ} {t e k r : List ℕ} → k ≡ check_text t e → n ≤ last → Refused last (formed n t e k r) 18
    own : {n a : ℕ} {t e k r : List ℕ} → k ≡ check_text t e → last < n → formula t e ≡ Err a → Refused last (formed n t e k r) a

  -- a file that is good cards and then one that is refused, and that card's first byte
  pub record FirstRefused (s : List ℕ) (a p : ℕ) : Type 0 where
    pub before : List Card
    pub rest : List ℕ
    pub bytes : s ≡ cards_bytes before ++ rest
    pub some : 0 < length rest
    pub good : Valid formula 0 before
    pub why : Refused (last_of 0 before) (card_form rest) a
    pub place : p ≡ length (cards_bytes before)

  -- why a card is not written behind the number `last`, in the same order
  pub data Unfit (last : ℕ) : Card → ℕ → Type 0 where
    no_lines : {c : Card} → writable c ≡ false → Unfit last c 16
    not_above : {n : ℕ} {t e : List ℕ} → writable (card n t e) ≡ true → n ≤ last → Unfit last (card n t e) 18
    own : {n a : ℕ} {t e : List ℕ} → writable (card n t e) ≡ true → last < n → formula t e ≡ Err a → Unfit last (card n t e) a

  -- cards that are good up to one that is not written, and where that one would stand
  pub record FirstUnfit (cs : List Card) (a p : ℕ) : Type 0 where
    pub before : List Card
    pub this : Card
    pub after : List Card
    pub cards : cs ≡ before ++ this ∷ after
    pub good : Valid formula 0 before
    pub why : Unfit (last_of 0 before) this a
    pub place : p ≡ length (cards_bytes before)

  -- why cards are not written: the room is measured first, all cards counted
  pub data NotWritten (room : ℕ) (cs : List Card) : ℕ → ℕ → Type 0 where
    no_room : room < length (cards_bytes cs) → NotWritten room cs 10 0
    card_refused : {a p : ℕ} → length (cards_bytes cs) ≤ room → FirstUnfit cs a p → NotWritten room cs a p
