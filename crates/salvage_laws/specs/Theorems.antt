-- What is promised of the salvage, for every file (paper 02, request 7); proofs/Theorems.antt proves the record for the real judge.
use Rattle.std.specs.Prelude.{◌≡◌, true, List, [], ◌∷◌, ◌++◌, ◌⊎◌, ℕ, ◌+◌, ◌*◌, ◌≤◌, ◌<◌, length, take, drop}
use Rattle.card_laws.specs.Verdicts.{Verdict}
use Rattle.card_laws.specs.Lines.{ended, begins}
use Rattle.card_laws.specs.Cards.{Card, number_of, card_key, card_bytes, cards_bytes}
use Rattle.card_laws.specs.Reading.{good, read_cards, GoodCard, Valid}
use Rattle.salvage_laws.specs.Cut.{joined}
use Rattle.salvage_laws.specs.Salvage.{parts, PartAnswer, keeps, leaves, Part, part, all_bytes, kept_bytes, kept_cards, name_lines, named_bytes}
use Rattle.salvage_laws.specs.Salvage.{rescued, unfit, part_answer, classify_parts, salvaged, salvage}

-- each part begins where those before it end
pub data Placed : ℕ → List Part → Type 0 where
  over : {at : ℕ} → Placed at []
  then : {at : ℕ} {p : List ℕ} {a : PartAnswer} {ps : List Part} → Placed (at + length p) ps → Placed at (part at p a ∷ ps)

-- the file is kept as it is, as these cards, and nothing is named
pub record Untouched (formula : List ℕ → List ℕ → Verdict) (f : List ℕ) (cs : List Card) : Type 0 where
  pub bytes : kept_bytes (salvaged formula f) ≡ f
  pub cards : kept_cards (salvaged formula f) ≡ cs
  pub named : named_bytes (salvaged formula f) ≡ []

-- of the cards ks, a part p and the cards bs the cards are kept, and p alone is named
pub record Spared (formula : List ℕ → List ℕ → Verdict) (ks bs : List Card) (p : List ℕ) (a : ℕ) : Type 0 where
  pub bytes : kept_bytes (salvaged formula (cards_bytes ks ++ (p ++ cards_bytes bs))) ≡ cards_bytes ks ++ cards_bytes bs
  pub cards : kept_cards (salvaged formula (cards_bytes ks ++ (p ++ cards_bytes bs))) ≡ ks ++ bs
  pub named : named_bytes (salvaged formula (cards_bytes ks ++ (p ++ cards_bytes bs))) ≡ name_lines (length (cards_bytes ks)) (length p) a

-- good cards in turn, the first above a number, among parts that are left out
pub data Among (formula : List ℕ → List ℕ → Verdict) : ℕ → List Card → List (List ℕ) → Type 0 where
  no_more : {last : ℕ} → Among formula last [] []
  kept_card : {last : ℕ} {c : Card} {cs : List Card} {ps : List (List ℕ)} → GoodCard formula last c → Among formula (number_of c) cs ps
      → Among formula last (c ∷ cs) (card_bytes c ∷ ps)
  left_out : {last : ℕ} (l : List ℕ) {a : ℕ} {cs : List Card} {ps : List (List ℕ)} → begins card_key (ended l []) ≡ true
      → parts (ended l []) ≡ ended l [] ∷ [] → part_answer formula last (ended l []) ≡ leaves a → Among formula last cs ps
      → Among formula last cs (ended l [] ∷ ps)

-- the number of the last card
abbrev pub last_number : ℕ → List Card → ℕ
last_number last [] = last
last_number last (c ∷ cs) = last_number (number_of c) cs

pub record SalvageTheorems (formula : List ℕ → List ℕ → Verdict) : Type 0 where
  -- "the kept and named parts together cover the file once"
  pub cover : (f : List ℕ) → (all_bytes (salvaged formula f) ≡ f) × Placed 0 (salvaged formula f)
  -- "The kept cards are unchanged in every byte": a kept part is its card's bytes, and those of the file at its first byte
  pub kept : (f : List ℕ) (before after : List Part) (at : ℕ) (p : List ℕ) (c : Card) → salvaged formula f ≡ before ++ part at p (keeps c) ∷ after
      → (p ≡ card_bytes c) × (p ≡ take (length p) (drop at f))
  -- "writes the cards that stand whole by Ask 6"
  pub valid_kept : (last : ℕ) (c : Card) → GoodCard formula last c → part_answer formula last (card_bytes c) ≡ keeps c
  -- what is kept is a file of request 6
  pub whole : (f : List ℕ) → read_cards formula (kept_bytes (salvaged formula f)) ≡ good (kept_cards (salvaged formula f))
  -- a good file is kept as it is
  pub intact : (f : List ℕ) (cs : List Card) → read_cards formula f ≡ good cs → Untouched formula f cs
  -- "A second pass over the kept cards leaves nothing out"
  pub again : (f : List ℕ) → Untouched formula (kept_bytes (salvaged formula f)) (kept_cards (salvaged formula f))
  -- a part that is left out costs no card outside it
  pub isolated : (ks bs : List Card) (l : List ℕ) (a : ℕ) → Valid formula 0 ks → Valid formula (last_number 0 ks) bs → begins card_key (ended l []) ≡ true
      → parts (ended l []) ≡ ended l [] ∷ [] → part_answer formula (last_number 0 ks) (ended l []) ≡ leaves a → Spared formula ks bs (ended l []) a
  -- nor do several: each is a part of its own, and every good card is kept
  pub spares : (cs : List Card) (ps : List (List ℕ)) → Among formula 0 cs ps
      → (salvaged formula (joined ps) ≡ classify_parts formula 0 0 ps) × (kept_bytes (salvaged formula (joined ps)) ≡ cards_bytes cs)
      × (kept_cards (salvaged formula (joined ps)) ≡ cs)
  -- a part's answer depends on its bytes and on the last kept number alone
  pub judges : (f : List ℕ) (before after : List Part) (at : ℕ) (p : List ℕ) (a : PartAnswer) → salvaged formula f ≡ before ++ part at p a ∷ after
      → a ≡ part_answer formula (last_number 0 (kept_cards before)) p
  -- the kept cards are never longer than the file
  pub shorter : (f : List ℕ) → length (kept_bytes (salvaged formula f)) ≤ length f
  -- nor are the names longer than six bytes a byte and 64 of a file below 1,000,000 bytes
  pub names : (f : List ℕ) → length f < 1000000 → length (named_bytes (salvaged formula f)) ≤ 6 * length f + 64
  -- "10 if either output would not fit its lent buffer"; else both are written
  pub refuses : (room room' : ℕ) (f : List ℕ) → (room < length (kept_bytes (salvaged formula f))) ⊎ (room' < length (named_bytes (salvaged formula f)))
      → salvage formula room room' f ≡ unfit
  pub rescues : (room room' : ℕ) (f : List ℕ) → length (kept_bytes (salvaged formula f)) ≤ room → length (named_bytes (salvaged formula f)) ≤ room'
      → salvage formula room room' f ≡ rescued (kept_bytes (salvaged formula f)) (named_bytes (salvaged formula f))
