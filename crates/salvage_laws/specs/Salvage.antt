-- Dawn salvage (paper 02, request 7): "A tool reads such a book, starts again at each line that begins `card=`, writes the cards that stand whole by Ask 6,
-- and names each part left out, in a separate output, in file order, by three lines each: `first=` (its first byte), `length=` and `answer=`."
use Rattle.std.specs.Prelude.{Bool, ◌&&◌, cond, List, [], ◌∷◌, ◌++◌, ℕ, ◌+◌, eqb, leb, length}
use Rattle.words.specs.Ascii.{ascii}
use Rattle.lines.specs.Printing.{decimal_text}
use Rattle.card_laws.specs.Verdicts.{Verdict}
use Rattle.card_laws.specs.Lines.{line_end, ended, begins}
use Rattle.card_laws.specs.Cards.{Card, number_of, card_key, Form, formed, out, card_form}
use Rattle.card_laws.specs.Reading.{CardRead, taken, refused, judged}
use Rattle.salvage_laws.specs.Cut.{cut}

-- "A part runs from one such line up to the next": it ends behind a line end that `card=` follows. "bytes before the first are a part"
abbrev pub card_follows : ℕ → List ℕ → Bool
card_follows c cs = eqb c line_end && begins card_key cs

abbrev pub parts : List ℕ → List (List ℕ)
parts f = cut card_follows f

-- "a part with anything beyond its four lines is 16 too", before the check is looked at
abbrev pub exact_form : Form → Form
exact_form out = out
exact_form (formed n t e k []) = formed n t e k []
exact_form (formed n t e k (c ∷ r)) = out

pub data PartAnswer : Type 0 where
  keeps : Card → PartAnswer
  leaves : ℕ → PartAnswer

abbrev pub answer_of : CardRead → PartAnswer
answer_of (taken c r) = keeps c
answer_of (refused a) = leaves a

-- "A number not above the last kept one is 18, so the earlier card stays"
abbrev pub last_kept : ℕ → PartAnswer → ℕ
last_kept last (keeps c) = number_of c
last_kept last (leaves a) = last

-- a part, its first byte and its answer
pub data Part : Type 0 where
  part : ℕ → List ℕ → PartAnswer → Part

abbrev pub part_bytes : Part → List ℕ
part_bytes (part at p a) = p

abbrev pub all_bytes : List Part → List ℕ
all_bytes [] = []
all_bytes (p ∷ ps) = part_bytes p ++ all_bytes ps

-- "writes the cards that stand whole", "unchanged in every byte"
abbrev pub kept_before : Part → List ℕ → List ℕ
kept_before (part at p (keeps c)) r = p ++ r
kept_before (part at p (leaves a)) r = r

abbrev pub kept_bytes : List Part → List ℕ
kept_bytes [] = []
kept_bytes (p ∷ ps) = kept_before p (kept_bytes ps)

abbrev pub card_before : Part → List Card → List Card
card_before (part at p (keeps c)) r = c ∷ r
card_before (part at p (leaves a)) r = r

abbrev pub kept_cards : List Part → List Card
kept_cards [] = []
kept_cards (p ∷ ps) = card_before p (kept_cards ps)

-- "by three lines each: `first=` (its first byte), `length=` and `answer=`"
unfoldable pub name_lines : ℕ → ℕ → ℕ → List ℕ
name_lines at n a = ended (ascii "first=" ++ decimal_text at) (ended (ascii "length=" ++ decimal_text n) (ended (ascii "answer=" ++ decimal_text a) []))

abbrev pub named_before : Part → List ℕ → List ℕ
named_before (part at p (keeps c)) r = r
named_before (part at p (leaves a)) r = name_lines at (length p) a ++ r

abbrev pub named_bytes : List Part → List ℕ
named_bytes [] = []
named_bytes (p ∷ ps) = named_before p (named_bytes ps)

-- ---- the two outputs
abbrev pub fits : ℕ → ℕ → List Part → Bool
fits room room' ps = leb (length (kept_bytes ps)) room && leb (length (named_bytes ps)) room'

pub data Salvage : Type 0 where
  rescued : List ℕ → List ℕ → Salvage
  unfit : Salvage

-- "10 if either output would not fit its lent buffer", and then neither is written
abbrev pub handed : ℕ → ℕ → List Part → Salvage
handed room room' ps = cond (fits room room' ps) (rescued (kept_bytes ps) (named_bytes ps)) unfit

module _ (formula : List ℕ → List ℕ → Verdict) where
  abbrev pub part_answer : ℕ → List ℕ → PartAnswer
  part_answer last p = answer_of (judged formula last (exact_form (card_form p)))

  -- the parts in order; `last` is the last kept number, `at` the first byte of what is left
  abbrev pub classify_parts : ℕ → ℕ → List (List ℕ) → List Part
  classify_parts last at [] = []
  classify_parts last at (p ∷ ps) = part at p (part_answer last p) ∷ classify_parts (last_kept last (part_answer last p)) (at + length p) ps

  abbrev pub salvaged : List ℕ → List Part
  salvaged f = classify_parts 0 0 (parts f)

  abbrev pub salvage : ℕ → ℕ → List ℕ → Salvage
  salvage room room' f = handed room room' (salvaged f)
