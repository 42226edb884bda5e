-- Lines and cards as places in a text: what the functions of this crate return of the definitions of card_laws.
use Rattle.std.specs.Prelude.{Bool, true, false, List, ℕ, ◌+◌, length, Option, Some, None, Result, Ok, Err}
use Rattle.lines.specs.Printing.{width_of}
use Rattle.text.specs.Targets.{Target, to_cell, to_indexed, no_target, target_of}
use Rattle.card_laws.specs.Lines as Lines
use Rattle.card_laws.specs.Cards.{Card, card, card_key, target_key, expr_key, check_key, card_number, Form, formed, out}
use Rattle.card_laws.specs.Reading.{CardRead, taken, refused}
use Rattle.card_file.specs.declared.form.FourLines.{FourLines}

-- the length of a line's value
abbrev pub length_in : Lines.Field → Option ℕ
length_in (Lines.field v r) = Some (length v)
length_in Lines.wrong = None

abbrev pub number_in : Lines.Field → ℕ
number_in (Lines.field v r) = card_number v
number_in Lines.wrong = 0

-- the number in a card's first line, 0 where that line has not its form
unfoldable pub line_number : List ℕ → ℕ
line_number s = number_in (Lines.field_of card_key s)

-- ---- where the parts of a card stand: behind a number of w digits, a target of t bytes and an expression of e
abbrev pub target_at : ℕ → ℕ
target_at w = length card_key + w + 1 + length target_key

abbrev pub expr_at : ℕ → ℕ → ℕ
expr_at w t = target_at w + t + 1 + length expr_key

abbrev pub check_at : ℕ → ℕ → ℕ → ℕ
check_at w t e = expr_at w t + e + 1 + length check_key

abbrev pub card_end : ℕ → ℕ → ℕ → ℕ
card_end w t e = check_at w t e + 6

-- where the lines of a card stand
abbrev pub card_places : Card → FourLines
card_places (card n t e) =
    record {
      number = n;
      target = target_at (width_of n);
      expr = expr_at (width_of n) (length t);
      check = check_at (width_of n) (length t) (length e);
      end = card_end (width_of n) (length t) (length e);
    }

unfoldable pub spans : Form → Option FourLines
spans (formed n t e k r) = Some (card_places (card n t e))
spans out = None

-- of a card that is taken where its lines stand, else what refuses it
abbrev pub places_in : CardRead → Result FourLines ℕ
places_in (taken c r) = Ok (card_places c)
places_in (refused a) = Err a

abbrev pub target_test : Target → Bool
target_test (to_cell b i) = true
target_test (to_indexed b t) = true
target_test no_target = false

abbrev pub is_target : List ℕ → Bool
is_target s = target_test (target_of s)
