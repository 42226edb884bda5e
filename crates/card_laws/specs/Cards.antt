-- Cards (paper 02, request 6): "Each card is four lines, each ended by one byte 10, in this order: `card=` 1 to 64 without leading zero, rising; `target=`;
-- `expr=`; `check=` five decimal digits. The check is the sum of position times byte over the whole target and expr lines with their line ends, positions
-- from 1 through both, modulo 65521."
use Rattle.std.specs.Prelude.{Bool, ◌&&◌, cond, List, [], ◌∷◌, ◌++◌, ℕ, suc, ◌+◌, ◌*◌, ◌%◌, eqb, ltb, length}
use Rattle.words.specs.Ascii.{ascii}
use Rattle.memory.specs.Names.{all_digits, decimal_value, number_below}
use Rattle.lines.specs.Printing.{low_digits, decimal_text}
use Rattle.card_laws.specs.Lines.{ended, Field, field, wrong, field_of}

-- number, target and expression
pub data Card : Type 0 where
  card : ℕ → List ℕ → List ℕ → Card

abbrev pub number_of : Card → ℕ
number_of (card n t e) = n

abbrev pub card_key : List ℕ
card_key = ascii "card="

abbrev pub target_key : List ℕ
target_key = ascii "target="

abbrev pub expr_key : List ℕ
expr_key = ascii "expr="

abbrev pub check_key : List ℕ
check_key = ascii "check="

-- ---- the check
abbrev pub modulus : ℕ
modulus = 65521

-- the sum of position times byte, from a position on
abbrev pub weigh : ℕ → List ℕ → ℕ
weigh p [] = 0
weigh p (c ∷ cs) = p * c + weigh (suc p) cs

abbrev pub check_of : List ℕ → ℕ
check_of cs = weigh 1 cs % modulus

-- "the whole target and expr lines with their line ends"
abbrev pub checked_lines : List ℕ → List ℕ → List ℕ
checked_lines t e = ended (target_key ++ t) (ended (expr_key ++ e) [])

unfoldable pub check_text : List ℕ → List ℕ → List ℕ
check_text t e = low_digits 10 5 (check_of (checked_lines t e))

-- ---- a card's bytes, and those of cards in turn
abbrev pub card_line : ℕ → List ℕ
card_line n = card_key ++ decimal_text n

abbrev pub card_before : Card → List ℕ → List ℕ
card_before (card n t e) r = ended (card_line n) (ended (target_key ++ t) (ended (expr_key ++ e) (ended (check_key ++ check_text t e) r)))

abbrev pub card_bytes : Card → List ℕ
card_bytes c = card_before c []

abbrev pub cards_bytes : List Card → List ℕ
cards_bytes [] = []
cards_bytes (c ∷ cs) = card_bytes c ++ cards_bytes cs

-- ---- four lines in form and order: number, target, expression, check and what follows
pub data Form : Type 0 where
  formed : ℕ → List ℕ → List ℕ → List ℕ → List ℕ → Form
  out : Form

abbrev pub most_cards : ℕ
most_cards = 64

-- "1 to 64 without leading zero": 0 where the text is that of no such number
unfoldable pub card_number : List ℕ → ℕ
card_number v = cond (number_below (suc most_cards) v) (decimal_value v) 0

-- "five decimal digits"
unfoldable pub is_check : List ℕ → Bool
is_check k = eqb (length k) 5 && all_digits k

abbrev pub numbered : ℕ → List ℕ → List ℕ → List ℕ → List ℕ → Form
numbered n t e k r = cond (ltb 0 n && is_check k) (formed n t e k r) out

abbrev pub with_check : List ℕ → List ℕ → List ℕ → Field → Form
with_check v t e (field k r) = numbered (card_number v) t e k r
with_check v t e wrong = out

abbrev pub with_expr : List ℕ → List ℕ → Field → Form
with_expr v t (field e r) = with_check v t e (field_of check_key r)
with_expr v t wrong = out

abbrev pub with_target : List ℕ → Field → Form
with_target v (field t r) = with_expr v t (field_of expr_key r)
with_target v wrong = out

abbrev pub with_number : Field → Form
with_number (field v r) = with_target v (field_of target_key r)
with_number wrong = out

unfoldable pub card_form : List ℕ → Form
card_form s = with_number (field_of card_key s)
