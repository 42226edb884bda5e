-- The checks of the example of docs/CARDS.md, by computing.
use mathlib.Core.Path.{◌≡◌, refl}
use Rattle.words.specs.Ascii.{ascii}
use Rattle.card_laws.specs.Cards.{check_text}

first : check_text (ascii "R0") (ascii "(D1 + 2) / 4.0") ≡ ascii "24418"
unfolding check_text
first = refl

second : check_text (ascii "D[V10 + 32]") (ascii "SUMR(D0, 10)") ≡ ascii "43152"
unfolding check_text
second = refl

third : check_text (ascii "C3") (ascii "SINCE(D40) >= 1500") ≡ ascii "34355"
unfolding check_text
third = refl
