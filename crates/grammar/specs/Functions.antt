-- The functions by number, which is their place in `functions` of tokens: the form of a call, and the operator that it applies.
use Rattle.std.specs.Prelude.{ℕ}
use Rattle.operators.specs.Tables.{unary_number, binary_number}
use Rattle.totals.specs.Numbers.{total_number, match_number}
use Rattle.tokens.specs.Words.{function_at}
use Rattle.grammar.specs.Symbols.{Form, plain, clock, ranged, matched, of_one, of_two, of_choice, of_since, form_of}

-- the number of a form
abbrev pub form_number : Form → ℕ
form_number (plain (of_one o)) = 1
form_number (plain (of_two o)) = 2
form_number (plain of_choice) = 3
form_number (plain of_since) = 4
form_number clock = 5
form_number (ranged o) = 6
form_number (matched o) = 7

-- the operator's number among those of its form; 0 where the form has one function only
abbrev pub operator_number : Form → ℕ
operator_number (plain (of_one o)) = unary_number o
operator_number (plain (of_two o)) = binary_number o
operator_number (plain of_choice) = 0
operator_number (plain of_since) = 0
operator_number clock = 0
operator_number (ranged o) = total_number o
operator_number (matched o) = match_number o

abbrev pub function_form : ℕ → ℕ
function_form f = form_number (form_of (function_at f))

abbrev pub function_operator : ℕ → ℕ
function_operator f = operator_number (form_of (function_at f))
