-- Samples, by computing: texts and what they are formatted as.
use mathlib.Core.Path.{◌≡◌, refl}
use Rattle.words.specs.Ascii.{ascii}
use Rattle.memory.specs.Names.{letter_bank, named_rule}
use Rattle.tokens.specs.Words.{other_word, word_token}
use Rattle.tokens.specs.Scan.{lexeme_of, scan_from}
use Rattle.grammar.specs.Symbols.{group_number}
use Rattle.grammar.specs.Parse.{parse_from}
use Rattle.text.specs.Judge.{judge_from}
use Rattle.format_laws.specs.Formatted.{formatted}
use Rattle.format_laws.specs.Format.{gives, refuses, formatting, text_limit}

-- ---- unary operators, and before a power
sign-of-power : formatting (ascii "-(2**2)") text_limit ≡ gives (ascii "-(2 ** 2)")
unfolding formatting judge_from formatted scan_from parse_from group_number other_word word_token letter_bank named_rule lexeme_of
sign-of-power = refl

power-of-sign : formatting (ascii "(-2)**2") text_limit ≡ gives (ascii "-2 ** 2")
unfolding formatting judge_from formatted scan_from parse_from group_number other_word word_token letter_bank named_rule lexeme_of
power-of-sign = refl

signs : formatting (ascii "-(-1)") text_limit ≡ gives (ascii "--1")
unfolding formatting judge_from formatted scan_from parse_from group_number other_word word_token letter_bank named_rule lexeme_of
signs = refl

sign-of-call : formatting (ascii "-(ABS (1))") text_limit ≡ gives (ascii "-ABS(1)")
unfolding formatting judge_from formatted scan_from parse_from group_number other_word word_token letter_bank named_rule lexeme_of
sign-of-call = refl

not_equal : formatting (ascii "!(D0==1)") text_limit ≡ gives (ascii "!(D0 == 1)")
unfolding formatting judge_from formatted scan_from parse_from group_number other_word word_token letter_bank named_rule lexeme_of
not_equal = refl

-- ---- the same group: bare on the left, enclosed on the right
left-power : formatting (ascii "((2**3))**2") text_limit ≡ gives (ascii "2 ** 3 ** 2")
unfolding formatting judge_from formatted scan_from parse_from group_number other_word word_token letter_bank named_rule lexeme_of
left-power = refl

right-difference : formatting (ascii "1-(2-3)") text_limit ≡ gives (ascii "1 - (2 - 3)")
unfolding formatting judge_from formatted scan_from parse_from group_number other_word word_token letter_bank named_rule lexeme_of
right-difference = refl

left-difference : formatting (ascii "(1-2)-3") text_limit ≡ gives (ascii "1 - 2 - 3")
unfolding formatting judge_from formatted scan_from parse_from group_number other_word word_token letter_bank named_rule lexeme_of
left-difference = refl

minus_minus : formatting (ascii "5--3") text_limit ≡ gives (ascii "5 - -3")
unfolding formatting judge_from formatted scan_from parse_from group_number other_word word_token letter_bank named_rule lexeme_of
minus_minus = refl

-- ---- another group: enclosed on either side
sum_first : formatting (ascii "(1+2)*3") text_limit ≡ gives (ascii "(1 + 2) * 3")
unfolding formatting judge_from formatted scan_from parse_from group_number other_word word_token letter_bank named_rule lexeme_of
sum_first = refl

product-second : formatting (ascii "1+2*3") text_limit ≡ gives (ascii "1 + (2 * 3)")
unfolding formatting judge_from formatted scan_from parse_from group_number other_word word_token letter_bank named_rule lexeme_of
product-second = refl

product-first : formatting (ascii "1*2+3") text_limit ≡ gives (ascii "(1 * 2) + 3")
unfolding formatting judge_from formatted scan_from parse_from group_number other_word word_token letter_bank named_rule lexeme_of
product-first = refl

logic : formatting (ascii "D0||D1&&D2") text_limit ≡ gives (ascii "D0 || (D1 && D2)")
unfolding formatting judge_from formatted scan_from parse_from group_number other_word word_token letter_bank named_rule lexeme_of
logic = refl

-- ---- calls and indexes, nothing enclosed within
index : formatting (ascii "D [ V0+1 ]") text_limit ≡ gives (ascii "D[V0 + 1]")
unfolding formatting judge_from formatted scan_from parse_from group_number other_word word_token letter_bank named_rule lexeme_of
index = refl

calls : formatting (ascii "MAX(1+2,IF(D0,1,2))") text_limit ≡ gives (ascii "MAX(1 + 2, IF(D0, 1, 2))")
unfolding formatting judge_from formatted scan_from parse_from group_number other_word word_token letter_bank named_rule lexeme_of
calls = refl

clock : formatting (ascii "SINCE(5)+TICKms ( )") text_limit ≡ gives (ascii "SINCE(5) + TICKms()")
unfolding formatting judge_from formatted scan_from parse_from group_number other_word word_token letter_bank named_rule lexeme_of
clock = refl

sum : formatting (ascii "SUMR(D0,0x0A)") text_limit ≡ gives (ascii "SUMR(D0, 0x0A)")
unfolding formatting judge_from formatted scan_from parse_from group_number other_word word_token letter_bank named_rule lexeme_of
sum = refl

sum-if : formatting (ascii "SUMIFGE(D1+2,V0,010)") text_limit ≡ gives (ascii "SUMIFGE(D1 + 2, V0, 010)")
unfolding formatting judge_from formatted scan_from parse_from group_number other_word word_token letter_bank named_rule lexeme_of
sum-if = refl

-- ---- as typed
names : formatting (ascii "TOINT(1.50)+TRUNC(1E+5)") text_limit ≡ gives (ascii "TOINT(1.50) + TRUNC(1E+5)")
unfolding formatting judge_from formatted scan_from parse_from group_number other_word word_token letter_bank named_rule lexeme_of
names = refl

numerals : formatting (ascii "007+0x0A") text_limit ≡ gives (ascii "007 + 0x0A")
unfolding formatting judge_from formatted scan_from parse_from group_number other_word word_token letter_bank named_rule lexeme_of
numerals = refl

-- ---- refusals
short_buffer : formatting (ascii "1+2*3") 0 ≡ refuses 10 0
unfolding formatting judge_from formatted scan_from parse_from group_number other_word word_token letter_bank named_rule lexeme_of
short_buffer = refl

own_first : formatting (ascii "1+") 0 ≡ refuses 7 2
unfolding formatting judge_from formatted scan_from parse_from group_number other_word word_token letter_bank named_rule lexeme_of
own_first = refl

all-groups : formatting (ascii "1||1&&1|1^1&1==1<1<<1+1*1**1") text_limit ≡ refuses 8 0
unfolding formatting judge_from formatted scan_from parse_from group_number other_word word_token letter_bank named_rule lexeme_of
all-groups = refl
