-- For the contracts of private functions: what the words of a first cell and of a count say of the range.
use Rattle.std.specs.Prelude.{ℕ, ◌<◌, ℤ, get_or}
use Rattle.values.specs.Patterns.{signed_of}
use Rattle.values.specs.declared.CompareOp.TheVariants.{Eq}
use Rattle.memory.specs.declared.Bank.{Bank}
use Rattle.memory.specs.Layout.{layout_of}
use Rattle.totals.specs.declared.TotalOp.{TotalOp}
use Rattle.totals.specs.declared.TotalOp.TheVariants.{Sum}
use Rattle.totals.specs.declared.MatchOp.{MatchOp}
use Rattle.totals.specs.declared.MatchOp.TheVariants.{Count}
use Rattle.totals.specs.Totals.{good_count, span_of}
use Rattle.totals.specs.Numbers.{total_ops, match_ops}
use Rattle.token_table.specs.private.Table.{word_operand, word_number, word_place}
use Rattle.grammar.specs.Tree.{Diagnostic, unless, wrong_count_at}
use Rattle.grammar.specs.Functions.{function_operator}
use Rattle.draft.specs.private.Words.{bank_at}

-- totals by number, and those of functions
abbrev pub total_at : ℕ → TotalOp
total_at n = get_or total_ops n Sum

abbrev pub match_at : ℕ → MatchOp
match_at n = get_or match_ops n (Count Eq)

abbrev pub function_total : ℕ → TotalOp
function_total f = total_at (function_operator f)

abbrev pub function_match : ℕ → MatchOp
function_match f = match_at (function_operator f)

-- the bank of a cell's word, and a numeral's value
abbrev pub cell_bank : ℕ → Bank
cell_bank w = bank_at (word_operand w)

abbrev pub count_of : ℕ → ℤ
count_of w = signed_of 32 (word_number w)

-- the word is one of a cell that there is
pub record CellWord (w : ℕ) : Type 0 where
  pub few : word_operand w < 6
  pub inside : word_number w < (layout_of (cell_bank w)).elements

-- the count in the code, and what is wrong with the range
abbrev pub range_span : ℕ → ℕ → ℕ
range_span first count = span_of (cell_bank first) (word_number first) (count_of count)

abbrev pub range_wrong : ℕ → ℕ → Diagnostic
range_wrong first count = unless (good_count (cell_bank first) (word_number first) (count_of count)) (wrong_count_at (word_place count))
