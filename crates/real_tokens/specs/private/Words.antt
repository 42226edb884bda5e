-- For the contracts of private functions: whether a word's token is real, by its class and operand; and what a word found says.
use Rattle.std.specs.Prelude.{Bool, true, false, cond, ℕ, eqb}
use Rattle.operators.specs.Kinds.{kind_number}
use Rattle.values.specs.declared.Kind.TheVariants.{Real}
use Rattle.memory.specs.Numbers.{bank_numbered, bank_typed}
use Rattle.grammar.specs.Tree.{Diagnostic, clear}
use Rattle.token_table.specs.private.Table.{word_place}
use Rattle.profile_text.specs.Tokens.{real_at}

-- TOREAL, FRAC and AVGR by number
abbrev pub is_real_function : ℕ → Bool
is_real_function f = cond (eqb f 1) true (cond (eqb f 5) true (cond (eqb f 12) true false))

abbrev pub is_real_bank : ℕ → Bool
is_real_bank b = eqb (bank_typed (bank_numbered b)) (kind_number Real)

abbrev pub is_real_word : ℕ → ℕ → Bool
is_real_word class operand =
    cond (eqb class 2) true
    (cond (eqb class 3) (is_real_bank operand)
    (cond (eqb class 4) (is_real_bank operand)
    (cond (eqb class 5) (is_real_function operand)
    false)))

-- a word of a table, or 0, as a diagnostic
abbrev pub shown : ℕ → Diagnostic
shown w = cond (eqb w 0) clear (real_at (word_place w))
