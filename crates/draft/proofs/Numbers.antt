-- The operand that a table has at a number is the operand of that number.
use mathlib.Core.Path.{◌≡◌, refl}
use Prim.Native.Nat.{ℕ, ◌<◌}
use Rattle.operators.specs.declared.BinaryOp.TheVariants.{Power}
use Rattle.operators.specs.Tables.{binary_ops, unary_number, binary_number}
use Rattle.memory.specs.Numbers.{bank_number}
use Rattle.totals.specs.Numbers.{total_number, match_number}
use Rattle.code.proofs.Numbers.{number-at, bank-forth, unary-forth, total-forth, match-forth}
use Rattle.draft.specs.private.Words.{bank_at, unary_at, binary_at}
use Rattle.draft.specs.private.Ranges.{total_at, match_at}

pub bank-at : (n : ℕ) → n < 6 → bank_number (bank_at n) ≡ n
bank-at = bank-forth

pub total-at : (n : ℕ) → n < 4 → total_number (total_at n) ≡ n
total-at = total-forth

pub match-at : (n : ℕ) → n < 12 → match_number (match_at n) ≡ n
match-at = match-forth

pub unary-at : (n : ℕ) → n < 8 → unary_number (unary_at n) ≡ n
unary-at = unary-forth

pub binary-at : (n : ℕ) → n < 20 → binary_number (binary_at n) ≡ n
binary-at = number-at binary_number binary_ops Power refl
