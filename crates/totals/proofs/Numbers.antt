-- Kinds of totals by number.
use Rattle.std.specs.Prelude.{Option, Some, None}
use mathlib.Core.Path.{◌≡◌, refl}
use mathlib.Core.Logic.{◌≢◌}
use Prim.Native.Nat.{ℕ, ◌≤◌, ◌<◌}
use native.Mathlib.Omega.{arith}
use borrow.Author.Rules.{rules}
use Rattle.operators.specs.Kinds.{kind_number}
use Rattle.operators.proofs.Typed.{kind-small}
use Rattle.operators.proofs.Ranges.{in-range}
use Rattle.memory.specs.declared.Bank.{Bank}
use Rattle.memory.specs.Cells.{bank_kind}
use Rattle.memory.specs.Numbers.{bank_typed}
use Rattle.totals.specs.Numbers.{match_of, total_typed, match_typed}
use Rattle.totals.specs.declared.MatchOp.{MatchOp}
use Rattle.totals.specs.declared.TotalOp.{TotalOp}

no_kind : (b : Bank) → kind_number (bank_kind b) ≡ 2 → ⊥
no_kind b e = omega (arith, e, kind-small (bank_kind b))

-- of no bank
pub total-none : (t : (Option TotalOp)) (b : Option Bank) → bank_typed b ≡ 2 → 2 ≡ total_typed t b
total-none (Some o) (Some b) e = absurd (no_kind b e)
total-none (Some o) None e = refl
total-none None b e = refl

pub match_none : (m : (Option MatchOp)) (b : Option Bank) → bank_typed b ≡ 2 → 2 ≡ match_typed m b
match_none (Some o) (Some b) e = absurd (no_kind b e)
match_none (Some o) None e = refl
match_none None b e = refl

-- what holds of every bank, of a number that is a bank's
pub of-bank : (P : Option Bank → Type 0) → ((b : Bank) → P (Some b)) → (b : Option Bank) → bank_typed b ≢ 2 → P b
of-bank P h (Some b) e = h b
of-bank P h None e = absurd (e refl)

module _ {o : ℕ} where
  pub counts : o < 6 → (b : Bank) → 0 ≡ match_typed (match_of o) (Some b)
  counts h = in-range (λ n. (b : Bank) → 0 ≡ match_typed (match_of n) (Some b)) 0 6 (search rules) o (omega arith) h

  pub sums : 6 ≤ o → o < 12 → (b : Bank) → kind_number (bank_kind b) ≡ match_typed (match_of o) (Some b)
  sums l h = in-range (λ n. (b : Bank) → kind_number (bank_kind b) ≡ match_typed (match_of n) (Some b)) 6 6 (search rules) o l h
