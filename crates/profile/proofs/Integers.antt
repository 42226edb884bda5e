-- What is not real is of the kind Int, and leaves it where its operands are.
use mathlib.Core.Path.{◌≡◌, refl, sym}
use mathlib.Core.Bool.{true, false, not}
use Rattle.values.specs.declared.Kind.{Kind}
use Rattle.values.specs.declared.Kind.TheVariants as K
use Rattle.operators.specs.declared.UnaryOp.{UnaryOp}
use Rattle.operators.specs.declared.UnaryOp.TheVariants as U
use Rattle.operators.specs.declared.BinaryOp.{BinaryOp}
use Rattle.operators.specs.declared.BinaryOp.TheVariants as B
use Rattle.operators.specs.Kinds.{is_int, join, unary_kind, binary_kind}
use Rattle.memory.specs.declared.Bank.{Bank}
use Rattle.memory.specs.Cells.{bank_kind}
use Rattle.totals.specs.declared.TotalOp.{TotalOp}
use Rattle.totals.specs.declared.TotalOp.TheVariants as T'
use Rattle.totals.specs.declared.MatchOp.{MatchOp}
use Rattle.totals.specs.declared.MatchOp.TheVariants as M'
use Rattle.totals.specs.Totals.{total_kind, match_kind}
use Rattle.profile.specs.Parts.{real_bank, real_unary, real_total}
use Rattle.profile.proofs.Tests.{false-true}

-- a kind that is not real
pub is-int : (k : Kind) → not (is_int k) ≡ false → k ≡ K.Int
is-int K.Int e = refl
is-int K.Real e = false-true (sym e)

-- one that is tested
pub int-kind : (k : Kind) → is_int k ≡ true → k ≡ K.Int
int-kind K.Int e = refl
int-kind K.Real e = false-true e

pub bank-int : (b : Bank) → real_bank b ≡ false → bank_kind b ≡ K.Int
bank-int b e = is-int (bank_kind b) e

pub join-int : (a b : Kind) → a ≡ K.Int → b ≡ K.Int → join a b ≡ K.Int
join-int a b e f = rw (e, f) refl

pub unary_int : (o : UnaryOp) (k : Kind) → real_unary o ≡ false → k ≡ K.Int → unary_kind o k ≡ K.Int
unary_int U.Neg k n e = e
unary_int U.Complement k n e = refl
unary_int U.Not k n e = refl
unary_int U.Abs k n e = e
unary_int U.ToReal k n e = false-true (sym n)
unary_int U.Trunc k n e = refl
unary_int U.Round k n e = refl
unary_int U.Frac k n e = false-true (sym n)

pub binary_int : (o : BinaryOp) (a b : Kind) → a ≡ K.Int → b ≡ K.Int → binary_kind o a b ≡ K.Int
binary_int (B.Arith o) a b e f = join-int a b e f
binary_int B.Power a b e f = e
binary_int (B.Shift o) a b e f = refl
binary_int (B.Compare o) a b e f = refl
binary_int (B.Bits o) a b e f = refl
binary_int (B.Choice o) a b e f = join-int a b e f

pub total-int : (o : TotalOp) (b : Bank) → real_total o ≡ false → real_bank b ≡ false → total_kind o b ≡ K.Int
total-int T'.Sum b n e = bank-int b e
total-int T'.Average b n e = false-true (sym n)
total-int (T'.Choice o) b n e = bank-int b e

pub match-int : (o : MatchOp) (b : Bank) → real_bank b ≡ false → match_kind o b ≡ K.Int
match-int (M'.Count o) b e = refl
match-int (M'.Sum o) b e = bank-int b e
