-- The operands and their numbers: each has its own, and the list at a number is the operand with it.
use Rattle.std.specs.Prelude.{Some, None}
use mathlib.Core.Path.{◌≡◌, refl, sym, ◌∙◌}
use mathlib.Core.Bool.{Bool, true, false, cond, false≢true}
use mathlib.Core.List.{List, [], ◌∷◌, map}
use Prim.Native.Nat.{ℕ, zero, suc, ◌+◌, ◌<◌}
use native.Mathlib.Nat.{add-zero, zero-add, not-suc-le-zero, le_of_suc-le-suc}
use native.Mathlib.Omega.{arith}
use lib.Dec.{ltb}
use lib.ListN.{length, get_or, get_or-map}
use borrow.Author.Tests.{ltb-true}
use Rattle.reals.specs.declared.ArithOp.TheVariants.{Add, Sub, Mul, Div, Rem}
use Rattle.values.specs.declared.BitOp.TheVariants.{And, Or, Xor}
use Rattle.values.specs.declared.ShiftOp.TheVariants.{Left, Right, RightZero}
use Rattle.values.specs.declared.CompareOp.TheVariants.{Lt, Gt, Le, Ge, Eq, Ne}
use Rattle.values.specs.declared.ChoiceOp.TheVariants.{Max, Min}
use Rattle.operators.specs.declared.UnaryOp.{UnaryOp}
use Rattle.operators.specs.declared.UnaryOp.TheVariants.{Neg, Complement, Not, Abs, ToReal, Trunc, Round, Frac}
use Rattle.operators.specs.declared.BinaryOp.{BinaryOp}
use Rattle.operators.specs.declared.BinaryOp.TheVariants.{Arith, Power, Shift, Compare, Bits, Choice}
use Rattle.memory.specs.declared.Bank.{Bank}
use Rattle.memory.specs.declared.Bank.TheVariants.{X, C, «V», N, D, R}
use Rattle.operators.specs.Tables.{unary_ops, binary_ops, unary_of, binary_of, unary_number, binary_number}
use Rattle.memory.specs.Numbers.{banks, bank_numbered, bank_number}
use Rattle.totals.specs.declared.TotalOp.{TotalOp}
use Rattle.totals.specs.declared.MatchOp.{MatchOp}
use Rattle.totals.specs.Numbers.{total_ops, match_ops, total_of, match_of, total_number, match_number}

-- ---- the operand of its number
pub bank-back : (b : Bank) → bank_numbered (bank_number b) ≡ Some b
bank-back X = refl
bank-back C = refl
bank-back «V» = refl
bank-back N = refl
bank-back D = refl
bank-back R = refl

pub unary-back : (o : UnaryOp) → unary_of (unary_number o) ≡ Some o
unary-back Neg = refl
unary-back Complement = refl
unary-back Not = refl
unary-back Abs = refl
unary-back ToReal = refl
unary-back Trunc = refl
unary-back Round = refl
unary-back Frac = refl

pub binary-back : (o : BinaryOp) → binary_of (binary_number o) ≡ Some o
binary-back Power = refl
binary-back (Arith Mul) = refl
binary-back (Arith Div) = refl
binary-back (Arith Rem) = refl
binary-back (Arith Add) = refl
binary-back (Arith Sub) = refl
binary-back (Shift Left) = refl
binary-back (Shift Right) = refl
binary-back (Shift RightZero) = refl
binary-back (Compare Lt) = refl
binary-back (Compare Gt) = refl
binary-back (Compare Le) = refl
binary-back (Compare Ge) = refl
binary-back (Compare Eq) = refl
binary-back (Compare Ne) = refl
binary-back (Bits And) = refl
binary-back (Bits Xor) = refl
binary-back (Bits Or) = refl
binary-back (Choice Max) = refl
binary-back (Choice Min) = refl

pub total-back : (o : TotalOp) → total_of (total_number o) ≡ Some o
total-back TotalOp.Sum = refl
total-back TotalOp.Average = refl
total-back (TotalOp.Choice Max) = refl
total-back (TotalOp.Choice Min) = refl

pub match_back : (o : MatchOp) → match_of (match_number o) ≡ Some o
match_back (MatchOp.Count Eq) = refl
match_back (MatchOp.Count Ne) = refl
match_back (MatchOp.Count Ge) = refl
match_back (MatchOp.Count Gt) = refl
match_back (MatchOp.Count Le) = refl
match_back (MatchOp.Count Lt) = refl
match_back (MatchOp.Sum Eq) = refl
match_back (MatchOp.Sum Ne) = refl
match_back (MatchOp.Sum Ge) = refl
match_back (MatchOp.Sum Gt) = refl
match_back (MatchOp.Sum Le) = refl
match_back (MatchOp.Sum Lt) = refl

-- a number that has one is below the list's length
found_below : {A : Type 0} (n m : ℕ) (x y z : A) → (y ≡ z → false ≡ true) → cond (ltb n m) x y ≡ z → n < m
found_below n m x y z other = by (ltb n m) refl
  where
    by : (t : Bool) → ltb n m ≡ t → cond t x y ≡ z → n < m
    by true e q = ltb-true n m e
    by false e q = absurd (false≢true (other q))

pub bank-below : (b : Bank) → bank_number b < 6
bank-below b = found_below (bank_number b) 6 _ None (Some b) (λ e. cc) (bank-back b)

pub unary-below : (o : UnaryOp) → unary_number o < 8
unary-below o = found_below (unary_number o) 8 _ None (Some o) (λ e. cc) (unary-back o)

pub binary-below : (o : BinaryOp) → binary_number o < 20
binary-below o = found_below (binary_number o) 20 _ None (Some o) (λ e. cc) (binary-back o)

pub total-below : (o : TotalOp) → total_number o < 4
total-below o = found_below (total_number o) 4 _ None (Some o) (λ e. cc) (total-back o)

pub match-below : (o : MatchOp) → match_number o < 12
match-below o = found_below (match_number o) 12 _ None (Some o) (λ e. cc) (match_back o)

-- ---- the number of the operand at a place
abbrev pub from : ℕ → ℕ → List ℕ
from k zero = []
from k (suc m) = k ∷ from (suc k) m

from_at : (k m n d : ℕ) → n < m → get_or (from k m) n d ≡ k + n
from_at k zero n d h = absurd (not-suc-le-zero h)
from_at k (suc m) zero d h = sym (add-zero k)
from_at k (suc m) (suc n) d h = from_at (suc k) m n d (le_of_suc-le-suc h) ∙ omega arith

-- a list is in order where its numbers are 0, 1, 2 and so on, which `refl` shows
module _ {A : Type 0} (number : A → ℕ) (l : List A) (d : A) (in_order : map number l ≡ from 0 (length l)) where
  pub number-at : (n : ℕ) → n < length l → number (get_or l n d) ≡ n
  number-at n h = sym (get_or-map number l n d) ∙ rw in_order (from_at 0 (length l) n (number d) h) ∙ zero-add n

pub bank-forth : (n : ℕ) → n < 6 → bank_number (get_or banks n X) ≡ n
bank-forth = number-at bank_number banks X refl

pub unary-forth : (n : ℕ) → n < 8 → unary_number (get_or unary_ops n Neg) ≡ n
unary-forth = number-at unary_number unary_ops Neg refl

pub binary-forth : (n : ℕ) → n < 20 → binary_number (get_or binary_ops n (Arith Add)) ≡ n
binary-forth = number-at binary_number binary_ops (Arith Add) refl

pub total-forth : (n : ℕ) → n < 4 → total_number (get_or total_ops n TotalOp.Sum) ≡ n
total-forth = number-at total_number total_ops TotalOp.Sum refl

pub match-forth : (n : ℕ) → n < 12 → match_number (get_or match_ops n (MatchOp.Count Eq)) ≡ n
match-forth = number-at match_number match_ops (MatchOp.Count Eq) refl

-- the number of a bank that was found by its number
pub bank-number : (n : ℕ) (b : Bank) → bank_numbered n ≡ Some b → bank_number b ≡ n
bank-number n b = by (ltb n 6) refl
  where
    by : (t : Bool) → ltb n 6 ≡ t → cond t (Some (get_or banks n X)) None ≡ Some b → bank_number b ≡ n
    by true e q = let same : get_or banks n X ≡ b = cc in rw same at (bank-forth n (ltb-true n 6 e))
    by false e q = let z : ◌≡◌ {A = Bool} false true = cc in absurd (false≢true z)
