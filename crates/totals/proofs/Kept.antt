-- What totals keep, over any property S of values by kind that their combinations keep: where S is the kind, the law of kinds; where it is properness,
-- that values stay proper.
use mathlib.Core.Path.{◌≡◌, refl, subst}
use mathlib.Core.Bool.{Bool, true, false, cond}
use Prim.Native.Nat.{ℕ, ◌≤◌}
use native.Mathlib.Omega.{arith}
use lib.Dec.{T}
use lib.IntN.{pos}
use Rattle.values.specs.Singles.{zero_real}
use lib.Ieee.{fits}
use borrow.Author.Tests.{le-leb}
use Rattle.reals.specs.declared.ArithOp.TheVariants.{Add, Div}
use Rattle.values.specs.declared.Kind.{Kind}
use Rattle.values.specs.declared.Kind.TheVariants as K
use Rattle.values.specs.declared.Value.{Value}
use Rattle.values.specs.declared.Value.TheVariants.{Int}
use Rattle.values.specs.declared.Outcome.{Outcome}
use Rattle.values.specs.declared.Outcome.TheVariants.{Done}
use Rattle.values.specs.declared.ChoiceOp.{ChoiceOp}
use Rattle.values.specs.Values.{kind_of}
use Rattle.operators.specs.declared.BinaryOp.{BinaryOp}
use Rattle.operators.specs.declared.BinaryOp.TheVariants as B
use Rattle.operators.specs.Operators.{arith_rule, compare_rule, choice_rule, binary_rule, from_bool}
use Rattle.operators.specs.Kinds.{join, binary_kind, binary_takes}
use Rattle.operators.specs.Laws.{Proper, int, real, OfKind, AllProper}
use Rattle.operators.proofs.Laws.{rule-laws}
use Rattle.memory.specs.declared.Bank.{Bank}
use Rattle.memory.specs.Cells.{bank_kind}
use Rattle.memory.specs.Environment.{Environment}
use Rattle.totals.specs.declared.TotalOp.{TotalOp}
use Rattle.totals.specs.declared.TotalOp.TheVariants as T'
use Rattle.totals.specs.declared.MatchOp.{MatchOp}
use Rattle.totals.specs.declared.MatchOp.TheVariants as M'
use Rattle.totals.specs.Totals.{zero_of, choosing, count_if, sum_if, total_over, match_over, total_kind, match_kind}
use Rattle.totals.proofs.Folds.{Gets, done, stopped, wrong, then-gets, fold-gets, first-gets}

record Kept (W : Type 0) (S : Kind → Value → Type 0) (divisor : ℕ → Type 0) : Type 0 where
  zero : (k : Kind) → S k (zero_of k)
  bit : (b : Bool) → S K.Int (from_bool b)
  adds : (j k : Kind) (a c : Value) → S j a → S k c → Gets W (S (join j k)) (arith_rule Add a c)
  divides : (n : ℕ) (s : Value) → divisor n → S K.Real s → Gets W (S K.Real) (arith_rule Div s (Int (pos n)))
  chooses : (o : ChoiceOp) (k : Kind) (a c : Value) → S k a → S k c → S k (choice_rule o a c)

join-same : (k : Kind) → join k k ≡ k
join-same K.Int = refl
join-same K.Real = refl

module _ {W : Type 0} {S : Kind → Value → Type 0} {divisor : ℕ → Type 0} (kept : Kept W S divisor)
    (E : Environment) (b : Bank) (cell : (j : ℕ) → Gets W (S (bank_kind b)) (E.cell b j)) where
  adds_same : (k : Kind) (a c : Value) → S k a → S k c → Gets W (S k) (arith_rule Add a c)
  adds_same k a c s t = subst (λ (j : Kind). Gets W (S j) (arith_rule Add a c)) (join-same k) (kept.adds k k a c s t)

  if-gets : {k : Kind} (t : Bool) {x y : Outcome} → Gets W (S k) x → Gets W (S k) y → Gets W (S k) (cond t x y)
  if-gets true p q = p
  if-gets false p q = q

  total-gets : (o : TotalOp) (i n : ℕ) → divisor n → Gets W (S (total_kind o b)) (total_over E o b i n).result
  unfolding total_over
  total-gets T'.Sum i n d = fold-gets (E.cell b) (arith_rule Add) cell (adds_same (bank_kind b)) (zero_of (bank_kind b)) i n (kept.zero (bank_kind b))
  total-gets T'.Average i n d =
      then-gets (λ s. arith_rule Div s (Int (pos n)))
      (fold-gets (E.cell b) (arith_rule Add) cell (kept.adds K.Real (bank_kind b)) (zero_of K.Real) i n (kept.zero K.Real)) (λ s. kept.divides n s d)
  total-gets (T'.Choice o) i n d =
      first-gets (E.cell b) (choosing o) cell (λ a c s t. done (kept.chooses o (bank_kind b) a c s t)) (bank_kind b) i n (kept.zero (bank_kind b))

  match-gets : (o : MatchOp) (v : Value) (i n : ℕ) → Gets W (S (match_kind o b)) (match_over E o v b i n).result
  unfolding match_over
  match-gets (M'.Count o) v i n =
      fold-gets (E.cell b) (count_if o v) cell (λ a c s t. adds_same K.Int a (from_bool (compare_rule o c v)) s (kept.bit (compare_rule o c v)))
      (zero_of K.Int) i n
      (kept.zero K.Int)
  match-gets (M'.Sum o) v i n =
      fold-gets (E.cell b) (sum_if o v) cell (λ a c s t. if-gets (compare_rule o c v) (adds_same (bank_kind b) a c s t) (done s)) (zero_of (bank_kind b)) i n
      (kept.zero (bank_kind b))

-- ---- kinds

abbrev Is : Kind → Value → Type 0
Is k v = kind_of v ≡ k

from-kind : {k : Kind} {r : Outcome} → OfKind k r → Gets ⊥ (Is k) r
from-kind (OfKind.done v e) = done e
from-kind (OfKind.stopped f) = stopped

to-kind : {k : Kind} {r : Outcome} → Gets ⊥ (Is k) r → OfKind k r
to-kind (done {v} e) = OfKind.done v e
to-kind (stopped {f}) = OfKind.stopped f
to-kind (wrong w) = absurd w

zero-kind : (k : Kind) → kind_of (zero_of k) ≡ k
zero-kind K.Int = refl
zero-kind K.Real = refl

bit-kind : (b : Bool) → kind_of (from_bool b) ≡ K.Int
bit-kind true = refl
bit-kind false = refl

-- a rule that takes every kind
ruled : (o : BinaryOp) (j k : Kind) (a c : Value) → ((x y : Kind) → T (binary_takes o x y)) → kind_of a ≡ j → kind_of c ≡ k → OfKind (binary_kind o j k)
    (binary_rule o a c)
ruled o j k a c t e g = rw (← e, ← g) (rule-laws.binary-kind o a c (t (kind_of a) (kind_of c)))

kind-of-done : {k : Kind} {v : Value} → OfKind k (Done v) → kind_of v ≡ k
kind-of-done (OfKind.done v e) = e

kinds_kept : Kept ⊥ Is (λ n. Unit {0})
kinds_kept = record {
  zero = zero-kind;
  bit = bit-kind;
  adds = λ j k a c e g. from-kind (ruled (B.Arith Add) j k a c (λ x y. tt) e g);
  divides = λ n s d e. from-kind (ruled (B.Arith Div) K.Real K.Int s (Int (pos n)) (λ x y. tt) e refl);
  chooses = λ o k a c e g. subst (λ (j : Kind). kind_of (choice_rule o a c) ≡ j) (join-same k) (kind-of-done (ruled (B.Choice o) k k a c (λ x y. tt) e g));
}

pub total-kind : (E : Environment) (o : TotalOp) (b : Bank) (i n : ℕ) → ((j : ℕ) → OfKind (bank_kind b) (E.cell b j)) → OfKind (total_kind o b)
    (total_over E o b i n).result
total-kind E o b i n h = to-kind (total-gets kinds_kept E b (λ j. from-kind (h j)) o i n tt)

pub match-kind : (E : Environment) (o : MatchOp) (v : Value) (b : Bank) (i n : ℕ) → ((j : ℕ) → OfKind (bank_kind b) (E.cell b j)) → OfKind
    (match_kind o b) (match_over E o v b i n).result
match-kind E o v b i n h = to-kind (match-gets kinds_kept E b (λ j. from-kind (h j)) o v i n)

-- ---- properness

from-proper : {r : Outcome} → AllProper r → Gets Unit Proper r
from-proper (AllProper.done v p) = done p
from-proper (AllProper.stopped f) = stopped
from-proper AllProper.wrong = wrong tt

to-proper : {r : Outcome} → Gets Unit Proper r → AllProper r
to-proper (done {v} p) = AllProper.done v p
to-proper (stopped {f}) = AllProper.stopped f
to-proper (wrong w) = AllProper.wrong

proper-of-done : {v : Value} → AllProper (Done v) → Proper v
proper-of-done (AllProper.done v p) = p

zero-proper : (k : Kind) → Proper (zero_of k)
unfolding fits
zero-proper K.Int = int (pos 0) tt
zero-proper K.Real = real zero_real (record { fit = tt; real = tt })

bit-proper : (b : Bool) → Proper (from_bool b)
bit-proper true = int (pos 1) tt
bit-proper false = int (pos 0) tt

-- the count of a good range
count-proper : (n : ℕ) → n ≤ 256 → Proper (Int (pos n))
count-proper n h = int (pos n) (rw (le-leb n 2147483647 (omega arith)) tt)

proper-kept : Kept (Unit {0}) (λ k v. Proper v) (λ n. n ≤ 256)
proper-kept = record {
  zero = zero-proper;
  bit = bit-proper;
  adds = λ j k a c p q. from-proper (rule-laws.binary_proper (B.Arith Add) a c p q);
  divides = λ n s d p. from-proper (rule-laws.binary_proper (B.Arith Div) s (Int (pos n)) p (count-proper n d));
  chooses = λ o k a c p q. proper-of-done (rule-laws.binary_proper (B.Choice o) a c p q);
}

pub total_proper : (E : Environment) (o : TotalOp) (b : Bank) (i n : ℕ) → n ≤ 256 → ((j : ℕ) → AllProper (E.cell b j)) → AllProper
    (total_over E o b i n).result
total_proper E o b i n d h = to-proper (total-gets proper-kept E b (λ j. from-proper (h j)) o i n d)

pub match_proper : (E : Environment) (o : MatchOp) (v : Value) (b : Bank) (i n : ℕ) → ((j : ℕ) → AllProper (E.cell b j)) → AllProper
    (match_over E o v b i n).result
match_proper E o v b i n h = to-proper (match-gets proper-kept E b (λ j. from-proper (h j)) o v i n)
