-- What a rule gives, over any property Q of values that the operations on numbers keep: a value of one kind with that property, or a fault.
-- Where Q says nothing this is the law of kinds; where Q is `Proper`, the law that values stay proper.
use mathlib.Core.Path.{◌≡◌, refl}
use mathlib.Core.Bool.{Bool, true, false, ◌&&◌, cond}
use Prim.Native.Nat.{ℕ, ◌^◌}
use lib.Dec.{T}
use lib.IntN.{ℤ}
use lib.Signed.{shr_z}
use lib.Ieee.{Float, nan, inf, fin}
use lib.Ieee.Scale.{finite}
use Rattle.reals.specs.declared.ArithOp.{ArithOp}
use Rattle.reals.specs.Operations.{ieee}
use Rattle.values.specs.declared.Kind.{Kind}
use Rattle.values.specs.declared.Kind.TheVariants as K
use Rattle.values.specs.declared.Value.{Value}
use Rattle.values.specs.declared.Value.TheVariants.{Int, Real}
use Rattle.values.specs.declared.Fault.{Fault}
use Rattle.values.specs.declared.Fault.TheVariants.{Overflow, OutOfRange}
use Rattle.values.specs.declared.Outcome.{Outcome}
use Rattle.values.specs.declared.Outcome.TheVariants.{Done, Stopped}
use Rattle.values.specs.Values.{kind_of}
use Rattle.values.specs.Integers.{in_range, exact_int}
use Rattle.values.specs.Singles.{one_real, settle, real_neg, real_abs}
use Rattle.values.specs.Convert.{promoted}
use Rattle.operators.specs.Operators.{as_real, promoting, on_ints}
use Rattle.operators.specs.Kinds.{is_int, join}

pub data Gives (Q : Value → Type 0) : Kind → Outcome → Type 0 where
  int : (z : ℤ) → Q (Int z) → Gives Q K.Int (Done (Int z))
  real : (x : Float) → Q (Real x) → Gives Q K.Real (Done (Real x))
  stopped : (k : Kind) (f : Fault) → Gives Q k (Stopped f)

-- every integer in range has Q; promotion, a shift to the right, and the operations on singles keep it
pub record Closed (Q : Value → Type 0) : Type 0 where
  pub ranged : (z : ℤ) → in_range z ≡ true → Q (Int z)
  pub shifted : (z : ℤ) (s : ℕ) → Q (Int z) → Q (Int (shr_z z (2 ^ s)))
  pub raised : (z : ℤ) → Q (Int z) → Q (Real (promoted z))
  pub operated : (o : ArithOp) (x y : Float) → Q (Real x) → Q (Real y) → finite (ieee o x y) ≡ true → Q (Real (ieee o x y))
  pub negated : (x : Float) → Q (Real x) → Q (Real (real_neg x))
  pub unsigned : (x : Float) → Q (Real x) → Q (Real (real_abs x))
  pub unit : Q (Real one_real)

-- the branch that a test takes has a property if both have it, the first at least where the test holds
pub picked : {A : Type 0} (P : A → Type 0) (t : Bool) (x y : A) → (t ≡ true → P x) → P y → P (cond t x y)
picked P true x y p q = p refl
picked P false x y p q = q

module _ (Q : Value → Type 0) where
  pub settle-gives : (x : Float) → (finite x ≡ true → Q (Real x)) → Gives Q K.Real (settle x)
  settle-gives nan h = stopped K.Real OutOfRange
  settle-gives (inf s) h = stopped K.Real Overflow
  settle-gives (fin s m e) h = real (fin s m e) (h refl)

  -- integers alone
  pub on-ints-gives : (f : ℤ → ℤ → Outcome) → ((a b : ℤ) → Q (Int a) → Gives Q K.Int (f a b))
      → (a b : Value) → T (is_int (kind_of a) && is_int (kind_of b)) → Q a → Gives Q K.Int (on_ints f a b)
  on-ints-gives f h (Int a) (Int b) t p = h a b p
  on-ints-gives f h (Int a) (Real y) t p = absurd t
  on-ints-gives f h (Real x) b t p = absurd t

module _ (Q : Value → Type 0) (closed : Closed Q) where
  pub exact-gives : (z : ℤ) → Gives Q K.Int (exact_int z)
  exact-gives z = picked (Gives Q K.Int) (in_range z) _ _ (λ e. int z (closed.ranged z e)) (stopped K.Int Overflow)

  pub real_of : (v : Value) → Q v → Q (Real (as_real v))
  real_of (Int z) q = closed.raised z q
  real_of (Real x) q = q

  -- both integers, or both taken as reals
  pub promoting-gives : {A : Type 0} (P : Kind → A → Type 0) (f : ℤ → ℤ → A) (g : Float → Float → A)
      → ((a b : ℤ) → Q (Int a) → Q (Int b) → P K.Int (f a b)) → ((x y : Float) → Q (Real x) → Q (Real y) → P K.Real (g x y))
      → (a b : Value) → Q a → Q b → P (join (kind_of a) (kind_of b)) (promoting f g a b)
  promoting-gives P f g h k (Int a) (Int b) p q = h a b p q
  promoting-gives P f g h k (Int a) (Real y) p q = k (promoted a) y (closed.raised a p) q
  promoting-gives P f g h k (Real x) b p q = k x (as_real b) p (real_of b q)
