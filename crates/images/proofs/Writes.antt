-- What is written to corresponding images leaves them corresponding: a number in a cell, or a flag. Assumes nothing.
use mathlib.Core.Path.{◌≡◌, refl, sym, ap, subst, ◌∙◌}
use mathlib.Core.Logic.{inl, inr}
use mathlib.Core.List.{List}
use Prim.Native.Nat.{ℕ, ◌%◌, ◌<◌}
use native.Mathlib.Decide.{ℕ_discrete}
use native.Mathlib.Omega.{arith}
use lib.ListN.{length, get_or, set, length-set}
use lib.Seq.{get_or-set_same, get_or-set_other}
use borrow.Author.Tests.{eq-eqb}
use Rattle.values.specs.declared.Value.{Value}
use Rattle.values.specs.declared.Fault.{Fault}
use Rattle.words.proofs.Digits.{remainder-digit}
use Rattle.memory.specs.declared.Bank.{Bank}
use Rattle.memory.specs.declared.Bank.TheVariants.{X, C, «V», N, D, R}
use Rattle.memory.specs.Numbers.{bank_number, banks}
use Rattle.memory.specs.Layout.{image_size, layout_of, packed}
use Rattle.memory.specs.Store.{with_flag_in, store_in, store_answer_in}
use Rattle.memory.specs.Laws.{Distinct, modulus, Holdable}
use Rattle.memory.proofs.Effects.{Effect, after, storing}
use Rattle.memory.proofs.Effects as Effects
use Rattle.memory.proofs.Laws.{packed-laws}
use Rattle.images.specs.Bytewise.{old_size, bytewise}
use Rattle.images.specs.Conversions.{normalized, Corresponds}
use Rattle.images.proofs.Bits.{truth-digit}
use Rattle.images.proofs.Old.{bytewise-laws}

-- ---- the cell itself, or another
number-back : (b : Bank) → get_or banks (bank_number b) X ≡ b
number-back X = refl
number-back C = refl
number-back «V» = refl
number-back N = refl
number-back D = refl
number-back R = refl

data Which (b : Bank) (i : ℕ) : Bank → ℕ → Type 0 where
  same : Which b i b i
  other : {c : Bank} {j : ℕ} → Distinct b i c j → Which b i c j

which : (b : Bank) (i : ℕ) (c : Bank) (j : ℕ) → Which b i c j
which b i c j = by (ℕ_discrete (bank_number b) (bank_number c)) (ℕ_discrete i j)
  where
    by : Dec (bank_number b ≡ bank_number c) → Dec (i ≡ j) → Which b i c j
    by (no n) q = other (inl (λ e. n (ap bank_number e)))
    by (yes e) (no n) = other (inr n)
    by (yes e) (yes q) =
        subst (λ (k : ℕ). Which b i c k) q
        (subst (λ (x : Bank). Which b i x i) (sym (number-back b) ∙ ap (λ (n : ℕ). get_or banks n X) e ∙ number-back c) same)

-- ---- a number that a cell of the bank can hold is normalized
is-normalized : (b : Bank) (p : ℕ) → normalized b (p % modulus b) ≡ p % modulus b
is-normalized X p = truth-digit (p % 2) (remainder-digit p)
is-normalized C p = truth-digit (p % 2) (remainder-digit p)
is-normalized «V» p = refl
is-normalized N p = refl
is-normalized D p = refl
is-normalized R p = refl

module _ (m n : List ℕ) (c : Corresponds m n) where
  pub put : (b : Bank) (i p : ℕ) → i < (layout_of b).elements → Holdable b p → Corresponds (bytewise.put m b i p) (packed.put n b i p)
  put b i p h g =
      record {
        left = bytewise-laws.put_length m b i p ∙ c.left;
        right = packed-laws.put_length n b i p ∙ c.right;
        cells = λ x j l. cells l (which b i x j);
        flags = λ f. bytewise-laws.flag_put m b i p f c.left h ∙ c.flags f ∙ sym (packed-laws.flag_put n b i p f c.right h);
      }
    where
      cells : {x : Bank} {j : ℕ} → j < (layout_of x).elements → Which b i x j
          → normalized x (bytewise.get (bytewise.put m b i p) x j) ≡ packed.get (packed.put n b i p) x j
      cells l same =
          ap (normalized b) (bytewise-laws.get_put m b i p c.left h g) ∙ is-normalized b p ∙ sym (packed-laws.get_put n b i p c.right h g)
      cells {x} {j} l (other d) =
          ap (normalized x) (bytewise-laws.get_other m b i p x j c.left h l g d) ∙ c.cells x j l
          ∙ sym (packed-laws.get_other n b i p x j c.right h l g d)

  flag : (f : Fault) → Corresponds (set m (bytewise.flag f) 1) (set n (packed.flag f) 1)
  flag f =
      record {
        left = length-set m (bytewise.flag f) 1 ∙ c.left;
        right = length-set n (packed.flag f) 1 ∙ c.right;
        cells = λ b i h. ap (normalized b) (bytewise-laws.get_flag m f b i c.left h) ∙ c.cells b i h ∙ sym (packed-laws.get_flag n f b i c.right h);
        flags = λ g. by g (ℕ_discrete (packed.flag g) (packed.flag f));
      }
    where
      by : (g : Fault) → Dec (packed.flag g ≡ packed.flag f)
          → get_or (set m (bytewise.flag f) 1) (bytewise.flag g) 0 ≡ get_or (set n (packed.flag f) 1) (packed.flag g) 0
      by g (yes q) =
          ap (λ (k : ℕ). get_or (set m (bytewise.flag f) 1) k 0) (ap bytewise.flag (packed-laws.flag_apart g f q))
          ∙ get_or-set_same m (bytewise.flag f) 1 0 (omega (arith, c.left, bytewise-laws.flag_inside f))
          ∙ sym
          (ap (λ (k : ℕ). get_or (set n (packed.flag f) 1) k 0) q
          ∙ get_or-set_same n (packed.flag f) 1 0 (omega (arith, c.right, packed-laws.flag_inside f)))
      by g (no q) =
          get_or-set_other m (bytewise.flag f) (bytewise.flag g) 1 0 (λ e. q (ap packed.flag (bytewise-laws.flag_apart g f e))) ∙ c.flags g
          ∙ sym (get_or-set_other n (packed.flag f) (packed.flag g) 1 0 q)

  effect : (x : Effect) → Corresponds (after bytewise m x) (after packed n x)
  effect (Effect.cell b i p h g) = put b i p h g
  effect (Effect.flag f) = flag f

  pub flagged : (f : Fault) → Corresponds (with_flag_in bytewise m f) (with_flag_in packed n f)
  flagged f = rw (Effects.flagged bytewise bytewise-laws m f c.left, Effects.flagged packed packed-laws n f c.right) (flag f)

  pub stored : (b : Bank) (i : ℕ) (v : Value) → Corresponds (store_in bytewise m b i v) (store_in packed n b i v)
  stored b i v =
      subst (λ (t : List ℕ). Corresponds t (store_in packed n b i v)) (sym (Effects.stored bytewise bytewise-laws m b i v c.left))
      (subst (λ (t : List ℕ). Corresponds (after bytewise m (storing b i v)) t) (sym (Effects.stored packed packed-laws n b i v c.right))
      (effect (storing b i v)))

  pub answered : (b : Bank) (i : ℕ) (v : Value) → store_answer_in bytewise m b i v ≡ store_answer_in packed n b i v
  answered b i v = rw (eq-eqb (length m) old_size c.left, eq-eqb (length n) image_size c.right)
