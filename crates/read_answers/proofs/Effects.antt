-- One effect on two memories of the right size, of any layout: what did not differ does not, and the number that is put is the same in both.
use mathlib.Core.Path.{◌≡◌, refl, sym, ap, ◌∙◌, subst}
use mathlib.Core.Logic.{inl, inr}
use mathlib.Core.List.{List}
use Prim.Native.Nat.{ℕ, ◌<◌}
use native.Mathlib.Decide.{ℕ_discrete}
use lib.ListN.{length, get_or, set, length-set}
use lib.Seq.{get_or-set_same, get_or-set_other}
use Rattle.values.specs.declared.Value.{Value}
use Rattle.values.specs.declared.Fault.{Fault as FaultName}
use Rattle.memory.specs.declared.Bank.{Bank}
use Rattle.memory.specs.declared.Bank.TheVariants.{X, C, «V», N, D, R}
use Rattle.memory.specs.Layout.{ImageLayout, layout_of}
use Rattle.memory.specs.Numbers.{banks, bank_number}
use Rattle.memory.specs.Laws.{Distinct, Holdable, LayoutLaws}
use Rattle.read_laws.proofs.Laws.{reads-alike}
use Rattle.delivery.specs.declared.Answer.{Answer}
use Rattle.delivery.specs.declared.Answer.TheVariants.{Done}
use Rattle.read_answers.specs.After.{Leaves}

-- ---- two cells are one or distinct
numbered : (b : Bank) → get_or banks (bank_number b) X ≡ b
numbered X = refl
numbered C = refl
numbered «V» = refl
numbered N = refl
numbered D = refl
numbered R = refl

data Compared (b : Bank) (i : ℕ) (c : Bank) (j : ℕ) : Type 0 where
  one : b ≡ c → i ≡ j → Compared b i c j
  two : Distinct b i c j → Compared b i c j

compared : (b : Bank) (i : ℕ) (c : Bank) (j : ℕ) → Compared b i c j
compared b i c j = by (ℕ_discrete (bank_number b) (bank_number c)) (ℕ_discrete i j)
  where
    by : Dec (bank_number b ≡ bank_number c) → Dec (i ≡ j) → Compared b i c j
    by (yes e) (yes q) = one (sym (numbered b) ∙ ap (λ (n : ℕ). get_or banks n X) e ∙ numbered c) q
    by (yes e) (no h) = two (inr h)
    by (no h) d = two (inl (λ e. h (ap bank_number e)))

-- the answer names no cell
abbrev pub NoCell : Answer → Type 0
NoCell a = (v : Value) (n : ℕ) (b : Bank) (i : ℕ) → a ≡ Done v n b i → ⊥

module _ (F : ImageLayout) (m m' : List ℕ) where
  -- what an operation with the answer a made of both memories: nothing, one flag, or one number in the cell that the answer names
  pub data Does (a : Answer) (s s' : List ℕ) : Type 0 where
    nothing : NoCell a → s ≡ m → s' ≡ m' → Does a s s'
    flag : NoCell a → (f : FaultName) → s ≡ set m (F.flag f) 1 → s' ≡ set m' (F.flag f) 1 → Does a s s'
    put : {v : Value} {n : ℕ} (b : Bank) (i p : ℕ) → i < (layout_of b).elements → Holdable b p → a ≡ Done v n b i
        → s ≡ F.put m b i p → s' ≡ F.put m' b i p → Does a s s'

module _ (F : ImageLayout) (L : LayoutLaws F) (m m' : List ℕ) (h : length m ≡ F.size) (h' : length m' ≡ F.size) where
  put-cell : (b : Bank) (i p : ℕ) → i < (layout_of b).elements → Holdable b p → F.get (F.put m b i p) b i ≡ F.get (F.put m' b i p) b i
  put-cell b i p l k = L.get_put m b i p h l k ∙ sym (L.get_put m' b i p h' l k)

  put-cells : (b : Bank) (i p : ℕ) → i < (layout_of b).elements → Holdable b p → (c : Bank) (j : ℕ) → j < (layout_of c).elements → F.get m c j ≡ F.get m' c j
      → F.get (F.put m b i p) c j ≡ F.get (F.put m' b i p) c j
  put-cells b i p l k c j g e = by (compared b i c j)
    where
      by : Compared b i c j → F.get (F.put m b i p) c j ≡ F.get (F.put m' b i p) c j
      by (one q r) =
          subst (λ (d : Bank). F.get (F.put m b i p) d j ≡ F.get (F.put m' b i p) d j) q
          (subst (λ (o : ℕ). F.get (F.put m b i p) b o ≡ F.get (F.put m' b i p) b o) r (put-cell b i p l k))
      by (two d) = L.get_other m b i p c j h l g k d ∙ e ∙ sym (L.get_other m' b i p c j h' l g k d)

  set-flags : (g f : FaultName) → get_or m (F.flag f) 0 ≡ get_or m' (F.flag f) 0
      → get_or (set m (F.flag g) 1) (F.flag f) 0 ≡ get_or (set m' (F.flag g) 1) (F.flag f) 0
  set-flags g f e = by (ℕ_discrete (F.flag f) (F.flag g))
    where
      on : (s : List ℕ) → length s ≡ F.size → F.flag f ≡ F.flag g → get_or (set s (F.flag g) 1) (F.flag f) 0 ≡ 1
      on s z q = ap (λ (k : ℕ). get_or (set s (F.flag g) 1) k 0) q ∙ get_or-set_same s (F.flag g) 1 0 (rw z (L.flag_inside g))

      by : Dec (F.flag f ≡ F.flag g) → get_or (set m (F.flag g) 1) (F.flag f) 0 ≡ get_or (set m' (F.flag g) 1) (F.flag f) 0
      by (yes q) = on m h q ∙ sym (on m' h' q)
      by (no n) = get_or-set_other m (F.flag g) (F.flag f) 1 0 n ∙ e ∙ sym (get_or-set_other m' (F.flag g) (F.flag f) 1 0 n)

  module _ {a : Answer} {s s' : List ℕ} where
    same_size : Does F m m' a s s' → (length s ≡ F.size) × (length s' ≡ F.size)
    same_size (nothing n p q) = (ap length p ∙ h, ap length q ∙ h')
    same_size (flag n f p q) = (ap length p ∙ length-set m (F.flag f) 1 ∙ h, ap length q ∙ length-set m' (F.flag f) 1 ∙ h')
    same_size (put b i n l k e p q) = (ap length p ∙ L.put_length m b i n ∙ h, ap length q ∙ L.put_length m' b i n ∙ h')

    cells : Does F m m' a s s' → (c : Bank) (j : ℕ) → j < (layout_of c).elements → F.get m c j ≡ F.get m' c j → F.get s c j ≡ F.get s' c j
    cells (nothing n p q) c j g e = ap (λ (x : List ℕ). F.get x c j) p ∙ e ∙ sym (ap (λ (x : List ℕ). F.get x c j) q)
    cells (flag n f p q) c j g e =
        ap (λ (x : List ℕ). F.get x c j) p ∙ L.get_flag m f c j h g ∙ e ∙ sym (ap (λ (x : List ℕ). F.get x c j) q ∙ L.get_flag m' f c j h' g)
    cells (put b i n l k r p q) c j g e =
        ap (λ (x : List ℕ). F.get x c j) p ∙ put-cells b i n l k c j g e ∙ sym (ap (λ (x : List ℕ). F.get x c j) q)

    flags : Does F m m' a s s' → (f : FaultName) → get_or m (F.flag f) 0 ≡ get_or m' (F.flag f) 0 → get_or s (F.flag f) 0 ≡ get_or s' (F.flag f) 0
    flags (nothing n p q) f e = ap (λ (x : List ℕ). get_or x (F.flag f) 0) p ∙ e ∙ sym (ap (λ (x : List ℕ). get_or x (F.flag f) 0) q)
    flags (flag n g p q) f e = ap (λ (x : List ℕ). get_or x (F.flag f) 0) p ∙ set-flags g f e ∙ sym (ap (λ (x : List ℕ). get_or x (F.flag f) 0) q)
    flags (put b i n l k r p q) f e =
        ap (λ (x : List ℕ). get_or x (F.flag f) 0) p ∙ L.flag_put m b i n f h l ∙ e
        ∙ sym (ap (λ (x : List ℕ). get_or x (F.flag f) 0) q ∙ L.flag_put m' b i n f h' l)

    number : Does F m m' a s s' → {w : Value} {u : ℕ} {c : Bank} {j : ℕ} → a ≡ Done w u c j → F.get s c j ≡ F.get s' c j
    number (nothing n p q) {w} {u} {c} {j} e = absurd (n w u c j e)
    number (flag n f p q) {w} {u} {c} {j} e = absurd (n w u c j e)
    number (put {v} {n} b i o l k r p q) {w} {u} {c} {j} e =
        let same : Done v n b i ≡ Done w u c j = sym r ∙ e in
        let bank : b ≡ c = cc in
        let element : i ≡ j = cc in
        let here : F.get s b i ≡ F.get s' b i =
        ap (λ (x : List ℕ). F.get x b i) p ∙ put-cell b i o l k ∙ sym (ap (λ (x : List ℕ). F.get x b i) q) in
        subst (λ (d : Bank). F.get s d j ≡ F.get s' d j) bank (subst (λ (x : ℕ). F.get s b x ≡ F.get s' b x) element here)

    pub leaves : Does F m m' a s s' → Leaves F a m m' s s'
    leaves d =
        let z = same_size d in
        record {
          cells = cells d;
          flags = flags d;
          number = λ e. number d e;
          read = λ {v} {n} {b} {i} e. reads-alike F s s' b i z.0 z.1 (λ _. number d e);
        }
