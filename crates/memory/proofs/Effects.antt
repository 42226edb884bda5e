-- What a store and a flag do to an image of any layout: a number is put into a cell, or a flag is set, or, in an image of another size, nothing.
-- What is written to distinct places commutes. Assumes nothing.
use Rattle.std.specs.Prelude.{Result, Ok, Err}
use mathlib.Core.Path.{◌≡◌, refl, sym}
use mathlib.Core.List.{List}
use Prim.Native.Nat.{ℕ, ◌<◌}
use native.Mathlib.Decide.{ℕ_discrete, dec_lt}
use native.Mathlib.Omega.{arith}
use lib.ListN.{length, set, length-set}
use lib.Seq.{set_comm}
use borrow.Author.Tests.{eq-eqb, ne_eqb, lt-ltb, le-ltb}
use Rattle.values.specs.declared.Value.{Value}
use Rattle.values.specs.declared.Fault.{Fault}
use Rattle.values.specs.declared.Fault.TheVariants.{IndexError}
use Rattle.memory.specs.declared.Bank.{Bank}
use Rattle.memory.specs.Layout.{layout_of, ImageLayout}
use Rattle.memory.specs.Store.{encode_cell, with_flag_in, write_in, store_in}
use Rattle.memory.specs.Laws.{Distinct, Holdable, LayoutLaws}
use Rattle.memory.proofs.store.Encodings.{holdable}

pub data Effect : Type 0 where
  cell : (b : Bank) (i n : ℕ) → i < (layout_of b).elements → Holdable b n → Effect
  flag : Fault → Effect

-- the places are distinct; one flag is set twice as once
pub data Apart : Effect → Effect → Type 0 where
  cells : {b : Bank} {i n : ℕ} {h : i < (layout_of b).elements} {k : Holdable b n} {c : Bank} {j m : ℕ} {g : j < (layout_of c).elements} {l : Holdable c m}
      → Distinct b i c j → Apart (cell b i n h k) (cell c j m g l)
  cell-flag : {b : Bank} {i n : ℕ} {h : i < (layout_of b).elements} {k : Holdable b n} {f : Fault} → Apart (cell b i n h k) (flag f)
  flag_cell : {b : Bank} {i n : ℕ} {h : i < (layout_of b).elements} {k : Holdable b n} {f : Fault} → Apart (flag f) (cell b i n h k)
  flags : {f g : Fault} → Apart (flag f) (flag g)

pub apart-flag : (x : Effect) (f : Fault) → Apart x (flag f)
apart-flag (cell b i n h k) f = cell-flag
apart-flag (flag g) f = flags

module _ (F : ImageLayout) where
  abbrev pub after : List ℕ → Effect → List ℕ
  after s (cell b i n h k) = F.put s b i n
  after s (flag f) = set s (F.flag f) 1

-- ---- the effect of a store
of_encoded : (b : Bank) (i : ℕ) → i < (layout_of b).elements → (e : (Result ℕ Fault)) → ((p : ℕ) → e ≡ Ok p → Holdable b p) → Effect
of_encoded b i h (Ok p) k = cell b i p h (k p refl)
of_encoded b i h (Err f) k = flag f

of_element : (b : Bank) (i : ℕ) → Value → Dec (i < (layout_of b).elements) → Effect
of_element b i v (yes h) = of_encoded b i h (encode_cell b v) (λ p. holdable b v p)
of_element b i v (no h) = flag IndexError

pub storing : Bank → ℕ → Value → Effect
storing b i v = of_element b i v (dec_lt i (layout_of b).elements)

-- it writes to the cell or sets a flag
pub data Writes (b : Bank) (i : ℕ) : Effect → Type 0 where
  cell : {n : ℕ} {h : i < (layout_of b).elements} {k : Holdable b n} → Writes b i (Effect.cell b i n h k)
  flag : {f : Fault} → Writes b i (Effect.flag f)

encoded-writes : (b : Bank) (i : ℕ) (h : i < (layout_of b).elements) (e : (Result ℕ Fault)) (k : (p : ℕ) → e ≡ Ok p → Holdable b p)
    → Writes b i (of_encoded b i h e k)
unfolding of_encoded
encoded-writes b i h (Ok p) k = Writes.cell
encoded-writes b i h (Err f) k = Writes.flag

element-writes : (b : Bank) (i : ℕ) (v : Value) (d : Dec (i < (layout_of b).elements)) → Writes b i (of_element b i v d)
unfolding of_element
element-writes b i v (yes h) = encoded-writes b i h (encode_cell b v) (λ p. holdable b v p)
element-writes b i v (no h) = Writes.flag

pub writes : (b : Bank) (i : ℕ) (v : Value) → Writes b i (storing b i v)
unfolding storing
writes b i v = element-writes b i v (dec_lt i (layout_of b).elements)

pub apart : {b : Bank} {i : ℕ} {c : Bank} {j : ℕ} {x y : Effect} → Writes b i x → Writes c j y → Distinct b i c j → Apart x y
apart Writes.cell Writes.cell d = cells d
apart Writes.cell Writes.flag d = cell-flag
apart Writes.flag Writes.cell d = flag_cell
apart Writes.flag Writes.flag d = flags

module _ (F : ImageLayout) (L : LayoutLaws F) where
  pub after-length : (s : List ℕ) (x : Effect) → length (after F s x) ≡ length s
  after-length s (cell b i n h k) = L.put_length s b i n
  after-length s (flag f) = length-set s (F.flag f) 1

  flag-flag : (s : List ℕ) (f g : Fault) → set (set s (F.flag f) 1) (F.flag g) 1 ≡ set (set s (F.flag g) 1) (F.flag f) 1
  flag-flag s f g = by (ℕ_discrete (F.flag f) (F.flag g))
    where
      by : Dec (F.flag f ≡ F.flag g) → set (set s (F.flag f) 1) (F.flag g) 1 ≡ set (set s (F.flag g) 1) (F.flag f) 1
      by (yes e) = rw e
      by (no e) = set_comm s (F.flag f) (F.flag g) 1 1 e

  pub commute : (s : List ℕ) → length s ≡ F.size → {x y : Effect} → Apart x y → after F (after F s x) y ≡ after F (after F s y) x
  commute s e (cells {b} {i} {n} {h} {k} {c} {j} {m} {g} {l} d) = L.put_put s b i n c j m e h g k l d
  commute s e (cell-flag {b} {i} {n} {h} {k} {f}) = L.put_flag s b i n f e h
  commute s e (flag_cell {b} {i} {n} {h} {k} {f}) = sym (L.put_flag s b i n f e h)
  commute s e (flags {f} {g}) = flag-flag s f g

  -- ---- in an image of the layout's size
  pub flagged : (s : List ℕ) (f : Fault) → length s ≡ F.size → with_flag_in F s f ≡ after F s (flag f)
  flagged s f e = rw (eq-eqb (length s) F.size e)

  encoded : (s : List ℕ) (b : Bank) (i : ℕ) (h : i < (layout_of b).elements) (x : (Result ℕ Fault)) (k : (p : ℕ) → x ≡ Ok p → Holdable b p) → length s ≡ F.size
      → write_in F s b i x ≡ after F s (of_encoded b i h x k)
  unfolding of_encoded
  encoded s b i h (Ok p) k e = refl
  encoded s b i h (Err f) k e = flagged s f e

  at-element : (s : List ℕ) (b : Bank) (i : ℕ) (v : Value) → length s ≡ F.size → (d : Dec (i < (layout_of b).elements))
      → store_in F s b i v ≡ after F s (of_element b i v d)
  unfolding of_element
  at-element s b i v e (yes h) =
      rw (eq-eqb (length s) F.size e, lt-ltb i (layout_of b).elements h) (encoded s b i h (encode_cell b v) (λ p. holdable b v p) e)
  at-element s b i v e (no h) = rw (eq-eqb (length s) F.size e, le-ltb i (layout_of b).elements (omega arith))

  pub stored : (s : List ℕ) (b : Bank) (i : ℕ) (v : Value) → length s ≡ F.size → store_in F s b i v ≡ after F s (storing b i v)
  unfolding storing
  stored s b i v e = at-element s b i v e (dec_lt i (layout_of b).elements)

  -- ---- in one of another size
  pub not-flagged : (s : List ℕ) (f : Fault) → (length s ≡ F.size → ⊥) → with_flag_in F s f ≡ s
  not-flagged s f h = rw (ne_eqb (length s) F.size h)

  pub not-stored : (s : List ℕ) (b : Bank) (i : ℕ) (v : Value) → (length s ≡ F.size → ⊥) → store_in F s b i v ≡ s
  not-stored s b i v h = rw (ne_eqb (length s) F.size h)
