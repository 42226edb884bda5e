-- The old image keeps `LayoutLaws`: a cell is a run of bytes, and a byte is of one cell at most. Assumes nothing.
use mathlib.Core.Path.{◌≡◌, refl, sym, ap, subst, ◌∙◌}
use mathlib.Core.Logic.{◌⊎◌, inl, inr, ⊎_elim}
use mathlib.Core.Bool.{cond}
use mathlib.Core.List.{List}
use Prim.Native.Nat.{ℕ, ◌+◌, ◌-◌, ◌/◌, ◌%◌, ◌^◌, ◌≤◌, ◌<◌}
use native.Mathlib.Decide.{dec_lt}
use native.Mathlib.Omega.{arith}
use lib.Dec.{eqb, ltb}
use lib.ListN.{length, get_or, set, take, drop, length-set}
use lib.Seq.{length-sets, get_or-set_other}
use borrow.Author.Tests.{lt-ltb, le-ltb}
use Rattle.words.specs.Words.{little_endian, bytes_of}
use Rattle.words.specs.Laws.{Bytes}
use Rattle.words.proofs.Laws.{word_laws}
use Rattle.values.specs.declared.Fault.{Fault}
use Rattle.values.specs.declared.Fault.TheVariants.{DividedByZero, Overflow, OutOfRange, IndexError}
use Rattle.memory.specs.declared.Bank.{Bank}
use Rattle.memory.specs.declared.Bank.TheVariants.{X, C, «V», N, D, R}
use Rattle.memory.specs.Layout.{layout_of}
use Rattle.memory.specs.Laws.{Distinct, is_x, is_c, modulus, Holdable, LayoutLaws}
use Rattle.memory.proofs.Runs.{run-written, other-kept, run-kept, run_length, run-bytes, set-sets, sets-sets}
use Rattle.images.specs.Bytewise.{old_size, old_place, old_flag, cell_at, bytewise}

-- the byte k is one of the cell's
record InCell (b : Bank) (i k : ℕ) : Type 0 where
  from : cell_at b i ≤ k
  to : k < cell_at b i + (layout_of b).width

-- ---- a cell ends below the flags
cell-end : (b : Bank) (i : ℕ) → i < (layout_of b).elements → cell_at b i + (layout_of b).width ≤ 3200
cell-end X i h = omega arith
cell-end C i h = omega arith
cell-end «V» i h = omega arith
cell-end N i h = omega arith
cell-end D i h = omega arith
cell-end R i h = omega arith

flag-end : (f : Fault) → (3200 ≤ old_flag f) × (old_flag f < old_size)
flag-end IndexError = omega arith
flag-end OutOfRange = omega arith
flag-end Overflow = omega arith
flag-end DividedByZero = omega arith

no_flag : (b : Bank) (i : ℕ) (f : Fault) → i < (layout_of b).elements → InCell b i (old_flag f) → ⊥
no_flag b i f h w = omega (arith, cell-end b i h, (flag-end f).0, w.to)

-- ---- the bank and the element of a byte
abbrev bank_at : ℕ → Bank
bank_at k = cond (ltb k 64) X (cond (ltb k 128) C (cond (ltb k 640) «V» (cond (ltb k 1152) N (cond (ltb k 2176) D R))))

bank-at : (b : Bank) (i k : ℕ) → i < (layout_of b).elements → InCell b i k → bank_at k ≡ b
bank-at X i k h w = rw (lt-ltb k 64 (omega arith))
bank-at C i k h w = rw (le-ltb k 64 (omega arith), lt-ltb k 128 (omega arith))
bank-at «V» i k h w = rw (le-ltb k 64 (omega arith), le-ltb k 128 (omega arith), lt-ltb k 640 (omega arith))
bank-at N i k h w = rw (le-ltb k 64 (omega arith), le-ltb k 128 (omega arith), le-ltb k 640 (omega arith), lt-ltb k 1152 (omega arith))
bank-at D i k h w =
    rw (le-ltb k 64 (omega arith), le-ltb k 128 (omega arith), le-ltb k 640 (omega arith), le-ltb k 1152 (omega arith), lt-ltb k 2176 (omega arith))
bank-at R i k h w =
    rw (le-ltb k 64 (omega arith), le-ltb k 128 (omega arith), le-ltb k 640 (omega arith), le-ltb k 1152 (omega arith), le-ltb k 2176 (omega arith))

abbrev element_at : Bank → ℕ → ℕ
element_at b k = (k - old_place b) / (layout_of b).width

element-at : (b : Bank) (i k : ℕ) → InCell b i k → element_at b k ≡ i
element-at X i k w = omega arith
element-at C i k w = omega arith
element-at «V» i k w = omega arith
element-at N i k w = omega arith
element-at D i k w = omega arith
element-at R i k w = omega arith

apart : (b : Bank) (i : ℕ) (c : Bank) (j k : ℕ) → i < (layout_of b).elements → j < (layout_of c).elements → Distinct b i c j → InCell b i k → InCell c j k → ⊥
apart b i c j k h g d v w =
    let same : b ≡ c = sym (bank-at b i k h v) ∙ bank-at c j k g w in
    let alike : i ≡ j = sym (element-at b i k v) ∙ ap (λ (x : Bank). element_at x k) same ∙ element-at c j k w in
    ⊎_elim (λ n. n same) (λ n. n alike) d

-- ---- what a put number leaves
-- before the cell, or behind it
outside : (b : Bank) (i p k : ℕ) → (InCell b i k → ⊥) → (k < cell_at b i) ⊎ (cell_at b i + length (bytes_of (layout_of b).width p) ≤ k)
outside b i p k h = by (dec_lt k (cell_at b i)) (dec_lt k (cell_at b i + (layout_of b).width))
  where
    by : Dec (k < cell_at b i) → Dec (k < cell_at b i + (layout_of b).width) → (k < cell_at b i) ⊎ (cell_at b i + length (bytes_of (layout_of b).width p) ≤ k)
    by (yes l) u = inl l
    by (no l) (yes u) = absurd (h (record { from = omega arith; to = u }))
    by (no l) (no u) = inr (rw (word_laws.count (layout_of b).width p) (omega arith))

cell-kept : (s : List ℕ) (b : Bank) (i p k : ℕ) → (InCell b i k → ⊥) → get_or (bytewise.put s b i p) k 0 ≡ get_or s k 0
cell-kept s b i p k h = other-kept s (cell_at b i) (bytes_of (layout_of b).width p) k (outside b i p k h)

number-kept : (s t : List ℕ) (c : Bank) (j : ℕ) → length t ≡ length s → ((k : ℕ) → InCell c j k → get_or t k 0 ≡ get_or s k 0)
    → bytewise.get t c j ≡ bytewise.get s c j
number-kept s t c j l h = ap little_endian (run-kept s t (cell_at c j) (layout_of c).width l (λ k a z. h k (record { from = a; to = z })))

-- ---- the numbers of a bank
remainder : (b : Bank) (n : ℕ) → Holdable b n → n % 256 ^ (layout_of b).width ≡ n % modulus b
remainder X n h = omega (arith, h.bit is_x)
remainder C n h = omega (arith, h.bit is_c)
remainder «V» n h = refl
remainder N n h = refl
remainder D n h = refl
remainder R n h = refl

-- ---- the flags
-- the fault of a flag's byte
fault_at : ℕ → Fault
fault_at n = cond (eqb n 3200) IndexError (cond (eqb n 3201) OutOfRange (cond (eqb n 3202) Overflow DividedByZero))

fault-back : (f : Fault) → fault_at (old_flag f) ≡ f
unfolding fault_at
fault-back DividedByZero = refl
fault-back Overflow = refl
fault-back OutOfRange = refl
fault-back IndexError = refl

flag_apart : (f g : Fault) → old_flag f ≡ old_flag g → f ≡ g
flag_apart f g e = sym (fault-back f) ∙ ap fault_at e ∙ fault-back g

-- ---- a cell that the image has
module _ (s : List ℕ) (b : Bank) (i : ℕ) (e : length s ≡ old_size) (h : i < (layout_of b).elements) where
  within : cell_at b i + (layout_of b).width ≤ length s
  within = omega (arith, cell-end b i h, e)

  get_put : (n : ℕ) → Holdable b n → bytewise.get (bytewise.put s b i n) b i ≡ n % modulus b
  get_put n g =
      let count = word_laws.count (layout_of b).width n in
      let run = run-written s (cell_at b i) (bytes_of (layout_of b).width n) (rw count within) in
      ap little_endian (rw count at run) ∙ word_laws.decode_encode (layout_of b).width n ∙ remainder b n g

  get_below : Bytes s → bytewise.get s b i < 256 ^ (layout_of b).width
  get_below g =
      let long : length (take (layout_of b).width (drop (cell_at b i) s)) ≡ (layout_of b).width = run_length s (cell_at b i) (layout_of b).width within in
      rw long at (word_laws.below (take (layout_of b).width (drop (cell_at b i) s)) (run-bytes s (cell_at b i) (layout_of b).width g))

  flag_put : (n : ℕ) (f : Fault) → get_or (bytewise.put s b i n) (old_flag f) 0 ≡ get_or s (old_flag f) 0
  flag_put n f = cell-kept s b i n (old_flag f) (no_flag b i f h)

  get_flag : (f : Fault) → bytewise.get (set s (old_flag f) 1) b i ≡ bytewise.get s b i
  get_flag f =
      number-kept s (set s (old_flag f) 1) b i (length-set s (old_flag f) 1)
      (λ k w. get_or-set_other s (old_flag f) k 1 0 (λ q. no_flag b i f h (subst (InCell b i) q w)))

  put_flag : (n : ℕ) (f : Fault) → set (bytewise.put s b i n) (old_flag f) 1 ≡ bytewise.put (set s (old_flag f) 1) b i n
  put_flag n f = set-sets s (cell_at b i) (bytes_of (layout_of b).width n) (old_flag f) 1 (outside b i n (old_flag f) (no_flag b i f h))

  -- and another one
  module _ (c : Bank) (j : ℕ) (g : j < (layout_of c).elements) (d : Distinct b i c j) where
    get_other : (n : ℕ) → bytewise.get (bytewise.put s b i n) c j ≡ bytewise.get s c j
    get_other n =
        number-kept s (bytewise.put s b i n) c j (length-sets s (cell_at b i) (bytes_of (layout_of b).width n))
        (λ k w. cell-kept s b i n k (λ u. apart b i c j k h g d u w))

    put_put : (n m : ℕ) → bytewise.put (bytewise.put s b i n) c j m ≡ bytewise.put (bytewise.put s c j m) b i n
    put_put n m =
        sets-sets s (cell_at b i) (bytes_of (layout_of b).width n) (cell_at c j) (bytes_of (layout_of c).width m)
        (λ k a z. outside b i n k (λ w. apart b i c j k h g d w (record { from = a; to = omega (arith, z, word_laws.count (layout_of c).width m) })))

pub bytewise-laws : LayoutLaws bytewise
bytewise-laws =
    record {
      get_put = λ s b i n e h. get_put s b i e h n;
      get_other = λ s b i n c j e h g k d. get_other s b i e h c j g d n;
      get_flag = λ s f c j e h. get_flag s c j e h f;
      flag_put = λ s b i n f e h. flag_put s b i e h n f;
      put_put = λ s b i n c j m e h g k l d. put_put s b i e h c j g d n m;
      put_flag = λ s b i n f e h. put_flag s b i e h n f;
      put_length = λ s b i n. length-sets s (cell_at b i) (bytes_of (layout_of b).width n);
      flag_inside = λ f. (flag-end f).1;
      flag_apart = flag_apart;
      get_below = get_below;
    }
