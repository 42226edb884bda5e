-- The packed image keeps `LayoutLaws`: two elements are neighbours in one byte of bits, or their blocks share no byte. Assumes nothing.
use mathlib.Core.Path.{◌≡◌, refl, sym, ap, subst, ◌∙◌}
use mathlib.Core.Logic.{◌≢◌, ◌⊎◌, inl, inr, ⊎_elim}
use mathlib.Core.Bool.{cond}
use mathlib.Core.List.{List, [], ◌∷◌}
use Prim.Native.Nat.{ℕ, ◌+◌, ◌/◌, ◌%◌, ◌^◌, ◌≤◌, ◌<◌}
use native.Mathlib.Decide.{ℕ_discrete, dec_lt}
use native.Mathlib.Omega.{arith}
use lib.Dec.{eqb}
use lib.ListN.{length, get_or, set, take, drop, length-set}
use lib.Seq.{sets, length-sets, get_or-set_other}
use Rattle.words.specs.Bits.{bit, with_bit}
use Rattle.words.specs.Laws.{Bytes}
use Rattle.words.proofs.Laws.{word_laws}
use Rattle.words.proofs.Digits.{digit-laws}
use Rattle.values.specs.declared.Fault.{Fault}
use Rattle.values.specs.declared.Fault.TheVariants.{DividedByZero, Overflow, OutOfRange, IndexError}
use Rattle.memory.specs.declared.Bank.{Bank}
use Rattle.memory.specs.declared.Bank.TheVariants.{X, C, «V», N, D, R}
use Rattle.memory.specs.Numbers.{bank_number, banks}
use Rattle.memory.specs.Layout.{image_size, layout_of, flag_at, block_place, block_of, block_at, block_bytes, number_in, block_with, packed}
use Rattle.memory.specs.Laws.{Distinct, Bits, is_x, is_c, modulus, Holdable, LayoutLaws, InBlock, OneBlock}
use Rattle.memory.proofs.Blocks.{block-end, flag-end, no_flag, shared}
use Rattle.memory.proofs.Runs.{run-written, other-kept, set-sets, sets-sets, sets-again, run_length, run-kept, run-bytes}

-- ---- the bytes of a block
with-length : (b : Bank) (i n : ℕ) (bs : List ℕ) → length (block_with b i n bs) ≡ (layout_of b).width
with-length X i n bs = refl
with-length C i n bs = refl
with-length «V» i n bs = word_laws.count 2 n
with-length N i n bs = word_laws.count 2 n
with-length D i n bs = word_laws.count 4 n
with-length R i n bs = word_laws.count 4 n

bit-with : (x k n : ℕ) → n < 2 → bit (with_bit x k n) k ≡ n % 2
bit-with x k n h = digit-laws.written x k n h ∙ omega arith

number-with : (b : Bank) (i n : ℕ) (bs : List ℕ) → Holdable b n → number_in b i (block_with b i n bs) ≡ n % modulus b
number-with X i n bs h = bit-with (get_or bs 0 0) (i % 8) n (h.bit is_x)
number-with C i n bs h = bit-with (get_or bs 0 0) (i % 8) n (h.bit is_c)
number-with «V» i n bs h = word_laws.decode_encode 2 n
number-with N i n bs h = word_laws.decode_encode 2 n
number-with D i n bs h = word_laws.decode_encode 4 n
number-with R i n bs h = word_laws.decode_encode 4 n

-- two bits of one byte
record Neighbours (b : Bank) (i j : ℕ) : Type 0 where
  bits : Bits b
  block : block_of b i ≡ block_of b j
  places : i % 8 ≢ j % 8

number-other : {b : Bank} (i j n : ℕ) (bs : List ℕ) → Bits b → i % 8 ≢ j % 8 → Holdable b n → number_in b j (block_with b i n bs) ≡ number_in b j bs
number-other i j n bs is_x p h = digit-laws.kept (get_or bs 0 0) (i % 8) (j % 8) n (h.bit is_x) p
number-other i j n bs is_c p h = digit-laws.kept (get_or bs 0 0) (i % 8) (j % 8) n (h.bit is_c) p

with-commute : {b : Bank} (i j n m : ℕ) (bs : List ℕ) → Bits b → i % 8 ≢ j % 8 → Holdable b n → Holdable b m
    → block_with b j m (block_with b i n bs) ≡ block_with b i n (block_with b j m bs)
with-commute i j n m bs is_x p h g =
    ap (λ (y : ℕ). y ∷ []) (digit-laws.commute (get_or bs 0 0) (i % 8) (j % 8) n m (h.bit is_x) (g.bit is_x) p)
with-commute i j n m bs is_c p h g =
    ap (λ (y : ℕ). y ∷ []) (digit-laws.commute (get_or bs 0 0) (i % 8) (j % 8) n m (h.bit is_c) (g.bit is_c) p)

number-below : (b : Bank) (i : ℕ) (bs : List ℕ) → length bs ≡ (layout_of b).width → Bytes bs → number_in b i bs < 256 ^ (layout_of b).width
number-below X i bs l h = omega (arith, digit-laws.below (get_or bs 0 0) (i % 8))
number-below C i bs l h = omega (arith, digit-laws.below (get_or bs 0 0) (i % 8))
number-below «V» i bs l h = rw l at (word_laws.below bs h)
number-below N i bs l h = rw l at (word_laws.below bs h)
number-below D i bs l h = rw l at (word_laws.below bs h)
number-below R i bs l h = rw l at (word_laws.below bs h)

-- ---- two distinct elements
eighths : (i j : ℕ) → i / 8 ≡ j / 8 → i ≢ j → i % 8 ≢ j % 8
eighths i j e n q = n (omega arith)

neighbours : (b : Bank) (i j : ℕ) → block_of b i ≡ block_of b j → i ≢ j → Neighbours b i j
neighbours X i j e n = record { bits = is_x; block = e; places = eighths i j e n }
neighbours C i j e n = record { bits = is_c; block = e; places = eighths i j e n }
neighbours «V» i j e n = absurd (n e)
neighbours N i j e n = absurd (n e)
neighbours D i j e n = absurd (n e)
neighbours R i j e n = absurd (n e)

data Apart (b : Bank) (i : ℕ) : Bank → ℕ → Type 0 where
  in-byte : {j : ℕ} → Neighbours b i j → Apart b i b j
  separate : {c : Bank} {j : ℕ} → ((k : ℕ) → InBlock b i k → InBlock c j k → ⊥) → Apart b i c j

number-back : (b : Bank) → get_or banks (bank_number b) X ≡ b
number-back X = refl
number-back C = refl
number-back «V» = refl
number-back N = refl
number-back D = refl
number-back R = refl

apart : (b : Bank) (i : ℕ) (c : Bank) (j : ℕ) → i < (layout_of b).elements → j < (layout_of c).elements → Distinct b i c j → Apart b i c j
apart b i c j h g d = by (ℕ_discrete (bank_number b) (bank_number c)) (ℕ_discrete (block_of b i) (block_of c j))
  where
    one : (k : ℕ) → InBlock b i k → InBlock c j k → OneBlock b i c j
    one k v w = shared b i c j k h g v w

    in-bank : (a : Bank) → b ≡ a → block_of b i ≡ block_of a j → (b ≢ a) ⊎ (i ≢ j) → Apart b i a j
    in-bank a e q n =
        subst (λ (x : Bank). Apart b i x j) e
        (in-byte (neighbours b i j (q ∙ ap (λ (x : Bank). block_of x j) (sym e)) (⊎_elim (λ m. absurd (m e)) (λ m. m) n)))

    by : Dec (bank_number b ≡ bank_number c) → Dec (block_of b i ≡ block_of c j) → Apart b i c j
    by (no n) q = separate (λ k v w. n (ap bank_number (one k v w).bank))
    by (yes e) (no n) = separate (λ k v w. n (one k v w).block)
    by (yes e) (yes q) = in-bank c (sym (number-back b) ∙ ap (λ (n : ℕ). get_or banks n X) e ∙ number-back c) q d

-- ---- the flags
-- the fault of a flag's byte
fault_at : ℕ → Fault
fault_at n = cond (eqb n 3088) IndexError (cond (eqb n 3089) OutOfRange (cond (eqb n 3090) Overflow DividedByZero))

fault-back : (f : Fault) → fault_at (flag_at f) ≡ f
unfolding fault_at
fault-back DividedByZero = refl
fault-back Overflow = refl
fault-back OutOfRange = refl
fault-back IndexError = refl

flag_apart : (f g : Fault) → flag_at f ≡ flag_at g → f ≡ g
flag_apart f g e = sym (fault-back f) ∙ ap fault_at e ∙ fault-back g

-- ---- what a put number leaves
-- before the block, or behind it
outside : (b : Bank) (i n : ℕ) (bs : List ℕ) (k : ℕ) → (InBlock b i k → ⊥) → (k < block_at b i) ⊎ (block_at b i + length (block_with b i n bs) ≤ k)
outside b i n bs k h = by (dec_lt k (block_at b i)) (dec_lt k (block_at b i + (layout_of b).width))
  where
    by : Dec (k < block_at b i) → Dec (k < block_at b i + (layout_of b).width) → (k < block_at b i) ⊎ (block_at b i + length (block_with b i n bs) ≤ k)
    by (yes l) u = inl l
    by (no l) (yes u) = absurd (h (record { from = omega arith; to = u }))
    by (no l) (no u) = inr (rw (with-length b i n bs) (omega arith))

put_length : (s : List ℕ) (b : Bank) (i n : ℕ) → length (packed.put s b i n) ≡ length s
put_length s b i n = length-sets s (block_at b i) (block_with b i n (block_bytes s b i))

pub byte-kept : (s : List ℕ) (b : Bank) (i n k : ℕ) → (InBlock b i k → ⊥) → get_or (packed.put s b i n) k 0 ≡ get_or s k 0
byte-kept s b i n k h =
    let bs = block_bytes s b i in
    other-kept s (block_at b i) (block_with b i n bs) k (outside b i n bs k h)

-- a block is known by its bytes
block-kept : (s t : List ℕ) (c : Bank) (j : ℕ) → length t ≡ length s → ((k : ℕ) → InBlock c j k → get_or t k 0 ≡ get_or s k 0)
    → block_bytes t c j ≡ block_bytes s c j
block-kept s t c j l h = run-kept s t (block_at c j) (layout_of c).width l (λ k a z. h k (record { from = a; to = z }))

-- ---- an element that the image has
module _ (s : List ℕ) (b : Bank) (i : ℕ) (e : length s ≡ image_size) (h : i < (layout_of b).elements) where
  within : block_at b i + (layout_of b).width ≤ length s
  within = omega (arith, block-end b i h, e)

  block-put : (n : ℕ) → block_bytes (packed.put s b i n) b i ≡ block_with b i n (block_bytes s b i)
  block-put n =
      let bs = block_with b i n (block_bytes s b i) in
      let count = with-length b i n (block_bytes s b i) in
      rw count at (run-written s (block_at b i) bs (rw count within))

  get_put : (n : ℕ) → Holdable b n → packed.get (packed.put s b i n) b i ≡ n % modulus b
  get_put n g = ap (number_in b i) (block-put n) ∙ number-with b i n (block_bytes s b i) g

  get_below : Bytes s → packed.get s b i < 256 ^ (layout_of b).width
  get_below g =
      number-below b i (block_bytes s b i) (run_length s (block_at b i) (layout_of b).width within) (run-bytes s (block_at b i) (layout_of b).width g)

  flag_put : (n : ℕ) (f : Fault) → get_or (packed.put s b i n) (flag_at f) 0 ≡ get_or s (flag_at f) 0
  flag_put n f = byte-kept s b i n (flag_at f) (no_flag b i f h)

  block-flag : (f : Fault) → block_bytes (set s (flag_at f) 1) b i ≡ block_bytes s b i
  block-flag f =
      block-kept s (set s (flag_at f) 1) b i (length-set s (flag_at f) 1)
      (λ k w. get_or-set_other s (flag_at f) k 1 0 (λ q. no_flag b i f h (subst (InBlock b i) q w)))

  get_flag : (f : Fault) → packed.get (set s (flag_at f) 1) b i ≡ packed.get s b i
  get_flag f = ap (number_in b i) (block-flag f)

  put_flag : (n : ℕ) (f : Fault) → set (packed.put s b i n) (flag_at f) 1 ≡ packed.put (set s (flag_at f) 1) b i n
  put_flag n f =
      let bs = block_bytes s b i in
      set-sets s (block_at b i) (block_with b i n bs) (flag_at f) 1 (outside b i n bs (flag_at f) (no_flag b i f h))
      ∙ ap (λ (r : List ℕ). sets (set s (flag_at f) 1) (block_at b i) (block_with b i n r)) (sym (block-flag f))

  -- ---- a neighbour in its byte
  module _ (j : ℕ) (w : Neighbours b i j) where
    one_place : block_at b i ≡ block_at b j
    one_place = ap (block_place b) w.block

    one_block : (t : List ℕ) → block_bytes t b i ≡ block_bytes t b j
    one_block t = ap (λ (a : ℕ). take (layout_of b).width (drop a t)) one_place

    get-neighbour : (n : ℕ) → Holdable b n → packed.get (packed.put s b i n) b j ≡ packed.get s b j
    get-neighbour n g =
        ap (number_in b j) (sym (one_block (packed.put s b i n)) ∙ block-put n)
        ∙ number-other i j n (block_bytes s b i) w.bits w.places g
        ∙ ap (number_in b j) (one_block s)

    -- both in one write
    put_both : (n m : ℕ) → packed.put (packed.put s b i n) b j m ≡ sets s (block_at b i) (block_with b j m (block_with b i n (block_bytes s b i)))
    put_both n m =
        let xs = block_with b i n (block_bytes s b i) in
        let ys = block_with b j m xs in
        ap (λ (r : List ℕ). sets (packed.put s b i n) (block_at b j) (block_with b j m r)) (sym (one_block (packed.put s b i n)) ∙ block-put n)
        ∙ ap (λ (a : ℕ). sets (packed.put s b i n) a ys) (sym one_place)
        ∙ sets-again s (block_at b i) xs ys (with-length b i n (block_bytes s b i) ∙ sym (with-length b j m xs))

put-neighbours : (s : List ℕ) (b : Bank) (i j n m : ℕ) → length s ≡ image_size → i < (layout_of b).elements → j < (layout_of b).elements → Neighbours b i j
    → Holdable b n → Holdable b m → packed.put (packed.put s b i n) b j m ≡ packed.put (packed.put s b j m) b i n
put-neighbours s b i j n m e h g w k l =
    let back : Neighbours b j i = record { bits = w.bits; block = sym w.block; places = λ q. w.places (sym q) } in
    put_both s b i e h j w n m
    ∙ ap (sets s (block_at b i)) (with-commute i j n m (block_bytes s b i) w.bits w.places k l)
    ∙ ap (λ (a : ℕ). sets s a (block_with b i n (block_with b j m (block_bytes s b i)))) (one_place s b i e h j w)
    ∙ ap (λ (r : List ℕ). sets s (block_at b j) (block_with b i n (block_with b j m r))) (one_block s b i e h j w s)
    ∙ sym (put_both s b j e g i back m n)

-- ---- two elements
module _ (s : List ℕ) (e : length s ≡ image_size) (b : Bank) (i : ℕ) (h : i < (layout_of b).elements) where
  block-other : (n : ℕ) (c : Bank) (j : ℕ) → ((k : ℕ) → InBlock b i k → InBlock c j k → ⊥) → block_bytes (packed.put s b i n) c j ≡ block_bytes s c j
  block-other n c j d = block-kept s (packed.put s b i n) c j (put_length s b i n) (λ k w. byte-kept s b i n k (λ v. d k v w))

  get_other : (n : ℕ) {c : Bank} {j : ℕ} → Holdable b n → Apart b i c j → packed.get (packed.put s b i n) c j ≡ packed.get s c j
  get_other n k (in-byte {j} w) = get-neighbour s b i e h j w n k
  get_other n k (separate {c} {j} d) = ap (number_in c j) (block-other n c j d)

put-separate : (s : List ℕ) (b : Bank) (i n : ℕ) (c : Bank) (j m : ℕ) → length s ≡ image_size → i < (layout_of b).elements → j < (layout_of c).elements
    → ((k : ℕ) → InBlock b i k → InBlock c j k → ⊥) → packed.put (packed.put s b i n) c j m ≡ packed.put (packed.put s c j m) b i n
put-separate s b i n c j m e h g d =
    let xs = block_with b i n (block_bytes s b i) in
    let ys = block_with c j m (block_bytes s c j) in
    ap (λ (r : List ℕ). sets (packed.put s b i n) (block_at c j) (block_with c j m r)) (block-other s e b i h n c j d)
    ∙ sets-sets s (block_at b i) xs (block_at c j) ys
    (λ k a z. outside b i n (block_bytes s b i) k (λ v. d k v (record { from = a; to = omega (arith, z, with-length c j m (block_bytes s c j)) })))
    ∙ ap (λ (r : List ℕ). sets (packed.put s c j m) (block_at b i) (block_with b i n r)) (sym (block-other s e c j g m b i (λ k v w. d k w v)))

put_put : (s : List ℕ) (b : Bank) (i n : ℕ) {c : Bank} {j : ℕ} (m : ℕ) → length s ≡ image_size → i < (layout_of b).elements → j < (layout_of c).elements
    → Holdable b n → Holdable c m → Apart b i c j → packed.put (packed.put s b i n) c j m ≡ packed.put (packed.put s c j m) b i n
put_put s b i n m e h g k l (in-byte {j} w) = put-neighbours s b i j n m e h g w k l
put_put s b i n m e h g k l (separate {c} {j} d) = put-separate s b i n c j m e h g d

pub packed-laws : LayoutLaws packed
packed-laws =
    record {
      get_put = λ s b i n e h. get_put s b i e h n;
      get_other = λ s b i n c j e h g k d. get_other s e b i h n k (apart b i c j h g d);
      get_flag = λ s f c j e h. get_flag s c j e h f;
      flag_put = λ s b i n f e h. flag_put s b i e h n f;
      put_put = λ s b i n c j m e h g k l d. put_put s b i n m e h g k l (apart b i c j h g d);
      put_flag = λ s b i n f e h. put_flag s b i e h n f;
      put_length = put_length;
      flag_inside = λ f. (flag-end f).1;
      flag_apart = flag_apart;
      get_below = get_below;
    }
