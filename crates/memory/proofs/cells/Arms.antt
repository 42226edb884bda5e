-- A cell as an arm of `get`, `put` and `read` reaches it: at the arm's bank a, which is the bank b that was given. Assumes nothing.
use mathlib.Core.Path.{◌≡◌, refl, sym, ap, subst, ◌∙◌}
use mathlib.Core.List.{List}
use Prim.Native.Nat.{ℕ, ◌+◌, ◌/◌, ◌%◌, ◌^◌, ◌≤◌, ◌<◌}
use native.Mathlib.Nat.{add-zero}
use native.Mathlib.Omega.{arith}
use lib.Dec.{T, lit<}
use lib.Ieee.Bits.{is_true}
use lib.ListN.{length, get_or, set, take, drop}
use lib.Seq.{sets, get_or-take, get_or-drop}
use Rattle.words.specs.Words.{little_endian, bytes_of}
use Rattle.words.specs.Bits.{bit, with_bit}
use Rattle.values.specs.declared.Outcome.{Outcome}
use Rattle.memory.specs.declared.Bank.{Bank}
use Rattle.memory.specs.declared.Bank.TheVariants.{«V», N, D, R}
use Rattle.memory.specs.Layout.{layout_of, block_place, block_of, number_in, block_with, packed, has_cell}
use Rattle.memory.specs.Laws.{Bits, is_x, is_c, Holdable}
use Rattle.memory.specs.Cells.{cell_value, read_rule}
use Rattle.memory.proofs.Places.{has-element}
use Rattle.memory.proofs.Blocks.{block-below, block_within}

-- ---- a bank of bits, and a bank of words: an element's block, and its number there
first_byte : (s : List ℕ) (at : ℕ) → get_or s at 0 ≡ get_or (take 1 (drop at s)) 0 0
first_byte s at = sym (get_or-take 1 (drop at s) 0 0 (lit< tt) ∙ get_or-drop at s 0 0 ∙ ap (λ (n : ℕ). get_or s n 0) (add-zero at))

record OfBits (a : Bank) : Type 0 where
  one_byte : (layout_of a).width ≡ 1
  block-is : (i : ℕ) → i / 8 ≡ block_of a i
  number_is : (s : List ℕ) (i at : ℕ) → bit (get_or s at 0) (i % 8) ≡ number_in a i (take (layout_of a).width (drop at s))
  bytes-are : (s : List ℕ) (i at n : ℕ) → set s at (with_bit (get_or s at 0) (i % 8) n) ≡ sets s at (block_with a i n (take (layout_of a).width (drop at s)))

of-bits : {a : Bank} → Bits a → OfBits a
of-bits is_x =
    record {
      one_byte = refl;
      block-is = λ i. refl;
      number_is = λ s i at. ap (λ (x : ℕ). bit x (i % 8)) (first_byte s at);
      bytes-are = λ s i at n. ap (λ (x : ℕ). set s at (with_bit x (i % 8) n)) (first_byte s at);
    }
of-bits is_c =
    record {
      one_byte = refl;
      block-is = λ i. refl;
      number_is = λ s i at. ap (λ (x : ℕ). bit x (i % 8)) (first_byte s at);
      bytes-are = λ s i at n. ap (λ (x : ℕ). set s at (with_bit x (i % 8) n)) (first_byte s at);
    }

-- the banks of words
pub data Words : Bank → Type 0 where
  is-v : Words «V»
  is-n : Words N
  is-d : Words D
  is-r : Words R

record OfWords (a : Bank) : Type 0 where
  block-is : (i : ℕ) → i ≡ block_of a i
  number_is : (i : ℕ) (bs : List ℕ) → little_endian bs ≡ number_in a i bs
  bytes-are : (i n : ℕ) (bs : List ℕ) → bytes_of (layout_of a).width n ≡ block_with a i n bs

of_words : {a : Bank} → Words a → OfWords a
of_words is-v = record { block-is = λ i. refl; number_is = λ i bs. refl; bytes-are = λ i n bs. refl }
of_words is-n = record { block-is = λ i. refl; number_is = λ i bs. refl; bytes-are = λ i n bs. refl }
of_words is-d = record { block-is = λ i. refl; number_is = λ i bs. refl; bytes-are = λ i n bs. refl }
of_words is-r = record { block-is = λ i. refl; number_is = λ i bs. refl; bytes-are = λ i n bs. refl }

module _ (s : List ℕ) (b a : Bank) (i : ℕ) (e : b ≡ a) (h : T (has_cell s b i)) where
  pub there : T (has_cell s a i)
  there = subst (λ (x : Bank). T (has_cell s x i)) e h

  pub element : i < (layout_of a).elements
  element = has-element packed s a i there

  pub reads : {n : ℕ} {r : Outcome} → n ≡ packed.get s a i → r ≡ cell_value a n → r ≡ read_rule s b i
  reads {n} m v = rw (is_true (has_cell s b i) h) (v ∙ ap (cell_value a) m ∙ ap (λ (x : Bank). cell_value x (packed.get s x i)) (sym e))

  -- ---- at the block n, which is the element's
  module _ (n : ℕ) (q : n ≡ block_of a i) where
    within : {at : ℕ} → at ≡ block_place a n → at + (layout_of a).width ≤ length s
    within p = rw (p, q) (block_within s a i there)

    number : {at m : ℕ} → at ≡ block_place a n → m ≡ number_in a i (take (layout_of a).width (drop at s)) → m ≡ packed.get s b i
    number p m =
        m ∙ ap (λ (z : ℕ). number_in a i (take (layout_of a).width (drop z s))) (p ∙ ap (block_place a) q) ∙ ap (λ (x : Bank). packed.get s x i) (sym e)

    image : {at : ℕ} {t : List ℕ} (m : ℕ) → at ≡ block_place a n → t ≡ sets s at (block_with a i m (take (layout_of a).width (drop at s)))
        → t ≡ packed.put s b i m
    image m p w =
        w ∙ ap (λ (z : ℕ). sets s z (block_with a i m (take (layout_of a).width (drop z s)))) (p ∙ ap (block_place a) q)
        ∙ ap (λ (x : Bank). packed.put s x i m) (sym e)

  -- ---- a bit
  module _ (w : Bits a) where
    pub block : i / 8 < (layout_of a).elements
    block = rw ((of-bits w).block-is i) (block-below a i element)

    pub reach-bit : {at : ℕ} → at ≡ block_place a (i / 8) → at < length s
    reach-bit p = omega (arith, within (i / 8) ((of-bits w).block-is i) p, (of-bits w).one_byte)

    pub got-bit : {at n : ℕ} → at ≡ block_place a (i / 8) → n ≡ bit (get_or s at 0) (i % 8) → n < 2 → (n ≡ packed.get s b i) × (n < 256 ^ (layout_of b).width)
    got-bit {at} p m l = (number (i / 8) ((of-bits w).block-is i) p (m ∙ (of-bits w).number_is s i at), rw (e, (of-bits w).one_byte) (omega arith))

    pub written-bit : (n : ℕ) {at : ℕ} {t : List ℕ} → at ≡ block_place a (i / 8) → t ≡ set s at (with_bit (get_or s at 0) (i % 8) n) → t ≡ packed.put s b i n
    written-bit n {at} p m = image (i / 8) ((of-bits w).block-is i) n p (m ∙ (of-bits w).bytes-are s i at n)

    -- a number that the given bank can hold
    pub digit : {n : ℕ} → Holdable b n → n < 2
    digit g = g.bit (subst Bits (sym e) w)

  -- ---- a word
  module _ (w : Words a) where
    pub reach-word : {at : ℕ} → at ≡ block_place a i → at + (layout_of a).width ≤ length s
    reach-word p = within i ((of_words w).block-is i) p

    pub got_word : {at n : ℕ} → at ≡ block_place a i → n ≡ little_endian (take (layout_of a).width (drop at s)) → n < 256 ^ (layout_of a).width
        → (n ≡ packed.get s b i) × (n < 256 ^ (layout_of b).width)
    got_word {at} p m l =
        (number i ((of_words w).block-is i) p (m ∙ (of_words w).number_is i (take (layout_of a).width (drop at s))), rw e l)

    pub written-word : (n : ℕ) {at : ℕ} {t : List ℕ} → at ≡ block_place a i → t ≡ sets s at (bytes_of (layout_of a).width n) → t ≡ packed.put s b i n
    written-word n {at} p m =
        image i ((of_words w).block-is i) n p (m ∙ ap (sets s at) ((of_words w).bytes-are i n (take (layout_of a).width (drop at s))))
