-- Cells and flags are all of an image of bytes: so the corresponding image is one. Assumes nothing.
use mathlib.Core.Path.{◌≡◌, refl, sym, ap, subst, ◌∙◌}
use mathlib.Core.List.{List}
use Prim.Native.Nat.{ℕ, ◌+◌, ◌-◌, ◌*◌, ◌/◌, ◌%◌, ◌≤◌, ◌<◌}
use native.Mathlib.Decide.{dec_lt}
use native.Mathlib.Omega.{arith}
use lib.ListN.{length, get_or, take, drop}
use lib.Seq.{ext_get_or, get_or-take, get_or-drop}
use Rattle.words.specs.Words.{little_endian, bytes_of}
use Rattle.words.specs.Bits.{bit}
use Rattle.words.specs.Laws.{Bytes}
use Rattle.words.proofs.Laws.{word_laws}
use Rattle.words.proofs.Digits.{digit-laws}
use Rattle.values.specs.declared.Fault.TheVariants.{DividedByZero, Overflow, OutOfRange, IndexError}
use Rattle.memory.specs.declared.Bank.TheVariants.{X, C, «V», N, D, R}
use Rattle.memory.specs.Layout.{image_size}
use Rattle.memory.proofs.Runs.{run_length, run-bytes}
use Rattle.images.specs.Conversions.{Corresponds, byte_of, packed_of, unpacked_of}
use Rattle.images.specs.Theorems.{SameCells, Digits}
use Rattle.images.proofs.Rows.{row_at, first_byte}
use Rattle.images.proofs.Bits.{truth-digit, byte-digit, byte-below}
use Rattle.images.proofs.Packing.{packed-length, packed-rest, packs, unpacked-length, unpacked-at, unpacked-rest}

module _ (s t : List ℕ) (e : length s ≡ image_size) (f : length t ≡ image_size) (bs : Bytes s) (bt : Bytes t) (same : SameCells s t) where
  placed : (k n : ℕ) → n ≡ k → get_or s n 0 ≡ get_or t n 0 → get_or s k 0 ≡ get_or t k 0
  placed k n q h = subst (λ (z : ℕ). get_or s z 0 ≡ get_or t z 0) q h

  -- a byte of bits is known by them
  bits-known : (k : ℕ) → ((j : ℕ) → j < 8 → bit (get_or s k 0) j ≡ bit (get_or t k 0) j) → get_or s k 0 ≡ get_or t k 0
  bits-known k d = digit-laws.known 8 (get_or s k 0) (get_or t k 0) (bs k) (bt k) d

  one_bit : (a k i j : ℕ) → a ≡ k → i ≡ j → bit (get_or (take 1 (drop a s)) 0 0) i ≡ bit (get_or (take 1 (drop a t)) 0 0) i
      → bit (get_or s k 0) j ≡ bit (get_or t k 0) j
  one_bit a k i j p q h =
      sym (ap (λ (z : ℕ). bit (get_or s z 0) i) p ∙ ap (bit (get_or s k 0)) q) ∙ ap (λ (x : ℕ). bit x i) (sym (first_byte s a)) ∙ h
      ∙ ap (λ (x : ℕ). bit x i) (first_byte t a)
      ∙ ap (λ (z : ℕ). bit (get_or t z 0) i) p
      ∙ ap (bit (get_or t k 0)) q

  -- a run of bytes by its number
  run-known : (w a j : ℕ) → a + w ≤ image_size → j < w → little_endian (take w (drop a s)) ≡ little_endian (take w (drop a t))
      → get_or s (a + j) 0 ≡ get_or t (a + j) 0
  run-known w a j h l q =
      let known : (r : List ℕ) → length r ≡ image_size → Bytes r → bytes_of w (little_endian (take w (drop a r))) ≡ take w (drop a r) =
      λ r g b. ap (λ (n : ℕ). bytes_of n (little_endian (take w (drop a r)))) (sym (run_length r a w (omega arith)))
      ∙ word_laws.encode_decode (take w (drop a r)) (run-bytes r a w b) in
      let runs : take w (drop a s) ≡ take w (drop a t) = sym (known s e bs) ∙ ap (bytes_of w) q ∙ known t f bt in
      sym (get_or-take w (drop a s) j 0 l ∙ get_or-drop a s j 0) ∙ ap (λ (r : List ℕ). get_or r j 0) runs ∙ get_or-take w (drop a t) j 0 l
      ∙ get_or-drop a t j 0

  flag-known : (k : ℕ) → 3088 ≤ k → k < image_size → get_or s k 0 ≡ get_or t k 0
  flag-known k l h = by (dec_lt k 3089) (dec_lt k 3090) (dec_lt k 3091)
    where
      by : Dec (k < 3089) → Dec (k < 3090) → Dec (k < 3091) → get_or s k 0 ≡ get_or t k 0
      by (yes a) b c = placed k 3088 (omega arith) (same.flags IndexError)
      by (no a) (yes b) c = placed k 3089 (omega arith) (same.flags OutOfRange)
      by (no a) (no b) (yes c) = placed k 3090 (omega arith) (same.flags Overflow)
      by (no a) (no b) (no c) = placed k 3091 (omega arith) (same.flags DividedByZero)

  word-known : (w a p k : ℕ) → p ≤ k → a ≡ p + (k - p) / w * w → (k - p) % w < w → a + (k - p) % w ≡ k → a + w ≤ image_size
      → little_endian (take w (drop a s)) ≡ little_endian (take w (drop a t)) → get_or s k 0 ≡ get_or t k 0
  word-known w a p k l q u r z h = placed k (a + (k - p) % w) r (run-known w a ((k - p) % w) z u h)

  byte : (k : ℕ) → k < image_size → get_or s k 0 ≡ get_or t k 0
  byte k h = by (dec_lt k 8) (dec_lt k 16) (dec_lt k 528) (dec_lt k 1040) (dec_lt k 2064) (dec_lt k 3088)
    where
      by : Dec (k < 8) → Dec (k < 16) → Dec (k < 528) → Dec (k < 1040) → Dec (k < 2064) → Dec (k < 3088) → get_or s k 0 ≡ get_or t k 0
      by (yes x) c v n d r =
          bits-known k (λ j l. one_bit (0 + (8 * k + j) / 8 * 1) k ((8 * k + j) % 8) j (omega arith) (omega arith) (same.cells X (8 * k + j) (omega arith)))
      by (no x) (yes c) v n d r =
          bits-known k
          (λ j l. one_bit (8 + (8 * (k - 8) + j) / 8 * 1) k ((8 * (k - 8) + j) % 8) j (omega arith) (omega arith)
          (same.cells C (8 * (k - 8) + j) (omega arith)))
      by (no x) (no c) (yes v) n d r =
          word-known 2 (16 + (k - 16) / 2 * 2) 16 k (omega arith) refl (omega arith) (omega arith) (omega arith) (same.cells «V» ((k - 16) / 2) (omega arith))
      by (no x) (no c) (no v) (yes n) d r =
          word-known 2 (528 + (k - 528) / 2 * 2) 528 k (omega arith) refl (omega arith) (omega arith) (omega arith)
          (same.cells N ((k - 528) / 2) (omega arith))
      by (no x) (no c) (no v) (no n) (yes d) r =
          word-known 4 (1040 + (k - 1040) / 4 * 4) 1040 k (omega arith) refl (omega arith) (omega arith) (omega arith)
          (same.cells D ((k - 1040) / 4) (omega arith))
      by (no x) (no c) (no v) (no n) (no d) (yes r) =
          word-known 4 (2064 + (k - 2064) / 4 * 4) 2064 k (omega arith) refl (omega arith) (omega arith) (omega arith)
          (same.cells R ((k - 2064) / 4) (omega arith))
      by (no x) (no c) (no v) (no n) (no d) (no r) = flag-known k (omega arith) h

  pub covered : s ≡ t
  covered = ext_get_or 0 s t (e ∙ sym f) (λ k l. byte k (omega (arith, e, l)))

-- ---- the packed image of bytes is one of bytes
packed-bytes : (m : List ℕ) → Bytes m → Bytes (packed_of m)
packed-bytes m b k = by (dec_lt k 16)
  where
    by : Dec (k < 16) → get_or (packed_of m) k 0 < 256
    by (yes h) = subst (λ (x : ℕ). x < 256) (sym (row_at (λ z. byte_of m (8 * z) 8) 0 16 (drop 128 m) k h)) (byte-below m (8 * (0 + k)) 8)
    by (no h) =
        let q : 16 + (k - 16) ≡ k = omega arith in
        subst (λ (z : ℕ). get_or (packed_of m) z 0 < 256) q
        (subst (λ (x : ℕ). x < 256) (packed-rest m (k - 16)) (b (128 + (k - 16))))

pub unpacked-bytes : (n : List ℕ) → length n ≡ image_size → Bytes n → Bytes (unpacked_of n)
unpacked-bytes n e b k = by (dec_lt k 128)
  where
    by : Dec (k < 128) → get_or (unpacked_of n) k 0 < 256
    by (yes h) = omega (arith, unpacked-at n e k h, digit-laws.below (get_or n (k / 8) 0) (k % 8))
    by (no h) =
        let q : 128 + (k - 128) ≡ k = omega arith in
        subst (λ (z : ℕ). get_or (unpacked_of n) z 0 < 256) q (subst (λ (x : ℕ). x < 256) (sym (unpacked-rest n e (k - 128))) (b (16 + (k - 128))))

pub only : (m n : List ℕ) → Corresponds m n → Bytes m → Bytes n → n ≡ packed_of m
only m n c bm bn =
    let p = packs m c.left in
    covered n (packed_of m) c.right (packed-length m c.left) bn (packed-bytes m bm)
    (record { cells = λ b i h. sym (c.cells b i h) ∙ p.cells b i h; flags = λ g. sym (c.flags g) ∙ p.flags g })

-- ---- the old image with 0 or 1 for each bit is one
module _ (m n : List ℕ) (c : Corresponds m n) (bm : Bytes m) (bn : Bytes n) (d : Digits m) where
  old_bit : (k : ℕ) → k < 128 → get_or m k 0 ≡ get_or (unpacked_of n) k 0
  old_bit k h =
      let whole : n ≡ packed_of m = only m n c bm bn in
      sym
      (unpacked-at n c.right k h ∙ ap (λ (r : List ℕ). bit (get_or r (k / 8) 0) (k % 8)) whole
      ∙ ap (λ (x : ℕ). bit x (k % 8)) (row_at (λ z. byte_of m (8 * z) 8) 0 16 (drop 128 m) (k / 8) (omega arith))
      ∙ byte-digit m (8 * (0 + k / 8)) 8 (k % 8) (omega arith)
      ∙ truth-digit (get_or m (8 * (0 + k / 8) + k % 8) 0) (d (8 * (0 + k / 8) + k % 8) (omega arith))
      ∙ ap (λ (z : ℕ). get_or m z 0) (omega arith))

  old-rest : (k : ℕ) → get_or m (128 + k) 0 ≡ get_or (unpacked_of n) (128 + k) 0
  old-rest k =
      packed-rest m k ∙ ap (λ (r : List ℕ). get_or r (16 + k) 0) (sym (only m n c bm bn))
      ∙ sym (unpacked-rest n c.right k)

  pub only_old : m ≡ unpacked_of n
  only_old = ext_get_or 0 m (unpacked_of n) (c.left ∙ sym (unpacked-length n c.right)) (λ k l. by k (dec_lt k 128))
    where
      by : (k : ℕ) → Dec (k < 128) → get_or m k 0 ≡ get_or (unpacked_of n) k 0
      by k (yes h) = old_bit k h
      by k (no h) = let q : 128 + (k - 128) ≡ k = omega arith in subst (λ (z : ℕ). get_or m z 0 ≡ get_or (unpacked_of n) z 0) q (old-rest (k - 128))
