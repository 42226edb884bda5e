-- Each conversion gives a corresponding image. Assumes nothing.
use mathlib.Core.Path.{◌≡◌, refl, sym, ap, subst, ◌∙◌}
use mathlib.Core.List.{List}
use Prim.Native.Nat.{ℕ, ◌+◌, ◌*◌, ◌/◌, ◌%◌, ◌<◌}
use native.Mathlib.Omega.{arith}
use lib.ListN.{length, get_or, take, drop, length-append, length-drop}
use Rattle.words.specs.Words.{little_endian}
use Rattle.words.specs.Bits.{bit}
use Rattle.words.proofs.Digits.{digit-laws}
use Rattle.values.specs.declared.Fault.{Fault}
use Rattle.values.specs.declared.Fault.TheVariants.{DividedByZero, Overflow, OutOfRange, IndexError}
use Rattle.memory.specs.declared.Bank.{Bank}
use Rattle.memory.specs.declared.Bank.TheVariants.{X, C, «V», N, D, R}
use Rattle.memory.specs.Layout.{image_size, layout_of, packed}
use Rattle.images.specs.Bytewise.{old_size, bytewise}
use Rattle.images.specs.Conversions.{truth_of, normalized, Corresponds, row, byte_of, packed_of, unpacked_of}
use Rattle.images.specs.Theorems.{Digits}
use Rattle.images.proofs.Rows.{row-length, row_at, rest_from, rest_at, first_byte, byte-number}
use Rattle.images.proofs.Bits.{truth-digit, byte-digit}

-- ---- packing
pub packed-rest : (m : List ℕ) (k : ℕ) → get_or m (128 + k) 0 ≡ get_or (packed_of m) (16 + k) 0
packed-rest m k = sym (rest_at (row (λ z. byte_of m (8 * z) 8) 0 16) m 16 128 (row-length (λ z. byte_of m (8 * z) 8) 0 16) k)

module _ (m : List ℕ) (e : length m ≡ old_size) where
  abbrev front : List ℕ
  front = row (λ k. byte_of m (8 * k) 8) 0 16

  pub packed-length : length (packed_of m) ≡ image_size
  packed-length = length-append front (drop 128 m) ∙ omega (arith, e, row-length (λ k. byte_of m (8 * k) 8) 0 16, length-drop 128 m)

  -- the bit that stands in the byte a of the old image, in the byte k of the new one
  packed-bit : (a k j : ℕ) → k < 16 → j < 8 → a ≡ 8 * k + j
      → truth_of (little_endian (take 1 (drop a m))) ≡ bit (get_or (take 1 (drop k (packed_of m))) 0 0) j
  packed-bit a k j h g q =
      ap truth_of (byte-number m a (omega (arith, e))) ∙ ap (λ (z : ℕ). truth_of (get_or m z 0)) q
      ∙ sym
      (ap (λ (x : ℕ). bit x j) (first_byte (packed_of m) k ∙ row_at (λ z. byte_of m (8 * z) 8) 0 16 (drop 128 m) k h
      ∙ ap (λ (z : ℕ). byte_of m (8 * z) 8) (omega arith))
      ∙ byte-digit m (8 * k) 8 j g)

  packed-run : (w a n k : ℕ) → a ≡ 128 + k → n ≡ 16 + k → little_endian (take w (drop a m)) ≡ little_endian (take w (drop n (packed_of m)))
  packed-run w a n k p q =
      ap (λ (z : ℕ). little_endian (take w (drop z m))) p
      ∙ sym
      (ap (λ (z : ℕ). little_endian (take w (drop z (packed_of m)))) q
      ∙ ap (λ (l : List ℕ). little_endian (take w l)) (rest_from front m 16 128 (row-length (λ z. byte_of m (8 * z) 8) 0 16) k))

  packed-cell : (b : Bank) (i : ℕ) → i < (layout_of b).elements → normalized b (bytewise.get m b i) ≡ packed.get (packed_of m) b i
  packed-cell X i h = packed-bit (0 + i * 1) (0 + i / 8 * 1) (i % 8) (omega arith) (omega arith) (omega arith)
  packed-cell C i h = packed-bit (64 + i * 1) (8 + i / 8 * 1) (i % 8) (omega arith) (omega arith) (omega arith)
  packed-cell «V» i h = packed-run 2 (128 + i * 2) (16 + i * 2) (i * 2) refl refl
  packed-cell N i h = packed-run 2 (640 + i * 2) (528 + i * 2) (512 + i * 2) (omega arith) (omega arith)
  packed-cell D i h = packed-run 4 (1152 + i * 4) (1040 + i * 4) (1024 + i * 4) (omega arith) (omega arith)
  packed-cell R i h = packed-run 4 (2176 + i * 4) (2064 + i * 4) (2048 + i * 4) (omega arith) (omega arith)

  packed-flag : (f : Fault) → get_or m (bytewise.flag f) 0 ≡ get_or (packed_of m) (packed.flag f) 0
  packed-flag IndexError = packed-rest m 3072
  packed-flag OutOfRange = packed-rest m 3073
  packed-flag Overflow = packed-rest m 3074
  packed-flag DividedByZero = packed-rest m 3075

  pub packs : Corresponds m (packed_of m)
  packs = record { left = e; right = packed-length; cells = packed-cell; flags = packed-flag }

-- ---- unpacking
module _ (n : List ℕ) (e : length n ≡ image_size) where
  abbrev spread : List ℕ
  spread = row (λ i. bit (get_or n (i / 8) 0) (i % 8)) 0 128

  spread-length : length spread ≡ 128
  spread-length = row-length (λ i. bit (get_or n (i / 8) 0) (i % 8)) 0 128

  pub unpacked-length : length (unpacked_of n) ≡ old_size
  unpacked-length = length-append spread (drop 16 n) ∙ omega (arith, e, spread-length, length-drop 16 n)

  pub unpacked-at : (k : ℕ) → k < 128 → get_or (unpacked_of n) k 0 ≡ bit (get_or n (k / 8) 0) (k % 8)
  unpacked-at k h =
      let q : 0 + k ≡ k = omega arith in
      row_at (λ i. bit (get_or n (i / 8) 0) (i % 8)) 0 128 (drop 16 n) k h ∙ ap (λ (i : ℕ). bit (get_or n (i / 8) 0) (i % 8)) q

  pub unpacked-rest : (k : ℕ) → get_or (unpacked_of n) (128 + k) 0 ≡ get_or n (16 + k) 0
  unpacked-rest k = rest_at spread n 128 16 spread-length k

  unpacked-bit : (a k j : ℕ) → a < 128 → a / 8 ≡ k → a % 8 ≡ j
      → truth_of (little_endian (take 1 (drop a (unpacked_of n)))) ≡ bit (get_or (take 1 (drop k n)) 0 0) j
  unpacked-bit a k j h p q =
      ap truth_of (byte-number (unpacked_of n) a (omega (arith, unpacked-length)) ∙ unpacked-at a h)
      ∙ truth-digit (bit (get_or n (a / 8) 0) (a % 8)) (digit-laws.below (get_or n (a / 8) 0) (a % 8))
      ∙ ap (λ (z : ℕ). bit (get_or n z 0) (a % 8)) p
      ∙ ap (bit (get_or n k 0)) q
      ∙ ap (λ (x : ℕ). bit x j) (sym (first_byte n k))

  unpacked-run : (w a b k : ℕ) → a ≡ 128 + k → b ≡ 16 + k → little_endian (take w (drop a (unpacked_of n))) ≡ little_endian (take w (drop b n))
  unpacked-run w a b k p q =
      ap (λ (z : ℕ). little_endian (take w (drop z (unpacked_of n)))) p ∙ ap (λ (l : List ℕ). little_endian (take w l)) (rest_from spread n 128 16 spread-length k)
      ∙ sym (ap (λ (z : ℕ). little_endian (take w (drop z n))) q)

  unpacked-cell : (b : Bank) (i : ℕ) → i < (layout_of b).elements → normalized b (bytewise.get (unpacked_of n) b i) ≡ packed.get n b i
  unpacked-cell X i h = unpacked-bit (0 + i * 1) (0 + i / 8 * 1) (i % 8) (omega arith) (omega arith) (omega arith)
  unpacked-cell C i h = unpacked-bit (64 + i * 1) (8 + i / 8 * 1) (i % 8) (omega arith) (omega arith) (omega arith)
  unpacked-cell «V» i h = unpacked-run 2 (128 + i * 2) (16 + i * 2) (i * 2) refl refl
  unpacked-cell N i h = unpacked-run 2 (640 + i * 2) (528 + i * 2) (512 + i * 2) (omega arith) (omega arith)
  unpacked-cell D i h = unpacked-run 4 (1152 + i * 4) (1040 + i * 4) (1024 + i * 4) (omega arith) (omega arith)
  unpacked-cell R i h = unpacked-run 4 (2176 + i * 4) (2064 + i * 4) (2048 + i * 4) (omega arith) (omega arith)

  unpacked-flag : (f : Fault) → get_or (unpacked_of n) (bytewise.flag f) 0 ≡ get_or n (packed.flag f) 0
  unpacked-flag IndexError = unpacked-rest 3072
  unpacked-flag OutOfRange = unpacked-rest 3073
  unpacked-flag Overflow = unpacked-rest 3074
  unpacked-flag DividedByZero = unpacked-rest 3075

  pub unpacks : Corresponds (unpacked_of n) n × Digits (unpacked_of n)
  unpacks = (
    record { left = unpacked-length; right = e; cells = unpacked-cell; flags = unpacked-flag },
    λ k h. subst (λ (d : ℕ). d < 2) (sym (unpacked-at k h)) (digit-laws.below (get_or n (k / 8) 0) (k % 8)),
  )
