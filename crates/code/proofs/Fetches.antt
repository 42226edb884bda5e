-- The eight bytes of an instruction as one number, byte by byte, and of two halves.
use mathlib.Core.Path.{◌≡◌, refl, ap}
use mathlib.Core.List.{List, [], ◌∷◌}
use Prim.Native.Nat.{ℕ, zero, suc, ◌+◌, ◌*◌, ◌/◌, ◌^◌, ◌≤◌, ◌<◌}
use native.Mathlib.Nat.{add-zero, add-suc}
use native.Mathlib.Omega.{arith}
use lib.Dec.{lit<}
use lib.ListN.{length, get_or, take, drop}
use lib.Seq.{drop-cons}
use borrow.Author.Tests.{lt-ltb, le-ltb}
use Rattle.std.specs.Int.{w32, from_le_bytes}
use Rattle.words.specs.Words.{little_endian}
use Rattle.words.specs.Laws.{Bytes}
use Rattle.words.proofs.Laws.{word_laws}
use Rattle.code.specs.Instructions.{fetched}

-- k bytes of s, one by one, the first at b + i
abbrev pub bytes_at : ℕ → ℕ → ℕ → List ℕ → List ℕ
bytes_at b i zero s = []
bytes_at b i (suc k) s = get_or s (b + i) 0 ∷ bytes_at b (suc i) k s

are-bytes : (b i k : ℕ) (s : List ℕ) → Bytes s → Bytes (bytes_at b i k s)
are-bytes b i zero s B n = lit< tt
are-bytes b i (suc k) s B zero = B (b + i)
are-bytes b i (suc k) s B (suc n) = are-bytes b (suc i) k s B n

one_by_one : (b i k : ℕ) (s : List ℕ) → b + i + k ≤ length s → take k (drop (b + i) s) ≡ bytes_at b i k s
one_by_one b i zero s h = refl
one_by_one b i (suc k) s h =
    let here : b + i < length s = omega arith in
    let rest : b + suc i + k ≤ length s = omega arith in
    rw (drop-cons s (b + i) 0 here, ← add-suc b i) (ap (λ (l : List ℕ). get_or s (b + i) 0 ∷ l) (one_by_one b (suc i) k s rest))

pub eight-bytes : (s : List ℕ) (p : ℕ) → p < length s / 8 → take 8 (drop (8 * p) s) ≡ get_or s (8 * p) 0 ∷ bytes_at (8 * p) 1 7 s
eight-bytes s p h = rw add-zero at (one_by_one (8 * p) 0 8 s (omega arith))

pub eight-below : (s : List ℕ) (p : ℕ) → Bytes s → p < length s / 8 → little_endian (take 8 (drop (8 * p) s)) < 2 ^ 64
eight-below s p B h = rw (eight-bytes s p h) (word_laws.below (get_or s (8 * p) 0 ∷ bytes_at (8 * p) 1 7 s) each)
  where
    each : Bytes (get_or s (8 * p) 0 ∷ bytes_at (8 * p) 1 7 s)
    each zero = B (8 * p)
    each (suc n) = are-bytes (8 * p) 1 7 s B n

module _ (s : List ℕ) (p : ℕ) where
  pub fetch-within : p < length s / 8 → fetched s p ≡ little_endian (take 8 (drop (8 * p) s))
  unfolding fetched
  fetch-within h = rw (lt-ltb p (length s / 8) h)

  pub fetch-beyond : length s / 8 ≤ p → fetched s p ≡ 0
  unfolding fetched
  fetch-beyond h = rw (le-ltb p (length s / 8) h)

module _ (s : List ℕ) where
  pub four-read : (b : ℕ) → b + 4 ≤ length s → from_le_bytes w32 (get_or s b 0 ∷ bytes_at b 1 3 s) ≡ little_endian (take 4 (drop b s))
  four-read b h =
      let each : take 4 (drop b s) ≡ get_or s b 0 ∷ bytes_at b 1 3 s = rw add-zero at (one_by_one b 0 4 s (omega arith)) in
      rw each (omega arith)

  -- of two halves
  pub fetch-halves : (p : ℕ) → p < length s / 8
      → little_endian (take 4 (drop (8 * p) s)) + 2 ^ 32 * little_endian (take 4 (drop (8 * p + 4) s)) ≡ fetched s p
  fetch-halves p h =
      let low : take 4 (drop (8 * p) s) ≡ get_or s (8 * p) 0 ∷ bytes_at (8 * p) 1 3 s = rw add-zero at (one_by_one (8 * p) 0 4 s (omega arith)) in
      rw (fetch-within s p h, eight-bytes s p h, low, one_by_one (8 * p) 4 4 s (omega arith)) (omega arith)
