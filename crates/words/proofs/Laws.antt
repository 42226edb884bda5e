-- Bytes to number and back, at every width. Each law is by recursion on the bytes: one division by 256 at a time. Assumes nothing.
use mathlib.Core.Path.{◌≡◌, refl, ap}
use mathlib.Core.List.{List, [], ◌∷◌}
use Prim.Native.Nat.{ℕ, zero, suc, ◌+◌, ◌*◌, ◌/◌, ◌%◌, ◌^◌, ◌<◌}
use native.Mathlib.Nat.{pow-suc, one-le-pow}
use native.Mathlib.Omega.{arith}
use lib.Arith.{mod-mul}
use lib.Dec.{lit<}
use lib.ListN.{length}
use Rattle.words.specs.Words.{little_endian, bytes_of}
use Rattle.words.specs.Laws.{Bytes, WordLaws}

-- the bytes after the first are bytes
bytes-tail : (b : ℕ) (bs : List ℕ) → Bytes (b ∷ bs) → Bytes bs
bytes-tail b bs h k = h (suc k)

little-bytes : (k n : ℕ) → little_endian (bytes_of k n) ≡ n % 256 ^ k
little-bytes zero n = omega arith
little-bytes (suc k) n =
    let positive : 0 < 256 ^ k = one-le-pow k 256 (lit< tt) in
    let rest = little-bytes k (n / 256) in
    let split = mod-mul n {m = 256 ^ k} {c = 256} positive (lit< tt) in
    rw (pow-suc 256 k) (omega arith)

bytes-little : (bs : List ℕ) → Bytes bs → bytes_of (length bs) (little_endian bs) ≡ bs
bytes-little [] h = refl
bytes-little (b ∷ bs) h =
    let first : (b + 256 * little_endian bs) % 256 ≡ b = omega (arith, h 0) in
    let rest : (b + 256 * little_endian bs) / 256 ≡ little_endian bs = omega (arith, h 0) in
    rw (first, rest) (ap (λ (l : List ℕ). b ∷ l) (bytes-little bs (bytes-tail b bs h)))

little-below : (bs : List ℕ) → Bytes bs → little_endian bs < 256 ^ length bs
little-below [] h = lit< tt
little-below (b ∷ bs) h =
    rw (pow-suc 256 (length bs)) (omega (arith, h 0, little-below bs (bytes-tail b bs h)))

length-bytes : (k n : ℕ) → length (bytes_of k n) ≡ k
length-bytes zero n = refl
length-bytes (suc k) n = ap suc (length-bytes k (n / 256))

are-bytes : (k n : ℕ) → Bytes (bytes_of k n)
are-bytes zero n j = lit< tt
are-bytes (suc k) n zero = omega arith
are-bytes (suc k) n (suc j) = are-bytes k (n / 256) j

pub word_laws : WordLaws
word_laws =
    record {
      decode_encode = little-bytes;
      encode_decode = bytes-little;
      below = little-below;
      count = length-bytes;
      bytes = are-bytes;
    }
