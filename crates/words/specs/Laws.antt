-- Bytes to number and back, at every width, and the digits of any number: proofs/Laws.antt and proofs/Digits.antt prove the records.
use Rattle.std.specs.Prelude.{◌≡◌, ◌≢◌, List, ℕ, ◌%◌, ◌^◌, ◌<◌, length, get_or}
use Rattle.words.specs.Words.{little_endian, bytes_of}
use Rattle.words.specs.Bits.{bit, with_bit}

-- a list of bytes
abbrev pub Bytes : List ℕ → Type 0
Bytes s = (k : ℕ) → get_or s k 0 < 256

pub record WordLaws : Type 0 where
  pub decode_encode : (k n : ℕ) → little_endian (bytes_of k n) ≡ n % 256 ^ k
  pub encode_decode : (bs : List ℕ) → Bytes bs → bytes_of (length bs) (little_endian bs) ≡ bs
  pub below : (bs : List ℕ) → Bytes bs → little_endian bs < 256 ^ length bs
  pub count : (k n : ℕ) → length (bytes_of k n) ≡ k
  pub bytes : (k n : ℕ) → Bytes (bytes_of k n)

pub record DigitLaws : Type 0 where
  -- a digit that is written is there, the others stay, and two commute
  pub written : (x k d : ℕ) → d < 2 → bit (with_bit x k d) k ≡ d
  pub kept : (x k j d : ℕ) → d < 2 → k ≢ j → bit (with_bit x k d) j ≡ bit x j
  pub commute : (x k j c d : ℕ) → c < 2 → d < 2 → k ≢ j → with_bit (with_bit x k c) j d ≡ with_bit (with_bit x j d) k c
  pub below : (x k : ℕ) → bit x k < 2
  -- a number is known by its digits
  pub known : (k x y : ℕ) → x < 2 ^ k → y < 2 ^ k → ((j : ℕ) → j < k → bit x j ≡ bit y j) → x ≡ y
