-- What holds of patterns at every width k: proofs/Laws.antt proves this record. Paper 01 stores the low 16 or 32 bits and reads them with a sign: "Document 001
-- says that 32768 in N reads -1; it is -32768."
use Rattle.std.specs.Prelude.{◌≡◌, ℕ, ◌+◌, ◌-◌, ◌%◌, ◌^◌, ◌<◌, ◌≤◌, Bool, T, ℤ, pos, ◌+ℤ◌, ◌-ℤ◌, ◌*ℤ◌, neg_ℤ}
use Rattle.std.specs.Int.Signed.{shr_z}
use Rattle.values.specs.Integers.{between}
use Rattle.values.specs.Patterns.{low_bits, signed_of, since_int}

-- k bits hold z with its sign: `in_range` is this at 32
abbrev pub in_bits : ℕ → ℤ → Bool
in_bits k z = between (neg_ℤ (pos (2 ^ (k - 1)))) (pos (2 ^ (k - 1) - 1)) z

pub record PatternLaws : Type 0 where
  -- the low bits are what is left of z beside a multiple of 2 ^ k; `shr_z` is the quotient, rounded down
  pub low_below : (k : ℕ) (z : ℤ) → low_bits k z < 2 ^ k
  pub low_rest : (k : ℕ) (z : ℤ) → pos (low_bits k z) +ℤ shr_z z (2 ^ k) *ℤ pos (2 ^ k) ≡ z
  -- the signed reading takes 2 ^ k from a number whose top bit is set, and so lies in the range of k bits
  pub signed_clear : (k n : ℕ) → n < 2 ^ (k - 1) → signed_of k n ≡ pos n
  pub signed_set : (k n : ℕ) → 2 ^ (k - 1) ≤ n → n < 2 ^ k → signed_of k n ≡ pos n -ℤ pos (2 ^ k)
  pub signed_range : (k n : ℕ) → 0 < k → n < 2 ^ k → T (in_bits k (signed_of k n))
  -- an integer of k bits and its pattern are found from each other
  pub signed_low : (k : ℕ) (z : ℤ) → 0 < k → T (in_bits k z) → signed_of k (low_bits k z) ≡ z
  pub low_signed : (k n : ℕ) → n < 2 ^ k → low_bits k (signed_of k n) ≡ n
  -- "a dose across the turn, under 2147483648 milliseconds, is timed rightly" (paper 02, Ask 13): d after the tick s, of which the formula holds the pattern
  pub elapsed : (s d : ℕ) → s < 2 ^ 32 → d < 2 ^ 31 → since_int ((s + d) % 2 ^ 32) (signed_of 32 s) ≡ pos d
