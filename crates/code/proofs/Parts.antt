-- The instruction at a place is that of its eight bytes, and the code is a list of instructions.
use mathlib.Core.Path.{◌≡◌, refl, ap, ◌∙◌}
use mathlib.Core.List.{List}
use Prim.Native.Nat.{ℕ, zero, suc, ◌+◌, ◌*◌, ◌/◌, ◌≤◌, ◌<◌}
use native.Mathlib.Nat.{add-zero, not-suc-le-zero, le_of_suc-le-suc}
use native.Mathlib.Omega.{arith}
use lib.ListN.{length, get_or, take, drop}
use Rattle.words.specs.Words.{little_endian}
use Rattle.code.specs.declared.Instr.TheVariants.{Unknown}
use Rattle.code.specs.Instructions.{instruction, instruction_of, fetched, decode_at, decode_from}
use Rattle.code.proofs.Fetches.{eight-bytes, fetch-within, fetch-beyond}

pub decode-fetched : (s : List ℕ) (p : ℕ) → decode_at s p ≡ instruction_of (fetched s p)
unfolding decode_at
decode-fetched s p = refl

zero-unknown : instruction_of 0 ≡ Unknown
unfolding instruction
zero-unknown = refl

pub decode-beyond : (s : List ℕ) (p : ℕ) → length s / 8 ≤ p → decode_at s p ≡ Unknown
decode-beyond s p h = decode-fetched s p ∙ rw (fetch-beyond s p h, zero-unknown)

pub decode-within : (s : List ℕ) (p : ℕ) → p < length s / 8 → decode_at s p ≡ instruction_of (little_endian (take 8 (drop (8 * p) s)))
decode-within s p h = decode-fetched s p ∙ ap instruction_of (fetch-within s p h)

pub decode-part : (s : List ℕ) (p : ℕ) → p < length s / 8 → decode_at s p ≡ decode_at (take 8 (drop (8 * p) s)) 0
unfolding decode_at
decode-part s p h = decode-within s p h ∙ rw (eight-bytes s p h)

-- ---- the code as a list of instructions
pub decode-length : (s : List ℕ) (p n : ℕ) → length (decode_from s p n) ≡ n
unfolding decode_from
decode-length s p zero = refl
decode-length s p (suc n) = ap suc (decode-length s (suc p) n)

pub decode-at : (s : List ℕ) (p n k : ℕ) → k < n → get_or (decode_from s p n) k Unknown ≡ decode_at s (p + k)
unfolding decode_from
decode-at s p zero k h = absurd (not-suc-le-zero h)
decode-at s p (suc n) zero h = rw (add-zero p)
decode-at s p (suc n) (suc k) h = decode-at s (suc p) n k (le_of_suc-le-suc h) ∙ ap (decode_at s) (omega arith)
