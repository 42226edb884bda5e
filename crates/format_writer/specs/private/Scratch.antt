-- For the contracts of functions that no reader calls: a text written from the front of a buffer that may be too small for it.
use Rattle.std.specs.Prelude.{◌≡◌, List, ℕ, suc, ◌≤◌, ◌<◌, length, take}

-- the text o is the first n bytes of the buffer; or it is longer than the buffer, and so is n
pub data Holds (o buf : List ℕ) (n : ℕ) : Type 0 where
  kept : n ≤ length buf → take n buf ≡ o → Holds o buf n
  lost : length buf < length o → length buf < n → Holds o buf n

-- one past the buffer's end stands for everything beyond
abbrev pub Counted : ℕ → List ℕ → Type 0
Counted n buf = n ≤ suc (length buf)

-- what follows the text o starts there, if o is no longer than the buffer
abbrev pub StartsBehind : List ℕ → List ℕ → ℕ → Type 0
StartsBehind o buf start = length o ≤ length buf → start ≡ length o
