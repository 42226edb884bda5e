-- `images::unpack_bits` meets its contract. The invariant: i bytes are there.
use mathlib.Core.List.{List}
use Prim.Native.Nat.{ℕ, ◌/◌, ◌%◌}
use lib.ListN.{get_or}
use Rattle.words.specs.Bits.{bit}
use Rattle.images.proofs.Filling.{Filled}
use Rattle.images.proofs.unpack_bits.Given as goal

-- the bit of each place
abbrev pub bit_at : List ℕ → ℕ → ℕ
bit_at image i = bit (get_or image (i / 8) 0) (i % 8)

abbrev pub invariant-loop-i : goal.invariant-loop-i
invariant-loop-i l = Filled (bit_at l.image) l.initial.old l.i l.old
