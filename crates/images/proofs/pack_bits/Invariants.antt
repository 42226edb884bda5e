-- `images::pack_bits` meets its contract. The invariant: k bytes are there.
use mathlib.Core.List.{List}
use Prim.Native.Nat.{ℕ, ◌*◌}
use Rattle.images.specs.Conversions.{byte_of}
use Rattle.images.proofs.Filling.{Filled}
use Rattle.images.proofs.pack_bits.Given as goal

-- the bytes that the bits make
abbrev pub eight : List ℕ → ℕ → ℕ
eight old k = byte_of old (8 * k) 8

abbrev pub invariant-loop-k : goal.invariant-loop-k
invariant-loop-k l = Filled (eight l.old) l.initial.image l.k l.image
