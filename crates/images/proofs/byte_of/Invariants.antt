-- `images::byte_of` meets its contract. The invariant: the bits from k on make the byte.
use mathlib.Core.Path.{◌≡◌}
use Prim.Native.Nat.{◌+◌, ◌-◌}
use Rattle.images.specs.Conversions.{byte_of}
use Rattle.images.proofs.byte_of.Given as goal

abbrev pub invariant-loop-k : goal.invariant-loop-k
invariant-loop-k l = l.byte ≡ byte_of l.old (l.at + l.k) (8 - l.k)
