-- `images::byte_of` meets its contract. The invariant: the bits from k on make the byte.
use mathlib.Core.Path.{◌≡◌, ap, ◌∙◌}
use mathlib.Core.List.{List}
use Prim.Native.Nat.{ℕ, ◌+◌, ◌-◌, ◌^◌, ◌≤◌, ◌<◌}
use native.Mathlib.Omega.{arith}
use native.Mathlib.Nat.{add-zero}
use lib.ListN.{get_or}
use lib.Pow.{pow_mono}
use Rattle.images.specs.Conversions.{byte_of}
use Rattle.images.proofs.Bits.{truth-below, byte-below}
use Rattle.images.proofs.byte_of.Goals as goal

-- ---- the bits from k on, while one is left
few : (m : List ℕ) (at k : ℕ) → 0 < k → byte_of m (at + k) (8 - k) < 128
few m at k h =
    let most : 2 ^ (8 - k) ≤ 2 ^ 7 = pow_mono {i = 8 - k} {j = 7} (omega arith) in
    omega (arith, byte-below m (at + k) (8 - k), most)

pub overflow_mul-byte : goal.overflow_mul-byte
overflow_mul-byte c =
    let l = c.loop-k in
    let a = c.args in
    omega (arith, l.invariant, few a.old.now a.at l.k c.loop-k-test.true)

pub overflow_add-byte : goal.overflow_add-byte
overflow_add-byte c =
    let l = c.loop-k in
    let a = c.args in
    let bit = truth-below (get_or a.old.now (a.at + (l.k - 1)) 0) in
    omega (arith, l.invariant, few a.old.now a.at l.k c.loop-k-test.true, c.truth.ensures, bit)

pub returns : goal.returns
returns c =
    let l = c.loop-k in
    let a = c.args in
    let none : l.k ≡ 0 = omega (arith, c.loop-k-test.false) in
    l.invariant ∙ ap (λ (k : ℕ). byte_of a.old.now (a.at + k) (8 - k)) none ∙ ap (λ (z : ℕ). byte_of a.old.now z 8) (add-zero a.at)
