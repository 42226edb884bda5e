-- `memory::bytes::put_bit` meets its contract: a digit says whether the bit is on.
use mathlib.Core.Path.{◌≡◌, refl, ap, ◌∙◌}
use mathlib.Core.Bool.{not}
use Prim.Native.Nat.{ℕ, zero, suc, ◌<◌}
use native.Mathlib.Omega.{arith}
use lib.Dec.{eqb}
use lib.ListN.{get_or, set}
use Rattle.words.specs.Bits.{with_bit, digit_of}
use Rattle.memory.proofs.bytes.put_bit.Goals as goal

digit-of : (n : ℕ) → n < 2 → digit_of (not (eqb n 0)) ≡ n
digit-of zero h = refl
digit-of (suc zero) h = refl
digit-of (suc (suc n)) h = absurd (omega arith)

pub returns : goal.returns
returns c =
    let a = c.args in
    let digit = digit-of a.n c.requires.2 in
    ap (set a.image.now a.at) (c.with_bit.ensures ∙ ap (with_bit (get_or a.image.now a.at 0) a.k) digit)
