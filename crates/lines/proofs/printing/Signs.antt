-- The text of a pattern's integer: what it is below half of the patterns, and from there on. Assumes nothing.
use mathlib.Core.Path.{◌≡◌, refl}
use mathlib.Core.Bool.{Bool, true, false, cond}
use mathlib.Core.List.{◌∷◌}
use Prim.Native.Nat.{ℕ, zero, suc, ◌-◌, ◌*◌, ◌^◌, ◌<◌}
use native.Mathlib.Nat.{pow-succ'}
use native.Mathlib.Numerals.{sub-one}
use native.Mathlib.Omega.{arith}
use lib.Dec.{ltb}
use lib.IntN.{pos, negsuc}
use Rattle.values.specs.Patterns.{signed_of}
use Rattle.lines.specs.Printing.{decimal_text, signed_text}
use Rattle.lines.specs.private.Steps.{half_text}

pub half-text : (k n : ℕ) → 0 < k → n < 2 ^ k → half_text (2 ^ (k - 1)) n ≡ signed_text (signed_of k n)
half-text zero n p h = absurd (omega arith)
half-text (suc k) n p h =
    let all : 2 ^ suc k ≡ 2 * 2 ^ k = pow-succ' 2 k in
    let e : 2 * 2 ^ k - n ≡ suc (2 ^ suc k - suc n) = omega arith in
    rw (sub-one (suc k), e) (by (ltb n (2 ^ k)))
  where
    by : (t : Bool) → cond t (decimal_text n) (45 ∷ decimal_text (suc (2 ^ suc k - suc n))) ≡ signed_text (cond t (pos n) (negsuc (2 ^ suc k - suc n)))
    by true = refl
    by false = refl
