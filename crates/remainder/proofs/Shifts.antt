-- m * 2 ^ d: part of the factor taken first, and its remainder worked out some digits at a time.
use mathlib.Core.Path.{◌≡◌, sym, ap, ◌∙◌}
use Prim.Native.Nat.{ℕ, ◌+◌, ◌-◌, ◌*◌, ◌/◌, ◌%◌, ◌^◌, ◌≤◌}
use native.Mathlib.Nat.{mul_assoc, mul_right_comm, add-mul, mul-add-mod_self_left, div-add-mod}
use Rattle.reals.proofs.Grid.{lower}

-- k of d places first
pub places-apart : (m k d : ℕ) → k ≤ d → m * 2 ^ k * 2 ^ (d - k) ≡ m * 2 ^ d
places-apart m k d h = mul_right_comm m (2 ^ k) (2 ^ (d - k)) ∙ sym (lower m k d h)

-- a factor may be taken of the remainder alone
mod-mul-mod : (a b w : ℕ) → a % w * b % w ≡ a * b % w
mod-mul-mod a b w =
    sym (mul-add-mod_self_left w (a / w * b) (a % w * b))
    ∙ ap (λ (z : ℕ). (z + a % w * b) % w) (sym (mul_assoc w (a / w) b))
    ∙ ap (λ (z : ℕ). z % w) (sym (add-mul (w * (a / w)) (a % w) b))
    ∙ ap (λ (z : ℕ). z * b % w) (div-add-mod a w)

-- so k of d places are, by the factor c
pub places-first : (m c k d w t : ℕ) → c ≡ 2 ^ k → k ≤ d → m * 2 ^ d % w ≡ t → m * c % w * 2 ^ (d - k) % w ≡ t
places-first m c k d w t e h g =
    ap (λ (z : ℕ). m * z % w * 2 ^ (d - k) % w) e
    ∙ mod-mul-mod (m * 2 ^ k) (2 ^ (d - k)) w
    ∙ ap (λ (z : ℕ). z % w) (places-apart m k d h)
    ∙ g
