-- Digits that make 0 give the pattern 0 at every scale.
use mathlib.Core.Path.{◌≡◌, refl, sym, ap, ◌∙◌}
use mathlib.Core.Bool.{Bool, true, false, cond}
use Prim.Native.Nat.{ℕ, suc, ◌^◌}
use native.Mathlib.Nat.{zero-mul}
use lib.Dec.{lit<}
use lib.IntN.{ℤ, pos, negsuc}
use lib.Ieee.{binary32, round, to_bits}
use lib.Ieee.Scale.{round_same}
use Rattle.literals.specs.Literals.{nearest_decimal, is_scale, literal_pattern}
use Rattle.literals.proofs.Decimals.{ten-pos}

zero_bits : to_bits binary32 (round binary32 false 0 1) ≡ 0
unfolding to_bits round
zero_bits = refl

pub zero-real : (z : ℤ) → nearest_decimal 0 z ≡ round binary32 false 0 1
zero-real (pos e) = rw zero-mul
zero-real (negsuc k) = round_same binary32 false 0 (10 ^ suc k) 0 1 (ten-pos (suc k)) (lit< tt) (sym (zero-mul (10 ^ suc k)))

pub zero_pattern : (n : ℕ) (z : ℤ) → n ≡ 0 → 0 ≡ literal_pattern n z
zero_pattern n z e = rw e (go (is_scale z))
  where
    go : (t : Bool) → 0 ≡ cond t (to_bits binary32 (nearest_decimal 0 z)) 0
    go true = sym (ap (to_bits binary32) (zero-real z) ∙ zero_bits)
    go false = refl
