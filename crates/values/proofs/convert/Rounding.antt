-- The nearest integer to a single, halves away from zero, is half of the cut of twice it.
use Rattle.std.proofs.Common.{◌≡◌, ◌+◌, ◌*◌, ◌/◌, ◌^◌, true, false, T, ℤ, ap, ◌∙◌, arith, lit<, pow_pos, None}
use mathlib.Core.Bool.{false≢true}
use lib.Ieee.{Float, nan, inf, fin, up, down, lt, add, fits, binary32}
use lib.Ieee.Fits.{down_pos}
use Rattle.reals.specs.Singles.{unit_count, signed}
use Rattle.values.specs.Convert.{cut, rounded}
use Rattle.values.proofs.convert.Limits.{limit, Fails, between}
use Rattle.values.proofs.convert.Cuts.{Cast, cast, outside}
use Rattle.values.proofs.convert.Doubles.{exact}
use Rattle.values.proofs.convert.Halves.{half, half-signed, nearest-half, nearest-ge, twice-units}

-- twice x is cast, and half of it is the nearest
pub record Doubled (x : Float) : Type 0 where
  pub twice : ℤ
  pub found : Cast (add binary32 x x) twice
  pub nearest : cut (half twice) ≡ rounded x

pub doubled : (x : Float) → T (fits binary32 x) → lt (limit true 62) x ≡ true → lt x (limit false 62) ≡ true → Doubled x
doubled nan F a b = unfold lt in absurd (false≢true a)
doubled (inf true) F a b = unfold lt in absurd (false≢true a)
doubled (inf false) F a b = unfold lt in absurd (false≢true b)
doubled (fin s m e) F a b =
    let n = m * up e in
    let d = down e in
    let u = unit_count (fin s m e) in
    let small = between 62 m e s a b in
    let double : 2 * u / 2 ^ 149 ≡ 2 * n / d = twice-units n d (2 ^ 148) (pow_pos 148) in
    let near : (2 * n / d + 1) / 2 ≡ (2 * u + 2 ^ 149) / (2 * 2 ^ 149) = rw (← double) (nearest-half u (2 ^ 149) (pow_pos 149)) in
    record {
      twice = signed s (2 * n / d);
      found = cast (add binary32 (fin s m e) (fin s m e)) s (2 * n) d (down_pos e) (omega arith) (exact s m e F small);
      nearest = ap cut (half-signed s (2 * n / d) ∙ ap (signed s) near);
    }

pub rounded-outside : (x : Float) → Fails 62 x → None ≡ rounded x
rounded-outside x t = outside _ (λ n. nearest-ge n (2 ^ 149) (pow_pos 149)) 62 (lit< tt) x t
