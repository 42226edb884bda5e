-- The library's rounding is `Rounded`: below the limit the nearest size is a value of the format, and from there on there is none.
use mathlib.Core.Path.{◌≡◌, refl, ap, ◌∙◌, subst}
use mathlib.Core.Logic.{◌⊎◌, inl, inr}
use mathlib.Core.Bool.{Bool, true, false, cond}
use Prim.Native.Nat.{ℕ, suc, ◌+◌, ◌-◌, ◌*◌, ◌^◌, ◌≤◌, ◌<◌}
use native.Mathlib.Nat.{add-mul, mul-pos, mul-le-mul_right, lt_of_not-le}
use native.Mathlib.Omega.{arith}
use lib.Dec.{T}
use lib.Pow.{pow_pos, ones_lt}
use borrow.Author.Tests.{le-ltb}
use lib.Ieee.{Float, nan, inf, fin, Format, binary32, binary64, prec, emax, low, odd, units, round, le}
use lib.Ieee.Fits.{round_is}
use lib.Ieee.Exact.{HasValue, units_val}
use lib.Ieee.Order.{drop, kept, round_mono}
use lib.Ieee.Scale.{overflow, round_val}
use Rattle.reals.specs.Rounding.{distance}
use Rattle.reals.proofs.Near.{limit, Rounded, to, over}
use Rattle.reals.proofs.Grid.{split, unless}
use Rattle.reals.proofs.Kept.{grid, least, is-nearest}

-- ---- below the limit the nearest size is one of the format's
-- the largest value, and the limit half a step above it
largest : Format → ℕ
largest f = (2 ^ prec f - 1) * 2 ^ (low f + suc (emax f) - prec f)

half_step : Format → ℕ
half_step f = 2 ^ (low f + emax f - prec f)

limit_is : (f : Format) → limit f ≡ largest f + half_step f
unfolding largest half_step
limit_is binary32 = refl
limit_is binary64 = refl

overflow-is : (f : Format) → overflow f ≡ largest f + half_step f + half_step f
unfolding largest half_step
overflow-is binary32 = refl
overflow-is binary64 = refl

beneath : (L h a b n : ℕ) → 0 < h → 0 < b → a < (L + h) * b → L + h + h ≤ n → distance (n * b) a ≤ distance (L * b) a → ⊥
beneath L h a b n H B x y z =
    let g : (L + h + h) * b ≤ n * b = mul-le-mul_right b y in
    let k : 0 < h * b = mul-pos H B in
    omega (arith, add-mul (L + h) h b, add-mul L h b)

stays : (f : Format) (a b : ℕ) → 0 < b → a < limit f * b → grid f a b < overflow f
unfolding largest half_step
stays f a b B h =
    lt_of_not-le
    (λ (l : overflow f ≤ grid f a b).
    beneath (largest f) (half_step f) a b (grid f a b) (pow_pos (low f + emax f - prec f)) B (rw (limit_is f) at h) (rw (overflow-is f) at l)
    (least f a b B (largest f) (2 ^ prec f - 1) (low f + suc (emax f) - prec f) refl (ones_lt (prec f))))

-- ---- from the limit on it is not: the limit itself rounds to an infinity, and rounding never falls
is-inf : (f : Format) → round f false (limit f) (2 ^ low f) ≡ inf false
unfolding round
is-inf binary32 = refl
is-inf binary64 = refl

above-inf : (x : Float) → T (le (inf false) x) → x ≡ inf false
unfolding le
above-inf nan t = absurd t
above-inf (inf true) t = absurd t
above-inf (inf false) t = refl
above-inf (fin s m e) t = absurd t

leaves : (f : Format) (num den : ℕ) → 0 < den → limit f * den ≤ num * 2 ^ low f → overflow f ≤ grid f (num * 2 ^ low f) den
leaves f num den B h =
    unless (overflow f) (grid f (num * 2 ^ low f) den) (λ l. subst (λ (z : Float). HasValue z false (grid f (num * 2 ^ low f) den) (2 ^ low f)) is
    (round_val f num den l))
  where
    is : round f false num den ≡ inf false
    is = above-inf (round f false num den) (rw (is-inf f) at (round_mono f (limit f) (2 ^ low f) num den (pow_pos (low f)) B h))

units-inf : (f : Format) (s : Bool) (q k : ℕ) → overflow f ≤ q * 2 ^ k → units f s q k ≡ inf s
unfolding units
units-inf f s q k h = ap (λ (t : Bool). cond t (odd (suc (prec f)) s q k (low f)) (inf s)) (le-ltb (q * 2 ^ k) (overflow f) h)

-- ---- the theorem
pub rounded : (f : Format) (s : Bool) (num den : ℕ) → 0 < den → Rounded f s (num * 2 ^ low f) den (round f s num den)
rounded f s num den B = go (split (limit f * den) (num * 2 ^ low f))
  where
    go : (limit f * den ≤ num * 2 ^ low f) ⊎ (num * 2 ^ low f < limit f * den) → Rounded f s (num * 2 ^ low f) den (round f s num den)
    go (inl h) = over h (round_is f s num den ∙ units-inf f s (kept (prec f) (num * 2 ^ low f) den) (drop (prec f) (num * 2 ^ low f) den)
        (leaves f num den B h))
    go (inr h) =
        let l = stays f (num * 2 ^ low f) den B h in
        to (grid f (num * 2 ^ low f) den) h
        (rw (round_is f s num den) (units_val f s (kept (prec f) (num * 2 ^ low f) den) (drop (prec f) (num * 2 ^ low f) den) l))
        (is-nearest f (num * 2 ^ low f) den B l)
