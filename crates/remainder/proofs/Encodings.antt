-- The pattern of n units at the place j, as the code makes it: n shifted by s, with the place that is left.
use mathlib.Core.Path.{◌≡◌, refl, ap, ◌∙◌, subst}
use mathlib.Core.Logic.{◌⊎◌, inl, inr}
use Prim.Native.Nat.{ℕ, suc, ◌+◌, ◌-◌, ◌*◌, ◌%◌, ◌^◌, ◌≤◌, ◌<◌}
use native.Mathlib.Nat.{le_refl, le_trans, le_of_lt, sub_self, add-zero, zero-mul, lt_of_lt_of_le, mul-le-mul_right, not-le_of_lt, mod-eq_of_lt}
use native.Mathlib.Omega.{arith}
use lib.Count.{count_leading_zeros, leading_top}
use lib.Dec.{lit≤, lit<}
use lib.Pow.{pow-add, pow_mono, shl_lt}
use Rattle.reals.specs.Laws.{pattern_units}
use Rattle.reals.proofs.Grid.{split}
use Rattle.remainder.proofs.Shifts.{places-apart}
use Rattle.remainder.proofs.Patterns.{place, in_place}

-- ---- n with l leading zeros of 32 bits may be shifted until it has 24 digits
pub record Room (n l : ℕ) : Type 0 where
  pub most : l ≤ 31
  pub least : 8 ≤ l
  pub few : (s : ℕ) → s ≤ l - 8 → n * 2 ^ s < 2 ^ 24
  pub full : 2 ^ 23 ≤ n * 2 ^ (l - 8)

pub room : (n : ℕ) → 0 < n → n < 2 ^ 24 → Room n (count_leading_zeros 32 n)
room n h l = go (count_leading_zeros 32 n) (leading_top 32 n h (lt_of_lt_of_le l (lit≤ tt)))
  where
    high : (j : ℕ) → 2 ^ j ≤ n → j < 24
    high j a = elim (split 24 j) [ inl k ↦ absurd (not-le_of_lt l (le_trans (pow_mono k) a)) | inr k ↦ k ]

    together : (z j : ℕ) → z + suc j ≡ 32 → j < 24 → j + (z - 8) ≡ 23
    together z j e k = omega arith

    go : (z : ℕ) → (j : ℕ) × (z + suc j ≡ 32) × (2 ^ j ≤ n) × (n < 2 ^ suc j) → Room n z
    go z (j, e, a, b) =
        let k : j < 24 = high j a in
        record {
          most = omega arith;
          least = omega arith;
          few = λ s S. lt_of_lt_of_le (shl_lt (suc j) s b) (pow_mono {j = 24} (omega arith));
          full = subst (λ (i : ℕ). 2 ^ i ≤ n * 2 ^ (z - 8)) (together z j e k) (rw (pow-add 2 j (z - 8)) (mul-le-mul_right (2 ^ (z - 8)) a));
        }

-- ---- v at the place k, which is 0 unless v has 24 digits
at_place : (v k : ℕ) → v < 2 ^ 24 → (2 ^ 23 ≤ v) ⊎ (k ≡ 0) → place (v + k * 2 ^ 23) ≡ k
at_place v k h (inl l) = omega arith
at_place v k h (inr l) = omega arith

-- ---- n shifted by s, with what is left of the place j
abbrev pub Encodes : ℕ → ℕ → ℕ → Type 0
Encodes p n j = (p < 255 * 2 ^ 23) × (pattern_units p ≡ n * 2 ^ j)

encoded : (n s j : ℕ) → s ≤ j → j ≤ 253 → n * 2 ^ s < 2 ^ 24 → (2 ^ 23 ≤ n * 2 ^ s) ⊎ (j - s ≡ 0)
    → Encodes (n * 2 ^ s % 2 ^ 32 + (j - s) * 2 ^ 23) n j
encoded n s j S J h c =
    let v = n * 2 ^ s in
    let k = j - s in
    let p = v + k * 2 ^ 23 in
    let K : k ≤ 253 = omega arith in
    rw (mod-eq_of_lt {n = v} {m = 2 ^ 32} (lt_of_lt_of_le h (lit≤ tt))) (
      below v k h K,
      in_place p p (unsigned v k h K)
          ∙ ap (λ (z : ℕ). (p - z * 2 ^ 23) * 2 ^ z) (at_place v k h c)
          ∙ ap (λ (z : ℕ). z * 2 ^ k) (without v (k * 2 ^ 23))
          ∙ places-apart n s j S,
    )
  where
    below : (v k : ℕ) → v < 2 ^ 24 → k ≤ 253 → v + k * 2 ^ 23 < 255 * 2 ^ 23
    below v k h K = omega arith

    unsigned : (v k : ℕ) → v < 2 ^ 24 → k ≤ 253 → (v + k * 2 ^ 23) % 2 ^ 31 ≡ v + k * 2 ^ 23
    unsigned v k h K = omega arith

    without : (v w : ℕ) → v + w - w ≡ v
    without v w = omega arith

-- ---- the three ways of the code: the place j allows less than the room, all of it, or there is nothing to shift
pub subnormal : (n j : ℕ) → 0 < n → n < 2 ^ 24 → j < count_leading_zeros 32 n - 8 → j ≤ 253 → Encodes (n * 2 ^ j % 2 ^ 32) n j
subnormal n j P N h J = rw (sub_self j, add-zero) at (encoded n j j (le_refl j) J ((room n P N).few j (le_of_lt h)) (inr (sub_self j)))

pub normal : (n j : ℕ) → 0 < n → n < 2 ^ 24 → count_leading_zeros 32 n - 8 ≤ j → j ≤ 253
    → Encodes (n * 2 ^ (count_leading_zeros 32 n - 8) % 2 ^ 32 + (j - (count_leading_zeros 32 n - 8)) * 2 ^ 23) n j
normal n j P N h J =
    let s = count_leading_zeros 32 n - 8 in
    let r = room n P N in
    encoded n s j h J (r.few s (le_refl s)) (inl r.full)

pub none : (n j : ℕ) → n ≡ 0 → Encodes 0 n j
none n j e = rw (e, zero-mul) (lit< tt, refl)
