-- The sum so far and the weight of what is left make the check, modulo 65521, with the position reduced too; and five digits. Assumes nothing.
use mathlib.Core.Path.{◌≡◌, refl, sym, ap, ◌∙◌}
use mathlib.Core.List.{List, [], ◌∷◌}
use Prim.Native.Nat.{ℕ, suc, ◌+◌, ◌*◌, ◌/◌, ◌%◌, ◌≤◌, ◌<◌}
use native.Mathlib.Nat.{mul_comm, mul-add, mul_assoc, mul-le-mul}
use native.Mathlib.Numerals.{add-one}
use native.Mathlib.Omega.{arith}
use lib.ListN.{length, drop, get_or, drop_of_length-le}
use lib.Seq.{drop-cons}
use Rattle.lines.specs.Printing.{low_digits}
use Rattle.card_laws.specs.Cards.{weigh, check_of}
use Rattle.card_laws.proofs.Theorems.{digit-bytes}

-- a position may be reduced before it is multiplied
reduced : (p c : ℕ) → p % 65521 * c + 65521 * (p / 65521 * c) ≡ p * c
reduced p c =
    let e : p ≡ p % 65521 + 65521 * (p / 65521) = omega arith in
    omega (
      arith,
      ap (λ (n : ℕ). c * n) e ∙ mul-add c (p % 65521) (65521 * (p / 65521)),
      mul_comm c p,
      mul_comm c (p % 65521),
      mul_comm c (65521 * (p / 65521)),
      mul_assoc 65521 (p / 65521) c,
    )

pub record Summed (s : List ℕ) (sum position i : ℕ) : Type 0 where
  pub small : sum < 65521
  pub low : position < 65521
  pub place : position ≡ suc i % 65521
  pub left : (sum + weigh (suc i) (drop i s)) % 65521 ≡ check_of s

pub start : (s : List ℕ) → Summed s 0 1 0
start s = record { small = omega arith; low = omega arith; place = refl; left = ap (λ (n : ℕ). n % 65521) z }
  where
    z : 0 + weigh 1 s ≡ weigh 1 s
    z = omega arith

pub next : {s : List ℕ} {sum position i : ℕ} → Summed s sum position i → i < length s → (c : ℕ) → c ≡ get_or s i 0
    → Summed s ((sum + position * c) % 65521) ((position + 1) % 65521) (i + 1)
next {s} {sum} {position} {i} g h c e =
    let w : ℕ = weigh (suc (suc i)) (drop (suc i) s) in
    let cons : drop i s ≡ c ∷ drop (suc i) s = drop-cons s i 0 h ∙ ap (λ (b : ℕ). b ∷ drop (suc i) s) (sym e) in
    let whole : weigh (suc i) (drop i s) ≡ suc i * c + w = ap (λ (l : List ℕ). weigh (suc i) l) cons in
    let product : position * c + 65521 * (suc i / 65521 * c) ≡ suc i * c = ap (λ (n : ℕ). n * c + 65521 * (suc i / 65521 * c)) g.place ∙ reduced (suc i) c in
    let m : ((sum + position * c) % 65521 + w) % 65521 ≡ check_of s = omega (arith, g.left, whole, product) in
    record {
      small = omega arith;
      low = omega arith;
      place = omega (arith, g.place);
      left = ap (λ (n : ℕ). ((sum + position * c) % 65521 + weigh (suc n) (drop n s)) % 65521) (add-one i) ∙ m;
    }

pub end : {s : List ℕ} {sum position i : ℕ} → Summed s sum position i → length s ≤ i → sum ≡ check_of s
end {s} {sum} {position} {i} g h =
    let w : weigh (suc i) (drop i s) ≡ 0 = ap (λ (l : List ℕ). weigh (suc i) l) (drop_of_length-le s h) in
    omega (arith, g.left, g.small, w)

pub bound : (p c : ℕ) → p < 65521 → c < 256 → p * c ≤ 16707600
bound p c h b = let a : p ≤ 65520 = omega arith in let d : c ≤ 255 = omega arith in mul-le-mul a d

pub five : (n a b c d e : ℕ) → a ≡ 48 + n / 10 / 10 / 10 / 10 % 10 → b ≡ 48 + n / 10 / 10 / 10 % 10 → c ≡ 48 + n / 10 / 10 % 10 → d ≡ 48 + n / 10 % 10
    → e ≡ 48 + n % 10
    → a ∷ b ∷ c ∷ d ∷ e ∷ [] ≡ low_digits 10 5 n
five n a b c d e p q r s t = rw (p, q, r, s, t) (sym (digit-bytes n))
