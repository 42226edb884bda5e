-- The check of two lists that differ in one byte differs, up to the position 2,062. No product of 1 to 255 and 1 to 2,062 is a multiple of the modulus: one
-- computed test. Assumes nothing.
use mathlib.Core.Path.{◌≡◌, refl, sym, ap, subst, ◌∙◌}
use mathlib.Core.Bool.{Bool, true, false, ◌||◌, not}
use mathlib.Core.List.{List, [], ◌∷◌, ◌++◌}
use Prim.Native.Nat.{ℕ, zero, suc, ◌+◌, ◌-◌, ◌*◌, ◌/◌, ◌%◌, ◌≤◌, ◌<◌}
use native.Mathlib.Nat.{add-zero, add-suc, suc-add, mul-add, mul_comm, mul-mod_left, mul-div_left, mul-le-mul, mul-pos}
use native.Mathlib.Omega.{arith}
use native.Mathlib.Decide.{dec_le}
use lib.Dec.{eqb, leb}
use lib.ListN.{length}
use borrow.Author.Tests.{leb-true}
use Rattle.words.proofs.Tests.{every_below, at_each}
use Rattle.card_laws.specs.Cards.{modulus, weigh, check_of}

-- a multiple of the modulus, divided by a difference of bytes, is no position that occurs
abbrev far_off : ℕ → ℕ → Bool
far_off j d = not (eqb (modulus * j % suc d) 0) || leb 2063 (modulus * j / suc d)

far-off : every_below (λ j. every_below (λ d. far_off (suc j) d) 255) 8 ≡ true
far-off = refl

quotient : (q d j : ℕ) → q * suc d ≡ modulus * j → far_off j d ≡ true → 2063 ≤ q
quotient q d j e t =
    let m : modulus * j % suc d ≡ 0 = ap (λ (n : ℕ). n % suc d) (sym e) ∙ mul-mod_left q (suc d) in
    let v : modulus * j / suc d ≡ q = ap (λ (n : ℕ). n / suc d) (sym e) ∙ mul-div_left q (omega arith) in
    let u : leb 2063 (modulus * j / suc d) ≡ true = subst (λ (n : ℕ). (not (eqb n 0) || leb 2063 (modulus * j / suc d)) ≡ true) m t in
    subst (λ (n : ℕ). 2063 ≤ n) v (leb-true 2063 (modulus * j / suc d) u)

no-multiple : (q d j : ℕ) → 1 ≤ q → q ≤ 2062 → 1 ≤ d → d ≤ 255 → q * d ≡ modulus * j → ⊥
no-multiple q zero j q1 q2 d1 d2 e = omega arith
no-multiple q (suc d) zero q1 q2 d1 d2 e = let p : 0 < q * suc d = mul-pos q1 d1 in omega arith
no-multiple q (suc d) (suc j) q1 q2 d1 d2 e =
    let top : q * suc d ≤ 2062 * 255 = mul-le-mul q2 d2 in
    let row : every_below (λ k. far_off (suc j) k) 255 ≡ true = at_each (λ i. every_below (λ k. far_off (suc i) k) 255) 8 far-off j (omega arith) in
    omega (arith, quotient q d (suc j) e (at_each (λ k. far_off (suc j) k) 255 row d (omega arith)))

-- ---- two bytes at one position
larger : (w q x y : ℕ) → 1 ≤ q → q ≤ 2062 → x < y → y < 256 → (w + q * x) % modulus ≡ (w + q * y) % modulus → ⊥
larger w q x y q1 q2 h b e =
    let s : y ≡ x + (y - x) = omega arith in
    let m : q * y ≡ q * x + q * (y - x) = ap (λ (n : ℕ). q * n) s ∙ mul-add q x (y - x) in
    no-multiple q (y - x) ((w + q * y) / modulus - (w + q * x) / modulus) q1 q2 (omega arith) (omega arith) (omega (arith, m, e))

unequal : (w q x y : ℕ) → 1 ≤ q → q ≤ 2062 → (x ≡ y → ⊥) → x < 256 → y < 256 → (w + q * x) % modulus ≡ (w + q * y) % modulus → ⊥
unequal w q x y q1 q2 n a b e = go (dec_le (suc x) y)
  where
    go : Dec (suc x ≤ y) → ⊥
    go (yes l) = larger w q x y q1 q2 l b e
    go (no l) = larger w q y x q1 q2 (omega (arith, n)) a (sym e)

weigh-at : (a q : List ℕ) (x p : ℕ) → weigh p (a ++ x ∷ q) ≡ weigh p (a ++ 0 ∷ q) + (p + length a) * x
weigh-at [] q x p = omega (arith, ap (λ (n : ℕ). n * x) (add-zero p), mul_comm p 0)
weigh-at (c ∷ a) q x p = omega (arith, weigh-at a q x (suc p), ap (λ (n : ℕ). n * x) (suc-add p (length a) ∙ sym (add-suc p (length a))))

pub changed : (a q : List ℕ) (x y : ℕ) → length a ≤ 2061 → (x ≡ y → ⊥) → x < 256 → y < 256 → check_of (a ++ x ∷ q) ≡ check_of (a ++ y ∷ q) → ⊥
changed a q x y h n bx by e =
    unequal (weigh 1 (a ++ 0 ∷ q)) (1 + length a) x y (omega arith) (omega arith) n bx by
    (ap (λ (m : ℕ). m % modulus) (sym (weigh-at a q x 1)) ∙ e ∙ ap (λ (m : ℕ). m % modulus) (weigh-at a q y 1))
