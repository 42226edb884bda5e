-- Twice a single below 2 ^ 62 is exact.
use Rattle.std.proofs.Common.{◌≡◌, ℕ, zero, suc, ◌+◌, ◌-◌, ◌*◌, ◌%◌, ◌^◌, ◌<◌, ◌≤◌, Bool, true, false, ◌&&◌, T, eqb, ltb, leb, ℤ, pos, negsuc, sym, refl, ap, ◌∙◌, le_trans, lt_of_lt_of_le, le_of_suc-le-suc, mul-le-mul_right, mul_assoc, mul_comm, lt_of_mul-lt-mul_right, mul-lt-mul_of_pos_right, mul-pos, one-mul, lt_of_not-le, mul-one, mul_right_comm, not-le_of_lt, le-mul_of_pos_right, arith, lit<, lit≤, eqb→eq, ltb→lt, leb→le, pow_pos, pow-add}
use lib.Pow.{pow-lt}
use lib.Ieee.{Format, fin, up, down, add, sum, round, fits, binary32}
use lib.Ieee.Exact.{HasValue, round_exact}
use lib.Ieee.Fits.{up_pos, down_pos, and_l, and_r}
use lib.Ieee.Scale.{round_same}

-- ---- what it takes to be a single
middle : (a b c d : Bool) → T (a && b && c && d) → T b × T c
middle a b c d t = let u = and_l (a && b && c) d t in (and_r a b (and_l (a && b) c u), and_r (a && b) c u)

bounds : (s : Bool) (m : ℕ) (e : ℤ) → T (fits binary32 (fin s m e)) → (m < 2 ^ 24) × (down e ≤ 2 ^ 149)
unfolding fits
bounds s zero e t =
    let one : down e * up e ≡ 1 = mul_comm (down e) (up e) ∙ eqb→eq (up e * down e) 1 t in
    (lit< tt, le_trans (le-mul_of_pos_right (down e) (up_pos e)) (rw one (lit≤ tt)))
bounds s (suc m) e t =
    let p = middle (eqb (suc m % 2) 1) (ltb (suc m) (2 ^ 24)) (leb (down e) (2 ^ 149)) (ltb (suc m * up e) (2 ^ 128 * down e)) t in
    (ltb→lt (suc m) (2 ^ 24) p.0, leb→le (down e) (2 ^ 149) p.1)

-- 2 ^ e in units of 2 ^ -150 is a power of 2
place : (e : ℤ) → down e ≤ 2 ^ 149 → (j : ℕ) × (2 ^ j * down e ≡ up e * 2 ^ 150)
place (pos k) h = (k + 150, mul-one (2 ^ (k + 150)) ∙ pow-add 2 k 150)
place (negsuc k) h =
    let l : k < 149 = le_of_suc-le-suc (lt_of_not-le (λ (g : 150 ≤ suc k). not-le_of_lt (pow-lt g) h)) in
    let whole : 149 - k + suc k ≡ 150 = omega arith in
    (149 - k, rw (← pow-add 2 (149 - k) (suc k), whole, one-mul))

-- ---- twice it
sum_same : (f : Format) (s : Bool) (a b c : ℕ) → sum f s a s b c ≡ round f s (a + b) c
unfolding sum
sum_same f true a b c = refl
sum_same f false a b c = refl

twice-is : (s : Bool) (m : ℕ) (e : ℤ) → add binary32 (fin s m e) (fin s m e) ≡ round binary32 s (2 * (m * up e)) (down e)
unfolding add
twice-is s m e =
    let n = m * up e in
    let d = down e in
    let twice : n * d + n * d ≡ 2 * (n * d) = omega arith in
    let same : (n * d + n * d) * d ≡ 2 * n * (d * d) = rw (twice, mul_assoc 2 n (d * d), ← mul_assoc n d d, mul_assoc 2 (n * d) d) in
    sum_same binary32 s (n * d) (n * d) (d * d)
    ∙ round_same binary32 s (n * d + n * d) (d * d) (2 * n) d (mul-pos (down_pos e) (down_pos e)) (down_pos e) same

pub exact : (s : Bool) (m : ℕ) (e : ℤ) → T (fits binary32 (fin s m e)) → m * up e < 2 ^ 62 * down e
    → HasValue (add binary32 (fin s m e) (fin s m e)) s (2 * (m * up e)) (down e)
exact s m e F small =
    let n = m * up e in
    let d = down e in
    let b = bounds s m e F in
    let g = place e b.1 in
    let j = g.0 in
    let whole : m * 2 ^ j * d ≡ n * 2 ^ 150 = mul_assoc m (2 ^ j) d ∙ ap (λ (x : ℕ). m * x) g.1 ∙ sym (mul_assoc m (up e) (2 ^ 150)) in
    let scaled : 2 * n * 2 ^ 149 ≡ n * 2 ^ 150 = rw (mul_comm 2 n) (mul_assoc n 2 (2 ^ 149)) in
    let room : 2 ^ 62 * d * 2 ^ 150 ≤ 2 ^ 277 * d = rw (mul_right_comm (2 ^ 62) d (2 ^ 150)) (mul-le-mul_right d (lit≤ tt)) in
    let under : m * 2 ^ j * d < 2 ^ 277 * d = rw whole (lt_of_lt_of_le (mul-lt-mul_of_pos_right small (pow_pos 150)) room) in
    rw (twice-is s m e) (round_exact binary32 s (2 * n) d m j (down_pos e) b.0 (lt_of_mul-lt-mul_right d under) (scaled ∙ sym whole))
