-- Negation, and each operation of two finite values that rounds, by the operands' signs and sizes.
use mathlib.Core.Path.{◌≡◌, refl, sym, ap, ap₂, ◌∙◌, subst, subst₂}
use mathlib.Core.Bool.{Bool, true, false, cond, ◌&&◌, not}
use Prim.Native.Nat.{ℕ, ◌*◌, ◌^◌, ◌<◌}
use native.Mathlib.Nat.{mul_comm, mul_assoc, mul_right_comm, mul-mul-mul_comm, mul-pos, lt_irrefl}
use lib.IntN.{ℤ, nat_abs, ◌+ℤ◌, ◌-ℤ◌}
use lib.Dec.{T, eqb, eqb→eq}
use lib.Pow.{pow_pos}
use lib.Ieee.{Float, nan, inf, fin, Format, low, up, down, unlike, round, add, sub, neg, mul, div}
use lib.Ieee.Fits.{down_pos}
use lib.Ieee.Positive.{first_pos}
use Rattle.reals.specs.Singles.{signed}
use Rattle.reals.specs.Operations.{sign_of}
use Rattle.reals.proofs.Near.{Is, Rounded}
use Rattle.reals.proofs.Signed.{neg-signed}
use Rattle.reals.proofs.Same.{rounded-at}
use Rattle.reals.proofs.Sum.{sum-rounded}

-- ---- a law of the signs and sizes of two finite values
abbrev pub Claim : Type 1
Claim = Bool → ℕ → Bool → ℕ → Float → Float → Type 0

abbrev pub Law : Format → Claim → Type 0
Law f P = (x y : Float) (s : Bool) (m : ℕ) (t : Bool) (n : ℕ) → Is f x s m → Is f y t n → P s m t n x y

-- it need only be proved of `fin`: M * up e / down e and N * up d / down d are m and n units
apiece : (f : Format) (P : Claim)
    → ((s : Bool) (M : ℕ) (e : ℤ) (m : ℕ) (t : Bool) (N : ℕ) (d : ℤ) (n : ℕ) → M * up e * 2 ^ low f ≡ m * down e → N * up d * 2 ^ low f ≡ n * down d
    → P s m t n (fin s M e) (fin t N d))
    → Law f P
apiece f P g nan y s m t n h k = absurd h
apiece f P g (inf u) y s m t n h k = absurd h
apiece f P g (fin u M e) nan s m t n h k = absurd k
apiece f P g (fin u M e) (inf v) s m t n h k = absurd k
apiece f P g (fin u M e) (fin v N d) s m t n h k = subst₂ (λ (s t : Bool). P s m t n (fin u M e) (fin v N d)) h.0 k.0 (g u M e m v N d n h.1 k.1)

-- or with both brought to the one denominator down e * down d, as the library does
pub common : (f : Format) (P : Claim)
    → ((s : Bool) (M : ℕ) (e : ℤ) (m : ℕ) (t : Bool) (N : ℕ) (d : ℤ) (n : ℕ) → M * up e * down d * 2 ^ low f ≡ m * (down e * down d)
    → N * up d * down e * 2 ^ low f ≡ n * (down e * down d)
    → P s m t n (fin s M e) (fin t N d))
    → Law f P
common f P g = apiece f P (λ s M e m t N d n h k.
    g s M e m t N d n (cross (M * up e) (down e) (down d) (2 ^ low f) m h)
    (cross (N * up d) (down d) (down e) (2 ^ low f) n k ∙ ap (λ (z : ℕ). n * z) (mul_comm (down d) (down e))))
  where
    cross : (X E D L m : ℕ) → X * L ≡ m * E → X * D * L ≡ m * (E * D)
    cross X E D L m h = mul_right_comm X D L ∙ ap (λ (z : ℕ). z * D) h ∙ mul_assoc m E D

pub denominator : (e d : ℤ) → 0 < down e * down d
denominator e d = mul-pos (down_pos e) (down_pos d)

-- a size above zero is a fraction above zero
pub some : (X L n D : ℕ) → 0 < n → 0 < D → X * L ≡ n * D → 0 < X
some X L n D p q e = first_pos X L (subst (λ (z : ℕ). 0 < z) (sym e) (mul-pos p q))

-- a test for a zero divisor fails
pub nonzero : {X : Type 0} (N : ℕ) (x y : X) → 0 < N → cond (eqb N 0) x y ≡ y
nonzero N x y h = go (eqb N 0) (eqb→eq N 0)
  where
    go : (b : Bool) → (T b → N ≡ 0) → cond b x y ≡ y
    go true z = absurd (lt_irrefl 0 (subst (λ (x : ℕ). 0 < x) (z tt) h))
    go false z = refl

-- ---- addition, negation and subtraction
pub add-rounded : (f : Format) → Law f (λ s m t n x y. Rounded f (sign_of (s && t) (signed s m +ℤ signed t n)) (nat_abs (signed s m +ℤ signed t n)) 1 (add f x y))
unfolding add
add-rounded f = common f _
    (λ s M e m t N d n h k. sum-rounded f (down e * down d) (denominator e d) (M * up e * down d) (N * up d * down e) m n h k s t)

pub neg_is : (f : Format) (x : Float) (s : Bool) (n : ℕ) → Is f x s n → Is f (neg x) (not s) n
unfolding neg
neg_is f nan s n h = h
neg_is f (inf t) s n h = h
neg_is f (fin t m e) s n h = (ap not h.0, h.1)

pub sub-rounded : (f : Format) → Law f (λ s m t n x y. Rounded f (sign_of (s && not t) (signed s m -ℤ signed t n))
    (nat_abs (signed s m -ℤ signed t n)) 1 (sub f x y))
unfolding sub
sub-rounded f x y s m t n h k =
    subst (λ (z : ℤ). Rounded f (sign_of (s && not t) (signed s m +ℤ z)) (nat_abs (signed s m +ℤ z)) 1 (add f x (neg y))) (neg-signed t n)
    (add-rounded f x (neg y) s m (not t) n h (neg_is f y t n k))

-- ---- multiplication and division: X / E and Y / D are m and n units, L units to one
mul-cross : (X Y E D L m n : ℕ) → X * L ≡ m * E → Y * L ≡ n * D → X * Y * L * L ≡ m * n * (E * D)
mul-cross X Y E D L m n h k = mul_assoc (X * Y) L L ∙ mul-mul-mul_comm X Y L L ∙ ap₂ ◌*◌ h k ∙ mul-mul-mul_comm m E n D

div-cross : (X Y E D L m n : ℕ) → X * L ≡ m * E → Y * L ≡ n * D → X * D * L * n ≡ m * L * (Y * E)
div-cross X Y E D L m n h k =
    mul_assoc (X * D) L n ∙ mul-mul-mul_comm X D L n ∙ ap₂ ◌*◌ h (mul_comm D n ∙ sym k ∙ mul_comm Y L)
    ∙ mul-mul-mul_comm m E L Y ∙ ap (λ (z : ℕ). m * L * z) (mul_comm E Y)

pub mul-rounded : (f : Format) → Law f (λ s m t n x y. Rounded f (unlike s t) (m * n) (2 ^ low f) (mul f x y))
unfolding mul
mul-rounded f = apiece f _
    (λ s M e m t N d n h k. rounded-at f (unlike s t) (M * up e * (N * up d)) (down e * down d) (m * n) (2 ^ low f) (denominator e d) (pow_pos (low f))
    (mul-cross (M * up e) (N * up d) (down e) (down d) (2 ^ low f) m n h k))

pub div-rounded : (f : Format) → Law f (λ s m t n x y. 0 < n → Rounded f (unlike s t) (m * 2 ^ low f) n (div f x y))
unfolding div
div-rounded f = apiece f _
    (λ s M e m t N d n h k p.
    let q : 0 < N * up d = some (N * up d) (2 ^ low f) n (down d) p (down_pos d) k in
    rw (nonzero N (cond (eqb M 0) nan (inf (unlike s t))) (round f (unlike s t) (M * up e * down d) (N * up d * down e)) (first_pos N (up d) q))
    (rounded-at f (unlike s t) (M * up e * down d) (N * up d * down e) (m * 2 ^ low f) n (mul-pos q (down_pos e)) p
    (div-cross (M * up e) (N * up d) (down e) (down d) (2 ^ low f) m n h k)))
