-- A single against the limits -2 ^ k and 2 ^ k, told by its size: whether the fraction m * up e / down e is below 2 ^ k.
use Rattle.std.proofs.Common.{◌≡◌, ℕ, ◌+◌, ◌*◌, ◌^◌, ◌<◌, ◌≤◌, Bool, true, false, not, ◌||◌, ltb, ◌⊎◌, ℤ, pos, sym, refl, ◌∙◌, inl, inr, true≢false, lt_of_lt_of_le, le_of_suc-le-suc, le-add_right, le_of_lt, add_comm, mul-pos, one-mul, lt_of_not-le, mul-one, ne_of_lt, pow_pos, ltb-false, ltb-true, le-ltb, lt-ltb, ne_eqb}
use mathlib.Core.Bool.{false≢true}
use lib.Ieee.{Float, fin, up, down, lt, eq, le}
use lib.Ieee.Fits.{down_pos}

abbrev pub limit : Bool → ℕ → Float
limit s k = fin s 1 (pos k)

-- x is not strictly between the limits, for one of the two tests fails
abbrev pub Fails : ℕ → Float → Type 0
Fails k x = (lt (limit true k) x ≡ false) ⊎ (lt x (limit false k) ≡ false)

or-true : (b : Bool) → (b || true) ≡ true
or-true true = refl
or-true false = refl

pub or-false : (b c : Bool) → (b || c) ≡ false → (b ≡ false) × (c ≡ false)
or-false true c e = absurd (true≢false e)
or-false false c e = (refl, e)

pub not-less : (x y : Float) → le x y ≡ false → lt x y ≡ false
unfolding le
not-less x y e = (or-false (lt x y) (eq x y) e).0

positive-sum : (a b : ℕ) → 0 < a → ltb 0 (a + b) ≡ true
positive-sum a b h = lt-ltb 0 (a + b) (lt_of_lt_of_le h (le-add_right a b))

module _ (k m : ℕ) (e : ℤ) where
  limit-pos : 0 < 1 * 2 ^ k * down e
  limit-pos = mul-pos (mul-pos (pow_pos 0) (pow_pos k)) (down_pos e)

  -- ---- each test: one sign passes it, and the other by its size
  pub below-high : (s : Bool) → lt (fin s m e) (limit false k) ≡ (s || ltb (m * up e) (2 ^ k * down e))
  unfolding lt
  below-high true = rw (add_comm (m * up e * 1) (1 * 2 ^ k * down e)) (positive-sum _ _ limit-pos)
  below-high false = rw (mul-one, one-mul)

  pub above_low : (s : Bool) → lt (limit true k) (fin s m e) ≡ (not s || ltb (m * up e) (2 ^ k * down e))
  unfolding lt
  above_low true = rw (mul-one, one-mul)
  above_low false = positive-sum _ _ limit-pos

  -- ---- from the tests to the size
  pub between : (s : Bool) → lt (limit true k) (fin s m e) ≡ true → lt (fin s m e) (limit false k) ≡ true → m * up e < 2 ^ k * down e
  between true a b = ltb-true _ _ (sym (above_low true) ∙ a)
  between false a b = ltb-true _ _ (sym (below-high false) ∙ b)

  pub beyond : (s : Bool) → Fails k (fin s m e) → 2 ^ k * down e ≤ m * up e
  beyond s (inl a) = ltb-false _ _ (or-false (not s) _ (sym (above_low s) ∙ a)).1
  beyond s (inr b) = ltb-false _ _ (or-false s _ (sym (below-high s) ∙ b)).1

  below-low : 2 ^ k * down e < m * up e → le (limit true k) (fin true m e) ≡ false
  unfolding le lt eq
  below-low g = rw (mul-one, one-mul, le-ltb (m * up e) (2 ^ k * down e) (le_of_lt g), ne_eqb (2 ^ k * down e) (m * up e) (ne_of_lt g))

  pub at_most : le (limit true k) (fin true m e) ≡ true → m * up e ≤ 2 ^ k * down e
  at_most h = le_of_suc-le-suc (lt_of_not-le (λ (g : 2 ^ k * down e < m * up e). false≢true (sym (below-low g) ∙ h)))

  -- ---- from the size to the tests
  module _ (small : m * up e < 2 ^ k * down e) (s : Bool) where
    pub passes-high : lt (fin s m e) (limit false k) ≡ true
    passes-high = rw (below-high s, lt-ltb (m * up e) (2 ^ k * down e) small, or-true s)

    pub passes-low : le (limit true k) (fin s m e) ≡ true
    unfolding le
    passes-low = rw (above_low s, lt-ltb (m * up e) (2 ^ k * down e) small, or-true (not s))
