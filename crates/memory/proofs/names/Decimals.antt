-- A decimal number read digit by digit, and cut at the limit: what was read and what is left make the whole. Assumes nothing.
use mathlib.Core.Path.{◌≡◌, refl, sym, ap, ◌∙◌}
use mathlib.Core.Bool.{Bool, true, false, ◌&&◌, cond, and-false}
use mathlib.Core.List.{List, [], ◌∷◌, ◌++◌}
use Prim.Native.Nat.{ℕ, suc, ◌+◌, ◌-◌, ◌*◌, ◌≤◌, ◌<◌, min}
use native.Mathlib.Numerals.{add-one}
use native.Mathlib.Omega.{arith}
use lib.Dec.{T, leb, ltb, leb→le}
use lib.Ieee.Fits.{and_l, and_r}
use lib.ListN.{length, get_or, drop, drop_of_length-le, get_or-eq_default}
use lib.Seq.{drop-cons}
use borrow.Author.Tests.{lt-ltb, le-ltb, ltb-true, ltb-false, eq-eqb, ne_eqb}
use Rattle.memory.specs.Names.{is_digit, all_digits, digits_of, no_leading_zero, decimal_from, decimal_value, decimal_limit, number_below}

-- ---- a digit
pub digit-range : (b : ℕ) → is_digit b ≡ true → (48 ≤ b) × (b < 58)
digit-range b e =
    let t : T (is_digit b) = rw e tt in
    let top : b ≤ 57 = leb→le b 57 (and_r (leb 48 b) (leb b 57) t) in
    (leb→le 48 b (and_l (leb 48 b) (leb b 57) t), omega (arith, top))

-- ---- no leading zero
pub none : (ds : List ℕ) → length ds ≡ 0 → no_leading_zero ds ≡ false
none [] h = refl
none (d ∷ ds) h = absurd (omega arith)

pub leading : (ds : List ℕ) → get_or ds 0 0 ≡ 48 → (length ds ≡ 1 → ⊥) → no_leading_zero ds ≡ false
leading [] e h = refl
leading (d ∷ []) e h = absurd (h refl)
leading (d ∷ b ∷ ds) e h = rw (eq-eqb d 48 e)

pub single : (ds : List ℕ) → length ds ≡ 1 → no_leading_zero ds ≡ true
single [] h = absurd (omega arith)
single (d ∷ []) h = refl
single (d ∷ b ∷ ds) h = absurd (omega arith)

pub no_zero : (ds : List ℕ) → 0 < length ds → (get_or ds 0 0 ≡ 48 → ⊥) → no_leading_zero ds ≡ true
no_zero [] l h = absurd (omega arith)
no_zero (d ∷ []) l h = refl
no_zero (d ∷ b ∷ ds) l h = rw (ne_eqb d 48 h)

-- ---- the digits that some bytes begin with
pub digits-split : (cs : List ℕ) → cs ≡ digits_of cs ++ drop (length (digits_of cs)) cs
digits-split [] = refl
digits-split (c ∷ cs) = go (is_digit c) (digits-split cs)
  where
    go : (t : Bool) → cs ≡ digits_of cs ++ drop (length (digits_of cs)) cs
        → c ∷ cs ≡ cond t (c ∷ digits_of cs) [] ++ drop (length (cond t (c ∷ digits_of cs) [])) (c ∷ cs)
    go true h = ap (λ (l : List ℕ). c ∷ l) h
    go false h = refl

pub digits-only : (cs : List ℕ) → all_digits (digits_of cs) ≡ true
digits-only [] = refl
digits-only (c ∷ cs) = go (is_digit c) refl (digits-only cs)
  where
    go : (t : Bool) → is_digit c ≡ t → all_digits (digits_of cs) ≡ true → all_digits (cond t (c ∷ digits_of cs) []) ≡ true
    go true e h = rw (e, h)
    go false e h = refl

-- bytes are all digits where none is left
pub digits-all : (cs : List ℕ) → length (digits_of cs) ≡ length cs → (all_digits cs ≡ true) × (digits_of cs ≡ cs)
digits-all [] h = (refl, refl)
digits-all (c ∷ cs) h = go (is_digit c) refl h (λ k. digits-all cs k)
  where
    go : (t : Bool) → is_digit c ≡ t → length (cond t (c ∷ digits_of cs) []) ≡ suc (length cs)
        → (length (digits_of cs) ≡ length cs → (all_digits cs ≡ true) × (digits_of cs ≡ cs))
        → ((is_digit c && all_digits cs) ≡ true) × (cond t (c ∷ digits_of cs) [] ≡ c ∷ cs)
    go true e k ih = let d = ih (omega arith) in (rw (e, d.0), ap (λ (l : List ℕ). c ∷ l) d.1)
    go false e k ih = absurd (omega arith)

pub digits-not : (cs : List ℕ) → (length (digits_of cs) ≡ length cs → ⊥) → all_digits cs ≡ false
digits-not [] h = absurd (h refl)
digits-not (c ∷ cs) h = go (is_digit c) refl h (λ k. digits-not cs k)
  where
    go : (t : Bool) → is_digit c ≡ t → (length (cond t (c ∷ digits_of cs) []) ≡ suc (length cs) → ⊥)
        → ((length (digits_of cs) ≡ length cs → ⊥) → all_digits cs ≡ false) → (is_digit c && all_digits cs) ≡ false
    go true e k ih = rw (e, ih (λ q. k (ap suc q)))
    go false e k ih = rw e

-- ---- the loop: from the position `at` on, after digits that make n, those before i make v
pub record Reads (s : List ℕ) (at n i v : ℕ) : Type 0 where
  pub within : i ≤ length s
  pub small : v ≤ decimal_limit
  pub ends : at + length (digits_of (drop at s)) ≡ i + length (digits_of (drop i s))
  pub value : min (decimal_from n (digits_of (drop at s))) decimal_limit ≡ min (decimal_from v (digits_of (drop i s))) decimal_limit

pub start : (s : List ℕ) (at n : ℕ) → at ≤ length s → n ≤ decimal_limit → Reads s at n at n
start s at n h l = record { within = h; small = l; ends = refl; value = refl }

pub grows : (n : ℕ) (ds : List ℕ) → n ≤ decimal_from n ds
grows n [] = omega arith
grows n (d ∷ ds) = omega (arith, grows (n * 10 + (d - 48)) ds)

-- digits behind a number at the limit leave it there
pub cut : (n : ℕ) (ds : List ℕ) → min (decimal_from n ds) decimal_limit ≡ min (decimal_from (min n decimal_limit) ds) decimal_limit
cut n ds = by (ltb n decimal_limit) refl
  where
    by : (t : Bool) → ltb n decimal_limit ≡ t → min (decimal_from n ds) decimal_limit ≡ min (decimal_from (min n decimal_limit) ds) decimal_limit
    by true e = let q : min n decimal_limit ≡ n = omega (arith, ltb-true n decimal_limit e) in rw q
    by false e =
        let l = ltb-false n decimal_limit e in
        let q : min n decimal_limit ≡ decimal_limit = omega (arith, l) in
        rw q (omega (arith, l, grows n ds, grows decimal_limit ds))

module _ {s : List ℕ} {at n i v : ℕ} (r : Reads s at n i v) where
  pub next : i < length s → is_digit (get_or s i 0) ≡ true → Reads s at n (i + 1) (min (v * 10 + (get_or s i 0 - 48)) decimal_limit)
  next h e =
      let more : digits_of (drop i s) ≡ get_or s i 0 ∷ digits_of (drop (i + 1) s) = rw (drop-cons s i 0 h, e, add-one) in
      record {
        within = omega arith;
        small = omega arith;
        ends = omega (arith, r.ends, ap length more);
        value = r.value ∙ rw more (cut (v * 10 + (get_or s i 0 - 48)) (digits_of (drop (i + 1) s)));
      }

  -- what was read, and the byte x behind it, where that is no digit
  abbrev Stopped : ℕ → Type 0
  Stopped x =
      (v ≡ min (decimal_from n (digits_of (drop at s))) decimal_limit)
      × (((i ≡ at + length (digits_of (drop at s))) × (i ≤ length s)) × (x ≡ get_or s i 0))

  last : {x : ℕ} → digits_of (drop i s) ≡ [] → x ≡ get_or s i 0 → Stopped x
  last e b =
      let q : min (decimal_from v (digits_of (drop i s))) decimal_limit ≡ v = rw e (omega (arith, r.small)) in
      (sym (r.value ∙ q), ((omega (arith, r.ends, ap length e), r.within), b))

  pub stop : i < length s → is_digit (get_or s i 0) ≡ false → Stopped (get_or s i 0)
  stop h e = last (rw (drop-cons s i 0 h, e)) refl

  pub end : length s ≤ i → Stopped 0
  end h = last (rw (drop_of_length-le s h)) (sym (get_or-eq_default s 0 h))

-- ---- a number below a bound
pub not-digits : (ds : List ℕ) (m : ℕ) → (length (digits_of ds) ≡ length ds → ⊥) → number_below m ds ≡ false
not-digits ds m h = rw (digits-not ds h, and-false)

module _ (ds : List ℕ) (m v : ℕ) (e : length (digits_of ds) ≡ length ds) (k : v ≡ min (decimal_from 0 (digits_of ds)) decimal_limit)
    (l : m ≤ decimal_limit) where
  same : v ≡ min (decimal_value ds) decimal_limit
  same = k ∙ ap (λ (x : List ℕ). min (decimal_value x) decimal_limit) (digits-all ds e).1

  pub not-below : m ≤ v → number_below m ds ≡ false
  not-below h = rw (le-ltb (decimal_value ds) m (omega (arith, same)), and-false)

  pub below : no_leading_zero ds ≡ true → v < m → (number_below m ds ≡ true) × (decimal_value ds ≡ v)
  below p h = let d : decimal_value ds ≡ v = omega (arith, same) in (rw (p, (digits-all ds e).0, d, lt-ltb v m h), d)
