-- A buffer that is written byte by byte from its start on, and one that takes what stands behind a place of another. Assumes nothing.
use mathlib.Core.Path.{◌≡◌, refl, sym, ap, ◌∙◌}
use mathlib.Core.List.{List, ◌++◌}
use Prim.Native.Nat.{ℕ, ◌+◌, ◌-◌, ◌≤◌, ◌<◌}
use native.Mathlib.Decide.{ℕ_discrete, dec_lt}
use native.Mathlib.Omega.{arith}
use lib.ListN.{length, get_or, set, take, drop, length-set, length-append, length-drop, get_or-append}
use lib.Seq.{ext_get_or, length-take-le, get_or-take, get_or-drop, get_or-append-add, get_or-set_same, get_or-set_other}
use Rattle.images.specs.Conversions.{row}
use Rattle.images.proofs.Rows.{row-length, row_at, rest_at}

-- ---- the first k bytes of s are those of f
pub record Filled (f : ℕ → ℕ) (s : List ℕ) (k : ℕ) (t : List ℕ) : Type 0 where
  pub size : length t ≡ length s
  pub filled : (j : ℕ) → j < k → get_or t j 0 ≡ f j
  pub rest : (j : ℕ) → k ≤ j → get_or t j 0 ≡ get_or s j 0

pub filled_none : (f : ℕ → ℕ) (s : List ℕ) → Filled f s 0 s
filled_none f s = record { size = refl; filled = λ j h. absurd (omega arith); rest = λ j h. refl }

pub filled_next : {f : ℕ → ℕ} {s : List ℕ} {k : ℕ} {t : List ℕ} (x : ℕ) → Filled f s k t → k < length s → x ≡ f k → Filled f s (k + 1) (set t k x)
filled_next {f} {s} {k} {t} x F h e =
    record {
      size = length-set t k x ∙ F.size;
      filled = λ j l. by j l (ℕ_discrete j k);
      rest = λ j l. get_or-set_other t k j x 0 (λ q. omega arith) ∙ F.rest j (omega arith);
    }
  where
    by : (j : ℕ) → j < k + 1 → Dec (j ≡ k) → get_or (set t k x) j 0 ≡ f j
    by j l (yes q) = ap (λ (z : ℕ). get_or (set t k x) z 0) q ∙ get_or-set_same t k x 0 (omega (arith, F.size)) ∙ e ∙ ap f (sym q)
    by j l (no q) = get_or-set_other t k j x 0 q ∙ F.filled j (omega arith)

pub filled-all : (f : ℕ → ℕ) (s : List ℕ) (n : ℕ) {t : List ℕ} → n ≤ length s → Filled f s n t → t ≡ row f 0 n ++ drop n s
filled-all f s n {t} h F =
    ext_get_or 0 t (row f 0 n ++ drop n s)
    (F.size ∙ sym (length-append (row f 0 n) (drop n s) ∙ omega (arith, row-length f 0 n, length-drop n s)))
    (λ j l. by j (dec_lt j n))
  where
    by : (j : ℕ) → Dec (j < n) → get_or t j 0 ≡ get_or (row f 0 n ++ drop n s) j 0
    by j (yes l) = let q : 0 + j ≡ j = omega arith in F.filled j l ∙ sym (row_at f 0 n (drop n s) j l ∙ ap f q)
    by j (no l) =
        let q : n + (j - n) ≡ j = omega arith in
        F.rest j (omega arith) ∙ ap (λ (z : ℕ). get_or s z 0) (sym q)
        ∙ sym (ap (λ (z : ℕ). get_or (row f 0 n ++ drop n s) z 0) (sym q) ∙ rest_at (row f 0 n) s n n (row-length f 0 n) (j - n))

-- ---- k bytes of another buffer, from the place at on, stand in s from its place p on
pub record Copied (from : List ℕ) (at : ℕ) (s : List ℕ) (p k : ℕ) (t : List ℕ) : Type 0 where
  pub size : length t ≡ length s
  pub before : (j : ℕ) → j < p → get_or t j 0 ≡ get_or s j 0
  pub copied : (j : ℕ) → j < k → get_or t (p + j) 0 ≡ get_or from (at + j) 0

pub copied_none : (from : List ℕ) (at : ℕ) (s : List ℕ) (p : ℕ) → Copied from at s p 0 s
copied_none from at s p = record { size = refl; before = λ j h. refl; copied = λ j h. absurd (omega arith) }

pub copied_next : {from : List ℕ} {at : ℕ} {s : List ℕ} {p k : ℕ} {t : List ℕ} → Copied from at s p k t → p + k < length s
    → Copied from at s p (k + 1) (set t (p + k) (get_or from (at + k) 0))
copied_next {from} {at} {s} {p} {k} {t} F h =
    let x = get_or from (at + k) 0 in
    record {
      size = length-set t (p + k) x ∙ F.size;
      before = λ j l. get_or-set_other t (p + k) j x 0 (λ q. omega arith) ∙ F.before j l;
      copied = λ j l. by j l (ℕ_discrete j k);
    }
  where
    by : (j : ℕ) → j < k + 1 → Dec (j ≡ k) → get_or (set t (p + k) (get_or from (at + k) 0)) (p + j) 0 ≡ get_or from (at + j) 0
    by j l (yes q) =
        ap (λ (z : ℕ). get_or (set t (p + k) (get_or from (at + k) 0)) (p + z) 0) q ∙ get_or-set_same t (p + k) (get_or from (at + k) 0) 0 (omega (arith, F.size))
        ∙ ap (λ (z : ℕ). get_or from (at + z) 0) (sym q)
    by j l (no q) = get_or-set_other t (p + k) (p + j) (get_or from (at + k) 0) 0 (λ z. q (omega arith)) ∙ F.copied j (omega arith)

pub copied_all : (from : List ℕ) (at : ℕ) (s : List ℕ) (p : ℕ) {n : ℕ} {t : List ℕ} → at ≤ length from → length from + p ≡ length s + at
    → length from - at ≤ n → Copied from at s p n t → t ≡ take p s ++ drop at from
copied_all from at s p {n} {t} h e g F =
    ext_get_or 0 t (take p s ++ drop at from) (F.size ∙ sym (length-append (take p s) (drop at from) ∙ omega (arith, front, length-drop at from)))
    (λ j l. by j l (dec_lt j p))
  where
    front : length (take p s) ≡ p
    front = length-take-le p s (omega arith)

    by : (j : ℕ) → j < length t → Dec (j < p) → get_or t j 0 ≡ get_or (take p s ++ drop at from) j 0
    by j l (yes k) =
        F.before j k ∙ sym (get_or-append (take p s) (drop at from) 0 j (omega (arith, front)) ∙ get_or-take p s j 0 k)
    by j l (no k) =
        let q : p + (j - p) ≡ j = omega arith in
        ap (λ (z : ℕ). get_or t z 0) (sym q) ∙ F.copied (j - p) (omega (arith, F.size))
        ∙ sym
        (ap (λ (z : ℕ). get_or (take p s ++ drop at from) z 0) (sym q) ∙ ap (λ (z : ℕ). get_or (take p s ++ drop at from) (z + (j - p)) 0) (sym front)
        ∙ get_or-append-add (take p s) (drop at from) (j - p) 0
        ∙ get_or-drop at from (j - p) 0)
