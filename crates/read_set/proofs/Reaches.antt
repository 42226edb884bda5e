-- What marks reach: one more mark reaches its interval besides.
use mathlib.Core.Path.{◌≡◌, refl, sym, ap, ◌∙◌}
use mathlib.Core.Logic.{◌≢◌}
use mathlib.Core.Bool.{Bool, true, false, ◌&&◌, ◌||◌, cond, or-false, or_assoc}
use mathlib.Core.List.{List}
use Prim.Native.Nat.{ℕ, zero, suc, ◌+◌, ◌≤◌, ◌<◌}
use native.Mathlib.Omega.{arith}
use lib.Dec.{ltb, leb-suc-suc}
use lib.ListN.{length, get_or, set, replicate, length-set}
use lib.Seq.{get_or-set_same, get_or-set_other}
use borrow.Author.Tests.{ltb-true, ltb-false, lt-ltb, le-ltb}
use Rattle.words.proofs.Lists.{zeros}
use Rattle.read_set.specs.private.Intervals.{in_interval}
use Rattle.read_set.specs.private.Reaches.{larger, reached_to, is_reached, extended}
use Rattle.read_set.proofs.Tests.{or_swap}

-- below the larger of two is below one of them
below-larger : (m a b : ℕ) → ltb m (larger a b) ≡ (ltb m a || ltb m b)
below-larger m a b = by (ltb a b) (ltb m a) (ltb m b) refl refl refl
  where
    by : (t u v : Bool) → ltb a b ≡ t → ltb m a ≡ u → ltb m b ≡ v → ltb m (cond t b a) ≡ (u || v)
    by true true v p q r =
        let h = ltb-true a b p in
        let g = ltb-true m a q in
        lt-ltb m b (omega arith)
    by true false v p q r = r
    by false true v p q r = q
    by false false true p q r =
        let h = ltb-false a b p in
        let g = ltb-false m a q in
        let l = ltb-true m b r in
        absurd (omega arith)
    by false false false p q r = q

larger-moved : (k a b : ℕ) → k + larger a b ≡ larger (k + a) (k + b)
larger-moved k a b = by (ltb a b) refl
  where
    by : (t : Bool) → ltb a b ≡ t → k + cond t b a ≡ larger (k + a) (k + b)
    by true e = let h = ltb-true a b e in rw (lt-ltb (k + a) (k + b) (omega arith))
    by false e = let h = ltb-false a b e in rw (le-ltb (k + a) (k + b) (omega arith))

-- what a turn adds to the numbers reached, for a mark in front, behind, and at the number
module _ (A x x' y u v : Bool) where
  in-front : x' ≡ x → u ≡ false → v ≡ false → ((A || (u && y)) || x') ≡ ((A || x) || (v && y))
  in-front e p q =
      ap (λ (t : Bool). (A || (t && y)) || x') p ∙ ap (λ (t : Bool). (A || false) || t) e ∙ ap (λ (t : Bool). t || x) (or-false A)
      ∙ sym (or-false (A || x)) ∙ sym (ap (λ (t : Bool). (A || x) || (t && y)) q)

  behind : x' ≡ x → u ≡ true → v ≡ true → ((A || (u && y)) || x') ≡ ((A || x) || (v && y))
  behind e p q =
      ap (λ (t : Bool). (A || (t && y)) || x') p ∙ ap (λ (t : Bool). (A || y) || t) e ∙ or_swap A y x ∙ sym (ap (λ (t : Bool). (A || x) || (t && y)) q)

  here : x' ≡ (x || y) → u ≡ false → v ≡ true → ((A || (u && y)) || x') ≡ ((A || x) || (v && y))
  here e p q =
      ap (λ (t : Bool). (A || (t && y)) || x') p ∙ ap (λ (t : Bool). (A || false) || t) e ∙ ap (λ (t : Bool). t || (x || y)) (or-false A)
      ∙ sym (or_assoc A x y) ∙ sym (ap (λ (t : Bool). (A || x) || (t && y)) q)

module _ (rs : List ℕ) (s c : ℕ) (h : s < length rs) where
  other_word : (k : ℕ) → k ≢ s → get_or (extended rs s c) k 0 ≡ get_or rs k 0
  other_word k d = by (ltb (get_or rs s 0) c)
    where
      by : (t : Bool) → get_or (cond t (set rs s c) rs) k 0 ≡ get_or rs k 0
      by true = get_or-set_other rs s k c 0 d
      by false = refl

  marked-word : get_or (extended rs s c) s 0 ≡ larger (get_or rs s 0) c
  marked-word = by (ltb (get_or rs s 0) c)
    where
      by : (t : Bool) → get_or (cond t (set rs s c) rs) s 0 ≡ cond t c (get_or rs s 0)
      by true = get_or-set_same rs s c 0 h
      by false = refl

  turned : (m k : ℕ) (A : Bool)
      → ((A || (ltb s k && ltb m (s + c))) || ltb m (k + get_or (extended rs s c) k 0)) ≡ ((A || ltb m (k + get_or rs k 0)) || (ltb s (suc k) && ltb m (s + c)))
  turned m k A = by (ltb k s) (ltb s k) refl refl
    where
      x : Bool
      x = ltb m (k + get_or rs k 0)

      x' : Bool
      x' = ltb m (k + get_or (extended rs s c) k 0)

      unmarked : k ≢ s → x' ≡ x
      unmarked d = ap (λ (n : ℕ). ltb m (k + n)) (other_word k d)

      marked : k ≡ s → x' ≡ (x || ltb m (s + c))
      marked e =
          ap (λ (n : ℕ). ltb m (k + get_or (extended rs s c) n 0)) e ∙ ap (λ (n : ℕ). ltb m (k + n)) marked-word
          ∙ ap (λ (n : ℕ). ltb m (k + larger (get_or rs n 0) c)) (sym e)
          ∙ ap (ltb m) (larger-moved k (get_or rs k 0) c) ∙ below-larger m (k + get_or rs k 0) (k + c) ∙ ap (λ (n : ℕ). x || ltb m (n + c)) e

      by : (t u : Bool) → ltb k s ≡ t → ltb s k ≡ u → ((A || (ltb s k && ltb m (s + c))) || x') ≡ ((A || x) || (ltb s (suc k) && ltb m (s + c)))
      by true u p q =
          let l = ltb-true k s p in
          in-front A x x' (ltb m (s + c)) (ltb s k) (ltb s (suc k)) (unmarked (λ e. omega arith)) (le-ltb s k (omega arith)) (le-ltb s (suc k) (omega arith))
      by false true p q =
          let l = ltb-true s k q in
          behind A x x' (ltb m (s + c)) (ltb s k) (ltb s (suc k)) (unmarked (λ e. omega arith)) q (lt-ltb s (suc k) (omega arith))
      by false false p q =
          let l = ltb-false k s p in
          let l' = ltb-false s k q in
          here A x x' (ltb m (s + c)) (ltb s k) (ltb s (suc k)) (marked (omega arith)) q (lt-ltb s (suc k) (omega arith))

  reached-by : (m k : ℕ) → ltb m (reached_to (extended rs s c) k) ≡ (ltb m (reached_to rs k) || (ltb s k && ltb m (s + c)))
  unfolding reached_to
  reached-by m zero = sym (ap (λ (t : Bool). ltb m 0 || (t && ltb m (s + c))) (le-ltb s 0 (omega arith)) ∙ or-false (ltb m 0))
  reached-by m (suc k) =
      below-larger m (reached_to (extended rs s c) k) (k + get_or (extended rs s c) k 0)
      ∙ ap (λ (t : Bool). t || ltb m (k + get_or (extended rs s c) k 0)) (reached-by m k)
      ∙ turned m k (ltb m (reached_to rs k))
      ∙ sym (ap (λ (t : Bool). t || (ltb s (suc k) && ltb m (s + c))) (below-larger m (reached_to rs k) (k + get_or rs k 0)))

  -- one mark more
  pub extended-reaches : (k : ℕ) → is_reached (extended rs s c) k ≡ (is_reached rs k || in_interval s c k)
  extended-reaches k = reached-by k (suc k) ∙ ap (λ (t : Bool). is_reached rs k || (t && ltb k (s + c))) (leb-suc-suc s k)

pub extended-length : (rs : List ℕ) (s c : ℕ) → length (extended rs s c) ≡ length rs
extended-length rs s c = by (ltb (get_or rs s 0) c)
  where
    by : (t : Bool) → length (cond t (set rs s c) rs) ≡ length rs
    by true = length-set rs s c
    by false = refl

-- ---- no marks
larger-small : (k a x : ℕ) → a ≤ k → x ≡ 0 → larger a (k + x) ≤ k
larger-small k a x l z = by (ltb a (k + x))
  where
    by : (t : Bool) → cond t (k + x) a ≤ k
    by true = omega arith
    by false = l

one_more : (a k : ℕ) → a ≤ k → a ≤ suc k
one_more a k l = omega arith

module _ (n : ℕ) where
  blank-reach : (k : ℕ) → reached_to (replicate n 0) k ≤ k
  unfolding reached_to
  blank-reach zero = omega arith
  blank-reach (suc k) = one_more _ k (larger-small k (reached_to (replicate n 0) k) (get_or (replicate n 0) k 0) (blank-reach k) (zeros n k))

  pub blank-reaches : (k : ℕ) → is_reached (replicate n 0) k ≡ false
  unfolding reached_to
  blank-reaches k = le-ltb k _ (larger-small k (reached_to (replicate n 0) k) (get_or (replicate n 0) k 0) (blank-reach k) (zeros n k))
