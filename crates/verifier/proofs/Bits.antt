-- Kinds as bits: pushing, popping and comparing them.
use mathlib.Core.Path.{◌≡◌, refl, sym, ap, ◌∙◌, subst}
use mathlib.Core.Bool.{Bool, true, false, ◌&&◌}
use mathlib.Core.List.{List, [], ◌∷◌}
use Prim.Native.Nat.{ℕ, zero, suc, ◌+◌, ◌-◌, ◌*◌, ◌/◌, ◌%◌, ◌^◌, ◌<◌}
use native.Mathlib.Nat.{lt_of_lt_of_le, pow-succ'}
use native.Mathlib.Omega.{arith}
use lib.Dec.{eqb}
use lib.ListN.{length, get_or, set, length-set}
use lib.Seq.{get_or-set_same}
use lib.Pow.{pow_mono}
use borrow.Author.Tests.{eqb-true, eqb-false}
use Rattle.verifier.specs.declared.packing.Held.{Held}
use Rattle.verifier.specs.Typing.{Shape}
use Rattle.verifier.specs.private.Shapes.{number_kind, kind_number, bit_kinds, kinds_of, below, ArrayHolds}
use Rattle.verifier.specs.private.Pass.{Agrees}

pub bits-length : (h b : ℕ) → length (bit_kinds h b) ≡ h
bits-length zero b = refl
bits-length (suc h) b = ap suc (bits-length h (b / 2))

-- ---- a push, and a replacement of the last

module _ (h b : ℕ) (few : b < 2 ^ h) where
  -- there is room for one more bit
  pub room : h < 128 → b < 2 ^ 127
  room l = lt_of_lt_of_le few (pow_mono {i = h} {j = 127} (omega arith))

  pub few-replaced : (n : ℕ) → n < 2 → 0 < h → b / 2 * 2 + n < 2 ^ h
  few-replaced n bit l =
      let e : h ≡ suc (h - 1) = omega arith in
      let f : b < 2 ^ suc (h - 1) = subst (λ h. b < 2 ^ h) e few in
      let p : 2 ^ suc (h - 1) ≡ 2 * 2 ^ (h - 1) = pow-succ' 2 (h - 1) in
      subst (λ h. b / 2 * 2 + n < 2 ^ h) (sym e) (omega (arith, f, p))

-- ---- comparing

number-back : (b : ℕ) → b < 2 → kind_number (number_kind b) ≡ b
number-back zero l = refl
number-back (suc zero) l = refl
number-back (suc (suc b)) l = absurd (omega arith)

-- of h bits there is one number with the same kinds
bits-same : (h w v : ℕ) → w < 2 ^ h → v < 2 ^ h → bit_kinds h w ≡ bit_kinds h v → w ≡ v
bits-same zero w v l m e = omega arith
bits-same (suc h) w v l m e =
    let l₂ : w < 2 * 2 ^ h = rw (pow-succ' 2 h) at l in
    let m₂ : v < 2 * 2 ^ h = rw (pow-succ' 2 h) at m in
    let f : number_kind (w % 2) ≡ number_kind (v % 2) = cc in
    let g : w % 2 ≡ v % 2 = sym (number-back (w % 2) (omega arith)) ∙ ap kind_number f ∙ number-back (v % 2) (omega arith) in
    let d : w / 2 ≡ v / 2 = bits-same h (w / 2) (v / 2) (omega arith) (omega arith) (cc) in
    omega arith

-- equal kinds are equal heights and bits
module _ (a c : Held) (e : kinds_of a ≡ kinds_of c) where
  heights-same : a.height ≡ c.height
  heights-same = sym (bits-length a.height a.bits) ∙ ap length e ∙ bits-length c.height c.bits

  words-same : a.bits ≡ c.bits
  words-same =
      let h : a.height ≡ c.height = heights-same in
      bits-same c.height a.bits c.bits (subst (λ h. a.bits < 2 ^ h) h a.few) c.few (ap (λ h. bit_kinds h a.bits) (sym h) ∙ e)

-- a test of both says whether the kinds are equal
module _ (a c : Held) where
  by_tests : (p q : Bool) → eqb a.height c.height ≡ p → eqb a.bits c.bits ≡ q → Agrees (p && q) (kinds_of a) (kinds_of c)
  by_tests true true e f = record { yes = λ _. rw (eqb-true a.height c.height e, eqb-true a.bits c.bits f); no = λ t k. cc }
  by_tests true false e f = record { yes = λ t. cc; no = λ _ k. eqb-false a.bits c.bits f (words-same a c k) }
  by_tests false q e f = record { yes = λ t. cc; no = λ _ k. eqb-false a.height c.height e (heights-same a c k) }

  pub agree : {b : Bool} → b ≡ (eqb a.height c.height && eqb a.bits c.bits) → Agrees b (kinds_of a) (kinds_of c)
  agree e = rw e (by_tests _ _ refl refl)

-- ---- the array that has the last kind

pub holds-none : {a : List ℕ} {w : Held} → length a ≡ 128 → kinds_of w ≡ [] → ArrayHolds a w
holds-none {w = w} e f =
    let z : w.height ≡ 0 = sym (bits-length w.height w.bits) ∙ ap length f in
    record { whole = e; last = λ l. absurd (omega (arith, z)) }

pub below-length : (h b : ℕ) → length (below (bit_kinds h b)) ≡ h - 1
below-length zero b = refl
below-length (suc h) b = omega (arith, bits-length h (b / 2))

-- the kind of the number n is the last, over the kinds s
tops : (h b n : ℕ) {s : Shape} → n < 2 → bit_kinds h b ≡ number_kind n ∷ s → (h ≡ suc (length s)) × (n ≡ b % 2)
tops zero b n l e = cc
tops (suc h) b n {s} l e =
    let f : number_kind (b % 2) ≡ number_kind n = cc in
    let g : bit_kinds h (b / 2) ≡ s = cc in
    (ap suc (sym (bits-length h (b / 2)) ∙ ap length g), sym (number-back n l) ∙ ap kind_number (sym f) ∙ number-back (b % 2) (omega arith))

-- the number n of the last kind is written at the place p
pub writes : (a : List ℕ) {p n : ℕ} {s : Shape} (r : Held) → length a ≡ 128 → n < 2 → length s ≡ p → kinds_of r ≡ number_kind n ∷ s
    → ArrayHolds (set a p n) r
writes a {p} {n} {s} r w l e f =
    let t = tops r.height r.bits n l f in
    let q : r.height - 1 ≡ p = omega (arith, t.0, e) in
    record {
      whole = length-set a p n ∙ w;
      last = λ _. ap (λ j. get_or (set a p n) j 0) q ∙ get_or-set_same a p n 0 (omega (arith, w, r.low, t.0, e)) ∙ t.1;
    }
