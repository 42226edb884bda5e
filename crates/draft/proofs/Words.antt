-- What a row of stores leaves in the draft.
use mathlib.Core.Path.{◌≡◌, refl, sym, ap}
use mathlib.Core.Bool.{cond}
use mathlib.Core.Logic.{◌≢◌}
use mathlib.Core.List.{List}
use Prim.Native.Nat.{ℕ, zero, suc, ◌+◌, ◌-◌, ◌≤◌, ◌<◌}
use native.Mathlib.Numerals.{add-one, add-two, add-three}
use native.Mathlib.Nat.{add-zero}
use native.Mathlib.Omega.{arith}
use lib.Dec.{eqb}
use lib.ListN.{length, set}
use Rattle.values.specs.declared.Kind.{Kind}
use Rattle.values.specs.declared.Kind.TheVariants.{Int, Real}
use Rattle.code.specs.Instructions.{PUSH-INT, JUMP, JUMP-IF-FALSE, UNARY}
use Rattle.code.specs.Encode.{join_word}
use Rattle.tree_code.specs.Code.{branch_tail_skip, branch_tail}
use Rattle.operators.specs.Kinds.{number_kind}
use Rattle.draft.specs.private.Draft.{put_code, settled_code, chosen_code}

-- ---- rows of stores
module _ (s : List ℕ) (j k : ℕ) where
  skipping : j < k → k - j + 2 ≡ k - suc j + 3
  skipping l = omega arith

  -- the jump over the right side of && (d is 0) or || (d is 1), and what makes 0 or 1 of it
  settle-row : (d : ℕ) → d < 2 → j < k
      → set (set (set (set (set s j (join_word (JUMP-IF-FALSE + d) (k - j + 2))) k (join_word (JUMP-IF-FALSE + d) 2)) (k + 1) (join_word PUSH-INT (1 - d)))
      (k + 2) (join_word JUMP 1)) (k + 3) (join_word PUSH-INT d)
      ≡ settled_code s j k (eqb d 1)
  unfolding put_code
  settle-row zero h l = rw (skipping l, add-one k, add-two k, add-three k)
  settle-row (suc zero) h l = rw (skipping l, add-one k, add-two k, add-three k)
  settle-row (suc (suc d)) h l = absurd (omega arith)

  pub settle-way : {d : ℕ} {s₁ s₂ s₃ s₄ s₅ : List ℕ} → d < 2 → j < k → s₁ ≡ set s j (join_word (JUMP-IF-FALSE + d) (k - j + 2))
      → s₂ ≡ set s₁ k (join_word (JUMP-IF-FALSE + d) 2)
      → s₃ ≡ set s₂ (k + 1) (join_word PUSH-INT (1 - d)) → s₄ ≡ set s₃ (k + 2) (join_word JUMP 1) → s₅ ≡ set s₄ (k + 3) (join_word PUSH-INT d)
      → s₅ ≡ settled_code s j k (eqb d 1)
  settle-way {d} h l a b c e f = cc (settle-row d h l)

-- what promotes a branch, by the kinds' numbers
module _ (s : List ℕ) (k : ℕ) where
  abbrev Promoted : Kind → Kind → ℕ → List ℕ → Type 0
  Promoted a b e t = (e ≡ k + length (branch_tail a b)) × (t ≡ put_code s k (branch_tail a b))

  alike : (a : Kind) → Promoted a a k s
  unfolding put_code
  alike Int = (sym (add-zero k), refl)
  alike Real = (sym (add-zero k), refl)

  pub promoted-none : {a b : ℕ} → a ≡ b → Promoted (number_kind a) (number_kind b) k s
  promoted-none {a} {b} e = rw (ap number_kind e) (alike (number_kind b))

  pub promoted-two : {a b : ℕ} {s₁ s₂ : List ℕ} → a ≡ 0 → a ≢ b → b < 2 → s₁ ≡ set s k (join_word JUMP 1) → s₂ ≡ set s₁ (k + 1) (join_word (UNARY + 4) 0)
      → Promoted (number_kind a) (number_kind b) (k + 2) s₂
  unfolding put_code
  promoted-two {a} {b} z n h p q =
      let o : b ≡ 1 = omega arith in
      rw (ap number_kind z, ap number_kind o) (refl, cc (add-one k))

  pub promoted-one : {a b : ℕ} {s₁ : List ℕ} → a ≢ 0 → a ≢ b → a < 2 → b < 2 → s₁ ≡ set s k (join_word (UNARY + 4) 0)
      → Promoted (number_kind a) (number_kind b) (k + 1) s₁
  unfolding put_code
  promoted-one {a} {b} z n h l p =
      let o : a ≡ 1 = omega arith in
      let i : b ≡ 0 = omega arith in
      rw (ap number_kind o, ap number_kind i) (refl, p)

-- after the branches: j and k are where they end, a and b their kinds, o how much of what follows the first skips
pub chosen-way : (s : List ℕ) {s₁ s₂ : List ℕ} {j j' k k' o : ℕ} {a a' b b' : Kind} → j ≡ j' → k ≡ k' → a ≡ a' → b ≡ b' → o ≡ branch_tail_skip a b
    → s₁ ≡ set s j (join_word JUMP (k - j - 1 + o)) → s₂ ≡ put_code s₁ k (branch_tail a b) → s₂ ≡ chosen_code s j' k' a' b'
chosen-way s {j = j} {k = k} p q r t u v w = let e : k - j - 1 ≡ k - suc j = omega arith in cc

-- the binary operators 18 and 19 are && and ||
pub which : (n : ℕ) → 18 ≤ n → n < 20 → eqb (n - 18) 1 ≡ eqb n 19
which n l h = by (n - 18) (omega arith) where
  by : (d : ℕ) → n ≡ 18 + d → eqb d 1 ≡ eqb n 19
  by zero e = rw e
  by (suc zero) e = rw e
  by (suc (suc d)) e = absurd (omega arith)

pub skip-test : (a b : ℕ) → a < 2 → b < 2 → cond (eqb a b) 0 1 ≡ branch_tail_skip (number_kind a) (number_kind b)
skip-test zero zero h l = refl
skip-test zero (suc zero) h l = refl
skip-test (suc zero) zero h l = refl
skip-test (suc zero) (suc zero) h l = refl
skip-test (suc (suc a)) b h l = absurd (omega arith)
skip-test zero (suc (suc b)) h l = absurd (omega arith)
skip-test (suc zero) (suc (suc b)) h l = absurd (omega arith)

pub few : (a b : Kind) → (branch_tail_skip a b ≤ 1) × (length (branch_tail a b) ≤ 2)
few Int Int = (omega arith, omega arith)
few Int Real = (omega arith, omega arith)
few Real Int = (omega arith, omega arith)
few Real Real = (omega arith, omega arith)
