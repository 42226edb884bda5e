-- The digits of a number: how many there are, the last of them apart, and how they are put one by one. Assumes nothing.
use mathlib.Core.Path.{◌≡◌, refl, sym, ◌∙◌}
use mathlib.Core.List.{List, [], ◌∷◌, ◌++◌, append_assoc}
use Prim.Native.Nat.{ℕ, zero, suc, ◌+◌, ◌-◌, ◌/◌, ◌%◌, ◌≤◌, ◌<◌}
use native.Mathlib.Nat.{zero-add, add-zero}
use native.Mathlib.Numerals.{sub-one}
use native.Mathlib.Omega.{arith}
use lib.ListN.{length, set}
use Rattle.lines.specs.Printing.{numeral_byte, digits_before, low_digits}
use Rattle.lines.proofs.Stores.{Left, last, done}

length_before : (base k n : ℕ) (cs : List ℕ) → length (digits_before base k n cs) ≡ k + length cs
length_before base zero n cs = sym (zero-add (length cs))
length_before base (suc k) n cs =
    length_before base k (n / base) (numeral_byte (n % base) ∷ cs) ∙ omega arith

pub length_digits : (base k n : ℕ) → length (low_digits base k n) ≡ k
length_digits base k n = length_before base k n [] ∙ add-zero k

before-append : (base k n : ℕ) (cs : List ℕ) → digits_before base k n cs ≡ low_digits base k n ++ cs
before-append base zero n cs = refl
before-append base (suc k) n cs =
    let d = numeral_byte (n % base) in
    before-append base k (n / base) (d ∷ cs)
    ∙ rw (before-append base k (n / base) (d ∷ []), append_assoc (low_digits base k (n / base)) (d ∷ []) cs)

pub digits_last : (base k n : ℕ) → low_digits base (suc k) n ≡ low_digits base k (n / base) ++ (numeral_byte (n % base) ∷ [])
digits_last base k n = before-append base k (n / base) (numeral_byte (n % base) ∷ [])

-- ---- digits put from the last to the first
module _ {goal m : List ℕ} {at : ℕ} (base n : ℕ) where
  pub inside : (k : ℕ) → Left goal m at (low_digits base k n) → at + k ≤ length m
  inside k l = rw (length_digits base k n) at l.room

  pub next : (k b : ℕ) → 0 < k → b ≡ numeral_byte (n % base) → Left goal m at (low_digits base k n)
      → Left goal (set m (at + (k - 1)) b) at (low_digits base (k - 1) (n / base))
  next zero b p e l = absurd (omega arith)
  next (suc k) b p e l =
      let rest = low_digits base k (n / base) in
      let put : Left goal (set m (at + length rest) b) at rest = rw e (last rest (numeral_byte (n % base)) (rw (digits_last base k n) at l)) in
      rw (sub-one (suc k)) (rw (length_digits base k (n / base)) at put)

  pub end : (k : ℕ) → k ≤ 0 → Left goal m at (low_digits base k n) → m ≡ goal
  end zero h l = done l
  end (suc k) h l = absurd (omega arith)
