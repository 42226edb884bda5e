-- The byte of eight bits: its digits are theirs. Assumes nothing.
use mathlib.Core.Path.{◌≡◌, refl, sym, ap, ◌∙◌}
use mathlib.Core.Bool.{Bool, true, false, cond}
use mathlib.Core.List.{List}
use Prim.Native.Nat.{ℕ, zero, suc, ◌+◌, ◌^◌, ◌<◌}
use native.Mathlib.Nat.{add-zero, add-suc, suc-add, pow-suc}
use native.Mathlib.Omega.{arith}
use lib.Dec.{eqb}
use lib.ListN.{get_or}
use Rattle.words.specs.Bits.{bit}
use Rattle.words.proofs.Digits.{upper, lower}
use Rattle.images.specs.Conversions.{truth_of, byte_of}

pub truth-below : (n : ℕ) → truth_of n < 2
truth-below n = by (eqb n 0)
  where
    by : (t : Bool) → cond t 0 1 < 2
    by true = omega arith
    by false = omega arith

-- 0 and 1 are their own truth
pub truth-digit : (d : ℕ) → d < 2 → truth_of d ≡ d
truth-digit zero h = refl
truth-digit (suc zero) h = refl
truth-digit (suc (suc d)) h = absurd (omega arith)

pub byte-digit : (m : List ℕ) (a n j : ℕ) → j < n → bit (byte_of m a n) j ≡ truth_of (get_or m (a + j) 0)
byte-digit m a zero j h = absurd (omega arith)
byte-digit m a (suc n) zero h =
    lower (byte_of m (suc a) n) (truth_of (get_or m a 0)) (truth-below (get_or m a 0)) ∙ ap (λ (k : ℕ). truth_of (get_or m k 0)) (sym (add-zero a))
byte-digit m a (suc n) (suc j) h =
    ap (λ (y : ℕ). bit y j) (upper (byte_of m (suc a) n) (truth_of (get_or m a 0)) (truth-below (get_or m a 0))) ∙ byte-digit m (suc a) n j (omega arith)
    ∙ ap (λ (k : ℕ). truth_of (get_or m k 0)) (suc-add a j ∙ sym (add-suc a j))

pub byte-below : (m : List ℕ) (a n : ℕ) → byte_of m a n < 2 ^ n
byte-below m a zero = omega arith
byte-below m a (suc n) = omega (arith, byte-below m (suc a) n, truth-below (get_or m a 0), pow-suc 2 n)
