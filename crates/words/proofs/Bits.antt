-- The bits of a byte, as shifts and masks read and write them: one computed test over every byte and every bit of it, on and off. Assumes nothing.
use mathlib.Core.Path.{◌≡◌, refl}
use mathlib.Core.Bool.{Bool, true, ◌&&◌}
use Prim.Native.Nat.{ℕ, ◌-◌, ◌*◌, ◌/◌, ◌%◌, ◌^◌, ◌<◌}
use lib.Bits.{bit_and, bit_or}
use lib.Dec.{eqb}
use borrow.Author.Tests.{eqb-true}
use Rattle.words.specs.Bits.{bit, with_bit}
use Rattle.words.proofs.Tests.{both, every_below, at_each}

-- 1 shifted to the bit k, as a byte
abbrev weight : ℕ → ℕ
weight k = 1 * 2 ^ k % 256

pub record Weighs (x k : ℕ) : Type 0 where
  pub read : x / 2 ^ k % 2 ≡ bit x k
  pub off : bit_and x (255 - weight k) ≡ with_bit x k 0
  pub on : bit_or (bit_and x (255 - weight k)) (weight k) ≡ with_bit x k 1

abbrev weighs : ℕ → ℕ → Bool
weighs x k =
    eqb (x / 2 ^ k % 2) (bit x k)
    && (eqb (bit_and x (255 - weight k)) (with_bit x k 0) && eqb (bit_or (bit_and x (255 - weight k)) (weight k)) (with_bit x k 1))

all-weigh : every_below (λ k. every_below (λ x. weighs x k) 256) 8 ≡ true
all-weigh = refl

taken-apart : (x k : ℕ) → weighs x k ≡ true → Weighs x k
taken-apart x k t =
    let a = both _ _ t in
    let b = both _ _ a.1 in
    record { read = eqb-true _ _ a.0; off = eqb-true _ _ b.0; on = eqb-true _ _ b.1 }

pub weighed : (x k : ℕ) → x < 256 → k < 8 → Weighs x k
weighed x k h g =
    taken-apart x k (at_each (λ y. weighs y k) 256 (at_each (λ j. every_below (λ y. weighs y j) 256) 8 all-weigh k g) x h)
