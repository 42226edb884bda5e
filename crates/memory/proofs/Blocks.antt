-- Where the blocks of the packed image lie: each within its bank and below the flags, and a byte is of one block at most. Assumes nothing.
use mathlib.Core.Path.{◌≡◌, sym, ap, ◌∙◌}
use mathlib.Core.Bool.{cond}
use mathlib.Core.List.{List}
use Prim.Native.Nat.{ℕ, ◌+◌, ◌-◌, ◌/◌, ◌≤◌, ◌<◌}
use native.Mathlib.Omega.{arith}
use lib.Dec.{T, ltb}
use lib.ListN.{length}
use borrow.Author.Tests.{lt-ltb, le-ltb}
use Rattle.values.specs.declared.Fault.{Fault}
use Rattle.values.specs.declared.Fault.TheVariants.{DividedByZero, Overflow, OutOfRange, IndexError}
use Rattle.memory.specs.declared.Bank.{Bank}
use Rattle.memory.specs.declared.Bank.TheVariants.{X, C, «V», N, D, R}
use Rattle.memory.specs.Layout.{image_size, layout_of, flag_at, block_place, block_of, block_at, packed, has_cell}
use Rattle.memory.specs.Laws.{InBlock, OneBlock}
use Rattle.memory.proofs.Places.{has-size, has-element}

-- ---- a block ends below the flags
pub place_end : (b : Bank) (n : ℕ) → n < (layout_of b).elements → block_place b n + (layout_of b).width ≤ 3088
place_end X n h = omega arith
place_end C n h = omega arith
place_end «V» n h = omega arith
place_end N n h = omega arith
place_end D n h = omega arith
place_end R n h = omega arith

pub block-below : (b : Bank) (i : ℕ) → i < (layout_of b).elements → block_of b i < (layout_of b).elements
block-below X i h = omega arith
block-below C i h = omega arith
block-below «V» i h = h
block-below N i h = h
block-below D i h = h
block-below R i h = h

pub block-end : (b : Bank) (i : ℕ) → i < (layout_of b).elements → block_at b i + (layout_of b).width ≤ 3088
block-end b i h = place_end b (block_of b i) (block-below b i h)

pub block_within : (s : List ℕ) (b : Bank) (i : ℕ) → T (has_cell s b i) → block_at b i + (layout_of b).width ≤ length s
block_within s b i h = omega (arith, block-end b i (has-element packed s b i h), has-size packed s b i h)

pub flag-end : (f : Fault) → (3088 ≤ flag_at f) × (flag_at f < image_size)
flag-end IndexError = omega arith
flag-end OutOfRange = omega arith
flag-end Overflow = omega arith
flag-end DividedByZero = omega arith

pub no_flag : (b : Bank) (i : ℕ) (f : Fault) → i < (layout_of b).elements → InBlock b i (flag_at f) → ⊥
no_flag b i f h w = omega (arith, block-end b i h, (flag-end f).0, w.to)

-- ---- the bank and the block of a byte
abbrev bank_at : ℕ → Bank
bank_at k = cond (ltb k 8) X (cond (ltb k 16) C (cond (ltb k 528) «V» (cond (ltb k 1040) N (cond (ltb k 2064) D R))))

bank-at : (b : Bank) (i k : ℕ) → i < (layout_of b).elements → InBlock b i k → bank_at k ≡ b
bank-at X i k h w = rw (lt-ltb k 8 (omega arith))
bank-at C i k h w = rw (le-ltb k 8 (omega arith), lt-ltb k 16 (omega arith))
bank-at «V» i k h w = rw (le-ltb k 8 (omega arith), le-ltb k 16 (omega arith), lt-ltb k 528 (omega arith))
bank-at N i k h w = rw (le-ltb k 8 (omega arith), le-ltb k 16 (omega arith), le-ltb k 528 (omega arith), lt-ltb k 1040 (omega arith))
bank-at D i k h w =
    rw (le-ltb k 8 (omega arith), le-ltb k 16 (omega arith), le-ltb k 528 (omega arith), le-ltb k 1040 (omega arith), lt-ltb k 2064 (omega arith))
bank-at R i k h w =
    rw (le-ltb k 8 (omega arith), le-ltb k 16 (omega arith), le-ltb k 528 (omega arith), le-ltb k 1040 (omega arith), le-ltb k 2064 (omega arith))

abbrev number_at : Bank → ℕ → ℕ
number_at b k = (k - (layout_of b).place) / (layout_of b).width

number-at : (b : Bank) (i k : ℕ) → InBlock b i k → number_at b k ≡ block_of b i
number-at X i k w = omega arith
number-at C i k w = omega arith
number-at «V» i k w = omega arith
number-at N i k w = omega arith
number-at D i k w = omega arith
number-at R i k w = omega arith

-- two blocks that share a byte are one
pub shared : (b : Bank) (i : ℕ) (c : Bank) (j k : ℕ) → i < (layout_of b).elements → j < (layout_of c).elements → InBlock b i k → InBlock c j k
    → OneBlock b i c j
shared b i c j k h g v w =
    let same : b ≡ c = sym (bank-at b i k h v) ∙ bank-at c j k g w in
    record { bank = same; block = sym (number-at b i k v) ∙ ap (λ (x : Bank). number_at x k) same ∙ number-at c j k w }
