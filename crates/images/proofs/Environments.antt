-- Corresponding images are one environment, since a bit reads as its truth. Assumes nothing.
use mathlib.Core.Path.{◌≡◌, refl, sym, ap, ◌∙◌, fun_ext}
use mathlib.Core.Bool.{Bool, true, false, cond}
use mathlib.Core.List.{List}
use Prim.Native.Nat.{ℕ, ◌<◌}
use native.Mathlib.Decide.{dec_lt}
use native.Mathlib.Omega.{arith}
use lib.Dec.{eqb, ltb}
use lib.IntN.{ℤ}
use lib.ListN.{length}
use borrow.Author.Tests.{eq-eqb, lt-ltb, le-ltb}
use Rattle.values.specs.declared.Value.TheVariants.{Int}
use Rattle.values.specs.declared.Fault.TheVariants.{IndexError}
use Rattle.values.specs.declared.Outcome.{Outcome}
use Rattle.values.specs.declared.Outcome.TheVariants.{Done, Stopped}
use Rattle.memory.specs.declared.Bank.{Bank}
use Rattle.memory.specs.declared.Bank.TheVariants.{X, C, «V», N, D, R}
use Rattle.memory.specs.Layout.{image_size, layout_of, packed}
use Rattle.memory.specs.Cells.{bit_of, cell_value, read_in}
use Rattle.memory.specs.Environment.{Environment, memory_in}
use Rattle.images.specs.Bytewise.{old_size, bytewise}
use Rattle.images.specs.Conversions.{truth_of, normalized, Corresponds}

truth-reads : (n : ℕ) → bit_of (truth_of n) ≡ bit_of n
truth-reads n = by (eqb n 0) refl
  where
    by : (t : Bool) → eqb n 0 ≡ t → bit_of (truth_of n) ≡ bit_of n
    by true e = rw e
    by false e = rw e

normalized-reads : (b : Bank) (n : ℕ) → cell_value b (normalized b n) ≡ cell_value b n
normalized-reads X n = ap (λ (z : ℤ). Done (Int z)) (truth-reads n)
normalized-reads C n = ap (λ (z : ℤ). Done (Int z)) (truth-reads n)
normalized-reads «V» n = refl
normalized-reads N n = refl
normalized-reads D n = refl
normalized-reads R n = refl

abbrev reading : ℕ → (Bank → ℕ → Outcome) → Environment
reading t r = record { cell = r; tick = t }

module _ (m n : List ℕ) (c : Corresponds m n) where
  reads : (b : Bank) (i : ℕ) → read_in bytewise m b i ≡ read_in packed n b i
  reads b i = rw (eq-eqb (length m) old_size c.left, eq-eqb (length n) image_size c.right) (by (dec_lt i (layout_of b).elements))
    where
      by : Dec (i < (layout_of b).elements)
          → cond (ltb i (layout_of b).elements) (cell_value b (bytewise.get m b i)) (Stopped IndexError)
          ≡ cond (ltb i (layout_of b).elements) (cell_value b (packed.get n b i)) (Stopped IndexError)
      by (yes h) = rw (lt-ltb i (layout_of b).elements h) (sym (normalized-reads b (bytewise.get m b i)) ∙ ap (cell_value b) (c.cells b i h))
      by (no h) = rw (le-ltb i (layout_of b).elements (omega arith))

  pub environment : (tick : ℕ) → memory_in bytewise tick m ≡ memory_in packed tick n
  environment tick = ap (reading tick) (fun_ext (λ b. fun_ext (λ i. reads b i)))
