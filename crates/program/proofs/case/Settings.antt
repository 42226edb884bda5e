-- What a line sets: the ways that a name and a value can come out. Assumes nothing.
use Rattle.std.specs.Prelude.{Option, Some, None}
use mathlib.Core.Path.{◌≡◌, refl}
use mathlib.Core.Bool.{Bool, true, false, cond}
use mathlib.Core.List.{List}
use Prim.Native.Nat.{ℕ, ◌<◌}
use native.Mathlib.Omega.{arith}
use Rattle.memory.specs.declared.Bank.{Bank}
use Rattle.memory.specs.Layout.{packed}
use Rattle.memory.specs.Laws.{Bits, is_x, is_c, Holdable}
use Rattle.memory.specs.Names.{decimal_value, number_below}
use Rattle.lines.specs.Forms.{natural_form, cell_pattern}
use Rattle.program.specs.Cases.{set_cell}
use Rattle.program.proofs.Names.{below}

module _ (m v : List ℕ) {n : (Option (Bank × ℕ))} where
  pub no_name : n ≡ None → m ≡ set_cell m v n
  no_name e = rw e

  module _ {b : Bank} {i : ℕ} (e : n ≡ Some (b, i)) where
    pub no-form : None ≡ cell_pattern b v → m ≡ set_cell m v n
    no-form f = rw (e, ← f)

    pub set : {p : ℕ} {t : List ℕ} → Some p ≡ cell_pattern b v → t ≡ packed.put m b i p → t ≡ set_cell m v n
    set f g = rw (e, ← f) g

-- a bit's value is 0 or 1
natural : (v : List ℕ) {p : ℕ} → Some p ≡ natural_form 2 v → p < 2
natural v {p} = by (number_below 2 v) refl
  where
    by : (t : Bool) → number_below 2 v ≡ t → Some p ≡ cond t (Some (decimal_value v)) None → p < 2
    by true n e = let q : p ≡ decimal_value v = cc in omega (arith, q, below 2 v n)
    by false n e = let z : ◌≡◌ {A = ℕ} 0 1 = cc in absurd (omega arith)

pub holdable : {b : Bank} (v : List ℕ) {p : ℕ} → Some p ≡ cell_pattern b v → Holdable b p
holdable v {p} e = record { bit = λ w. by w e }
  where
    by : {a : Bank} → Bits a → Some p ≡ cell_pattern a v → p < 2
    by is_x f = natural v f
    by is_c f = natural v f
