-- Each part of `Independent` is needed: four pairs, each of which breaks just one, and a cell that reads two values in the two orders. Run at tick 0 on a
-- memory of zeros. proofs/Needed.antt proves `Needed`.
use Rattle.std.specs.Prelude.{◌≡◌, [], ◌∷◌, ℕ, pos, replicate}
use Prim.Native.String.{String}
use Rattle.words.specs.Ascii.{ascii}
use Rattle.values.specs.declared.Value.TheVariants.{Int}
use Rattle.values.specs.declared.Outcome.{Outcome}
use Rattle.values.specs.declared.Outcome.TheVariants.{Done}
use Rattle.memory.specs.declared.Bank.{Bank}
use Rattle.memory.specs.declared.Bank.TheVariants.{D}
use Rattle.memory.specs.Layout.{image_size}
use Rattle.memory.specs.Cells.{read_rule}
use Rattle.list_laws.specs.Running.{Listed, Buffers, after}

abbrev pub start : Buffers
start = record { memory = replicate image_size 0; code = replicate 16384 0; index = replicate 16384 0 }

abbrev pub formula : String → String → Listed
formula target text = record { target = ascii target; text = ascii text }

-- what an element of D reads after two formulas
abbrev pub after_both : Listed → Listed → ℕ → Outcome
after_both e f i = read_rule (after 0 (e ∷ f ∷ []) start).memory D i

-- the element i of D reads n after e and then f, and k after f and then e
pub record Reads (e f : Listed) (i n k : ℕ) : Type 0 where
  pub one : after_both e f i ≡ Done (Int (pos n))
  pub other : after_both f e i ≡ Done (Int (pos k))

pub record Needed : Type 0 where
  -- "their targets share no cell"
  pub targets : Reads (formula "D0" "1") (formula "D0" "2") 0 2 1
  -- "neither reads the other's target"
  pub reads : Reads (formula "D0" "D1") (formula "D1" "5") 0 0 5
  -- and so of the target's own index
  pub index : Reads (formula "D[V0]" "1") (formula "V0" "7") 7 0 1
  -- "An indexed target stands for its whole bank": V0 is 0
  pub bank : Reads (formula "D[V0]" "1") (formula "D0" "2") 0 2 1
