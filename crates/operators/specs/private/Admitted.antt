-- What an outcome counts for in the full box (reals true) and in the profile without reals (false): there nothing real has a part in an operation. For the
-- contracts of functions that take `reals`.
use Rattle.std.specs.Prelude.{Bool, not, ◌||◌, cond}
use Rattle.values.specs.declared.Outcome.{Outcome}
use Rattle.values.specs.declared.Outcome.TheVariants.{WrongKind}

-- real says whether something real has a part in it
abbrev pub admitted : Bool → Bool → Outcome → Outcome
admitted reals real o = cond (reals || not real) o WrongKind
