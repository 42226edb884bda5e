-- The running tally of a real run (paper 02, Ask 2): "A running tally keeps sum, least and greatest as singles beside the count for real banks,
-- the sum from 0.0".
use Rattle.std.specs.Prelude.{ℕ, ◌+◌, pos, Float}
use Rattle.std.specs.Float.Ieee as Ieee
use Rattle.std.specs.Float.{binary32}
use Rattle.reals.specs.declared.ArithOp.TheVariants.{Div}
use Rattle.values.specs.declared.Value.TheVariants.{Int, Real}
use Rattle.values.specs.declared.Outcome.{Outcome}
use Rattle.values.specs.declared.Outcome.TheVariants.{Done, Stopped, WrongKind}
use Rattle.values.specs.declared.ChoiceOp.TheVariants.{Max, Min}
use Rattle.values.specs.Singles.{zero_real, choice_real}
use Rattle.operators.specs.Operators.{as_real, arith_rule}
use Rattle.totals.specs.declared.Step.{Step}
use Rattle.totals.specs.declared.Step.TheVariants as S
use Rattle.totals.specs.declared.tally.Tally.{Tally}

abbrev pub begun : Float → Tally
begun x = record { sum = zero_real; least = x; greatest = x; count = 0 }

abbrev pub stepped : Tally → Float → Tally
stepped t x =
    record {
      sum = Ieee.add binary32 t.sum x;
      least = choice_real Min t.least x;
      greatest = choice_real Max t.greatest x;
      count = t.count + 1;
    }

abbrev pub first_real : Outcome → Float
first_real (Done v) = as_real v
first_real (Stopped f) = zero_real
first_real WrongKind = zero_real

-- "AVGR .. divided by the count"
abbrev pub mean_of : Float → ℕ → Outcome
mean_of sum n = arith_rule Div (Real sum) (Int (pos n))

-- what a run comes to
abbrev pub reading : Step → Tally → Outcome
reading S.Add t = Done (Real t.sum)
reading S.Average t = mean_of t.sum t.count
reading (S.Choose Max) t = Done (Real t.greatest)
reading (S.Choose Min) t = Done (Real t.least)
reading (S.CountIf o v) t = Done (Int (pos t.count))
reading (S.AddIf o v) t = Done (Real t.sum)
