-- Code in the profile, with what its check says: docs/DECISIONS.md has the reading of "holds". proofs/Shown.antt computes them.
use Rattle.std.specs.Prelude.{◌≡◌, true, false, List, [], ◌∷◌, pos, Option, Some, None}
use Rattle.values.specs.declared.Kind.TheVariants.{Int}
use Rattle.values.specs.declared.CompareOp.TheVariants.{Gt}
use Rattle.values.specs.declared.ChoiceOp.TheVariants.{Max, Min}
use Rattle.values.specs.Singles.{one_real}
use Rattle.operators.specs.declared.UnaryOp.TheVariants.{ToReal, Trunc}
use Rattle.memory.specs.declared.Bank.TheVariants.{D, R}
use Rattle.totals.specs.declared.TotalOp.TheVariants as T'
use Rattle.totals.specs.declared.MatchOp.TheVariants as M'
use Rattle.code.specs.declared.Instr.{Instr}
use Rattle.code.specs.declared.Instr.TheVariants.{PushInt, PushReal, Load, LoadIndexed, Unary, Jump, Total, Match}
use Rattle.verifier.specs.Profile.{verdict_in}
use Rattle.values.specs.declared.Kind.{Kind}

abbrev one : Instr
one = PushInt (pos 1)

-- the code and what the profile's check says of it
pub data Sample : Type 0 where
  accepts : List Instr → Sample
  refuses : List Instr → Sample

-- the verdicts of both checks
pub record Verdicts : Type 0 where
  pub profile : Option Kind
  pub full : Option Kind

abbrev pub verdicts : List Instr → Verdicts
verdicts c = record { profile = verdict_in false c; full = verdict_in true c }

-- each ends with an integer, and the full box accepts it
abbrev pub Holds : Sample → Type 0
Holds (accepts c) = verdicts c ≡ record { profile = Some Int; full = Some Int }
Holds (refuses c) = verdicts c ≡ record { profile = None; full = Some Int }

abbrev pub AllShown : List Sample → Type 0
AllShown [] = Unit {0}
AllShown (s ∷ ss) = Holds s × AllShown ss

abbrev pub shown : List Sample
shown =
    -- TRUNC of a pushed real, of 1 made real, of an average: a real is held on the way
    refuses (PushReal one_real ∷ Unary Trunc ∷ [])
    ∷ refuses (one ∷ Unary ToReal ∷ Unary Trunc ∷ [])
    ∷ refuses (Total T'.Average D 0 2 ∷ Unary Trunc ∷ [])
    -- a push of a real that nothing comes to holds none; a load of R is refused there too
    ∷ accepts (one ∷ Jump 1 ∷ PushReal one_real ∷ [])
    ∷ refuses (one ∷ Jump 1 ∷ Load R 0 ∷ [])
    ∷ refuses (one ∷ Jump 1 ∷ LoadIndexed R ∷ [])
    -- ranges of R, also one that leaves an integer
    ∷ refuses (Total T'.Sum R 0 2 ∷ Unary Trunc ∷ [])
    ∷ refuses (Total (T'.Choice Max) R 0 2 ∷ Unary Trunc ∷ [])
    ∷ refuses (Total (T'.Choice Min) R 0 2 ∷ Unary Trunc ∷ [])
    ∷ refuses (one ∷ Match (M'.Count Gt) R 0 3 ∷ [])
    ∷ refuses (one ∷ Match (M'.Sum Gt) R 0 3 ∷ Unary Trunc ∷ [])
    -- and of D none
    ∷ accepts (one ∷ Match (M'.Count Gt) D 0 3 ∷ Unary Trunc ∷ [])
    ∷ []
