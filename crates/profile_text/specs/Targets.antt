-- Targets in the full box and in the profile (paper 02, Ask 12): "an R target, or one with a real part in its index, is 2".
use Rattle.std.specs.Prelude.{Bool, true, false, not, ◌&&◌, cond, List, ℕ, Option, Some, None}
use Rattle.text.specs.Targets.{Target, to_cell, to_indexed, no_target, target_of}
use Rattle.profile.specs.Parts.{real_bank}
use Rattle.profile_text.specs.Trees.{integer_only}
use Rattle.memory.specs.declared.Bank.{Bank}

-- the profile takes a target of no real part
unfoldable pub integer_target : Target → Bool
unfolding integer_only
integer_target (to_cell b i) = not (real_bank b)
integer_target (to_indexed b t) = not (real_bank b) && integer_only t
integer_target no_target = false

abbrev pub taken_target : Bool → Target → Target
taken_target true t = t
taken_target false t = cond (integer_target t) t no_target

-- the target of compile-and-run and of compile_target
abbrev pub target_in : Bool → List ℕ → Target
target_in reals s = taken_target reals (target_of s)

-- the bank of an indexed target: with it the index may be judged in the profile at once (`index_judged`)
abbrev pub bank_in : Bool → Option Bank → Option Bank
bank_in true l = l
bank_in false (Some b) = cond (real_bank b) None (Some b)
bank_in false None = None
