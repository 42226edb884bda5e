-- `ProfileTrees`: by the profile's check of such code, and by what both machines do on code that it accepts.
use mathlib.Core.Path.{◌≡◌}
use mathlib.Core.Bool.{Bool, true, false, ◌||◌}
use mathlib.Core.List.{[]}
use Rattle.values.specs.declared.Kind.{Kind}
use Rattle.values.specs.declared.Kind.TheVariants.{Int}
use Rattle.memory.specs.Environment.{Environment}
use Rattle.grammar.specs.Tree.{Tree}
use Rattle.machine.specs.Machine.{exec}
use Rattle.machine.specs.Profile.{exec_in}
use Rattle.verifier.specs.Accepts.{Accepts}
use Rattle.verifier.specs.Safety.{Kinded}
use Rattle.tree_code.specs.Code.{code_of}
use Rattle.profile_text.specs.Trees.{integer_only}
use Rattle.machine.proofs.Profile.{profile-runs}
use Rattle.profile_code.proofs.Theorems.{profile-code}
use Rattle.profile_trees.specs.Theorems.{ProfileTrees}
use Rattle.profile_trees.proofs.Compiled.{compiled}

ran : (reals : Bool) (E : Environment) (t : Tree) (k : Kind) → Kinded E → (reals || integer_only t) ≡ true → Accepts (code_of t) k
    → exec_in reals E (code_of t) 0 [] ≡ exec E (code_of t) 0 []
ran true E t k K e a = profile-runs.full E (code_of t) 0 []
ran false E t k K e a = (profile-code.ran E (code_of t) Int K (compiled t k e a)).1

pub profile-trees : ProfileTrees
profile-trees = record { compiled = compiled; ran = ran }
