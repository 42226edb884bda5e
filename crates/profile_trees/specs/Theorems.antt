-- The code of a formula without a real part (paper 02, Ask 12). proofs/Theorems.antt proves the record.
use Rattle.std.specs.Prelude.{◌≡◌, Bool, true, false, ◌||◌, []}
use Rattle.values.specs.declared.Kind.{Kind}
use Rattle.values.specs.declared.Kind.TheVariants.{Int}
use Rattle.memory.specs.Environment.{Environment}
use Rattle.grammar.specs.Tree.{Tree}
use Rattle.machine.specs.Machine.{exec}
use Rattle.machine.specs.Profile.{exec_in}
use Rattle.verifier.specs.Accepts.{Accepts}
use Rattle.verifier.specs.Profile.{AcceptsIn}
use Rattle.verifier.specs.Safety.{Kinded}
use Rattle.tree_code.specs.Code.{code_of}
use Rattle.profile_text.specs.Trees.{integer_only}

pub record ProfileTrees : Type 0 where
  -- it is code of the profile
  pub compiled : (t : Tree) (k : Kind) → integer_only t ≡ true → Accepts (code_of t) k → AcceptsIn false (code_of t) Int
  -- so where reals are not taken it runs as in the full box
  pub ran : (reals : Bool) (E : Environment) (t : Tree) (k : Kind) → Kinded E → (reals || integer_only t) ≡ true → Accepts (code_of t) k
      → exec_in reals E (code_of t) 0 [] ≡ exec E (code_of t) 0 []
