-- What compiling a target and an expression into blank buffers leaves: what compile-and-run is asked for.
use Rattle.std.specs.Prelude.{◌≡◌, List, ℕ, pos, length}
use Rattle.values.specs.declared.Value.TheVariants.{Int}
use Rattle.memory.specs.Layout.{image_size}
use Rattle.grammar.specs.Tree.{Tree}
use Rattle.text.specs.Judge.{accepted, judge}
use Rattle.text.specs.Targets.{target_of}
use Rattle.tree_code.specs.Code.{code_of}
use Rattle.compiler.specs.Compile.{coded_bytes}
use Rattle.targets.specs.Found.{index_bytes}
use Rattle.delivery.specs.declared.Answer.{Answer}
use Rattle.delivery.specs.declared.Answer.TheVariants.{Done, Refused}
use Rattle.operations.specs.Operations.{Request, stores, stops, request, target_answer}
use Rattle.program.specs.declared.codes.Counts.{Counts}
use Rattle.program.specs.Cases.{zeros}

-- what a memory of the right size holds does not matter (`asked` of read_answers)
abbrev pub blank_request : List ℕ → List ℕ → Request
blank_request target text = request target text (zeros image_size) (zeros 16384) (zeros 16384)

-- both are good: the buffers hold the code of the expression's tree and of the target's index
pub record BothCompiled (target text code index : List ℕ) (n : Counts) : Type 0 where
  pub tree : Tree
  pub asked : blank_request target text ≡ stores (target_of target) tree code index
  pub judged : judge text ≡ accepted tree
  pub code_is : code ≡ coded_bytes (zeros 16384) (accepted tree)
  pub count : n.code ≡ length (code_of tree)
  pub index_is : index ≡ index_bytes (zeros 16384) (target_of target)
  pub element : ℕ
  pub told : target_answer (target_of target) ≡ Done (Int (pos 0)) n.index n.bank element

-- one is refused, by the answer of compile-and-run
pub record Stops (target text : List ℕ) (a : Answer) : Type 0 where
  pub answer : ℕ
  pub place : ℕ
  pub is : a ≡ Refused answer place
  pub asked : blank_request target text ≡ stops answer place
