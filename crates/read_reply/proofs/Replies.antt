-- What is put is what compile-and-run is asked for.
use mathlib.Core.Path.{◌≡◌, sym, ap, ◌∙◌}
use mathlib.Core.Bool.{Bool, ◌||◌}
use mathlib.Core.List.{List}
use Prim.Native.Nat.{ℕ, ◌≤◌}
use native.Mathlib.Omega.{arith}
use lib.IntN.{pos}
use lib.ListN.{length}
use borrow.Author.Tests.{le-ltb}
use Rattle.values.specs.declared.Value.TheVariants.{Int}
use Rattle.memory.specs.declared.Bank.{Bank}
use Rattle.text.specs.Judge.{accepted}
use Rattle.text.specs.Targets.{target_of}
use Rattle.code.specs.Instructions.{instructions}
use Rattle.compiler.specs.Compile.{coded_bytes}
use Rattle.read_set.specs.Cells.{union, code_cells, read_by}
use Rattle.read_laws.specs.Formulas.{tree_cells, target_cells}
use Rattle.read_laws.proofs.Laws.{read-theorems}
use Rattle.targets.specs.Found.{index_bytes}
use Rattle.delivery.specs.declared.Answer.{Answer}
use Rattle.delivery.specs.declared.Answer.TheVariants.{Done}
use Rattle.operations.specs.Operations.{report_of, compile_target_answer, compile_target_code}
use Rattle.read_answers.proofs.Compiled.{coded-cells, index-cells}
use Rattle.program.specs.declared.codes.Counts.{Counts}
use Rattle.program.specs.Cases.{zeros}
use Rattle.program.specs.Codes.{BothCompiled, Stops}
use Rattle.program.specs.Reply.{report_text}
use Rattle.program.proofs.Sizes.{zeros-length}
use Rattle.read_reply.specs.Listing.{cell_lines, request_lines, listing}

room : 16384 ≤ length (zeros 16384)
room = omega (arith, zeros-length 16384)

module _ {target text code index : List ℕ} {n : Counts} (s : BothCompiled target text code index n) where
  its : (b : Bank) (i : ℕ) → code_cells (instructions code n.code) b i ≡ tree_cells s.tree b i
  its b i =
      ap (λ (c : List ℕ). code_cells (instructions c n.code) b i) s.code_is
      ∙ ap (λ (k : ℕ). code_cells (instructions (coded_bytes (zeros 16384) (accepted s.tree)) k) b i) s.count
      ∙ coded-cells (zeros 16384) text s.tree s.judged room b i

  answered : compile_target_answer (zeros 16384) target ≡ Done (Int (pos 0)) n.index n.bank s.element
  answered = rw (le-ltb (length (zeros 16384)) 16384 room) s.told

  coded : compile_target_code (zeros 16384) target ≡ index_bytes (zeros 16384) (target_of target)
  coded = rw (le-ltb (length (zeros 16384)) 16384 room)

  index_its : (b : Bank) (i : ℕ) → code_cells (instructions index n.index) b i ≡ target_cells (target_of target) b i
  index_its b i =
      ap (λ (c : List ℕ). code_cells (instructions c n.index) b i) (s.index_is ∙ sym coded)
      ∙ index-cells (zeros 16384) target n.index n.bank s.element answered b i

  pub cells : cell_lines (read_by code n.code index n.index) ≡ listing target text
  unfolding listing request_lines
  cells =
      ap cell_lines
      (read-theorems.same_list (union (code_cells (instructions code n.code)) (code_cells (instructions index n.index)))
      (union (tree_cells s.tree) (target_cells (target_of target)))
      (λ b i. ap (λ (x : Bool). x || code_cells (instructions index n.index) b i) (its b i) ∙ ap (λ (x : Bool). tree_cells s.tree b i || x) (index_its b i)))
      ∙ sym (ap request_lines s.asked)

pub refusal : {target text : List ℕ} {a : Answer} → Stops target text a → report_text (report_of a) ≡ listing target text
unfolding listing request_lines
refusal s = ap (λ (x : Answer). report_text (report_of x)) s.is ∙ sym (ap request_lines s.asked)
