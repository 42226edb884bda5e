-- What was put into the buffer is the reply to the case. Assumes nothing.
use mathlib.Core.Path.{◌≡◌, sym, ◌∙◌}
use mathlib.Core.List.{List}
use Prim.Native.Nat.{ℕ, ◌≤◌}
use native.Mathlib.Nat.{zero-add}
use native.Mathlib.Omega.{arith}
use lib.ListN.{length, take}
use Rattle.memory.proofs.Runs.{run-written}
use Rattle.delivery.specs.declared.Answer.{Answer}
use Rattle.operations.specs.Operations.{request, request_answer, request_memory}
use Rattle.operations.proofs.Cells.{done-inside}
use Rattle.program.specs.declared.case.Case.{Case}
use Rattle.program.specs.Cases.{zeros}
use Rattle.lines.specs.private.Steps.{Puts}
use Rattle.program.specs.Reply.{answer_text, CellInside, program_tick, reply_to}

pub text : (s : Case) {code index m : List ℕ} {a : Answer} → code ≡ zeros 16384 → index ≡ zeros 16384
    → a ≡ request_answer program_tick s.memory (request s.target s.text s.memory code index)
    → m ≡ request_memory program_tick s.memory (request s.target s.text s.memory code index) → answer_text m a ≡ reply_to s
text s c i f g = rw (f, g, c, i)

-- the cell of its third line is one of its bank
pub inside : (s : Case) {code index : List ℕ} {a : Answer} → code ≡ zeros 16384 → index ≡ zeros 16384
    → a ≡ request_answer program_tick s.memory (request s.target s.text s.memory code index) → CellInside a
inside s {code} {index} c i f =
    record { inside = λ e. done-inside program_tick s.memory (request s.target s.text s.memory code index) (sym f ∙ e) }

-- a text that was put at the front is what stands there
pub front : {l new : List ℕ} {n : ℕ} {t : List ℕ} → Puts l 0 new n t → n ≤ length l → take n new ≡ t
front {l} {new} {n} {t} q h =
    let k : n ≡ length t = q.end ∙ zero-add (length t) in
    rw (q.bytes, k) (run-written l 0 t (omega arith))
