-- What compiling into blank buffers answers, for the programs that print something of a case. Assumes nothing.
use mathlib.Core.Path.{◌≡◌, ap, ◌∙◌}
use mathlib.Core.List.{List}
use Prim.Native.Nat.{ℕ, ◌≤◌}
use native.Mathlib.Omega.{arith}
use lib.ListN.{length}
use borrow.Author.Tests.{eq-eqb, le-ltb}
use Rattle.values.specs.declared.Value.{Value}
use Rattle.values.specs.declared.Fault.{Fault as FaultName}
use Rattle.memory.specs.declared.Bank.{Bank}
use Rattle.memory.specs.Layout.{image_size}
use Rattle.text.specs.Judge.{judge}
use Rattle.text.specs.Targets.{target_of}
use Rattle.compiler.specs.Compile.{compiling}
use Rattle.delivery.specs.declared.Answer.{Answer}
use Rattle.delivery.specs.declared.Answer.TheVariants.{Done, Fault, Refused}
use Rattle.operations.specs.Operations.{target_answer, compile_target_answer, of_target, request}
use Rattle.program.specs.Cases.{zeros}
use Rattle.program.proofs.Sizes.{zeros-length}

-- the answer is no 0
abbrev pub NotDone : Answer → Type 0
NotDone a = (v : Value) (n : ℕ) (b : Bank) (i : ℕ) → a ≡ Done v n b i → ⊥

pub fault-not : {a : Answer} {f : FaultName} {n : ℕ} → a ≡ Fault f n → NotDone a
fault-not e v k b i d = let z : ◌≡◌ {A = ℕ} 0 1 = cc in omega arith

pub refused-not : {a : Answer} {x p : ℕ} → a ≡ Refused x p → NotDone a
refused-not e v k b i d = let z : ◌≡◌ {A = ℕ} 0 1 = cc in omega arith

-- no buffer is too short
pub text-judged : (code text : List ℕ) → 16384 ≡ length code → compiling (length code) text ≡ judge text
text-judged code text z = rw (le-ltb (length code) 16384 (omega arith))

pub index-room : {index : List ℕ} → index ≡ zeros 16384 → 16384 ≤ length index
index-room {index} z = let e : length index ≡ 16384 = ap length z ∙ zeros-length 16384 in omega arith

pub target-judged : (target : List ℕ) {index : List ℕ} → index ≡ zeros 16384 → {a : Answer} → a ≡ compile_target_answer index target
    → a ≡ target_answer (target_of target)
target-judged target {index} z q = q ∙ rw (le-ltb (length index) 16384 (index-room z))

pub target_first : (target text : List ℕ) → request target text (zeros image_size) (zeros 16384) (zeros 16384)
    ≡ of_target text (zeros 16384) (zeros 16384) (target_of target)
target_first target text =
    let room : 16384 ≤ length (zeros 16384) = omega (arith, zeros-length 16384) in
    rw (eq-eqb (length (zeros image_size)) image_size (zeros-length image_size), le-ltb (length (zeros 16384)) 16384 room)
