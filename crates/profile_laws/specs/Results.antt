-- What an operation of the profile leaves, in the words of the promises: the full box's result, or a refusal that writes nothing.
use Rattle.std.specs.Prelude.{◌≡◌, ◌⊎◌, Bool, List, ℕ, ◌≤◌, length, set}
use Rattle.values.specs.declared.Fault.{Fault}
use Rattle.values.specs.Values.{fault_number}
use Rattle.memory.specs.Layout.{flag_at}
use Rattle.delivery.specs.declared.Answer.TheVariants.{Refused}
use Rattle.operations.specs.Operations.{report_of, given_value, request_answer, request_memory, request_code, request_index}
use Rattle.promises.specs.Terms.{answer_number, Refusal, SameBut}
use Rattle.promises.specs.Promises.{Operation, compile, compile-target, check, run, compile-and-run, store, OperationResult}
use Rattle.operations.specs.Profile.{compile_answer_for, compiled_code_for, compile_target_answer_for, compile_target_code_for, check_answer_for}
use Rattle.operations.specs.Profile.{run_answer_for, run_memory_for, given_answer_for, given_memory_for, request_for}

-- the promises' `result_of`, for either
abbrev pub result_for : Bool → Operation → List ℕ → List ℕ → List ℕ → List ℕ → OperationResult
result_for reals (compile text) target m code index =
    record { answer = compile_answer_for reals text code; memory = m; code = compiled_code_for reals text code; index = index }
result_for reals compile-target target m code index =
    record { answer = compile_target_answer_for reals index target; memory = m; code = code; index = compile_target_code_for reals index target }
result_for reals (check n) target m code index = record { answer = check_answer_for reals code n; memory = m; code = code; index = index }
result_for reals (run n k tick) target m code index =
    record { answer = run_answer_for reals tick code n target index k m; memory = run_memory_for reals tick code n target index k m; code = code; index = index }
result_for reals (compile-and-run text tick) target m code index =
    let q = request_for reals target text m code index in
    record { answer = request_answer tick m q; memory = request_memory tick m q; code = request_code code q; index = request_index index q }
result_for reals (store kind bits k tick) target m code index =
    let v = given_value kind bits in
    record { answer = given_answer_for reals tick v target index k m; memory = given_memory_for reals tick v target index k m; code = code; index = index }

-- the refusals that the profile has where the full box has none
abbrev pub OfProfile : ℕ → Type 0
OfProfile a = (a ≡ 2) ⊎ ((a ≡ 15) ⊎ (a ≡ 19))

-- of a result x of the profile, where y is the full box's
pub data Profiled (m code index : List ℕ) (x y : OperationResult) : Type 0 where
  as_full : x ≡ y → Profiled m code index x y
  refuses : (a p : ℕ) → OfProfile a → x ≡ record { answer = Refused a p; memory = m; code = code; index = index } → Profiled m code index x y

-- demand 1, of a result of the profile: the numbered list has 19 as well
pub record ProfileFrame (m code index : List ℕ) (x : OperationResult) : Type 0 where
  pub listed : (answer_number x.answer ≤ 15) ⊎ (answer_number x.answer ≡ 19)
  pub refused : Refusal (answer_number x.answer) ⊎ (answer_number x.answer ≡ 19) → (x.memory ≡ m) × ((x.code ≡ code) × (x.index ≡ index))
  pub fault : (f : Fault) → answer_number x.answer ≡ fault_number f → x.memory ≡ set m (flag_at f) 1
  pub done : answer_number x.answer ≡ 0 → SameBut (report_of x.answer).bank (report_of x.answer).element m x.memory
  pub sizes : (length x.memory ≡ length m) × ((length x.code ≡ length code) × (length x.index ≡ length index))
