-- The refusals that are no text's, in paper 01's order: each is given where none before it holds.
use Rattle.std.specs.Prelude.{Option, Some, None}
use mathlib.Core.Path.{◌≡◌, refl, ap, ◌∙◌}
use mathlib.Core.Bool.{true, false}
use mathlib.Core.List.{List}
use Prim.Native.Nat.{ℕ, ◌≤◌, ◌<◌}
use lib.ListN.{length}
use borrow.Author.Tests.{lt-ltb, le-ltb}
use Rattle.values.specs.declared.Kind.{Kind}
use Rattle.memory.specs.declared.Bank.{Bank}
use Rattle.memory.specs.Layout.{image_size}
use Rattle.text.specs.Targets.{no_target, target_of}
use Rattle.code.specs.Instructions.{instructions}
use Rattle.machine.specs.Machine.{runs_at}
use Rattle.verifier.specs.Accepts.{Accepts}
use Rattle.verifier.specs.Verdicts.{verdict}
use Rattle.verifier.proofs.Verdicts.{verdict-laws}
use Rattle.targets.specs.declared.Element.{Element}
use Rattle.targets.specs.declared.Element.TheVariants.{By}
use Rattle.targets.specs.Found.{found_to_run}
use Rattle.delivery.specs.declared.Answer.TheVariants.{Refused}
use Rattle.operations.specs.Operations.{done_with, verdict_answer, check_answer, target_answer, compile_target_answer, is_accepted, ran_answer, run_answer}
use Rattle.operations.specs.Operations.{request, request_answer}
use Rattle.operations.proofs.Verdicts as run
use Rattle.operations.proofs.Requests as request
use Rattle.promises.specs.Terms.{compile_answer_of, ReadyToRun, Room}

module _ (text code index target m : List ℕ) (n k tick : ℕ) where
  pub wrong_memory : (length m ≡ image_size → ⊥)
      → (run_answer tick code n target index k m ≡ Refused 1 0) × (request_answer tick m (request target text m code index) ≡ Refused 1 0)
  wrong_memory h = (
    ap (ran_answer tick index m (runs_at tick code n m)) (run.no-memory code n target index k m h),
    ap (request_answer tick m) (request.no-memory target text m code index h),
  )

  pub small_buffer : length code < 16384
      → (compile_answer_of text code ≡ Refused 10 0) × (length m ≡ image_size → request_answer tick m (request target text m code index) ≡ Refused 10 0)
  small_buffer l = (rw (lt-ltb (length code) 16384 l), λ h. ap (request_answer tick m) (request.no_room target text m code index h l))

  pub small_index : length index < 16384
      → (compile_target_answer index target ≡ Refused 10 0)
      × (length m ≡ image_size → Room code → request_answer tick m (request target text m code index) ≡ Refused 10 0)
  small_index l = (rw (lt-ltb (length index) 16384 l), λ h room. ap (request_answer tick m) (request.no-index-room target text m code index h room l))

  pub bad_target : Room index → target_of target ≡ no_target
      → (compile_target_answer index target ≡ Refused 2 0)
      × (length m ≡ image_size → Room code → request_answer tick m (request target text m code index) ≡ Refused 2 0)
  bad_target l e = (
    rw (le-ltb (length index) 16384 l, e),
    λ h room. ap (request_answer tick m) (request.named target text m code index h room l e),
  )

  pub bad_run_target : length m ≡ image_size → found_to_run k target ≡ None → run_answer tick code n target index k m ≡ Refused 2 0
  bad_run_target h e = ap (ran_answer tick index m (runs_at tick code n m)) (run.named code n target index k m h e refl)

-- the check's verdict on code that is not accepted
pub refused : (code : List ℕ) (n : ℕ) → ((k : Kind) → Accepts (instructions code n) k → ⊥) → verdict (instructions code n) ≡ None
refused code n h = by (verdict (instructions code n)) refl
  where
    by : (v : Option Kind) → verdict (instructions code n) ≡ v → v ≡ None
    by (Some k) e = absurd (h k ((verdict-laws.exact (instructions code n) k).0 e))
    by None e = refl

module _ (code index : List ℕ) (n k tick : ℕ) {target m : List ℕ} {b : Bank} where
  pub wrong_code : {e : Element} → ReadyToRun k target m b e → ((j : Kind) → Accepts (instructions code n) j → ⊥)
      → (check_answer code n ≡ Refused 15 0) × (run_answer tick code n target index k m ≡ Refused 15 0)
  wrong_code ready h =
      let v = refused code n h in
      (ap verdict_answer v, ap (ran_answer tick index m (runs_at tick code n m)) (run.named code n target index k m ready.memory ready.goal v))

  pub wrong_index : (j : ℕ) → ReadyToRun k target m b (By j) → check_answer code n ≡ done_with 0 → ((i : Kind) → Accepts (instructions index j) i → ⊥)
      → run_answer tick code n target index k m ≡ Refused 15 0
  wrong_index j ready c h =
      let a = run.accepted-by code n c in
      let v = (verdict-laws.exact (instructions code n) a.0).1 a.1 in
      ap (ran_answer tick index m (runs_at tick code n m)) (run.aimed code n target index k m ready.memory
      ready.goal v refl (ap is_accepted (refused index j h)))
