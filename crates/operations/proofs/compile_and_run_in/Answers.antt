-- `compile_and_run_in` meets its contract: the tests in their order, then the code of the formula's tree is run.
use mathlib.Core.Path.{refl, sym, ◌∙◌}
use native.Mathlib.Omega.{arith}
use Rattle.profile_text.specs.Judge.{judge_in}
use Rattle.profile_text.specs.Targets.{target_in}
use Rattle.operations.specs.Profile.{of_target_for}
use Rattle.delivery.proofs.Runs.{few-counted, runs-finite, storable-end}
use Rattle.operations.proofs.Requests.{right-sizes}
use Rattle.operations.proofs.Performing.{good-target, target-bank, few-compiled, few-coded, coded-as, written_as}
use Rattle.operations.proofs.Performing.{arrives_in, with-room, performs}
use Rattle.operations.proofs.compile_and_run_in.Goals as goal

pub run_in-ran-requires : goal.run_in-ran-requires
run_in-ran-requires c =
    let s = c in
    let room = with-room s.args.reals s.args.code.now s.args.text.now (omega (
      arith,
      c.if-code-lt-LEAST_CODE.false,
    )) in
    let done = coded-as room c.in-Ok.is
    c.compile_in.ensures.value in
    few-coded s.args.reals s.args.text.now (judge_in s.args.reals 0 s.args.text.now) refl done

pub finish-requires : goal.finish-requires
finish-requires c =
    let s = c.args in
    let room = with-room s.reals s.code.now s.text.now (omega (arith, c.if-code-lt-LEAST_CODE.false)) in
    let done = coded-as room c.in-Ok.is c.compile_in.ensures.value in
    let found = sym c.judge_in.ensures ∙ c.in-Some.is in (
      few-compiled s.reals s.target.now (target_in s.reals s.target.now) refl found,
      few-counted s.reals _ _ s.tick s.memory.now c.run_in-ran.ensures
          (few-coded s.reals s.text.now (judge_in s.reals 0 s.text.now) refl done),
      runs-finite s.reals _ _ s.tick s.memory.now c.run_in-ran.ensures
          (λ j. omega (arith, c.slice_known-4-1.given j)) (λ j. omega (arith, c.slice_known-1.given j)),
      storable-end s.reals c.in-Some.bank _ _ s.tick s.memory.now c.run_in-ran.ensures
          (target-bank s.target.now s.reals (target_in s.reals s.target.now) refl found),
    )

pub returns-in-Ok : goal.returns-in-Ok
returns-in-Ok c =
    let s = c.args in
    let found = sym c.judge_in.ensures ∙ c.in-Some.is in
    let q = right-sizes s.memory.now s.code.now s.index.now
    (of_target_for s.reals s.text.now s.code.now s.index.now (target_in s.reals s.target.now))
    (omega (arith, c.if-memory-ne-IMAGE_SIZE.false)) (omega (arith, c.if-code-lt-LEAST_CODE.false))
    (omega (arith, c.if-index-lt-LEAST_CODE.false))
    ∙ good-target s.reals s.text.now s.code.now s.index.now (target_in s.reals s.target.now) found in
    let room = with-room s.reals s.code.now s.text.now (omega (arith, c.if-code-lt-LEAST_CODE.false)) in
    let goes = arrives_in s.reals s.target.now s.tick s.memory.now s.index.now (target_in s.reals s.target.now) refl
    (omega (arith, c.if-index-lt-LEAST_CODE.false)) found in
    let e = c.finish.ensures in
    let w = performs s.reals s.tick s.text.now s.code.now s.index.now s.memory.now (target_in s.reals s.target.now) c.in-Some.bank c.in-Some.element
    (judge_in s.reals 0 s.text.now) q refl (omega (arith, c.if-code-lt-LEAST_CODE.false))
    (coded-as room c.in-Ok.is c.compile_in.ensures.value)
    (written_as room s.code.now c.compile_in.ensures.code_after) c.write_index.ensures c.run_in-ran.ensures goes (e.value, e.memory_after) in
    record { value = w.0; memory_after = w.1.0; code_after = w.1.1.0; index_after = w.1.1.1 }
