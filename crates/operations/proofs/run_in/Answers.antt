-- `run_in` meets its contract: the memory, the target and the verdicts in turn.
use mathlib.Core.Path.{refl, sym, ◌∙◌}
use native.Mathlib.Omega.{arith}
use Rattle.targets.specs.Found.{found_to_run}
use Rattle.delivery.proofs.Runs.{few-counted, runs-finite, storable-end}
use Rattle.operations.proofs.Runs.{few-accepted, few-checked, found-bank, no-memory, named, refuses}
use Rattle.operations.proofs.run_in.Goals as goal

pub returns-then-memory-ne-IMAGE_SIZE : goal.returns-then-memory-ne-IMAGE_SIZE
returns-then-memory-ne-IMAGE_SIZE c =
    let pair = let s = c in
    refuses s.args.reals s.args.code.now s.args.n s.args.target.now s.args.index.now s.args.k
    s.args.memory.now s.args.tick
    (no-memory s.args.reals s.args.code.now s.args.n s.args.target.now s.args.index.now s.args.k
    s.args.memory.now (λ e. omega arith)) in
    record { value = pair.0; memory_after = pair.1 }

pub returns-in_default : goal.returns-in_default
returns-in_default c =
    let pair = let s = c in
    refuses s.args.reals s.args.code.now s.args.n s.args.target.now s.args.index.now s.args.k
    s.args.memory.now s.args.tick
    (named s.args.reals s.args.code.now s.args.n s.args.target.now s.args.index.now s.args.k
    s.args.memory.now (omega arith) (sym c.to_run_in.ensures ∙ c.in_default.is) refl) in
    record { value = pair.0; memory_after = pair.1 }

pub returns-in_default-check_in : goal.returns-in_default-check_in
returns-in_default-check_in c =
    let pair = let s = c in
    refuses s.args.reals s.args.code.now s.args.n s.args.target.now s.args.index.now s.args.k
    s.args.memory.now s.args.tick
    (named s.args.reals s.args.code.now s.args.n s.args.target.now s.args.index.now s.args.k
    s.args.memory.now (omega arith) (sym c.to_run_in.ensures
    ∙ c.in-Some.is) (sym c.check_in.ensures ∙ c.in_default-check_in.is)) in
    record { value = pair.0; memory_after = pair.1 }

pub run_in-ran-requires : goal.run_in-ran-requires
run_in-ran-requires c =
    let s = c in
    few-accepted s.args.reals s.args.code.now s.args.n (sym c.check_in.ensures
    ∙ c.in-Some-check_in.is)

pub finish-requires : goal.finish-requires
finish-requires c =
    let s = c.args in
    let found = sym c.to_run_in.ensures ∙ c.in-Some.is in
    let few = few-accepted s.reals s.code.now s.n (sym c.check_in.ensures ∙ c.in-Some-check_in.is) in (
      few-checked s.reals s.index.now _ (sym c.index_passes.ensures ∙ c.if-not-index_passes.false),
      few-counted s.reals s.code.now s.n s.tick s.memory.now c.run_in-ran.ensures few,
      runs-finite s.reals s.code.now s.n s.tick s.memory.now c.run_in-ran.ensures
          (λ j. omega (arith, c.type_inv.code j)) (λ j. omega (arith, c.slice_known-1.given j)),
      storable-end s.reals c.in-Some.bank s.code.now s.n s.tick s.memory.now c.run_in-ran.ensures
          (found-bank s.reals (found_to_run s.k s.target.now) found),
    )
