-- `evaluate_in` meets its contract: the memory, the verdict, then the end of the run.
use mathlib.Core.Path.{refl, sym, ◌∙◌}
use native.Mathlib.Omega.{arith}
use Rattle.operations.proofs.Runs.{few-accepted}
use Rattle.operations.proofs.Halves.{no-memory, evaluates, evaluates-to}
use Rattle.operations.proofs.evaluate_in.Goals as goal

pub returns-then-memory-ne-IMAGE_SIZE : goal.returns-then-memory-ne-IMAGE_SIZE
returns-then-memory-ne-IMAGE_SIZE c =
    let s = c in
    no-memory s.args.reals s.args.tick s.args.code.now s.args.n s.args.memory.now (λ e. omega arith)

pub returns-in_default : goal.returns-in_default
returns-in_default c =
    let s = c in
    evaluates s.args.reals s.args.tick s.args.code.now s.args.n s.args.memory.now (omega arith)
    (sym c.check_in.ensures ∙ c.in_default.is) refl refl

pub run_in-ran-requires : goal.run_in-ran-requires
run_in-ran-requires c =
    let s = c in
    few-accepted s.args.reals s.args.code.now s.args.n (sym c.check_in.ensures ∙ c.in-Some.is)

pub returns-in-Done : goal.returns-in-Done
returns-in-Done c =
    let s = c in
    evaluates-to s.args.reals s.args.tick s.args.code.now s.args.n s.args.memory.now (omega arith)
    (sym c.check_in.ensures ∙ c.in-Some.is)
    c.run_in-ran.ensures c.in-Done.is refl

pub returns-in-Stopped : goal.returns-in-Stopped
returns-in-Stopped c =
    let s = c in
    evaluates-to s.args.reals s.args.tick s.args.code.now s.args.n s.args.memory.now (omega arith)
    (sym c.check_in.ensures ∙ c.in-Some.is)
    c.run_in-ran.ensures c.in-Stopped.is refl

pub returns-in-Stuck : goal.returns-in-Stuck
returns-in-Stuck c =
    let s = c in
    evaluates-to s.args.reals s.args.tick s.args.code.now s.args.n s.args.memory.now (omega arith)
    (sym c.check_in.ensures ∙ c.in-Some.is)
    c.run_in-ran.ensures c.in-Stuck.is refl
