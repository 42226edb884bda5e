-- `run_in` meets its contract: at each turn what is left to run, from the values held, gives what the whole run gives.
use mathlib.Core.Path.{◌≡◌, refl, ◌∙◌}
use Prim.Native.Nat.{◌/◌, ◌≤◌}
use native.Mathlib.Omega.{arith}
use lib.ListN.{length, length-set}
use borrow.Author.Rules.{rules}
use Rattle.memory.specs.Environment.{memory_at}
use Rattle.machine.specs.private.Steps.{minimum}
use Rattle.machine.proofs.Held.{none, held, held-finish}
use Rattle.machine.proofs.Performs.{none_made}
use Rattle.machine.proofs.Rest.{starts, minimum-left, minimum-right, finishes}
use Rattle.machine.proofs.Turn.{Turn, performed, totalled, matched, turn, onward, fails, few, lower}
use Rattle.machine.proofs.run_in.Goals as goal
use Rattle.machine.proofs.run_in.Goals.{Joined-class_of}
use Rattle.machine.proofs.run_in.Goals.{in-PushInt, in-PushReal, in-Jump, in-JumpIfFalse, in-JumpIfTrue, in-Tick, in-Since, in-Load, in-LoadIndexed}
use Rattle.machine.proofs.run_in.Goals.{in-Unary, in-Binary, in-Total, in-Match, in-Unknown}

-- the instruction at the place has been performed, and has made a step of the values held
made : (c : Joined-class_of) →
    let l = c.loop-place in
    let a = c.args in
    let m = c.match-class_of in
    Turn a.reals (memory_at a.tick a.image.now) a.code.now a.n l.place l.h l.stack l.count m.count m.step
made c =
    let l = c.loop-place in
    let a = c.args in
    let b = a.reals in
    let E = memory_at a.tick a.image.now in
    let class = c.class_of.ensures in
    turn l.h l.stack (omega arith) l.invariant.7 c.fetch-w.ensures
    (elim c.match-class_of.branch [
      | in-PushInt w ↦
          performed b E l.h l.stack _ class w.in-PushInt.is tt (λ p. refl) (λ p. refl) (w.step-is ∙ w.push_int-step.ensures b E none none) w.count-is
      | in-PushReal w ↦ performed b E l.h l.stack _ class w.in-PushReal.is tt (λ p. refl) (λ p. refl) (w.step-is ∙ w.push_real-step.ensures E _ _) w.count-is
      | in-Jump w ↦ performed b E l.h l.stack _ class w.in-Jump.is tt (λ p. refl) (λ p. refl) (w.step-is ∙ w.jump-step.ensures b E none none) w.count-is
      | in-JumpIfFalse w ↦
          performed b E l.h l.stack _ class w.in-JumpIfFalse.is tt (λ p. refl) w.from_top.ensures.0 (w.step-is ∙ w.jump_if-step.ensures E none) w.count-is
      | in-JumpIfTrue w ↦
          performed b E l.h l.stack _ class w.in-JumpIfTrue.is tt (λ p. refl) w.from_top-in-JumpIfTrue.ensures.0
          (w.step-is ∙ w.jump_if-step-in-JumpIfTrue.ensures E none) w.count-is
      | in-Tick w ↦
          performed b E l.h l.stack _ class w.in-Tick.is tt (λ p. refl) (λ p. refl) (w.step-is ∙ w.push_tick-step.ensures b a.image.now _ _) w.count-is
      | in-Since w ↦
          performed b E l.h l.stack _ class w.in-Since.is tt (λ p. refl) w.from_top-in-Since.ensures.0
          (w.step-is ∙ w.since-step.ensures b a.image.now _) w.count-is
      | in-Load w ↦ performed b E l.h l.stack _ class w.in-Load.is tt (λ p. refl) (λ p. refl) (w.step-is ∙ w.load-step.ensures a.tick _ _) w.count-is
      | in-LoadIndexed w ↦
          performed b E l.h l.stack _ class w.in-LoadIndexed.is tt (λ p. refl) w.from_top-in-LoadIndexed.ensures.0
          (w.step-is ∙ w.load_indexed-step.ensures a.tick _) w.count-is
      | in-Unary w ↦
          performed b E l.h l.stack _ class w.in-Unary.is tt (λ p. refl) w.from_top-in-Unary.ensures.0 (w.step-is ∙ w.unary-step.ensures E _) w.count-is
      | in-Binary w ↦
          performed b E l.h l.stack _ class w.in-Binary.is tt w.from_top-in-Binary.ensures.0 w.from_top-in-Binary-2.ensures.0
          (w.step-is ∙ w.binary-step.ensures E) w.count-is
      | in-Total w ↦ totalled b E l.h l.stack _ class w.in-Total.is (w.total-visited.ensures a.tick) (w.step-is ∙ w.outcome_step-step.ensures) w.count-is
      | in-Match w ↦
          matched b E l.h l.stack _ class w.in-Match.is w.from_top-in-Match.ensures.0 (w.matching-visited.ensures a.tick) w.saturating_sub.ensures
          (w.step-is ∙ w.outcome_step-step-in-Match.ensures) w.count-is
      | in-Unknown w ↦
          performed b E l.h l.stack _ class w.in-Unknown.is tt (λ p. refl) (λ p. refl)
          (w.step-is ∙ w.stuck_step-step.ensures ∙ none_made b E l.h none none) w.count-is
    ])

pub overflow_cast-there : goal.overflow_cast-there
overflow_cast-there c =
    let e : c.min-there.result ≡ minimum c.args.n (length c.args.code.now / 8) = search rules in
    let q : c.min-there.result ≤ c.args.n = rw e (minimum-left _ _) in
    omega (arith, q)

pub loop-place-init : goal.loop-place-init
unfolding held
loop-place-init c = let e : c.min-there.result ≡ minimum c.args.n (length c.args.code.now / 8) = search rules in (
  refl,
  omega arith,
  omega arith,
  rw e (minimum-left _ _),
  rw e (minimum-right _ _),
  omega arith,
  omega arith,
  starts _ _ _ _,
)

pub overflow_add-count : goal.overflow_add-count
overflow_add-count c = omega arith

pub from_top-requires : goal.from_top-requires
from_top-requires c = omega arith

pub offset_bounds-stack-from_top : goal.offset_bounds-stack-from_top
offset_bounds-stack-from_top c = omega (arith, c.from_top.ensures.1)

pub bounds-stack-from_top : goal.bounds-stack-from_top
bounds-stack-from_top c = omega (arith, c.from_top.ensures.1)

pub from_top-requires-in-JumpIfTrue : goal.from_top-requires-in-JumpIfTrue
from_top-requires-in-JumpIfTrue c = omega arith

pub offset_bounds-stack-from_top-in-JumpIfTrue : goal.offset_bounds-stack-from_top-in-JumpIfTrue
offset_bounds-stack-from_top-in-JumpIfTrue c = omega (arith, c.from_top-in-JumpIfTrue.ensures.1)

pub bounds-stack-from_top-in-JumpIfTrue : goal.bounds-stack-from_top-in-JumpIfTrue
bounds-stack-from_top-in-JumpIfTrue c = omega (arith, c.from_top-in-JumpIfTrue.ensures.1)

pub from_top-requires-in-Since : goal.from_top-requires-in-Since
from_top-requires-in-Since c = omega arith

pub offset_bounds-stack-from_top-in-Since : goal.offset_bounds-stack-from_top-in-Since
offset_bounds-stack-from_top-in-Since c = omega (arith, c.from_top-in-Since.ensures.1)

pub bounds-stack-from_top-in-Since : goal.bounds-stack-from_top-in-Since
bounds-stack-from_top-in-Since c = omega (arith, c.from_top-in-Since.ensures.1)

pub from_top-requires-in-LoadIndexed : goal.from_top-requires-in-LoadIndexed
from_top-requires-in-LoadIndexed c = omega arith

pub offset_bounds-stack-from_top-in-LoadIndexed : goal.offset_bounds-stack-from_top-in-LoadIndexed
offset_bounds-stack-from_top-in-LoadIndexed c = omega (arith, c.from_top-in-LoadIndexed.ensures.1)

pub bounds-stack-from_top-in-LoadIndexed : goal.bounds-stack-from_top-in-LoadIndexed
bounds-stack-from_top-in-LoadIndexed c = omega (arith, c.from_top-in-LoadIndexed.ensures.1)

pub from_top-requires-in-Unary : goal.from_top-requires-in-Unary
from_top-requires-in-Unary c = omega arith

pub offset_bounds-stack-from_top-in-Unary : goal.offset_bounds-stack-from_top-in-Unary
offset_bounds-stack-from_top-in-Unary c = omega (arith, c.from_top-in-Unary.ensures.1)

pub bounds-stack-from_top-in-Unary : goal.bounds-stack-from_top-in-Unary
bounds-stack-from_top-in-Unary c = omega (arith, c.from_top-in-Unary.ensures.1)

pub from_top-requires-in-Binary : goal.from_top-requires-in-Binary
from_top-requires-in-Binary c = omega arith

pub offset_bounds-stack-from_top-in-Binary : goal.offset_bounds-stack-from_top-in-Binary
offset_bounds-stack-from_top-in-Binary c = omega (arith, c.from_top-in-Binary.ensures.1)

pub bounds-stack-from_top-in-Binary : goal.bounds-stack-from_top-in-Binary
bounds-stack-from_top-in-Binary c = omega (arith, c.from_top-in-Binary.ensures.1)

pub from_top-requires-in-Binary-2 : goal.from_top-requires-in-Binary-2
from_top-requires-in-Binary-2 c = omega arith

pub offset_bounds-stack-from_top-in-Binary-2 : goal.offset_bounds-stack-from_top-in-Binary-2
offset_bounds-stack-from_top-in-Binary-2 c = omega (arith, c.from_top-in-Binary-2.ensures.1)

pub bounds-stack-from_top-in-Binary-2 : goal.bounds-stack-from_top-in-Binary-2
bounds-stack-from_top-in-Binary-2 c = omega (arith, c.from_top-in-Binary-2.ensures.1)

pub overflow_add-count-in-Total : goal.overflow_add-count-in-Total
overflow_add-count-in-Total c =
    let l = c.loop-place in
    let a = c.args in
    let E = memory_at a.tick a.image.now in
    let t = turn l.h l.stack (omega arith) l.invariant.7 c.fetch-w.ensures
    (totalled a.reals E l.h l.stack c.fetch-w.result {k = l.count}
    c.class_of.ensures c.in-Total.is (c.total-visited.ensures a.tick) refl refl) in
    omega (arith, few t)

pub from_top-requires-in-Match : goal.from_top-requires-in-Match
from_top-requires-in-Match c = omega arith

pub offset_bounds-stack-from_top-in-Match : goal.offset_bounds-stack-from_top-in-Match
offset_bounds-stack-from_top-in-Match c = omega (arith, c.from_top-in-Match.ensures.1)

pub bounds-stack-from_top-in-Match : goal.bounds-stack-from_top-in-Match
bounds-stack-from_top-in-Match c = omega (arith, c.from_top-in-Match.ensures.1)

pub overflow_add-count-in-Match : goal.overflow_add-count-in-Match
overflow_add-count-in-Match c =
    let l = c.loop-place in
    let a = c.args in
    let E = memory_at a.tick a.image.now in
    let t = turn l.h l.stack (omega arith) l.invariant.7 c.fetch-w.ensures
    (matched a.reals E l.h l.stack c.fetch-w.result {k = l.count}
    c.class_of.ensures c.in-Match.is
    c.from_top-in-Match.ensures.0 (c.matching-visited.ensures a.tick) refl refl refl) in
    omega (arith, few t)

pub overflow_cast-stack : goal.overflow_cast-stack
overflow_cast-stack c = let q = (onward (made (goal.at.overflow_cast-stack c).Joined-class_of) c.in-Push.is).0 in omega arith

pub offset_bounds-stack-h : goal.offset_bounds-stack-h
offset_bounds-stack-h c = let q = (onward (made (goal.at.offset_bounds-stack-h c).Joined-class_of) c.in-Push.is).0 in omega arith

pub bounds-stack-h : goal.bounds-stack-h
bounds-stack-h c = let q = (onward (made (goal.at.bounds-stack-h c).Joined-class_of) c.in-Push.is).0 in omega arith

pub overflow_add-h : goal.overflow_add-h
overflow_add-h c = let q = (onward (made (goal.at.overflow_add-h c).Joined-class_of) c.in-Push.is).0 in omega arith

pub overflow_add-place : goal.overflow_add-place
overflow_add-place c = omega arith

pub loop-place-smaller-in-Push : goal.loop-place-smaller-in-Push
loop-place-smaller-in-Push c = omega arith

pub loop-place-preserved-in-Push : goal.loop-place-preserved-in-Push
loop-place-preserved-in-Push c =
    let l = c.loop-place in
    let t = made (goal.at.loop-place-preserved-in-Push c).Joined-class_of in
    let on = onward t c.in-Push.is in
    (simp length-set l.invariant.0, omega (arith, on.0), omega (arith, few t), l.invariant.3, l.invariant.4, l.invariant.5, omega arith, on.1 l.invariant.0)

pub returns-then-skip-ge2048 : goal.returns-then-skip-ge2048
returns-then-skip-ge2048 c =
    let t = made (goal.at.returns-then-skip-ge2048 c).Joined-class_of in
    c.stuck.ensures ∙ (onward t c.in-Skip.is).beyond (omega arith)

pub overflow_add-place-in-Skip : goal.overflow_add-place-in-Skip
overflow_add-place-in-Skip c = omega arith

pub overflow_add-place-in-Skip-2 : goal.overflow_add-place-in-Skip-2
overflow_add-place-in-Skip-2 c = omega arith

pub loop-place-smaller : goal.loop-place-smaller
loop-place-smaller c = omega arith

pub loop-place-preserved : goal.loop-place-preserved
loop-place-preserved c =
    let l = c.loop-place in
    let t = made (goal.at.loop-place-preserved c).Joined-class_of in
    (l.invariant.0, omega (arith, lower t), omega (arith, few t), l.invariant.3, l.invariant.4, l.invariant.5, omega arith, onward t c.in-Skip.is)

pub returns-in-Stop : goal.returns-in-Stop
returns-in-Stop c = c.failed.ensures ∙ fails (made (goal.at.returns-in-Stop c).Joined-class_of) c.in-Stop.is

pub bounds-stack-0 : goal.bounds-stack-0
bounds-stack-0 c = omega arith

pub finished-requires : goal.finished-requires
finished-requires c = omega arith

pub returns : goal.returns
returns c =
    let l = c.loop-place in
    let e : c.min-there.result ≡ minimum c.args.n (length c.args.code.now / 8) = search rules in
    c.finished.ensures ∙ finishes l.h _ l.invariant.7 (rw e at c.loop-place-test.false)
    (held-finish l.h l.stack)
