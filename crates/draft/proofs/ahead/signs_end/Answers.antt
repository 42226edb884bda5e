-- `ahead::signs_end` meets its contract. The loop's invariant: unary operators stand from `at` up to i.
use mathlib.Core.Path.{refl}
use native.Mathlib.Omega.{arith}
use borrow.Author.Count.{below_more}
use Rattle.draft.proofs.ahead.Signs.{sign-here, sign-stops, sign-behind}
use Rattle.draft.proofs.ahead.signs_end.Goals as goal

pub loop-i-init : goal.loop-i-init
loop-i-init c = λ i h k. absurd (omega arith)

pub returns-then-sign_of-ge-NO_SIGN : goal.returns-then-sign_of-ge-NO_SIGN
returns-then-sign_of-ge-NO_SIGN c =
    let l = c.loop-i in
    record {
      ahead = l.auto.i;
      within = omega (arith, c.loop-i-test.true);
      each = λ i h k. l.invariant i k h;
      stops = sign-stops c.args.table.now l.i refl c.sign_of.ensures c.if-sign_of-ge-NO_SIGN.true;
    }

pub loop-i-preserved : goal.loop-i-preserved
loop-i-preserved c =
    let h = sign-here c.args.table.now c.loop-i.i refl c.sign_of.ensures c.if-sign_of-ge-NO_SIGN.false in
    below_more _ _ c.loop-i.invariant (λ k. h.1)

pub returns : goal.returns
returns c = record {
  ahead = c.requires;
  within = omega arith;
  each = λ i h k. c.loop-i.invariant i (omega (arith, k, c.loop-i-test.false)) h;
  stops = sign-behind c.args.table.now _ (omega arith);
}
