-- `verifier::step` meets its contract: an arm for each class.
use mathlib.Core.Path.{refl}
use mathlib.Core.Logic.{inl, inr}
use mathlib.Core.Bool.{true, false}
use Rattle.code.specs.Instructions.{word_of}
use Rattle.verifier.proofs.Stepping.{carried, typed-steps, pushed-steps, replaced-steps, replaced-two-steps, one-short, two-short, int-leaves, none-steps}
use Rattle.verifier.proofs.Stepping.{jump-steps, fork-steps, steps-by}
use Rattle.verifier.proofs.Held.{indexed-short, unary-short, since-short, binary-short, binary-few}
use Rattle.verifier.proofs.Reading.{int-silent, real-silent, tick-silent, load-silent, total-silent, since-silent, indexed-silent, unary-silent, binary-silent}
use Rattle.verifier.proofs.step.Goals as goal

pub returns-in-PushInt : goal.returns-in-PushInt
returns-in-PushInt c = record {
  array = carried c.requires.array.whole c.push.ensures;
  same_end = refl;
  steps = steps-by _ _ c.class_of.ensures c.in-PushInt.is
      (pushed-steps c.args.reals c.args.held c.requires.admitted (int-silent c.args.w) (int-leaves (word_of c.args.w)) c.push.ensures);
}

pub returns-in-PushReal : goal.returns-in-PushReal
returns-in-PushReal c = record {
  array = carried c.requires.array.whole c.push-in-PushReal.ensures;
  same_end = refl;
  steps = steps-by _ _ c.class_of.ensures c.in-PushReal.is
      (pushed-steps c.args.reals c.args.held c.requires.admitted (real-silent c.args.w) c.real_kind.ensures c.push-in-PushReal.ensures);
}

pub returns-in-Jump : goal.returns-in-Jump
returns-in-Jump c = record {
  array = c.jump.ensures.array _ c.requires.array.whole;
  same_end = c.jump.ensures.same_end;
  steps = steps-by _ _ c.class_of.ensures c.in-Jump.is
      (jump-steps c.args.reals c.requires.admitted c.jump.ensures.steps);
}

pub returns-in-JumpIfFalse : goal.returns-in-JumpIfFalse
returns-in-JumpIfFalse c = record {
  array = c.fork.ensures.array;
  same_end = c.fork.ensures.same_end;
  steps = elim c.in-JumpIfFalse.is [
    | inl e ↦ steps-by _ _ c.class_of.ensures e (fork-steps c.args.reals c.requires.admitted (c.fork.ensures.steps false))
    | inr e ↦ steps-by _ _ c.class_of.ensures e (fork-steps c.args.reals c.requires.admitted (c.fork.ensures.steps true))
  ];
}

pub returns-in-Tick : goal.returns-in-Tick
returns-in-Tick c = record {
  array = carried c.requires.array.whole c.push-in-Tick.ensures;
  same_end = refl;
  steps = steps-by _ _ c.class_of.ensures c.in-Tick.is
      (pushed-steps c.args.reals c.args.held c.requires.admitted (tick-silent c.args.w) c.tick_kind.ensures c.push-in-Tick.ensures);
}

pub returns-then-held-lt1 : goal.returns-then-held-lt1
returns-then-held-lt1 c = record {
  array = c.requires.array.whole;
  same_end = refl;
  steps = steps-by _ _ c.class_of.ensures c.in-Since.is (one-short c.args.reals _ c.args.held c.if-held-lt1.true (since-short c.args.w));
}

pub returns-else-held-lt1 : goal.returns-else-held-lt1
returns-else-held-lt1 c = record {
  array = carried c.requires.array.whole c.replace.ensures;
  same_end = refl;
  steps = steps-by _ _ c.class_of.ensures c.in-Since.is
      (replaced-steps c.args.reals c.args.held c.requires.admitted (since-silent c.args.w) (since-short c.args.w)
      (rw c.last.ensures at c.since_kind-k.ensures) c.replace.ensures);
}

pub returns-in-Load : goal.returns-in-Load
returns-in-Load c = record {
  array = carried c.requires.array.whole c.push-in-Load.ensures;
  same_end = refl;
  steps = steps-by _ _ c.class_of.ensures c.in-Load.is
      (pushed-steps c.args.reals c.args.held c.requires.admitted (load-silent c.args.w c.load_kind.ensures) c.load_kind.ensures c.push-in-Load.ensures);
}

pub returns-in-LoadIndexed : goal.returns-in-LoadIndexed
returns-in-LoadIndexed c = record {
  array = carried c.requires.array.whole c.replace-in-LoadIndexed.ensures;
  same_end = refl;
  steps = steps-by _ _ c.class_of.ensures c.in-LoadIndexed.is
      (replaced-steps c.args.reals c.args.held c.requires.admitted (indexed-silent c.args.w (c.indexed_kind.ensures 0)) (indexed-short c.args.w)
      (c.indexed_kind.ensures _) c.replace-in-LoadIndexed.ensures);
}

pub returns-then-held-lt1-2 : goal.returns-then-held-lt1-2
returns-then-held-lt1-2 c = record {
  array = c.requires.array.whole;
  same_end = refl;
  steps = steps-by _ _ c.class_of.ensures c.in-Unary.is (one-short c.args.reals _ c.args.held c.if-held-lt1-2.true (unary-short c.args.w));
}

pub returns-else-held-lt1-2 : goal.returns-else-held-lt1-2
returns-else-held-lt1-2 c = record {
  array = carried c.requires.array.whole c.replace-in-Unary.ensures;
  same_end = refl;
  steps = steps-by _ _ c.class_of.ensures c.in-Unary.is
      (replaced-steps c.args.reals c.args.held c.requires.admitted (unary-silent c.args.w) (unary-short c.args.w)
      (rw c.last-in-Unary.ensures at c.unary_kind-k.ensures) c.replace-in-Unary.ensures);
}

pub returns-then-held-lt2 : goal.returns-then-held-lt2
returns-then-held-lt2 c = record {
  array = c.requires.array.whole;
  same_end = refl;
  steps = steps-by _ _ c.class_of.ensures c.in-Binary.is
      (two-short c.args.reals _ c.args.held c.if-held-lt2.true (binary-short c.args.w) (binary-few c.args.w));
}

pub returns-else-held-lt2 : goal.returns-else-held-lt2
returns-else-held-lt2 c = record {
  array = carried c.requires.array.whole c.replace_two.ensures;
  same_end = refl;
  steps = steps-by _ _ c.class_of.ensures c.in-Binary.is
      (replaced-two-steps c.args.reals c.args.held c.requires.admitted (binary-silent c.args.w) (binary-short c.args.w) (binary-few c.args.w)
      (rw (c.second.ensures, c.last-in-Binary.ensures) at c.binary_kind-k.ensures) c.replace_two.ensures);
}

pub returns-in-Total : goal.returns-in-Total
returns-in-Total c = record {
  array = carried c.requires.array.whole c.push-in-Total.ensures;
  same_end = refl;
  steps = steps-by _ _ c.class_of.ensures c.in-Total.is
      (pushed-steps c.args.reals c.args.held c.requires.admitted (total-silent c.args.w c.total_kind.ensures) c.total_kind.ensures c.push-in-Total.ensures);
}

pub returns-in-Match : goal.returns-in-Match
returns-in-Match c = record {
  array = carried c.requires.array.whole c.matching.ensures;
  same_end = refl;
  steps = steps-by _ _ c.class_of.ensures c.in-Match.is (typed-steps c.args.reals refl c.matching.ensures);
}

pub returns-in-Unknown : goal.returns-in-Unknown
returns-in-Unknown c = record {
  array = c.requires.array.whole;
  same_end = refl;
  steps = steps-by _ _ c.class_of.ensures c.in-Unknown.is (none-steps c.args.reals _);
}
