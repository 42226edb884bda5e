-- `verifier::fork` meets its contract: there is no value, it strays, or its target takes what it brings, or not.
use mathlib.Core.Path.{refl, sym, ◌∙◌}
use native.Mathlib.Omega.{arith}
use Rattle.verifier.proofs.Stepping.{fork-short, fork-strays, fork-lands, fork-fails}
use Rattle.verifier.proofs.fork.Goals as goal

pub returns-then-held-lt1 : goal.returns-then-held-lt1
returns-then-held-lt1 c = record { array = c.requires.array.whole; same_end = refl; steps = λ t. fork-short _ _ t c.args.held c.if-held-lt1.true }

pub returns-then-not-stays : goal.returns-then-not-stays
returns-then-not-stays c =
    record { array = c.requires.array.whole; same_end = refl; steps = λ t. fork-strays _ _ t c.args.held (sym c.stays.ensures ∙ c.if-not-stays.true) }

pub returns-then-merge : goal.returns-then-merge
returns-then-merge c = record {
  array = c.note.ensures;
  same_end = c.merge.ensures.same_end;
  steps = λ t. fork-lands _ _ t c.args.held (omega (arith, c.if-held-lt1.false)) c.popped-rest.ensures.rest
      (sym c.stays.ensures ∙ c.if-not-stays.false) c.if-merge.true (rw c.word_of.ensures at c.merge.ensures.merges);
}

pub returns-else-merge : goal.returns-else-merge
returns-else-merge c = record {
  array = c.note.ensures.whole;
  same_end = c.merge.ensures.same_end;
  steps = λ t. fork-fails _ _ t c.args.held (omega (arith, c.if-held-lt1.false)) c.popped-rest.ensures.rest c.if-merge.false
      (rw c.word_of.ensures at c.merge.ensures.merges);
}
