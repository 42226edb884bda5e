-- `verifier::jump` meets its contract: it strays, or its target takes what it brings, or not.
use mathlib.Core.Path.{refl, sym, ◌∙◌}
use Rattle.verifier.proofs.Stepping.{leap-strays, leap-lands, leap-fails}
use Rattle.verifier.proofs.jump.Goals as goal

pub returns-then-not-stays : goal.returns-then-not-stays
returns-then-not-stays c = record { array = λ a e. e; same_end = refl; steps = leap-strays _ _ (sym c.stays.ensures ∙ c.if-not-stays.true) }

pub returns-then-merge : goal.returns-then-merge
returns-then-merge c = record {
  array = λ a e. e;
  same_end = c.merge.ensures.same_end;
  steps = leap-lands _ _ (sym c.stays.ensures ∙ c.if-not-stays.false) c.if-merge.true (rw c.word_of.ensures at c.merge.ensures.merges);
}

pub returns-else-merge : goal.returns-else-merge
returns-else-merge c = record {
  array = λ a e. e;
  same_end = c.merge.ensures.same_end;
  steps = leap-fails _ _ c.if-merge.false (rw c.word_of.ensures at c.merge.ensures.merges);
}
