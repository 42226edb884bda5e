-- `verifier::kinds::real_kind` meets its contract: the pattern is a finite single's, or not.
use Rattle.verifier.proofs.kinds.Classes.{pushed-real, unpushed-real}
use Rattle.verifier.proofs.kinds.real_kind.Goals as goal

pub returns-then-is_finite_single : goal.returns-then-is_finite_single
returns-then-is_finite_single c = pushed-real _ c.word_of.ensures c.is_finite_single.ensures c.if-is_finite_single.true

pub returns-else-is_finite_single : goal.returns-else-is_finite_single
returns-else-is_finite_single c = unpushed-real _ c.word_of.ensures c.is_finite_single.ensures c.if-is_finite_single.false
