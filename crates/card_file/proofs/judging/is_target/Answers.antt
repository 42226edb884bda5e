-- `judging::is_target` meets its contract.
use Rattle.std.specs.Prelude.{is_some}
use mathlib.Core.Path.{ap, ◌∙◌}
use Rattle.text.specs.Targets.{target_of}
use Rattle.card_file.proofs.judging.Parts.{found-some}
use Rattle.card_file.proofs.judging.is_target.Goals as goal

pub returns : goal.returns
returns c = c.is_some.ensures ∙ (ap is_some c.judge.ensures ∙ found-some (target_of c.args.text.now))
