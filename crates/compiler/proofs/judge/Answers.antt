-- `compiler::judge` meets its contract: with reals a judgement is what it was.
use mathlib.Core.Path.{ap, ◌∙◌}
use Rattle.profile_text.proofs.Judging.{full}
use Rattle.compiler.specs.Compile.{coded_answer}
use Rattle.compiler.proofs.judge.Goals as goal

pub returns : goal.returns
returns c = c.judge_in.ensures ∙ ap coded_answer (full 0 c.args.text.now)
