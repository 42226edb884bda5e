-- `compile` meets its contract: with reals it is the full box's.
use mathlib.Core.Path.{ap, ◌∙◌}
use lib.ListN.{length}
use Rattle.compiler.specs.Compile.{coded_bytes}
use Rattle.operations.specs.Operations.{compile_answer}
use Rattle.operations.proofs.Full.{full-compiling}
use Rattle.operations.proofs.compile.Goals as goal

pub returns-clause-value : goal.returns-clause-value
returns-clause-value c = c.compile_in.ensures.value ∙ ap compile_answer (full-compiling (length c.args.code.now) c.args.text.now)

pub returns-clause-code_after : goal.returns-clause-code_after
returns-clause-code_after c =
    c.compile_in.ensures.code_after ∙ ap (coded_bytes c.args.code.now) (full-compiling (length c.args.code.now) c.args.text.now)
