-- `write_index` meets its contract: a plain cell keeps the buffer.
use mathlib.Core.Path.{ap, ◌∙◌}
use Rattle.profile_text.specs.Targets.{target_in}
use Rattle.operations.proofs.Requests.{keeps-index}
use Rattle.operations.proofs.write_index.Goals as goal
use Rattle.std.specs.Prelude.{Some}
use Rattle.targets.specs.declared.Element.{Element}

pub returns-in-Is : goal.returns-in-Is
returns-in-Is c =
    let s = c in
    keeps-index s.args.index.now (target_in s.args.reals s.args.target.now) (s.requires.target_value.1 ∙ ap (λ (x : Element). Some (s.requires.target_value.0, x)) c.in-Is.is)
