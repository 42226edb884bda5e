-- `walk::left_end` meets its contract.
use mathlib.Core.Path.{sym, ap}
use mathlib.Core.Bool.{Bool}
use mathlib.Core.List.{◌++◌}
use Rattle.format_laws.specs.Formatted.{parenthesized}
use Rattle.formatter.proofs.Pieces.{held-as, same-group}
use Rattle.formatter.proofs.walk.left_end.Goals as goal

pub returns-then-top-g : goal.returns-then-top-g
returns-then-top-g c = record {
  counted = c.requires;
  by_index = λ o x b h. held-as (ap (λ (i : Bool). o ++ parenthesized i x) (sym (same-group c.if-top-g.true))) h;
}
