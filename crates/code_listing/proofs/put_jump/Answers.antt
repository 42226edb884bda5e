-- `put_jump` meets its contract.
use Rattle.lines.specs.Printing.{decimal_text}
use Rattle.lines.proofs.printing.Widths.{at_most}
use Rattle.lines.proofs.Stores.{then, as-text}
use mathlib.Core.Path.{ap, ◌∙◌}
use mathlib.Core.List.{◌++◌}
use Prim.Native.Nat.{ℕ, ◌+◌}
use native.Mathlib.Nat.{add_comm}
use native.Mathlib.Numerals.{add-one}
use native.Mathlib.Omega.{arith}
use Rattle.code_listing.proofs.put_jump.Goals as goal

pub put_decimal-requires : goal.put_decimal-requires
put_decimal-requires c = omega (arith, at_most 9 (1 + c.args.place + c.args.word) (omega (arith, c.requires.name_len_bound.1)))

pub returns-clause-puts : goal.returns-clause-puts
returns-clause-puts c =
    as-text (ap (λ (k : ℕ). c.args.name.now ++ decimal_text (k + c.args.word)) (add_comm 1 c.args.place ∙ add-one c.args.place))
    (then c.put_all-next.ensures c.put_decimal.ensures.puts)

pub returns-clause-upper_bound : goal.returns-clause-upper_bound
returns-clause-upper_bound c = omega (arith, at_most 9 (1 + c.args.place + c.args.word) (omega (arith, c.requires.name_len_bound.1)))
