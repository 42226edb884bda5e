-- `spelling::tail_end` meets its contract.
use mathlib.Core.Path.{sym, ◌∙◌}
use native.Mathlib.Omega.{arith}
use Rattle.format_writer.proofs.spelling.Ends.{open-inside, tail-signed, tail-plain}
use Rattle.format_writer.proofs.spelling.tail_end.Goals as goal

pub run_end-requires : goal.run_end-requires
run_end-requires c = omega
    (arith, open-inside c.args.text.now c.args.at (sym c.opens_exponent.ensures ∙ c.if-opens_exponent.true))

pub returns-then-opens_exponent : goal.returns-then-opens_exponent
returns-then-opens_exponent c =
    let r = c.run_end.ensures in
    (tail-signed c.args.text.now c.args.at (sym c.opens_exponent.ensures ∙ c.if-opens_exponent.true) r.0, r.1)

pub returns : goal.returns
returns c =
    let r = c.run_end-2.ensures in
    (tail-plain c.args.text.now c.args.at (sym c.opens_exponent.ensures ∙ c.if-opens_exponent.false) r.0, r.1)
