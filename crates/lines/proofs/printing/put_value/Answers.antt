-- `printing::put_value` meets its contract, bank by bank.
use Prim.Native.Nat.{◌<◌}
use native.Mathlib.Omega.{arith}
use Rattle.lines.proofs.printing.Widths.{at_most}
use Rattle.lines.proofs.printing.put_value.Goals as goal

pub put_decimal-requires : goal.put_decimal-requires
put_decimal-requires c =
    let h : c.args.n < 65536 = rw c.in-V.is at c.requires.n_bound in
    omega (arith, at_most 4 c.args.n (omega arith))

pub returns-in-V-clause-upper_bound : goal.returns-in-V-clause-upper_bound
returns-in-V-clause-upper_bound c =
    let h : c.args.n < 65536 = rw c.in-V.is at c.requires.n_bound in
    omega (arith, at_most 4 c.args.n (omega arith))
