-- `integers::truth` meets its contract: a comparison with zero.
use mathlib.Core.Path.{ap}
use mathlib.Core.Bool.{not}
use borrow.Author.Rules.{rules}
use native.Mathlib.Omega.{arith}
use lib.IntN.{pos}
use mir.Syntax.{w32}
use mir.Val.{SFits}
use Rattle.values.proofs.integers.Equality.{equal-bits}
use Rattle.operators.proofs.integers.truth.Goals as goal

pub returns : goal.returns
returns c =
    let z = c.args.z in
    let F : SFits w32 z = search rules in
    ap not (equal-bits z (pos 0) F (record { sfits = omega arith }))
