-- `compiler::compile_with` meets its contract: for an accepted text the code of its tree is written where it fits, and nothing for any other.
use Rattle.std.specs.Prelude.{Err}
use mathlib.Core.Path.{◌≡◌}
use native.Mathlib.Omega.{arith}
use borrow.Author.Rules.{rules}
use Rattle.compiler.proofs.Answers.{copied, passed_over, not_written}
use Rattle.compiler.proofs.compile_with.Goals as goal

pub copy-requires : goal.copy-requires
copy-requires c =
    let m = c.requires.most_in_bounds in
    (omega (arith, c.if-n-most.true, m.0), omega (arith, c.if-n-most.true, m.1, m.2))

pub returns-then-n-most : goal.returns-then-n-most
returns-then-n-most c =
    let h = copied c.in_ok-n.ensures (omega (arith, c.if-n-most.true)) c.requires.most_in_bounds.0 c.args.code.now c.copy.ensures in
    record { value = h.0; code_after = h.1 }

pub returns-else-n-most : goal.returns-else-n-most
returns-else-n-most c =
    let h = passed_over c.in_ok-n.ensures (omega (arith, c.if-n-most.false)) c.args.code.now in
    record { value = h.0; code_after = h.1 }

pub returns-in_err-n : goal.returns-in_err-n
returns-in_err-n c =
    let e : c.from_residual.result ≡ Err c.in_err-n.field-0.0 = search rules in
    let h = not_written c.args.most c.args.code.now c.in_err-n.ensures in
    rw e (record { value = h.0; code_after = h.1 })
