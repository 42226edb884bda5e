-- `enclosed_bank` meets its contract, test by test.
use native.Mathlib.Omega.{arith}
use mathlib.Core.Path.{◌∙◌}
use Rattle.targets.proofs.Enclosing.{too_long, too_short, unopened, unclosed, enclosed}
use borrow.Author.Rules.{rules}
use Rattle.targets.proofs.enclosed_bank.Goals as goal

pub returns-then-n-gt1024 : goal.returns-then-n-gt1024
returns-then-n-gt1024 c = too_long c.args.target.now (omega arith)

pub returns-then-n-lt3 : goal.returns-then-n-lt3
returns-then-n-lt3 c = too_short c.args.target.now (omega arith)

pub returns-then-target-ne91 : goal.returns-then-target-ne91
returns-then-target-ne91 c = unopened c.args.target.now (λ e. omega arith)

pub returns-then-target-n-ne93 : goal.returns-then-target-n-ne93
returns-then-target-n-ne93 c = unclosed c.args.target.now (λ e. omega arith)

pub returns : goal.returns
returns c = c.stored_bank.ensures ∙ enclosed c.args.target.now
    (omega arith) (omega arith) (omega arith)
