-- `compiler::reader::signed` meets its contract. The invariant: the operators from i on are behind the operand.
use mathlib.Core.Path.{◌≡◌}
use Prim.Native.Nat.{◌-◌}
use native.Mathlib.Omega.{arith}
use borrow.Author.Rules.{rules}
use Rattle.draft.proofs.Signing.{signed-none, signed-more}
use Rattle.compiler.proofs.reader.signed.Goals as goal

pub loop-i-init : goal.loop-i-init
loop-i-init c = (c.requires.signs.ahead, search rules, signed-none c.requires.inner_value)

pub prefixed-read-requires : goal.prefixed-read-requires
prefixed-read-requires c =
    let l = c.loop-i in
    (rw c.word_at.ensures (c.requires.signs.each (l.i - 1) (omega arith) (omega arith)), omega (arith, l.invariant.2.end, c.requires.first_bound))

pub loop-i-preserved : goal.loop-i-preserved
loop-i-preserved c =
    let l = c.loop-i in
    let p = c.prefixed-read in
    (omega arith, omega arith, signed-more (omega arith) l.invariant.2 c.word_at.ensures p.ensures.result_value p.ensures.draft_after)

pub returns : goal.returns
returns c = let e : c.loop-i.i ≡ c.args.at = omega arith in rw e at c.loop-i.invariant.2.under
