-- `verifier::typing::replace` meets its contract: there is a value and a kind for it, or not.
use native.Mathlib.Omega.{arith}
use Rattle.verifier.proofs.Bits.{below-length, writes}
use Rattle.verifier.proofs.Held.{replaces, none, unreplaced, under-limit, from-limit, under-two}
use Rattle.verifier.proofs.typing.replace.Goals as goal
use Rattle.verifier.proofs.typing.replace.Goals.{then-held-lt1-via-then-held-lt1, then-held-lt1-via-else-held-lt1+then-limit-n}

pub returns-then-held-lt1 : goal.returns-then-held-lt1
returns-then-held-lt1 c = elim c.then-held-lt1.branch [
  | then-held-lt1-via-then-held-lt1 w ↦ none _ _ _ _ w.if-held-lt1.true
  | then-held-lt1-via-else-held-lt1+then-limit-n w ↦ unreplaced _ _ _ (from-limit _ w.limit.ensures w.if-limit-n.true)
]

pub returns : goal.returns
returns c =
    let u = under-limit c.args.n c.limit.ensures c.if-limit-n.false in
    replaces _ _ _ (writes _ c.replaced.result c.requires (under-two c.args.reals _ u) (below-length c.args.held.height _) c.replaced.ensures) u _ _
    (omega (arith, c.if-held-lt1.false)) c.replaced.ensures
