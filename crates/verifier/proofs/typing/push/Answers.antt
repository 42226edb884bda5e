-- `verifier::typing::push` meets its contract: there is a kind and room for it, or not.
use Rattle.verifier.proofs.Bits.{bits-length, writes}
use Rattle.verifier.proofs.Held.{pushes, full, unpushed, under-limit, from-limit, under-two}
use Rattle.verifier.proofs.typing.push.Goals as goal
use Rattle.verifier.proofs.typing.push.Goals.{then-limit-n-via-then-limit-n, then-limit-n-via-else-limit-n+then-held-ge128}

pub returns-then-limit-n : goal.returns-then-limit-n
returns-then-limit-n c = elim c.then-limit-n.branch [
  | then-limit-n-via-then-limit-n w ↦ unpushed _ _ _ (from-limit _ c.limit.ensures w.if-limit-n.true)
  | then-limit-n-via-else-limit-n+then-held-ge128 w ↦ full _ _ _ _ (under-limit _ c.limit.ensures w.if-limit-n.false) w.if-held-ge128.true
]

pub returns : goal.returns
returns c =
    let u = under-limit c.args.n c.limit.ensures c.if-limit-n.false in
    pushes _ _ _ (writes _ c.pushed.result c.requires (under-two c.args.reals _ u) (bits-length c.args.held.height _) c.pushed.ensures) u _ _
    c.if-held-ge128.false c.pushed.ensures
