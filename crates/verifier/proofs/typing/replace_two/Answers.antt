-- `verifier::typing::replace_two` meets its contract: there are two values and a kind for both, or not.
use mathlib.Core.Path.{◌≡◌}
use Prim.Native.Nat.{◌-◌}
use native.Mathlib.Omega.{arith}
use lib.ListN.{length}
use Rattle.verifier.specs.private.Shapes.{kinds_of, below}
use Rattle.verifier.proofs.Bits.{below-length, writes}
use Rattle.verifier.proofs.Held.{replaces-two, few, unreplaced-two, under-limit, from-limit, under-two}
use Rattle.verifier.proofs.typing.replace_two.Goals as goal
use Rattle.verifier.proofs.typing.replace_two.Goals.{then-held-lt2-via-then-held-lt2, then-held-lt2-via-else-held-lt2+then-limit-n}

pub returns-then-held-lt2 : goal.returns-then-held-lt2
returns-then-held-lt2 c = elim c.then-held-lt2.branch [
  | then-held-lt2-via-then-held-lt2 w ↦ few _ _ _ _ w.if-held-lt2.true
  | then-held-lt2-via-else-held-lt2+then-limit-n w ↦ unreplaced-two _ _ _ (from-limit _ w.limit.ensures w.if-limit-n.true)
]

pub returns : goal.returns
returns c =
    let u = under-limit c.args.n c.limit.ensures c.if-limit-n.false in
    let e : length (below (kinds_of c.popped.result)) ≡ c.args.held.height - 2 =
    omega (arith, below-length c.popped.result.height c.popped.result.bits, c.popped.ensures.height) in
    replaces-two _ _ _ (writes _ c.replaced.result c.requires (under-two c.args.reals _ u) e c.replaced.ensures) u _ _
    (omega (arith, c.if-held-lt2.false)) c.popped.ensures.rest c.replaced.ensures
