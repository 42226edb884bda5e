-- `draft::prefixed` meets its contract.
use mathlib.Core.Path.{◌≡◌, sym, ◌∙◌}
use Prim.Native.Nat.{◌<◌}
use native.Mathlib.Omega.{arith}
use Rattle.draft.specs.private.Words.{prefix_number}
use Rattle.draft.proofs.Numbers.{unary-at}
use Rattle.draft.proofs.Typed.{unary-typed}
use Rattle.draft.proofs.prefixed.Goals as goal

pub returns-then-sign-eq-NEG : goal.returns-then-sign-eq-NEG
returns-then-sign-eq-NEG c =
    let minus : prefix_number c.args.w ≡ 0 = sym c.sign_of-sign.ensures ∙ c.if-sign-eq-NEG.true in
    rw minus (record { result_value = cc; draft_after = cc })

pub returns : goal.returns
returns c =
    let n = prefix_number c.args.w in
    let h : n < 8 = omega (arith, c.requires.0) in
    let t = unary-typed n h c.sign_of-sign.ensures c.kind_of-2.ensures.result_value c.unary_kind-kind.ensures in
    record { result_value = cc (t.0, t.1); draft_after = cc (unary-at n h) }
