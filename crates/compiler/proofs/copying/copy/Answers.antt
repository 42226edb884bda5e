-- `copying::copy` meets its contract. The invariant: the first i words are there as bytes, and the rest is as before.
use mathlib.Core.Path.{◌≡◌, refl, ◌∙◌, ap}
use Prim.Native.Nat.{◌<◌}
use native.Mathlib.Omega.{arith}
use borrow.Author.Rules.{rules}
use lib.ListN.{get_or, take}
use lib.Seq.{length-take-le}
use Rattle.std.specs.Int.{w64, to_le_bytes}
use Rattle.std.proofs.lemmas.List.{get_or-take}
use Rattle.draft.specs.private.Draft.{word_bytes}
use Rattle.compiler.proofs.copying.Copied.{copied_more}
use Rattle.compiler.proofs.copying.copy.Goals as goal

pub loop-i-init : goal.loop-i-init
unfolding word_bytes
loop-i-init c = (refl, refl)

pub loop-i-preserved : goal.loop-i-preserved
loop-i-preserved c =
    let i = c.loop-i.i in
    let a = c.args in
    let below : i < a.n = omega (arith, c.loop-i-test.true, length-take-le a.n a.draft.now c.requires.0) in
    let bytes : c.to_le_bytes.result ≡ to_le_bytes w64 (get_or (take a.n a.draft.now) i 0) = c.to_le_bytes.ensures in (
      search rules,
      copied_more a.draft.now a.code.now i (omega (arith, below, c.requires.0)) c.loop-i.invariant.1
          (c.copy_from_slice.ensures.after ∙ bytes ∙ ap (to_le_bytes w64) (get_or-take a.n a.draft.now i 0 below))
          (omega arith) (omega (arith, below, c.requires.1, c.loop-i.invariant.0)),
    )
