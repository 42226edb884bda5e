-- `scratch::put_all` meets its contract. The invariant: the bytes so far are written.
use mathlib.Core.Path.{◌≡◌, refl, ◌∙◌}
use native.Mathlib.Omega.{arith}
use lib.ListN.{take}
use lib.Seq.{take_all}
use Rattle.format_writer.proofs.Holding.{nothing_yet, one_more}
use Rattle.format_writer.proofs.scratch.put_all.Goals as goal

pub loop-b-init : goal.loop-b-init
loop-b-init c = record { long = refl; counted = c.requires; written = λ o h. nothing_yet h }

pub put-end-requires : goal.put-end-requires
put-end-requires c = omega (arith, c.loop-b.invariant.long, c.loop-b.invariant.counted)

pub loop-b-preserved : goal.loop-b-preserved
loop-b-preserved c =
    let i = c.loop-b.invariant in
    let p = c.put-end in record {
      long = p.auto.out ∙ i.long;
      counted = omega (arith, p.ensures.counted, i.long);
      written = λ o h. one_more o _ _ c.loop-b-test.true (p.ensures.by_index _ (i.written o h));
    }

pub returns : goal.returns
returns c =
    let bytes = c.args.bytes.now in
    let all : take c.loop-b.b-index bytes ≡ bytes = take_all c.loop-b.b-index bytes (omega arith) in
    record { counted = c.loop-b.invariant.counted; by_index = λ o h. rw all at (c.loop-b.invariant.written o h) }
