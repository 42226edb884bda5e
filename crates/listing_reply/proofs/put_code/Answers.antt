-- `put_code` meets its contract.
use mathlib.Core.Path.{sym}
use lib.Seq.{length-take-le}
use native.Mathlib.Omega.{arith}
use Rattle.lines.proofs.Stores.{as-text}
use Rattle.listing_reply.proofs.Parts.{code-front, code-long}
use Rattle.listing_reply.proofs.put_code.Goals as goal

pub slice_bounds-put_all-end : goal.slice_bounds-put_all-end
slice_bounds-put_all-end c =
    sym (length-take-le c.listing-listed.result.length c.listing-listed.new.out
    (code-long c.args.code.now c.args.n c.zeros-text.result c.listing-listed.new.out c.zeros-text.ensures.size
    c.listing-listed.ensures.answer_value.2 c.listing-listed.ensures.out_after))

pub put_all-requires : goal.put_all-requires
put_all-requires c =
    let n = length-take-le c.listing-listed.result.length c.listing-listed.new.out
    (code-long c.args.code.now c.args.n c.zeros-text.result c.listing-listed.new.out c.zeros-text.ensures.size
    c.listing-listed.ensures.answer_value.2 c.listing-listed.ensures.out_after) in
    omega (arith, c.requires, c.zeros-text.ensures.size, c.listing-listed.ensures.answer_value.2, n)

pub returns : goal.returns
returns c =
    let n = length-take-le c.listing-listed.result.length c.listing-listed.new.out
    (code-long c.args.code.now c.args.n c.zeros-text.result c.listing-listed.new.out c.zeros-text.ensures.size
    c.listing-listed.ensures.answer_value.2 c.listing-listed.ensures.out_after) in
    record {
      puts = as-text (code-front c.args.code.now c.args.n c.zeros-text.result c.listing-listed.new.out c.zeros-text.ensures.size
          c.listing-listed.ensures.answer_value.1 c.listing-listed.ensures.answer_value.2 c.listing-listed.ensures.out_after) c.put_all.ensures;
      upper_bound = omega (arith, c.put_all.ensures.end, n, c.zeros-text.ensures.size, c.listing-listed.ensures.answer_value.2);
    }
