-- `listing` meets its contract: a short buffer, refused code, or the lines.
use Rattle.code_listing.proofs.Lines.{short-is, accepted-known, good-is, bad-is}
use Rattle.code_listing.specs.Listing.{Listed}
use Rattle.code.specs.Instructions.{instructions}
use mathlib.Core.Path.{ap, ◌∙◌}
use lib.ListN.{length}
use lib.Seq.{sets}
use native.Mathlib.Omega.{arith}
use native.Mathlib.Nat.{zero-add}
use Rattle.code_listing.proofs.listing.Goals as goal

pub returns-then-out-lt-LEAST_TEXT : goal.returns-then-out-lt-LEAST_TEXT
returns-then-out-lt-LEAST_TEXT c =
    let e = short-is (length c.args.out.now) (instructions c.args.code.now c.args.n) c.if-out-lt-LEAST_TEXT.true in
    record {
      answer_value = (ap (λ (x : Listed). x.answer) e, ap (λ (x : Listed). length x.text) e, omega arith);
      out_after = ap (λ (x : Listed). sets c.args.out.now 0 x.text) e;
    }

pub put_lines-requires : goal.put_lines-requires
put_lines-requires c = record {
  known_code = accepted-known c.check.ensures _ c.in-Some.is;
  listing_room_in_bounds = c.if-out-lt-LEAST_TEXT.false;
}

pub returns-in-Some : goal.returns-in-Some
returns-in-Some c =
    let e = good-is c.check.ensures (length c.args.out.now) _ c.if-out-lt-LEAST_TEXT.false c.in-Some.is in
    record {
      answer_value = (
        ap (λ (x : Listed). x.answer) e,
        c.put_lines.ensures.puts.end ∙ (zero-add _ ∙ ap (λ (x : Listed). length x.text) e),
        omega (
          arith,
          (accepted-known c.check.ensures _ c.in-Some.is).1,
          c.put_lines.ensures.upper_bound,
          c.if-out-lt-LEAST_TEXT.false,
        ),
      );
      out_after = c.put_lines.ensures.puts.bytes ∙ ap (λ (x : Listed). sets c.args.out.now 0 x.text) e;
    }

pub returns-in-None : goal.returns-in-None
returns-in-None c =
    let e = bad-is c.check.ensures (length c.args.out.now) c.if-out-lt-LEAST_TEXT.false c.in-None.is in
    record {
      answer_value = (ap (λ (x : Listed). x.answer) e, ap (λ (x : Listed). length x.text) e, omega arith);
      out_after = ap (λ (x : Listed). sets c.args.out.now 0 x.text) e;
    }
