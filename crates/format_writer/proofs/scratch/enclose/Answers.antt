-- `scratch::enclose` meets its contract.
use native.Mathlib.Omega.{arith}
use Rattle.format_writer.proofs.Holding.{no_room, moved, closed}
use Rattle.format_writer.proofs.scratch.enclose.Goals as goal

pub returns-then-out-n : goal.returns-then-out-n
returns-then-out-n c = record { counted = omega arith; by_index = λ o x b h. no_room o x c.if-out-n.true h }

pub shift-requires : goal.shift-requires
shift-requires c = omega arith

pub returns : goal.returns
returns c =
    let s = c.shift in
    let p = c.put in record {
      counted = omega (arith, p.ensures.counted, s.auto.out);
      by_index = λ o x b h. closed o x (p.ensures.by_index _ (moved o x (omega arith) s.auto.out b h s.ensures));
    }
