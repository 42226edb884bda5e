-- `put_lines` meets its contract.
use Rattle.code_listing.proofs.Lines.{start, long, next, end, known-there}
use native.Mathlib.Omega.{arith}
use Rattle.code_listing.proofs.put_lines.Goals as goal

pub loop-place-init : goal.loop-place-init
loop-place-init c = start _ _ _

pub put_line-at-requires : goal.put_line-at-requires
put_line-at-requires c = record {
  fact = (known-there c.requires.known_code.0 c.loop-place-test.true c.fetch.ensures, omega (arith, c.requires.known_code.1));
  at_in_bounds = omega (
    arith,
    c.loop-place.invariant.short,
    long c.loop-place.invariant,
    c.requires.known_code.1,
    c.requires.listing_room_in_bounds,
  );
}

pub loop-place-preserved : goal.loop-place-preserved
loop-place-preserved c =
    next c.loop-place.invariant c.loop-place-test.true c.fetch.ensures c.put_line-at.ensures.puts c.put_line-at.ensures.upper_bound

pub returns : goal.returns
returns c =
    let e = end c.loop-place.invariant c.loop-place-test.false in
    record { puts = e.0; upper_bound = e.1 }
