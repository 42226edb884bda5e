-- `verifier::skipped` meets its contract: at each turn, the way so far has no jump and only known instructions.
use mathlib.Core.Path.{sym, ◌∙◌}
use native.Mathlib.Omega.{arith}
use Rattle.verifier.proofs.Stepping.{absent, skipping-more, stands_at}
use Rattle.verifier.proofs.skipped.Goals as goal

pub returns-then-not-known_in : goal.returns-then-not-known_in
returns-then-not-known_in c = record {
  way = c.loop-place.invariant;
  last = λ e l. sym (stands_at c.args.reals _ c.args.brought.now.end _ c.fetch.ensures c.known_in.ensures) ∙ c.if-not-known_in.true;
}

pub loop-place-preserved : goal.loop-place-preserved
loop-place-preserved c = skipping-more c.loop-place.invariant (omega (arith, c.loop-place-test.true))
    (absent c.at.result c.is_some.ensures c.if-is_some.false c.at.ensures)
    (sym (stands_at c.args.reals _ c.args.brought.now.end _ c.fetch.ensures c.known_in.ensures) ∙ c.if-not-known_in.false)
