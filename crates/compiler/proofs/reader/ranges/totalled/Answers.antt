-- `compiler::reader::ranges::totalled` meets its contract.
use native.Mathlib.Omega.{arith}
use Rattle.compiler.proofs.reader.Steps.{being}
use Rattle.compiler.proofs.reader.Ranging.{broken-range, whole-range, total-broken, total-whole}
use Rattle.compiler.proofs.reader.ranges.totalled.Goals as goal

pub range_end-end-requires : goal.range_end-end-requires
range_end-end-requires c = (c.requires.0.tokens, c.requires.0.within, c.requires.0.small)

pub bad-requires : goal.bad-requires
bad-requires c =
    let x = broken-range c.range_end-end.ensures c.if-end-at.true in
    omega (arith, x.within, c.requires.0.small)

pub returns-then-end-at : goal.returns-then-end-at
returns-then-end-at c = being c.bad.ensures (total-broken c.args.f (broken-range c.range_end-end.ensures c.if-end-at.true))

pub totalled-requires : goal.totalled-requires
totalled-requires c =
    let x = whole-range c.word_at-first.ensures c.word_at-count.ensures c.range_end-end.ensures c.if-end-at.false in
    (c.requires.1, x.word, omega (arith, x.within, c.requires.0.small), omega (arith, c.requires.0.room, c.requires.0.small, c.requires.0.within))

pub returns : goal.returns
returns c =
    being c.totalled.ensures.result_value (total-whole c.args.f (whole-range c.word_at-first.ensures c.word_at-count.ensures
    c.range_end-end.ensures c.if-end-at.false) c.totalled.ensures.draft_after)
