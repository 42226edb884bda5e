-- `compiler::reader::ranges::matched` meets its contract.
use mathlib.Core.Path.{subst}
use Prim.Native.Nat.{ℕ}
use native.Mathlib.Omega.{arith}
use Rattle.compiler.proofs.reader.Ranging.{Broken, Whole, broken-range, whole-range, matching-as, match-broken, match-whole}
use Rattle.compiler.proofs.reader.ranges.matched.Goals as goal

pub range_end-end-requires : goal.range_end-end-requires
range_end-end-requires c =
    let e = c.next_of-at.ensures.value in
    (c.requires.0.tokens, omega (arith, c.requires.0.within), c.requires.0.small)

pub bad-requires : goal.bad-requires
bad-requires c =
    let x = broken-range c.range_end-end.ensures c.if-end-at.true in
    omega (arith, x.within, c.requires.0.small)

pub returns-then-end-at : goal.returns-then-end-at
returns-then-end-at c =
    matching-as c.bad.ensures (match-broken c.args.f c.args.value
    (subst (λ (i : ℕ). Broken c.args.table.now i c.range_end-end.result) c.next_of-at.ensures.value
    (broken-range c.range_end-end.ensures c.if-end-at.true)))

pub matched-requires : goal.matched-requires
matched-requires c =
    let x = whole-range c.word_at-first.ensures c.word_at-count.ensures c.range_end-end.ensures c.if-end-at.false in
    (c.requires.1, x.word, omega (arith, x.within, c.requires.0.small), omega (arith, c.requires.0.room, c.requires.0.small, c.requires.0.within))

pub returns : goal.returns
returns c =
    matching-as c.matched.ensures.result_value (match-whole c.args.f c.args.value (subst (λ (i : ℕ). Whole c.args.table.now i c.word_at-first.result
    c.word_at-count.result c.range_end-end.result) c.next_of-at.ensures.value (whole-range c.word_at-first.ensures c.word_at-count.ensures
    c.range_end-end.ensures c.if-end-at.false)) c.matched.ensures.draft_after)
