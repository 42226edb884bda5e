-- The cycle of the reader: `expression`, `operand`, `primary`, `enclosed`, `bracket`, `call`, `pair`, `arguments` and `branches` meet their contracts. Each
-- answer cites the law for its way. The measure is the cost: the words left, then the rank of the function.
use mathlib.Core.Path.{refl, sym, ap, ap₂, ◌∙◌}
use mathlib.Core.List.{List}
use Prim.Native.Nat.{ℕ, ◌+◌, ◌<◌}
use native.Mathlib.Omega.{arith}
use lib.ListN.{length}
use Rattle.tokens.specs.Words.{function_at}
use Rattle.token_table.specs.private.Table.{word_operand, word_place}
use Rattle.grammar.specs.Symbols.{open_paren}
use Rattle.grammar.specs.Functions.{function_form}
use Rattle.grammar.specs.Parse.{bracket as bracket_of}
use Rattle.draft.specs.private.Results.{is_done}
use Rattle.draft.specs.private.Draft.{reserved}
use Rattle.compiler.specs.private.Reading.{Fits, arguments_of}
use Rattle.compiler.proofs.reader.Looking.{look, there, primary-there, primary-as, is_leaf_lem, at-end, a-leaf, a-letter, a-name, a-symbol}
use Rattle.compiler.proofs.reader.Binding.{stopped, met, unmet}
use Rattle.compiler.proofs.reader.Steps.{being, as-done, moved, reached, enclosed-stopped, enclosed-closed, enclosed-open, shut-reads}
use Rattle.compiler.proofs.reader.Steps.{full-reads, bracket-inside, primary-end, letter-stopped, letter-done, primary-name, primary-symbol}
use Rattle.compiler.proofs.reader.Steps.{leaf-reads}
use Rattle.compiler.proofs.reader.Signing.{operand-leaf, operand-stopped, operand-signed}
use Rattle.compiler.proofs.reader.Climbing.{reserved-few, climb-stopped, climb-starts, loop-none, loop-loose, loop-operator}
use Rattle.compiler.proofs.reader.Climbing.{loop-stopped, loop-joined}
use Rattle.compiler.proofs.reader.Calls.{call-inside, arguing-as, choice-of, only-stopped, only-done, since-stopped, since-done, clock-reads}
use Rattle.compiler.proofs.reader.Calls.{total-reads, value-stopped, match-reads, first-stopped, second-stopped, second-done}
use Rattle.compiler.proofs.reader.Calls.{condition-stopped, choice-reads, branches-as, branch-stopped, other-stopped, other-done}
use Rattle.draft.proofs.results.Fields.{done_next}
use Rattle.compiler.proofs.reader.+reader.Goals as goal

-- behind the parenthesis of a call
behind : {s : List ℕ} {at pc : ℕ} → Fits s at pc → at < length s → Fits s (at + 1) pc
behind f h = record { tokens = f.tokens; small = f.small; within = omega (arith, h); room = omega (arith, f.room) }

pub arguments-enclosed-only-requires : goal.arguments-enclosed-only-requires
arguments-enclosed-only-requires t c = (omega (arith, c.decreases), behind c.requires.0 c.requires.1)

pub arguments-returns-then-not-is_done : goal.arguments-returns-then-not-is_done
arguments-returns-then-not-is_done t c =
    only-stopped c.operand_of-f.result c.args.w c.args.room c.operand_of-f.ensures (sym c.form.ensures ∙ c.in-1.is)
    c.enclosed-only.ensures (stopped _ (unmet c.is_done.ensures c.if-not-is_done.true))

pub arguments-applied-requires : goal.arguments-applied-requires
arguments-applied-requires t c =
    let b = reached c.enclosed-only.result (met c.is_done.ensures c.if-not-is_done.false) c.enclosed-only.ensures.span in (
      (sym c.form.ensures ∙ c.in-1.is),
      omega (arith, b.slack, b.within, c.requires.0.room),
    )

pub arguments-pair-requires : goal.arguments-pair-requires
arguments-pair-requires t c =
    (omega (arith, c.decreases), (c.requires.0, c.requires.1, ap function_form (sym c.operand_of-f.ensures) ∙ (sym c.form.ensures ∙ c.in-2.is)))

pub arguments-enclosed-only-requires-in-4 : goal.arguments-enclosed-only-requires-in-4
arguments-enclosed-only-requires-in-4 t c = (omega (arith, c.decreases), behind c.requires.0 c.requires.1)

pub arguments-returns-then-not-is_done-2 : goal.arguments-returns-then-not-is_done-2
arguments-returns-then-not-is_done-2 t c =
    since-stopped c.operand_of-f.result c.args.w c.args.room c.operand_of-f.ensures (sym c.form.ensures ∙ c.in-4.is)
    c.enclosed-only-in-4.ensures (stopped _ (unmet c.is_done-in-4.ensures c.if-not-is_done-2.true))

pub arguments-since-requires : goal.arguments-since-requires
arguments-since-requires t c =
    let b = reached c.enclosed-only-in-4.result (met c.is_done-in-4.ensures c.if-not-is_done-2.false) c.enclosed-only-in-4.ensures.span in
    omega (arith, b.slack, b.within, c.requires.0.room)

pub arguments-clock-requires : goal.arguments-clock-requires
arguments-clock-requires t c = behind c.requires.0 c.requires.1

pub arguments-totalled-requires : goal.arguments-totalled-requires
arguments-totalled-requires t c = (behind c.requires.0 c.requires.1, sym c.form.ensures ∙ c.in-6.is)

pub arguments-enclosed-value-requires : goal.arguments-enclosed-value-requires
arguments-enclosed-value-requires t c = (omega (arith, c.decreases), behind c.requires.0 c.requires.1)

pub arguments-returns-then-not-is_done-3 : goal.arguments-returns-then-not-is_done-3
arguments-returns-then-not-is_done-3 t c =
    value-stopped c.operand_of-f.result c.args.w c.args.room c.operand_of-f.ensures (sym c.form.ensures ∙ c.in-7.is)
    c.enclosed-value.ensures (stopped _ (unmet c.is_done-in-7.ensures c.if-not-is_done-3.true))

pub arguments-matched-requires : goal.arguments-matched-requires
arguments-matched-requires t c =
    let b = reached c.enclosed-value.result (met c.is_done-in-7.ensures c.if-not-is_done-3.false) c.enclosed-value.ensures.span in (
      record { tokens = c.requires.0.tokens; small = c.requires.0.small; within = b.within; room = omega (arith, c.requires.0.room, b.slack) },
      (sym c.form.ensures ∙ c.in-7.is),
    )

pub arguments-enclosed-condition-requires : goal.arguments-enclosed-condition-requires
arguments-enclosed-condition-requires t c = (omega (arith, c.decreases), behind c.requires.0 c.requires.1)

pub arguments-returns-then-not-is_done-4 : goal.arguments-returns-then-not-is_done-4
arguments-returns-then-not-is_done-4 t c =
    let x = choice-of c.operand_of-f.result c.form.ensures ((omega arith, omega arith, omega arith), (omega arith, omega arith, omega arith)) in
    condition-stopped c.operand_of-f.result c.args.w c.args.room c.operand_of-f.ensures x c.enclosed-condition.ensures
    (stopped _ (unmet c.is_done-in_default.ensures c.if-not-is_done-4.true))

pub arguments-branches-requires : goal.arguments-branches-requires
arguments-branches-requires t c =
    let b = reached c.enclosed-condition.result (met c.is_done-in_default.ensures c.if-not-is_done-4.false) c.enclosed-condition.ensures.span in (
      omega (arith, c.decreases, b.ahead, b.within),
      record { tokens = c.requires.0.tokens; small = c.requires.0.small; within = b.within; room = omega (arith, c.requires.0.room, b.slack) },
    )

pub arguments-returns-else-not-is_done : goal.arguments-returns-else-not-is_done
arguments-returns-else-not-is_done t c =
    arguing-as c.applied.ensures.result_value (only-done c.operand_of-f.result c.args.w c.args.room c.operand_of-f.ensures (sym c.form.ensures
    ∙ c.in-1.is) (as-done c.enclosed-only.result (met c.is_done.ensures c.if-not-is_done.false)
    c.enclosed-only.ensures) c.applied.ensures.draft_after)

pub arguments-returns-in-2 : goal.arguments-returns-in-2
arguments-returns-in-2 t c = c.pair.ensures

pub arguments-returns-else-not-is_done-2 : goal.arguments-returns-else-not-is_done-2
arguments-returns-else-not-is_done-2 t c =
    arguing-as c.since.ensures.result_value (since-done c.operand_of-f.result c.args.w c.args.room c.operand_of-f.ensures (sym c.form.ensures
    ∙ c.in-4.is) (as-done c.enclosed-only-in-4.result (met c.is_done-in-4.ensures c.if-not-is_done-2.false)
    c.enclosed-only-in-4.ensures) c.since.ensures.draft_after)

pub arguments-returns-in-5 : goal.arguments-returns-in-5
arguments-returns-in-5 t c =
    clock-reads c.operand_of-f.result c.args.w c.args.room c.operand_of-f.ensures (sym c.form.ensures ∙ c.in-5.is) c.clock.ensures

pub arguments-returns-in-6 : goal.arguments-returns-in-6
arguments-returns-in-6 t c =
    total-reads c.operand_of-f.result c.args.w c.args.room c.operand_of-f.ensures (sym c.form.ensures ∙ c.in-6.is) c.totalled.ensures

pub arguments-returns-else-not-is_done-3 : goal.arguments-returns-else-not-is_done-3
arguments-returns-else-not-is_done-3 t c =
    match-reads c.operand_of-f.result c.args.w c.args.room c.operand_of-f.ensures c.enclosed-value.result (sym c.form.ensures ∙ c.in-7.is)
    (as-done c.enclosed-value.result (met c.is_done-in-7.ensures c.if-not-is_done-3.false) c.enclosed-value.ensures) c.matched.ensures

pub arguments-returns-else-not-is_done-4 : goal.arguments-returns-else-not-is_done-4
arguments-returns-else-not-is_done-4 t c =
    let x = choice-of c.operand_of-f.result c.form.ensures ((omega arith, omega arith, omega arith), (omega arith, omega arith, omega arith)) in
    choice-reads c.operand_of-f.result c.args.w c.args.room c.operand_of-f.ensures x c.enclosed-condition.result
    (as-done c.enclosed-condition.result (met c.is_done-in_default.ensures c.if-not-is_done-4.false) c.enclosed-condition.ensures) c.branches.ensures

pub bracket-returns-then-not-expected : goal.bracket-returns-then-not-expected
bracket-returns-then-not-expected t c =
    being c.bad.ensures (shut-reads c.args.room c.args.opener (λ f e q. bracket_of f e c.args.closer q) c.requires.tokens
    c.requires.within (unmet c.expected.ensures c.if-not-expected.true))

pub bracket-returns-then-room-eq0 : goal.bracket-returns-then-room-eq0
bracket-returns-then-room-eq0 t c =
    being c.deep.ensures (full-reads c.args.room c.args.opener (λ f e q. bracket_of f e c.args.closer q) c.requires.tokens
    c.requires.within (met c.expected.ensures c.if-not-expected.false) c.if-room-eq0.true)

pub bracket-enclosed-requires : goal.bracket-enclosed-requires
bracket-enclosed-requires t c =
    let h = (there c.args.opener c.args.table.now c.args.at c.requires.tokens (met c.expected.ensures c.if-not-expected.false)).splits.within in
    (omega (arith, c.decreases), record { tokens = c.requires.tokens; small = c.requires.small; within = omega arith; room = omega (arith, c.requires.room) })

pub bracket-returns : goal.bracket-returns
bracket-returns t c =
    bracket-inside c.args.room c.args.opener c.args.closer c.requires.tokens (met c.expected.ensures c.if-not-expected.false)
    c.if-room-eq0.false c.enclosed.ensures

pub branches-enclosed-first-requires : goal.branches-enclosed-first-requires
branches-enclosed-first-requires t c = (
  omega (arith, c.decreases, c.next_of-next.ensures.value),
  record {
    tokens = c.requires.tokens;
    small = c.requires.small;
    within = omega (arith, c.requires.within, c.next_of-next.ensures.value);
    room = omega (arith, c.requires.room, c.next_of-next.ensures.value, c.end_of-end.ensures.value);
  },
)

pub branches-returns-then-not-is_done : goal.branches-returns-then-not-is_done
branches-returns-then-not-is_done t c =
    branch-stopped c.args.room c.args.condition (moved c.next_of-next.ensures.value (ap (λ (e : ℕ). e + 1) c.end_of-end.ensures.value)
    c.enclosed-first.ensures) (stopped _ (unmet c.is_done.ensures c.if-not-is_done.true))

pub branches-decided-requires : goal.branches-decided-requires
branches-decided-requires t c =
    let b = reached c.enclosed-first.result (met c.is_done.ensures c.if-not-is_done.false) c.enclosed-first.ensures.span in
    omega (arith, b.rises, c.end_of-end.ensures.value)

pub branches-enclosed-second-requires : goal.branches-enclosed-second-requires
branches-enclosed-second-requires t c =
    let b = reached c.enclosed-first.result (met c.is_done.ensures c.if-not-is_done.false) c.enclosed-first.ensures.span in (
      omega (arith, c.decreases, b.ahead, b.within, c.next_of-next.ensures.value, c.next_of-j.ensures.value),
      record {
        tokens = c.requires.tokens;
        small = c.requires.small;
        within = omega (arith, b.within, c.next_of-j.ensures.value);
        room =
            omega (
              arith,
              c.requires.room,
              b.slack,
              c.next_of-next.ensures.value,
              c.end_of-end.ensures.value,
              c.next_of-j.ensures.value,
              c.end_of-k.ensures.value,
            );
      },
    )

pub branches-returns-then-not-is_done-2 : goal.branches-returns-then-not-is_done-2
branches-returns-then-not-is_done-2 t c =
    other-stopped c.args.room c.args.condition (as-done c.enclosed-first.result (met c.is_done.ensures c.if-not-is_done.false)
    (moved c.next_of-next.ensures.value (ap (λ (e : ℕ). e + 1) c.end_of-end.ensures.value) c.enclosed-first.ensures)) (moved c.next_of-j.ensures.value
    (ap (λ (e : ℕ). e + 1) c.end_of-k.ensures.value) c.enclosed-second.ensures) (stopped _ (unmet c.is_done-2.ensures c.if-not-is_done-2.true))

pub branches-chosen-requires : goal.branches-chosen-requires
branches-chosen-requires t c =
    let b = reached c.enclosed-first.result (met c.is_done.ensures c.if-not-is_done.false) c.enclosed-first.ensures.span in
    let d = reached c.enclosed-second.result (met c.is_done-2.ensures c.if-not-is_done-2.false) c.enclosed-second.ensures.span in (
      omega (arith, d.rises, c.end_of-k.ensures.value),
      omega (
        arith,
        c.requires.room,
        b.slack,
        d.slack,
        d.within,
        c.next_of-next.ensures.value,
        c.end_of-end.ensures.value,
        c.next_of-j.ensures.value,
        c.end_of-k.ensures.value,
      ),
    )

pub branches-returns : goal.branches-returns
branches-returns t c =
    branches-as c.chosen.ensures.result_value (other-done c.args.room c.args.condition
    (as-done c.enclosed-first.result (met c.is_done.ensures c.if-not-is_done.false) (moved c.next_of-next.ensures.value
    (ap (λ (e : ℕ). e + 1) c.end_of-end.ensures.value) c.enclosed-first.ensures)) c.decided.ensures (as-done c.enclosed-second.result
    (met c.is_done-2.ensures c.if-not-is_done-2.false) (moved c.next_of-j.ensures.value (ap (λ (e : ℕ). e + 1) c.end_of-k.ensures.value)
    c.enclosed-second.ensures)) c.chosen.ensures.draft_after)

pub call-returns-then-not-expected : goal.call-returns-then-not-expected
call-returns-then-not-expected t c =
    being c.bad.ensures (shut-reads c.args.room open_paren (λ n e q. arguments_of (function_at (word_operand c.args.w))
    (word_place c.args.w) e n q) c.requires.tokens c.requires.within (unmet c.expected.ensures c.if-not-expected.true))

pub call-returns-then-room-eq0 : goal.call-returns-then-room-eq0
call-returns-then-room-eq0 t c =
    being c.deep.ensures (full-reads c.args.room open_paren (λ n e q. arguments_of (function_at (word_operand c.args.w))
    (word_place c.args.w) e n q) c.requires.tokens c.requires.within (met c.expected.ensures c.if-not-expected.false) c.if-room-eq0.true)

pub call-arguments-requires : goal.call-arguments-requires
call-arguments-requires t c =
    let h = (there open_paren c.args.table.now c.args.at c.requires.tokens (met c.expected.ensures c.if-not-expected.false)).splits.within in
    (omega (arith, c.decreases), (c.requires, h))

pub call-returns : goal.call-returns
call-returns t c =
    call-inside c.args.w c.args.room c.requires.tokens (met c.expected.ensures c.if-not-expected.false) c.if-room-eq0.false c.arguments.ensures

pub enclosed-expression-inner-requires : goal.enclosed-expression-inner-requires
enclosed-expression-inner-requires t c = (omega (arith, c.decreases), c.requires)

pub enclosed-returns-then-not-is_done : goal.enclosed-returns-then-not-is_done
enclosed-returns-then-not-is_done t c = enclosed-stopped c.args.room c.args.closer c.expression-inner.ensures
    (stopped _ (unmet c.is_done.ensures c.if-not-is_done.true))

pub enclosed-past-requires : goal.enclosed-past-requires
enclosed-past-requires t c =
    let b = reached c.expression-inner.result (met c.is_done.ensures c.if-not-is_done.false) c.expression-inner.ensures.span in
    omega (arith, c.requires.small)

pub enclosed-returns-then-expected : goal.enclosed-returns-then-expected
enclosed-returns-then-expected t c =
    enclosed-closed c.args.room c.args.closer c.expression-inner.result c.requires.tokens c.expression-inner.ensures
    (met c.is_done.ensures c.if-not-is_done.false) c.next_of-j.ensures.value c.expected.ensures c.if-expected.true c.past.ensures

pub enclosed-returns : goal.enclosed-returns
enclosed-returns t c =
    enclosed-open c.args.room c.args.closer c.expression-inner.result c.requires.tokens c.expression-inner.ensures
    (met c.is_done.ensures c.if-not-is_done.false) c.next_of-j.ensures.value c.expected.ensures c.if-expected.false c.bad.ensures

pub expression-operand-left-requires : goal.expression-operand-left-requires
expression-operand-left-requires t c = (omega (arith, c.decreases), c.requires)

pub expression-returns-then-not-is_done : goal.expression-returns-then-not-is_done
expression-returns-then-not-is_done t c = climb-stopped c.args.room c.args.level c.operand-left.ensures
    (stopped _ (unmet c.is_done.ensures c.if-not-is_done.true))

pub expression-loop-at-init : goal.expression-loop-at-init
expression-loop-at-init t c =
    let d = met c.is_done.ensures c.if-not-is_done.false in
    record { done = d; climbs = λ o h. climb-starts c.args.room c.args.level (as-done _ d h) }

pub expression-returns-then-g-eq0 : goal.expression-returns-then-g-eq0
expression-returns-then-g-eq0 t c =
    let l = c.loop-at in
    let h = l.invariant.climbs _ c.operand-left.ensures in
    loop-none c.args.room c.args.level l.left h c.requires.tokens c.next_of-j.ensures.value
    c.word_at-w.ensures c.group_in-g.ensures l.invariant.done c.if-g-eq0.true

pub expression-returns-then-level-g : goal.expression-returns-then-level-g
expression-returns-then-level-g t c =
    let l = c.loop-at in
    let h = l.invariant.climbs _ c.operand-left.ensures in
    loop-loose c.args.room c.args.level l.left h c.requires.tokens c.next_of-j.ensures.value
    c.word_at-w.ensures c.group_in-g.ensures l.invariant.done c.if-g-eq0.false c.if-level-g.true

pub expression-overflow_add-place : goal.expression-overflow_add-place
expression-overflow_add-place t c =
    let l = c.loop-at in
    let h = l.invariant.climbs _ c.operand-left.ensures in
    let x = loop-operator c.args.room c.args.level l.left h c.requires.tokens c.next_of-j.ensures.value c.word_at-w.ensures c.group_in-g.ensures
    c.if-g-eq0.false in
    let n = c.next_of-j.ensures.value in
    omega (arith, h.span.slack, h.span.within, c.requires.room, c.end_of.ensures.value, reserved-few c.operand_of.result, c.reserve.ensures)

pub expression-overflow_add-j : goal.expression-overflow_add-j
expression-overflow_add-j t c =
    let l = c.loop-at in
    let h = l.invariant.climbs _ c.operand-left.ensures in
    let x = loop-operator c.args.room c.args.level l.left h c.requires.tokens c.next_of-j.ensures.value c.word_at-w.ensures c.group_in-g.ensures
    c.if-g-eq0.false in
    let n = c.next_of-j.ensures.value in
    omega (arith, x.splits.within, c.requires.small)

pub expression-is_alone-requires : goal.expression-is_alone-requires
expression-is_alone-requires t c =
    let l = c.loop-at in
    let h = l.invariant.climbs _ c.operand-left.ensures in
    let x = loop-operator c.args.room c.args.level l.left h c.requires.tokens c.next_of-j.ensures.value c.word_at-w.ensures c.group_in-g.ensures
    c.if-g-eq0.false in
    let n = c.next_of-j.ensures.value in
    omega (arith, x.splits.within, c.requires.small)

pub expression-overflow_add-j-then-is_alone : goal.expression-overflow_add-j-then-is_alone
expression-overflow_add-j-then-is_alone t c =
    let l = c.loop-at in
    let h = l.invariant.climbs _ c.operand-left.ensures in
    let x = loop-operator c.args.room c.args.level l.left h c.requires.tokens c.next_of-j.ensures.value c.word_at-w.ensures c.group_in-g.ensures
    c.if-g-eq0.false in
    let n = c.next_of-j.ensures.value in
    omega (arith, x.splits.within, c.requires.small)

pub expression-alone-right-requires : goal.expression-alone-right-requires
expression-alone-right-requires t c =
    let l = c.loop-at in
    let h = l.invariant.climbs _ c.operand-left.ensures in
    let x = loop-operator c.args.room c.args.level l.left h c.requires.tokens c.next_of-j.ensures.value c.word_at-w.ensures c.group_in-g.ensures
    c.if-g-eq0.false in
    let n = c.next_of-j.ensures.value in
    let q = reserved-few c.operand_of.result in (
      record {
        tokens = c.requires.tokens;
        small = c.requires.small;
        within = omega (arith, x.splits.within);
        room = omega (arith, h.span.slack, c.requires.room, c.end_of.ensures.value, c.reserve.ensures);
      },
      sym c.is_alone.ensures ∙ c.if-is_alone.true,
      omega (arith, c.if-g-eq0.false),
    )

pub expression-joined-left-requires : goal.expression-joined-left-requires
expression-joined-left-requires t c =
    let l = c.loop-at in
    let h = l.invariant.climbs _ c.operand-left.ensures in
    let x = loop-operator c.args.room c.args.level l.left h c.requires.tokens c.next_of-j.ensures.value c.word_at-w.ensures c.group_in-g.ensures
    c.if-g-eq0.false in
    let n = c.next_of-j.ensures.value in
    let p = ap₂ ◌+◌ c.end_of.ensures.value (c.reserve.ensures ∙ ap reserved c.operand_of.ensures) in
    let b = reached c.alone-right.result (c.alone-right.ensures.result_value) (c.alone-right.ensures.by_index c.args.room).span in (
      x.few,
      omega (arith, b.rises),
      omega (arith, b.slack, b.within, h.span.slack, c.requires.room, reserved-few c.operand_of.result, c.end_of.ensures.value, c.reserve.ensures),
    )

pub expression-loop-at-smaller-then-is_alone : goal.expression-loop-at-smaller-then-is_alone
expression-loop-at-smaller-then-is_alone t c =
    let l = c.loop-at in
    let h = l.invariant.climbs _ c.operand-left.ensures in
    let x = loop-operator c.args.room c.args.level l.left h c.requires.tokens
    c.next_of-j.ensures.value c.word_at-w.ensures c.group_in-g.ensures c.if-g-eq0.false in
    let n = c.next_of-j.ensures.value in
    let b = reached c.alone-right.result (c.alone-right.ensures.result_value) (c.alone-right.ensures.by_index c.args.room).span in
    let e = (done_next c.joined-left.result c.joined-left.ensures.result_value).0 in
    omega (arith, b.ahead, b.within, x.splits.within)

pub expression-loop-at-preserved-then-is_alone : goal.expression-loop-at-preserved-then-is_alone
expression-loop-at-preserved-then-is_alone t c =
    let l = c.loop-at in
    let p = ap₂ ◌+◌ c.end_of.ensures.value (c.reserve.ensures ∙ ap reserved c.operand_of.ensures) in
    let d = c.alone-right.ensures.result_value in
    record {
      done = ap is_done c.joined-left.ensures.result_value;
      climbs = λ o y. loop-joined c.args.room c.args.level l.left (l.invariant.climbs o y) c.requires.tokens
          c.next_of-j.ensures.value c.word_at-w.ensures c.group_in-g.ensures c.if-g-eq0.false c.if-level-g.false p
          c.alone-right.result c.joined-left.result (c.alone-right.ensures.by_index c.args.room) d c.joined-left.ensures.result_value
          c.joined-left.ensures.draft_after;
    }

pub expression-overflow_add-j-else-is_alone : goal.expression-overflow_add-j-else-is_alone
expression-overflow_add-j-else-is_alone t c =
    let l = c.loop-at in
    let h = l.invariant.climbs _ c.operand-left.ensures in
    let x = loop-operator c.args.room c.args.level l.left h c.requires.tokens c.next_of-j.ensures.value c.word_at-w.ensures c.group_in-g.ensures
    c.if-g-eq0.false in
    let n = c.next_of-j.ensures.value in
    omega (arith, x.splits.within, c.requires.small)

pub expression-overflow_sub-g : goal.expression-overflow_sub-g
expression-overflow_sub-g t c = omega (arith, c.if-g-eq0.false)

pub expression-expression-right-requires : goal.expression-expression-right-requires
expression-expression-right-requires t c =
    let l = c.loop-at in
    let h = l.invariant.climbs _ c.operand-left.ensures in
    let x = loop-operator c.args.room c.args.level l.left h c.requires.tokens c.next_of-j.ensures.value c.word_at-w.ensures c.group_in-g.ensures
    c.if-g-eq0.false in
    let n = c.next_of-j.ensures.value in
    let q = reserved-few c.operand_of.result in (
      omega (arith, c.decreases, h.span.ahead, x.splits.within),
      record {
        tokens = c.requires.tokens;
        small = c.requires.small;
        within = omega (arith, x.splits.within);
        room = omega (arith, h.span.slack, c.requires.room, c.end_of.ensures.value, c.reserve.ensures);
      },
    )

pub expression-returns-then-not-is_done-2 : goal.expression-returns-then-not-is_done-2
expression-returns-then-not-is_done-2 t c =
    let l = c.loop-at in
    let h = l.invariant.climbs _ c.operand-left.ensures in
    let p = ap₂ ◌+◌ c.end_of.ensures.value (c.reserve.ensures ∙ ap reserved c.operand_of.ensures) in
    loop-stopped c.args.room c.args.level l.left h c.requires.tokens c.next_of-j.ensures.value c.word_at-w.ensures c.group_in-g.ensures
    c.if-g-eq0.false c.if-level-g.false p c.expression-right.ensures (stopped _ (unmet c.is_done-else-is_alone.ensures c.if-not-is_done-2.true))

pub expression-joined-left-requires-else-is_alone : goal.expression-joined-left-requires-else-is_alone
expression-joined-left-requires-else-is_alone t c =
    let l = c.loop-at in
    let h = l.invariant.climbs _ c.operand-left.ensures in
    let x = loop-operator c.args.room c.args.level l.left h c.requires.tokens c.next_of-j.ensures.value c.word_at-w.ensures c.group_in-g.ensures
    c.if-g-eq0.false in
    let n = c.next_of-j.ensures.value in
    let p = ap₂ ◌+◌ c.end_of.ensures.value (c.reserve.ensures ∙ ap reserved c.operand_of.ensures) in
    let b = reached c.expression-right.result (met c.is_done-else-is_alone.ensures c.if-not-is_done-2.false) c.expression-right.ensures.span in
    let e = c.word_at-operator.ensures ∙ sym c.word_at-w.ensures in
    rw e (
      x.few,
      omega (arith, b.rises),
      omega (arith, b.slack, b.within, h.span.slack, c.requires.room, reserved-few c.operand_of.result, c.end_of.ensures.value, c.reserve.ensures),
    )

pub expression-loop-at-smaller : goal.expression-loop-at-smaller
expression-loop-at-smaller t c =
    let l = c.loop-at in
    let h = l.invariant.climbs _ c.operand-left.ensures in
    let x = loop-operator c.args.room c.args.level l.left h c.requires.tokens c.next_of-j.ensures.value c.word_at-w.ensures c.group_in-g.ensures
    c.if-g-eq0.false in
    let n = c.next_of-j.ensures.value in
    let b = reached c.expression-right.result (met c.is_done-else-is_alone.ensures c.if-not-is_done-2.false) c.expression-right.ensures.span in
    let e = (done_next c.joined-left-else-is_alone.result c.joined-left-else-is_alone.ensures.result_value).0 in
    omega (arith, b.ahead, b.within, x.splits.within)

pub expression-loop-at-preserved : goal.expression-loop-at-preserved
expression-loop-at-preserved t c =
    let l = c.loop-at in
    let p = ap₂ ◌+◌ c.end_of.ensures.value (c.reserve.ensures ∙ ap reserved c.operand_of.ensures) in
    let d = met c.is_done-else-is_alone.ensures c.if-not-is_done-2.false in
    let e = c.word_at-operator.ensures ∙ sym c.word_at-w.ensures in
    record {
      done = ap is_done c.joined-left-else-is_alone.ensures.result_value;
      climbs = λ o y. loop-joined c.args.room c.args.level l.left (l.invariant.climbs o y) c.requires.tokens
          c.next_of-j.ensures.value c.word_at-w.ensures c.group_in-g.ensures c.if-g-eq0.false c.if-level-g.false p
          c.expression-right.result c.joined-left-else-is_alone.result c.expression-right.ensures d (rw e at
          c.joined-left-else-is_alone.ensures.result_value) (rw e at c.joined-left-else-is_alone.ensures.draft_after);
    }

pub operand-leaf-requires : goal.operand-leaf-requires
operand-leaf-requires t c =
    let l = is_leaf_lem (primary-there (look {s = c.args.table.now} {at = c.args.at} c.requires.tokens c.word_at-w.ensures))
    (sym c.is_leaf.ensures ∙ c.if-is_leaf.true) in
    (l.few, omega (arith, l.splits.within, c.requires.small), omega (arith, c.requires.room, c.requires.small, c.requires.within))

pub operand-returns-then-is_leaf : goal.operand-returns-then-is_leaf
operand-returns-then-is_leaf t c =
    let l = is_leaf_lem (primary-there (look {s = c.args.table.now} {at = c.args.at} c.requires.tokens c.word_at-w.ensures))
    (sym c.is_leaf.ensures ∙ c.if-is_leaf.true) in
    being c.leaf.ensures.result_value (operand-leaf c.args.room l c.leaf.ensures.draft_after)

pub operand-primary-inner-requires : goal.operand-primary-inner-requires
operand-primary-inner-requires t c =
    let h = c.signs_end-first.ensures in (
      omega (arith, c.decreases, h.ahead, h.within),
      record { tokens = c.requires.tokens; small = c.requires.small; within = h.within; room = omega (arith, c.requires.room, h.ahead) },
    )

pub operand-returns-then-not-is_done : goal.operand-returns-then-not-is_done
operand-returns-then-not-is_done t c =
    operand-stopped c.args.room c.requires.tokens c.signs_end-first.ensures
    c.primary-inner.ensures (stopped _ (unmet c.is_done.ensures c.if-not-is_done.true))

pub operand-signed-requires : goal.operand-signed-requires
operand-signed-requires t c =
    let h = c.signs_end-first.ensures in
    let d = met c.is_done.ensures c.if-not-is_done.false in
    let b = reached c.primary-inner.result d c.primary-inner.ensures.span in
    record { signs = h; inner_value = d; first_bound = omega (arith, c.requires.room, h.ahead, b.slack, b.within) }

pub operand-returns : goal.operand-returns
operand-returns t c = operand-signed c.args.room c.requires.tokens c.signs_end-first.ensures c.primary-inner.ensures c.signed.ensures

pub pair-enclosed-first-requires : goal.pair-enclosed-first-requires
pair-enclosed-first-requires t c = (omega (arith, c.decreases), behind c.requires.0 c.requires.1)

pub pair-returns-then-not-is_done : goal.pair-returns-then-not-is_done
pair-returns-then-not-is_done t c =
    first-stopped (word_operand c.args.w) c.args.w c.args.room refl c.requires.2 c.enclosed-first.ensures
    (stopped _ (unmet c.is_done.ensures c.if-not-is_done.true))

pub pair-enclosed-last-requires : goal.pair-enclosed-last-requires
pair-enclosed-last-requires t c =
    let b = reached c.enclosed-first.result (met c.is_done.ensures c.if-not-is_done.false) c.enclosed-first.ensures.span in (
      omega (arith, c.decreases, b.ahead, b.within, c.next_of-next.ensures.value),
      record {
        tokens = c.requires.0.tokens;
        small = c.requires.0.small;
        within = omega (arith, b.within, c.next_of-next.ensures.value);
        room = omega (arith, c.requires.0.room, b.slack, c.next_of-next.ensures.value, c.end_of-end.ensures.value);
      },
    )

pub pair-returns-then-not-is_done-2 : goal.pair-returns-then-not-is_done-2
pair-returns-then-not-is_done-2 t c =
    second-stopped (word_operand c.args.w) c.args.w c.args.room refl c.requires.2 (as-done c.enclosed-first.result (met c.is_done.ensures
    c.if-not-is_done.false) c.enclosed-first.ensures) (moved c.next_of-next.ensures.value c.end_of-end.ensures.value c.enclosed-last.ensures)
    (stopped _ (unmet c.is_done-2.ensures c.if-not-is_done-2.true))

pub pair-paired-requires : goal.pair-paired-requires
pair-paired-requires t c =
    let b = reached c.enclosed-first.result (met c.is_done.ensures c.if-not-is_done.false) c.enclosed-first.ensures.span in
    let d = reached c.enclosed-last.result (met c.is_done-2.ensures c.if-not-is_done-2.false) c.enclosed-last.ensures.span in (
      ap function_form c.operand_of.ensures ∙ c.requires.2,
      omega (arith, c.requires.0.room, b.slack, d.slack, d.within, c.next_of-next.ensures.value, c.end_of-end.ensures.value),
    )

pub pair-returns : goal.pair-returns
pair-returns t c =
    arguing-as c.paired.ensures.result_value (second-done c.operand_of.result c.args.w c.args.room
    c.operand_of.ensures (ap function_form c.operand_of.ensures ∙ c.requires.2)
    (as-done c.enclosed-first.result (met c.is_done.ensures c.if-not-is_done.false) c.enclosed-first.ensures) (as-done c.enclosed-last.result
    (met c.is_done-2.ensures c.if-not-is_done-2.false) (moved c.next_of-next.ensures.value c.end_of-end.ensures.value
    c.enclosed-last.ensures)) c.paired.ensures.draft_after)

pub primary-bracket-index-requires : goal.primary-bracket-index-requires
primary-bracket-index-requires t c =
    let k = primary-as (look {s = c.args.table.now} {at = c.args.at} c.requires.tokens c.word_at-w.ensures)
    c.operand_of-n.ensures c.class_of.ensures in
    let (few, h) = a-letter k c.in-4.is in (
      omega (arith, c.decreases, h.within),
      record { tokens = c.requires.tokens; small = c.requires.small; within = omega (arith, h.within); room = omega (arith, c.requires.room) },
    )

pub primary-returns-then-not-is_done : goal.primary-returns-then-not-is_done
primary-returns-then-not-is_done t c =
    let k = primary-as (look {s = c.args.table.now} {at = c.args.at} c.requires.tokens c.word_at-w.ensures) c.operand_of-n.ensures
    c.class_of.ensures in
    let (few, h) = a-letter k c.in-4.is in
    letter-stopped c.args.room h c.bracket-index.ensures (stopped _ (unmet c.is_done.ensures c.if-not-is_done.true))

pub primary-loaded-requires : goal.primary-loaded-requires
primary-loaded-requires t c =
    let k = primary-as (look {s = c.args.table.now} {at = c.args.at} c.requires.tokens c.word_at-w.ensures) c.operand_of-n.ensures
    c.class_of.ensures in
    let (few, h) = a-letter k c.in-4.is in
    let b = reached c.bracket-index.result (met c.is_done.ensures c.if-not-is_done.false) c.bracket-index.ensures.span in
    (few, omega (arith, b.slack, b.within, c.requires.room))

pub primary-call-requires : goal.primary-call-requires
primary-call-requires t c =
    let k = primary-as (look {s = c.args.table.now} {at = c.args.at} c.requires.tokens c.word_at-w.ensures)
    c.operand_of-n.ensures c.class_of.ensures in
    let h = a-name k c.in-5.is in (
      omega (arith, c.decreases, h.within),
      record { tokens = c.requires.tokens; small = c.requires.small; within = omega (arith, h.within); room = omega (arith, c.requires.room) },
    )

pub primary-bracket-requires : goal.primary-bracket-requires
primary-bracket-requires t c = (omega (arith, c.decreases), c.requires)

pub primary-leaf-requires : goal.primary-leaf-requires
primary-leaf-requires t c =
    let k = primary-there (look {s = c.args.table.now} {at = c.args.at} c.requires.tokens c.word_at-w.ensures) in
    let l = a-leaf k (omega arith) (omega arith) (omega arith) (omega arith) in
    (l.few, omega (arith, l.splits.within, c.requires.small), omega (arith, c.requires.room, c.requires.small, c.requires.within))

pub primary-returns-in-0 : goal.primary-returns-in-0
primary-returns-in-0 t c =
    let k = primary-as (look {s = c.args.table.now} {at = c.args.at} c.requires.tokens c.word_at-w.ensures)
    c.operand_of-n.ensures c.class_of.ensures in
    being c.bad.ensures (primary-end c.args.room c.requires.within (at-end k c.in-0.is))

pub primary-returns-else-not-is_done : goal.primary-returns-else-not-is_done
primary-returns-else-not-is_done t c =
    let k = primary-as (look {s = c.args.table.now} {at = c.args.at} c.requires.tokens c.word_at-w.ensures) c.operand_of-n.ensures
    c.class_of.ensures in
    let (few, h) = a-letter k c.in-4.is in
    being c.loaded.ensures.result_value (letter-done c.args.room h (as-done c.bracket-index.result (met c.is_done.ensures c.if-not-is_done.false)
    c.bracket-index.ensures) c.loaded.ensures.draft_after)

pub primary-returns-in-5 : goal.primary-returns-in-5
primary-returns-in-5 t c =
    let k = primary-there (look {s = c.args.table.now} {at = c.args.at} c.requires.tokens c.word_at-w.ensures) in
    primary-name c.args.room (a-name k (sym c.class_of.ensures ∙ c.in-5.is)) c.call.ensures

pub primary-returns-in-6 : goal.primary-returns-in-6
primary-returns-in-6 t c =
    let k = primary-as (look {s = c.args.table.now} {at = c.args.at} c.requires.tokens c.word_at-w.ensures)
    c.operand_of-n.ensures c.class_of.ensures in
    primary-symbol c.args.room (a-symbol k c.in-6.is) c.bracket.ensures

pub primary-returns-in_default : goal.primary-returns-in_default
primary-returns-in_default t c =
    let k = primary-there (look {s = c.args.table.now} {at = c.args.at} c.requires.tokens c.word_at-w.ensures) in
    let l = a-leaf k (omega arith) (omega arith) (omega arith) (omega arith) in
    being c.leaf.ensures.result_value (leaf-reads c.args.room l c.leaf.ensures.draft_after)
