-- `draft::promoted` meets its contract, for each pair of kinds.
use Rattle.draft.proofs.Words.{promoted-none, promoted-two, promoted-one}
use Rattle.draft.proofs.promoted.Goals as goal

pub returns-then-first-second : goal.returns-then-first-second
returns-then-first-second c =
    let h = promoted-none c.args.draft.now c.args.k c.if-first-second.true in
    record { value = h.0; draft_after = h.1 }

pub returns-then-first-eq-INT : goal.returns-then-first-eq-INT
returns-then-first-eq-INT c =
    let h = promoted-two c.args.draft.now c.args.k c.if-first-eq-INT.true c.if-first-second.false c.requires.2 c.put.ensures c.put-then-first-eq-INT.ensures in
    record { value = h.0; draft_after = h.1 }

pub returns : goal.returns
returns c =
    let h = promoted-one c.args.draft.now c.args.k c.if-first-eq-INT.false c.if-first-second.false c.requires.1 c.requires.2 c.put-2.ensures in
    record { value = h.0; draft_after = h.1 }
