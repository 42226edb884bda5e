-- `replay::formula_replay` meets its contract.
use mathlib.Core.Path.{refl}
use lib.ListN.{get_or}
use Rattle.formula_c.proofs.replay.Four.{leaves}
use Rattle.formula_c.proofs.replay.formula_replay.Goals as goal

pub returns : goal.returns
returns c =
    let s = c.args in
    let state = s.state.now in
    let w = leaves s.cards.now s.log.now s.memory.now s.out.now state
    (record { at = get_or state 0 0; tick = get_or state 1 0; done = get_or state 2 0; written = 0 }) refl c.replay-r.ensures in
    record { state_after = w.0; memory_after = w.1.0; out_after = w.1.1 }
