-- `store` meets its contract: with reals it is the full box's.
use Rattle.operations.specs.Operations.{given_value}
use Rattle.operations.proofs.Full.{stores-full}
use Rattle.operations.proofs.store.Goals as goal

pub returns : goal.returns
returns c =
    let s = c.args in
    let e = c.store_in.ensures in
    let w = stores-full s.tick s.target.now s.index.now s.memory.now s.k (given_value s.kind s.bits) (e.value, e.memory_after) in
    record { value = w.0; memory_after = w.1 }
