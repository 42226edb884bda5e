-- `after_store` meets its contract: done, or the fault of the store.
use mathlib.Core.Path.{refl}
use borrow.Author.Rules.{rules}
use Rattle.delivery.proofs.after_store.Goals as goal

pub returns-in-Ok : goal.returns-in-Ok
returns-in-Ok c = rw c.in-Ok.is refl

pub returns-in-Err : goal.returns-in-Err
returns-in-Err c =
    let s = c in
    rw c.in-Err.is refl
