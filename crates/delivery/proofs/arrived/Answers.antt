-- `arrived` meets its contract: an element of the bank, or a fault of the index.
use mathlib.Core.Path.{refl, sym, ◌∙◌}
use Rattle.delivery.proofs.Runs.{storable-index}
use Rattle.delivery.proofs.Following.{stores}
use borrow.Author.Rules.{rules}
use Rattle.delivery.proofs.arrived.Goals as goal

pub store_in-s-requires : goal.store_in-s-requires
store_in-s-requires c = c.requires.1
