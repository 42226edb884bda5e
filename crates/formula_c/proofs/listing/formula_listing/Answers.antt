-- `listing::formula_listing` meets its contract.
use lib.ListN.{length}
use Rattle.code.specs.Instructions.{instructions}
use Rattle.code_listing.specs.Listing.{listed}
use Rattle.formula_c.proofs.listing.Two.{two}
use Rattle.formula_c.proofs.listing.formula_listing.Goals as goal

pub returns-clause-res_after : goal.returns-clause-res_after
returns-clause-res_after c =
    let e = c.listing-r.ensures.answer_value in
    two (listed (length c.args.text.now) (instructions c.args.code.now c.args.n)) e.0 e.1 c.low-length.ensures
