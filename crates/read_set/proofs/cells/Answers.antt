-- `cells` meets its contract: what is reached after both codes are the cells that they read.
use mathlib.Core.Path.{sym, ap, ◌∙◌}
use lib.Seq.{sets}
use Rattle.read_set.proofs.Numbering.{marks-list, marks-count}
use Rattle.read_set.proofs.cells.Goals as goal

pub slice_bounds-mark-end-2 : goal.slice_bounds-mark-end-2
slice_bounds-mark-end-2 c = sym c.mark.ensures.long

pub mark-requires-2 : goal.mark-requires-2
mark-requires-2 c = c.mark.ensures.long

pub slice_bounds-listing-end : goal.slice_bounds-listing-end
slice_bounds-listing-end c = sym c.mark-2.ensures.long

pub listing-requires : goal.listing-requires
listing-requires c = c.mark-2.ensures.long

pub returns : goal.returns
returns c =
    let one = c.mark.ensures in
    let two = c.mark-2.ensures in
    let list = c.listing.ensures in
    record {
      value = list.value ∙ marks-count _ _ _ _ one two;
      list_after = list.list_after ∙ ap (sets c.args.list.now 0) (marks-list _ _ _ _ one two);
    }
