-- `main` is safe: what is printed lies in the buffer.
use native.Mathlib.Omega.{arith}
use Rattle.program.proofs.Sizes.{put-prefix}
use Rattle.listing.proofs.main.Goals as goal

pub slice_bounds-write_all-end : goal.slice_bounds-write_all-end
slice_bounds-write_all-end c = put-prefix c.respond_from-n.ensures.prints.put (omega (arith, c.respond_from-n.ensures.upper_bound, c.blank_reply-out.ensures))
