-- `tell` is safe: what is printed lies in the buffer.
use native.Mathlib.Omega.{arith}
use Rattle.program.proofs.Sizes.{put-prefix}
use Rattle.listing_cases.proofs.tell.Goals as goal

pub slice_bounds-write_all-end : goal.slice_bounds-write_all-end
slice_bounds-write_all-end g c = put-prefix c.reply-n.ensures.puts (omega (arith, c.reply-n.ensures.upper_bound, c.blank_reply-out.ensures))
