-- `print_reply` is safe: what is printed lies in the buffer.
use Rattle.cards.proofs.Prefix.{prefix-length}
use native.Mathlib.Omega.{arith}
use Rattle.cards.proofs.print_reply.Goals as goal

pub slice_bounds-write_all-end : goal.slice_bounds-write_all-end
slice_bounds-write_all-end g c = prefix-length c.reply-n.ensures.puts (omega (arith, c.reply-n.ensures.upper_bound))
