-- What stands in a lent slice after an input was read.
use Rattle.std.specs.Prelude.{List, ℕ}
use Rattle.lines.specs.private.Steps.{Puts}
use Rattle.read_reply.specs.Listing.{Printed}

-- n bytes at the front of the slice are what the program may print
pub record Prints (out : List ℕ) (n : ℕ) (new : List ℕ) : Type 0 where
  pub text : List ℕ
  pub printed : Printed text
  pub put : Puts out 0 new n text
