-- `scratch::put` meets its contract.
use native.Mathlib.Omega.{arith}
use Rattle.format_writer.proofs.Holding.{put-inside, put-outside}
use Rattle.format_writer.proofs.scratch.put.Goals as goal

pub returns-then-n-out : goal.returns-then-n-out
returns-then-n-out c = record { counted = omega arith; by_index = λ o h. put-inside _ c.if-n-out.true h }

pub returns : goal.returns
returns c = record { counted = omega arith; by_index = λ o h. put-outside _ (omega arith) h }
