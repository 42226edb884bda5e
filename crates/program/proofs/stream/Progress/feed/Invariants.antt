-- `Progress::feed` meets its contract. The loop's invariant: the bytes from the index on are left to take.
use Rattle.std.proofs.Common.{◌≡◌, drop}
use Rattle.program.specs.Stream.{after_bytes}
use Rattle.program.proofs.stream.Progress.feed.Given as goal

abbrev pub invariant-loop-b : goal.invariant-loop-b
invariant-loop-b l = after_bytes l.self (drop l.b-index l.piece) ≡ after_bytes l.initial.self l.piece
