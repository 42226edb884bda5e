-- `copying::copy` meets its contract. The invariant: the first i words are there as bytes, and the rest is as before.
use mathlib.Core.Path.{◌≡◌}
use lib.ListN.{length, take}
use lib.Seq.{sets}
use Rattle.draft.specs.private.Draft.{word_bytes}
use Rattle.compiler.proofs.copying.copy.Given as goal

abbrev pub invariant-loop-i : goal.invariant-loop-i
invariant-loop-i l = (length l.code ≡ length l.initial.code) × (l.code ≡ sets l.initial.code 0 (word_bytes (take l.i l.draft)))
