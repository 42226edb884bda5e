-- `memory::store::pattern_of` meets its contract: a finite value has a pattern as a real.
use mathlib.Core.Path.{sym, ◌∙◌}
use Rattle.memory.proofs.store.Encodings.{number}
use Rattle.memory.proofs.store.pattern_of.Goals as goal

pub float_to_bits-result : goal.float_to_bits-result
float_to_bits-result c = rw c.as_real.ensures (number c.args.v (sym c.is_finite.ensures ∙ c.if-not-is_finite.false))
