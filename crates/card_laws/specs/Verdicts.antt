-- What a judge says of a target and an expression, or of a card: nothing, or the answer that refuses it.
use Rattle.std.specs.Prelude.{ℕ, Result}

abbrev pub Verdict : Type 0
Verdict = Result (Unit {0}) ℕ
