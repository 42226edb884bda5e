-- Why a text is refused, as code hands it on: an answer and a place.
use Rattle.std.specs.Prelude.{ℕ}
use Rattle.token_table.specs.declared.Refusal.{Refusal}

abbrev pub refusal : ℕ → ℕ → Refusal
refusal a p = record { answer = a; place = p }
