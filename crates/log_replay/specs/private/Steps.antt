-- For the contracts of private functions: when a call is over, and the state of its first line.
use Rattle.std.specs.Prelude.{List, ℕ}
use Rattle.log_laws.specs.Replay.{ReplayState, state_at}
use Rattle.log_replay.specs.declared.Pause as Code
use Rattle.log_replay.specs.declared.Pause.TheVariants.{Full, End, BadLine}

abbrev pub done_in : Code.Pause → ℕ
done_in Full = 0
done_in End = 1
done_in BadLine = 1

abbrev pub state_from : List ℕ → ℕ → ℕ → ReplayState
state_from m at t = state_at m (record { at = at; tick = t; done = 0 })
