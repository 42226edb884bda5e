-- What a turn leaves, as the code has it.
use Rattle.std.specs.Prelude.{◌≡◌, List, ℕ, ◌+◌, ◌≤◌, ◌<◌}
use Rattle.lines.specs.private.Steps.{Puts}
use Rattle.log_laws.specs.Replay.{Replay}
use Rattle.log_laws.specs.Window.{kept_bytes}
use Rattle.log_replay.specs.declared.Pause.TheVariants.{Full}
use Rattle.log_replay.specs.declared.ReplayCursor.{ReplayCursor}
use Rattle.log_replay.specs.Replays.{Plays}
use Rattle.log_window.specs.declared.Turned.{Turned}

-- what was printed goes to the front of the bytes lent, what is kept to the front of the window
pub record TurnGives (r : Replay) (at : ℕ) (held memory out out' window window' : List ℕ) (x : Turned) : Type 0 where
  pub plays : Plays r memory out out' x.replayed
  pub keeps : Puts window 0 window' x.held (kept_bytes at r held)

-- for a loop of turns: no byte of the log is lost, a turn that pauses for room has taken some, and what it printed lies in the bytes lent
pub record TurnInside (cursor : ReplayCursor) (held room : ℕ) (x : Turned) : Type 0 where
  pub total : x.replayed.cursor.at + x.held ≡ cursor.at + held
  pub ahead : x.replayed.pause ≡ Full → cursor.at < x.replayed.cursor.at
  pub window : x.held ≤ held
  pub text : x.replayed.written ≤ room
