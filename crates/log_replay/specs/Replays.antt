-- What the code returns of a replay: its cursor and its pause as the code has them, and what lies in the bytes lent.
use Rattle.std.specs.Prelude.{◌≡◌, List, ℕ}
use Rattle.lines.specs.private.Steps.{Puts}
use Rattle.log_laws.specs.Replay.{Pause, full, log_end, bad_line, Replay, CallWords, Called}
use Rattle.log_replay.specs.declared.Pause as Code
use Rattle.log_replay.specs.declared.Pause.TheVariants.{Full, End, BadLine}
use Rattle.log_replay.specs.declared.Replayed.{Replayed}
use Rattle.log_replay.specs.declared.ReplayWords.{ReplayWords}

abbrev pub pause_in : Pause → Code.Pause
pause_in full = Full
pause_in log_end = End
pause_in bad_line = BadLine

-- the text goes to the front of the bytes lent
pub record Plays (r : Replay) (memory out new : List ℕ) (x : Replayed) : Type 0 where
  pub next : x.cursor.at ≡ r.at
  pub clock : x.cursor.tick ≡ r.state.tick
  pub why : x.pause ≡ pause_in r.pause
  pub image : memory ≡ r.state.memory
  pub written : Puts out 0 new x.written r.text

-- ---- a call
abbrev pub call_words : ReplayWords → CallWords
call_words x = record { at = x.at; tick = x.tick; done = x.done }

pub record CallGives (c : Called) (memory out new : List ℕ) (x : ReplayWords) : Type 0 where
  pub words : call_words x ≡ c.words
  pub image : memory ≡ c.memory
  pub written : Puts out 0 new x.written c.text
