-- What is promised of the replay, for every file, log and state (paper 02, request 13); proofs/Theorems.antt proves the record.
use Rattle.std.specs.Prelude.{◌≡◌, false, List, [], ◌∷◌, ◌++◌, ℕ, ◌+◌, ◌-◌, ◌^◌, ◌≤◌, ◌<◌, length, drop}
use Rattle.memory.specs.Layout.{image_size}
use Rattle.card_laws.specs.Lines.{line_end, ended, Lacks, to_end}
use Rattle.card_laws.specs.Cards.{Card}
use Rattle.card_laws.specs.Reading.{good, read_cards}
use Rattle.card_laws.specs.Formulas.{formula_answer}
use Rattle.log_laws.specs.Log.{tick, bad, log_entry_of}
use Rattle.log_laws.specs.Replay.{ReplayState, Pause, full, log_end, bad_line, Replay, printed, Room, lent, endless, line_room, refusal_lines}
use Rattle.log_laws.specs.Replay.{replay_from, replayed}
use Rattle.log_laws.specs.Replay.{goes, after_line, first_state, CallWords, replay_call}
use Rattle.log_laws.specs.Window.{most_line, window_size, whole_lines, closed, failed, Windows}

-- a log that was cut behind a line end, or an empty one
pub data EndsInLine : List ℕ → Type 0 where
  nothing : EndsInLine []
  behind : (l : List ℕ) → EndsInLine (ended l [])

-- one replay and then, unless a bad line ended it, another from the state and the byte that it left
abbrev pub then_by : Pause → Replay → (ReplayState → ℕ → Replay) → Replay
then_by full r f = r
then_by log_end r f = printed r.text (f r.state r.at)
then_by bad_line r f = r

abbrev pub and_then : Replay → (ReplayState → ℕ → Replay) → Replay
and_then r f = then_by r.pause r f

-- ended by a bad line that begins where a replay stands
abbrev pub ended_bad : Replay → Replay
ended_bad r = record { text = r.text ++ refusal_lines 16 r.at; state = r.state; at = r.at; pause = bad_line }

-- calls in turn, each with at least so many bytes lent, until the replay is done; what they write, one behind the other
pub data Calls (file log : List ℕ) : List ℕ → CallWords → List ℕ → Type 0 where
  over : {m : List ℕ} {c : CallWords} → c.done ≡ 1 → Calls file log m c []
  next : {m : List ℕ} {c : CallWords} {t : List ℕ} (n : ℕ) → c.done ≡ 0 → line_room ≤ n
      → Calls file log (replay_call file log m n c).memory (replay_call file log m n c).words t → Calls file log m c ((replay_call file log m n c).text ++ t)

-- "starts from .. tick 0"; no byte taken yet
abbrev pub first_words : CallWords
first_words = record { at = 0; tick = 0; done = 0 }

pub record ReplayTheorems : Type 0 where
  -- the log may be played in pieces that end in a line
  pub joins : (cs : List Card) (s : ReplayState) (at : ℕ) (a b : List ℕ) → EndsInLine a
      → replay_from cs endless s at (a ++ b) ≡ and_then (replay_from cs endless s at a) (λ s' at'. replay_from cs endless s' at' b)
  -- "which ends the replay there": what stands behind a bad line counts for nothing
  pub ends : (cs : List Card) (s : ReplayState) (at : ℕ) (a b : List ℕ) → EndsInLine a → (replay_from cs endless s at a).pause ≡ bad_line
      → replay_from cs endless s at (a ++ b) ≡ replay_from cs endless s at a
  -- "16 for a bad line, its first byte as place"
  pub bad-line : (cs : List Card) (s : ReplayState) (at : ℕ) (a l b : List ℕ) → EndsInLine a → (replay_from cs endless s at a).pause ≡ log_end → Lacks line_end l
      → log_entry_of (ended l []) ≡ bad
      → (replay_from cs endless s at (a ++ ended l b) ≡ ended_bad (replay_from cs endless s at a)) × ((replay_from cs endless s at a).at ≡ at + length a)
  -- "each ended by one byte 10": so is a last line without its end
  pub bad_rest : (cs : List Card) (s : ReplayState) (at : ℕ) (a : List ℕ) (c : ℕ) (l : List ℕ) → EndsInLine a → (replay_from cs endless s at a).pause ≡ log_end
      → Lacks line_end (c ∷ l)
      → (replay_from cs endless s at (a ++ c ∷ l) ≡ ended_bad (replay_from cs endless s at a)) × ((replay_from cs endless s at a).at ≡ at + length a)
  -- a tick is taken as it stands, and every other line keeps it: a run, whatever it answers, and a change
  pub ticks : (cs : List Card) (s : ReplayState) (l : List ℕ) (t : ℕ) → log_entry_of l ≡ tick t
      → after_line cs s l ≡ goes (record { memory = s.memory; tick = t }) []
  pub tick_kept : (cs : List Card) (s s' : ReplayState) (l o : List ℕ) → after_line cs s l ≡ goes s' o → ((t : ℕ) → log_entry_of l ≡ tick t → ⊥)
      → s'.tick ≡ s.tick
  -- a replay that has only n bytes pauses between two lines, and goes on from the state and the byte left
  pub resumes : (cs : List Card) (n : ℕ) (s : ReplayState) (at : ℕ) (log : List ℕ) → let r = replay_from cs (lent n) s at log in
      r.pause ≡ full
      → replay_from cs endless s at log ≡ printed r.text (replay_from cs endless r.state r.at (drop (r.at - at) log))
  -- or it is the replay
  pub finishes : (cs : List Card) (n : ℕ) (s : ReplayState) (at : ℕ) (log : List ℕ) → let r = replay_from cs (lent n) s at log in
      (r.pause ≡ full → ⊥) → r ≡ replay_from cs endless s at log
  -- with 64 bytes lent a line is taken, or the replay is done
  pub advances : (cs : List Card) (n : ℕ) (s : ReplayState) (at : ℕ) (log : List ℕ) → let r = replay_from cs (lent n) s at log in
      line_room ≤ n → r.pause ≡ full → (at < r.at) × (r.at ≤ at + length log)
  -- the byte left lies in the log
  pub inside : (cs : List Card) (room : Room) (s : ReplayState) (at : ℕ) (log : List ℕ) → let r = replay_from cs room s at log in
      (at ≤ r.at) × (r.at ≤ at + length log)
  -- "at most 64 bytes a line": what is written lies in the bytes lent, of places that 64 bits hold
  pub fits : (cs : List Card) (n : ℕ) (s : ReplayState) (at : ℕ) (log : List ℕ) → length s.memory ≡ image_size → at + length log < 2 ^ 64
      → length (replay_from cs (lent n) s at log).text ≤ n

-- "prints for each run the lines ..", in calls: from all 0 until done they write the replay together, whatever the memory held
pub record CallTheorems : Type 0 where
  pub calls : (file log m t : List ℕ) → length m ≡ image_size → Calls file log m first_words t → t ≡ replayed file log

-- "The log may have any length": whatever pieces the reads give, and whatever is lent for the text, the program's turns print the replay
pub record WindowTheorems : Type 0 where
  -- a window larger than any good line is as good as the whole log
  pub closes : (cs : List Card) (size : ℕ) (s : ReplayState) (at : ℕ) (held log t : List ℕ) → most_line ≤ size → Windows cs size closed s at held log false t
      → t ≡ (replay_from cs endless s at (held ++ log)).text
  -- from the beginning
  pub prints : (file log t : List ℕ) (cs : List Card) → read_cards formula_answer file ≡ good cs → Windows cs window_size closed first_state 0 [] log false t
      → t ≡ replayed file log
  -- "Where a read of the log fails, the lines whose end was read are replayed, the rest is not"
  pub fails : (cs : List Card) (size : ℕ) (s : ReplayState) (at : ℕ) (held log t : List ℕ) → most_line ≤ size → Windows cs size failed s at held log false t
      → t ≡ (replay_from cs endless s at (whole_lines (held ++ log))).text
  -- a line as long as that, up to its end, is bad
  pub long_line : (l : List ℕ) → most_line ≤ to_end l → log_entry_of l ≡ bad
