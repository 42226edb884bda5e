-- A log of any length, read through a window (paper 02, request 13): what has its line end in the window is played with its place in the whole log, and the
-- rest is kept for the next read.
use Rattle.std.specs.Prelude.{◌≡◌, Bool, true, false, cond, List, [], ◌∷◌, ◌++◌, ℕ, zero, suc, ◌-◌, ◌≤◌, eqb, ltb, length, take, drop}
use Rattle.card_laws.specs.Lines.{line_end}
use Rattle.card_laws.specs.Cards.{Card}
use Rattle.log_laws.specs.Replay.{ReplayState, full, log_end, bad_line, Replay, lent, line_room, replay_from}

-- more than any good line has: the longest is a cell of D, with its end 17
abbrev pub most_line : ℕ
most_line = 32

-- the program's window
abbrev pub window_size : ℕ
window_size = 65536

-- how many bytes stand up to the last line end, and with it: a byte before so many
abbrev pub one_before : ℕ → ℕ → ℕ
one_before c zero = cond (eqb c line_end) 1 0
one_before c (suc k) = suc (suc k)

abbrev pub through_last_end : List ℕ → ℕ
through_last_end [] = 0
through_last_end (c ∷ cs) = one_before c (through_last_end cs)

abbrev pub whole_lines : List ℕ → List ℕ
whole_lines s = take (through_last_end s) s

-- of the bytes held in a window, how many are played: "each piece up to the window's last byte 10"; a rest without one is a bad line "only if it fills the
-- window or a read has answered 0"
abbrev pub playable_of : ℕ → ℕ → ℕ → ℕ
playable_of size n zero = cond (ltb n size) 0 n
playable_of size n (suc k) = suc k

abbrev pub playable : ℕ → Bool → List ℕ → ℕ
playable size last held = cond last (length held) (playable_of size (length held) (through_last_end held))

-- a turn of the program: these bytes are replayed, from a state and a byte of the log, with n bytes lent for what is printed
abbrev pub turn : List Card → ℕ → ℕ → Bool → ReplayState → ℕ → List ℕ → Replay
turn cs size n last s at held = replay_from cs (lent n) s at (take (playable size last held) held)

-- with 64 bytes lent, or more
pub record TurnTo (cs : List Card) (size : ℕ) (last : Bool) (s : ReplayState) (at : ℕ) (held : List ℕ) (r : Replay) : Type 0 where
  pub room : ℕ
  pub enough : line_room ≤ room
  pub is : r ≡ turn cs size room last s at held

-- what is kept in the window: all behind the lines that were taken
abbrev pub kept_bytes : ℕ → Replay → List ℕ → List ℕ
kept_bytes at r held = drop (r.at - at) held

-- how the reading of a log ended: at its end or at a bad line, or a read failed
pub data Ending : Type 0 where
  closed : Ending
  failed : Ending

-- turns and reads, until the replay is over or a read fails; `log` is what will be read, `last` that a read has answered 0, and the last index what the
-- turns print, one behind the other
pub data Windows (cs : List Card) (size : ℕ) : Ending → ReplayState → ℕ → List ℕ → List ℕ → Bool → List ℕ → Type 0 where
  -- no room for a further line: what was printed is written out
  again : {e : Ending} {s : ReplayState} {at : ℕ} {held log : List ℕ} {last : Bool} {t : List ℕ} (r : Replay) → TurnTo cs size last s at held r
      → r.pause ≡ full → Windows cs size e r.state r.at (kept_bytes at r held) log last t → Windows cs size e s at held log last (r.text ++ t)
  bad-line : {s : ReplayState} {at : ℕ} {held log : List ℕ} {last : Bool} (r : Replay) → TurnTo cs size last s at held r
      → r.pause ≡ bad_line → Windows cs size closed s at held log last r.text
  -- a read of some bytes, of none, and one that fails
  some_read : {e : Ending} {s : ReplayState} {at : ℕ} {held log t : List ℕ} (r : Replay) (piece : List ℕ) → TurnTo cs size false s at held r
      → r.pause ≡ log_end → Windows cs size e r.state r.at (kept_bytes at r held ++ piece) log false t
      → Windows cs size e s at held (piece ++ log) false (r.text ++ t)
  none_read : {e : Ending} {s : ReplayState} {at : ℕ} {held t : List ℕ} (r : Replay) → TurnTo cs size false s at held r
      → r.pause ≡ log_end → Windows cs size e r.state r.at (kept_bytes at r held) [] true t → Windows cs size e s at held [] false (r.text ++ t)
  not_read : {s : ReplayState} {at : ℕ} {held : List ℕ} (r : Replay) → TurnTo cs size false s at held r
      → r.pause ≡ log_end → Windows cs size failed s at held [] false r.text
  over : {s : ReplayState} {at : ℕ} {held : List ℕ} (r : Replay) → TurnTo cs size true s at held r
      → r.pause ≡ log_end → Windows cs size closed s at held [] true r.text
