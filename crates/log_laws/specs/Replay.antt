-- Replaying a night (paper 02, request 13): "A replay takes the book of Ask 6, starts from an image of zeros and tick 0, and prints for each run the lines that
-- document 01's program prints."
use Rattle.std.specs.Prelude.{Bool, false, cond, List, [], ◌∷◌, ◌++◌, ℕ, ◌+◌, ◌-◌, ◌%◌, ◌^◌, eqb, ltb, length, drop}
use Rattle.words.specs.Ascii.{ascii}
use Rattle.memory.specs.Layout.{ImageLayout, packed}
use Rattle.delivery.specs.declared.Answer.TheVariants.{Refused}
use Rattle.operations.specs.Operations.{report_of, Request, request_in, request_answer_in, request_memory_in}
use Rattle.lines.specs.Printing.{decimal_text}
use Rattle.program.specs.Cases.{zeros}
use Rattle.program.specs.Reply.{report_text, answer_text_in}
use Rattle.card_laws.specs.Lines.{ended}
use Rattle.card_laws.specs.Cards.{Card, card}
use Rattle.card_laws.specs.Reading.{CardsRead, good, bad, read_cards}
use Rattle.card_laws.specs.Formulas.{formula_answer}
use Rattle.log_laws.specs.Log.{LogEntry, change, tick, run, log_lines, log_entry_of}
use Rattle.log_laws.specs.Log as Log

-- "an image" and a tick
pub record ReplayState : Type 0 where
  pub memory : List ℕ
  pub tick : ℕ

-- after a line: the state and what is printed; or the line is bad
pub data AfterLine : Type 0 where
  goes : ReplayState → List ℕ → AfterLine
  stops : AfterLine

-- target and expression of a card
pub data FoundCard : Type 0 where
  found : List ℕ → List ℕ → FoundCard
  lacks : FoundCard

abbrev pub card_of : ℕ → List Card → FoundCard
card_of k [] = lacks
card_of k (card n t e ∷ cs) = cond (eqb n k) (found t e) (card_of k cs)

-- why a replay pauses: no room for a further line, the log's end, a bad line
pub data Pause : Type 0 where
  full : Pause
  log_end : Pause
  bad_line : Pause

-- what was printed, the state that is left, the first byte that was not taken, and why
pub record Replay : Type 0 where
  pub text : List ℕ
  pub state : ReplayState
  pub at : ℕ
  pub pause : Pause

abbrev pub printed : List ℕ → Replay → Replay
printed o r = record { text = o ++ r.text; state = r.state; at = r.at; pause = r.pause }

-- the bytes lent for what is printed; the replay itself has room for all
pub data Room : Type 0 where
  lent : ℕ → Room
  endless : Room

-- more than any line prints: what it prints is known only after it was run
abbrev pub line_room : ℕ
line_room = 64

abbrev pub is_full : Room → Bool
is_full (lent n) = ltb n line_room
is_full endless = false

abbrev pub without : List ℕ → Room → Room
without o (lent n) = lent (n - length o)
without o endless = endless

-- the two lines of a refusal
abbrev pub refusal_lines : ℕ → ℕ → List ℕ
refusal_lines a p = report_text (report_of (Refused a p))

-- "16 for a bad line, its first byte as place, which ends the replay there"
abbrev pub onward : ReplayState → ℕ → AfterLine → (ReplayState → List ℕ → Replay) → Replay
onward s at (goes s' o) rest = printed o (rest s' o)
onward s at stops rest = record { text = refusal_lines 16 at; state = s; at = at; pause = bad_line }

-- ---- a replay in calls, each with a memory and some bytes lent; the words are all 0 at first
pub record CallWords : Type 0 where
  pub at : ℕ
  pub tick : ℕ
  pub done : ℕ

-- what a call leaves in the words and in the memory, and what it writes
pub record Called : Type 0 where
  pub words : CallWords
  pub memory : List ℕ
  pub text : List ℕ

abbrev pub is_over : Pause → ℕ
is_over full = 0
is_over log_end = 1
is_over bad_line = 1

abbrev pub done_at : CallWords → CallWords
done_at c = record { at = c.at; tick = c.tick; done = 1 }

abbrev pub after_replay : Replay → Called
after_replay r = record { words = record { at = r.at; tick = r.state.tick; done = is_over r.pause }; memory = r.state.memory; text = r.text }

-- ---- on an image of any layout
module _ (F : ImageLayout) where
  -- "starts from an image of zeros and tick 0"
  abbrev pub first_state_in : ReplayState
  first_state_in = record { memory = zeros F.size; tick = 0 }

  -- "prints for each run the lines that document 01's program prints"
  abbrev pub after_request_in : ReplayState → Request → AfterLine
  after_request_in s q =
      let m = request_memory_in F s.tick s.memory q in
      goes (record { memory = m; tick = s.tick }) (answer_text_in F m (request_answer_in F s.tick s.memory q))

  -- "a card that the book lacks is skipped and printed as `unknown=` and its number"
  abbrev pub after_run_in : ℕ → ReplayState → FoundCard → AfterLine
  after_run_in k s (found t e) = after_request_in s (request_in F t e s.memory (zeros 16384) (zeros 16384))
  after_run_in k s lacks = goes s (ended (ascii "unknown=" ++ decimal_text k) [])

  -- a change puts its pattern into the cell; a tick is kept until the next
  abbrev pub after_entry_in : List Card → ReplayState → LogEntry → AfterLine
  after_entry_in cs s (change b i n) = goes (record { memory = F.put s.memory b i n; tick = s.tick }) []
  after_entry_in cs s (tick t) = goes (record { memory = s.memory; tick = t }) []
  after_entry_in cs s (run k) = after_run_in k s (card_of k cs)
  after_entry_in cs s Log.bad = stops

  unfoldable pub after_line_in : List Card → ReplayState → List ℕ → AfterLine
  after_line_in cs s l = after_entry_in cs s (log_entry_of l)

  -- line after line, from the byte `at` of the log
  abbrev pub replay_lines_in : List Card → Room → ReplayState → ℕ → List (List ℕ) → Replay
  replay_lines_in cs room s at [] = record { text = []; state = s; at = at; pause = log_end }
  replay_lines_in cs room s at (l ∷ ls) =
      cond (is_full room) (record { text = []; state = s; at = at; pause = full })
      (onward s at (after_line_in cs s l) (λ s' o. replay_lines_in cs (without o room) s' (at + length l) ls))

  abbrev pub replay_from_in : List Card → Room → ReplayState → ℕ → List ℕ → Replay
  replay_from_in cs room s at log = replay_lines_in cs room s at (log_lines log)

  -- "a refused book prints its answer and place, and nothing is replayed"
  abbrev pub replayed_with_in : List ℕ → CardsRead → List ℕ
  replayed_with_in log (good cs) = (replay_from_in cs endless first_state_in 0 log).text
  replayed_with_in log (bad a p) = refusal_lines a p

  abbrev pub replayed_in : List ℕ → List ℕ → List ℕ
  replayed_in file log = replayed_with_in log (read_cards formula_answer file)

  -- in a call: zeros where no line was taken yet, whatever the memory holds; of the tick the low 32 bits count
  abbrev pub state_at_in : List ℕ → CallWords → ReplayState
  state_at_in m c = cond (eqb c.at 0) first_state_in (record { memory = m; tick = c.tick % 2 ^ 32 })

  abbrev pub called_with_in : List ℕ → List ℕ → ℕ → CallWords → CardsRead → Called
  called_with_in log m n c (good cs) = after_replay (replay_from_in cs (lent n) (state_at_in m c) c.at (drop c.at log))
  called_with_in log m n c (bad a p) = record { words = done_at c; memory = m; text = refusal_lines a p }

  -- over already; too few bytes lent; a memory of another size is 1; a refused file; then the lines
  abbrev pub replay_call_in : List ℕ → List ℕ → List ℕ → ℕ → CallWords → Called
  replay_call_in file log m n c =
      cond (ltb 0 c.done) (record { words = done_at c; memory = m; text = [] })
      (cond (ltb n line_room) (record { words = c; memory = m; text = [] })
      (cond (eqb (length m) F.size) (called_with_in log m n c (read_cards formula_answer file))
      (record { words = done_at c; memory = m; text = refusal_lines 1 0 })))

-- ---- on the box's image
abbrev pub first_state : ReplayState
first_state = first_state_in packed

abbrev pub after_request : ReplayState → Request → AfterLine
after_request = after_request_in packed

abbrev pub after_run : ℕ → ReplayState → FoundCard → AfterLine
after_run = after_run_in packed

abbrev pub after_entry : List Card → ReplayState → LogEntry → AfterLine
after_entry = after_entry_in packed

abbrev pub after_line : List Card → ReplayState → List ℕ → AfterLine
after_line = after_line_in packed

abbrev pub replay_lines : List Card → Room → ReplayState → ℕ → List (List ℕ) → Replay
replay_lines = replay_lines_in packed

abbrev pub replay_from : List Card → Room → ReplayState → ℕ → List ℕ → Replay
replay_from = replay_from_in packed

abbrev pub replayed_with : List ℕ → CardsRead → List ℕ
replayed_with = replayed_with_in packed

abbrev pub replayed : List ℕ → List ℕ → List ℕ
replayed = replayed_in packed

abbrev pub state_at : List ℕ → CallWords → ReplayState
state_at = state_at_in packed

abbrev pub called_with : List ℕ → List ℕ → ℕ → CallWords → CardsRead → Called
called_with = called_with_in packed

abbrev pub replay_call : List ℕ → List ℕ → List ℕ → ℕ → CallWords → Called
replay_call = replay_call_in packed
