-- Paper 02, Ask 9, of the replay of Ask 13: on corresponding images a log prints the same, and leaves corresponding images. proofs/Replays.antt proves the
-- record.
use Rattle.std.specs.Prelude.{◌≡◌, List, ℕ}
use Rattle.memory.specs.Layout.{packed}
use Rattle.images.specs.Bytewise.{bytewise}
use Rattle.images.specs.Conversions.{Corresponds}
use Rattle.card_laws.specs.Cards.{Card}
use Rattle.log_laws.specs.Replay.{ReplayState, Replay, Room, CallWords, Called, first_state_in, replay_from_in, replayed_in, replay_call_in}

-- s has the old image, t the packed one
pub record CorrespondingStates (s t : ReplayState) : Type 0 where
  pub memory : Corresponds s.memory t.memory
  pub tick : s.tick ≡ t.tick

pub record SameReplay (r q : Replay) : Type 0 where
  pub text : r.text ≡ q.text
  pub at : r.at ≡ q.at
  pub pause : r.pause ≡ q.pause
  pub state : CorrespondingStates r.state q.state

pub record SameCall (x y : Called) : Type 0 where
  pub words : x.words ≡ y.words
  pub text : x.text ≡ y.text
  pub memory : Corresponds x.memory y.memory

pub record SameReplays : Type 0 where
  pub lines : (cs : List Card) (room : Room) (s t : ReplayState) (at : ℕ) (log : List ℕ) → CorrespondingStates s t
      → SameReplay (replay_from_in bytewise cs room s at log) (replay_from_in packed cs room t at log)
  -- "an image of zeros" of either layout
  pub first : CorrespondingStates (first_state_in bytewise) (first_state_in packed)
  pub replayed : (file log : List ℕ) → replayed_in bytewise file log ≡ replayed_in packed file log
  -- m is an old image, n the packed one
  pub call : (file log m n : List ℕ) (k : ℕ) (c : CallWords) → Corresponds m n
      → SameCall (replay_call_in bytewise file log m k c) (replay_call_in packed file log n k c)
