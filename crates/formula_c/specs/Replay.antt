-- The four words of a replay's state: the byte of the log that is next, the tick, whether it is done, and how many bytes a call wrote.
use Rattle.std.specs.Prelude.{List, [], ◌∷◌, ℕ, length, get_or}
use Rattle.log_laws.specs.Replay.{CallWords, Called}

-- those that a call is given
abbrev pub words_given : List ℕ → CallWords
words_given s = record { at = get_or s 0 0; tick = get_or s 1 0; done = get_or s 2 0 }

abbrev pub replay_words : Called → List ℕ
replay_words c = c.words.at ∷ c.words.tick ∷ c.words.done ∷ length c.text ∷ []
