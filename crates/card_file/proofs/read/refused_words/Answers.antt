-- `read::refused_words` meets its contract.
use Rattle.card_file.specs.Words.{read_words}
use lib.Seq.{sets}
use Prim.Native.Nat.{ℕ}
use mathlib.Core.List.{List, [], ◌∷◌}
use mathlib.Core.Path.{ap}
use Rattle.card_file.proofs.read.refused_words.Goals as goal

pub returns : goal.returns
unfolding read_words
returns c = ap (λ (l : List ℕ). sets l 0 (c.args.answer ∷ c.args.place ∷ [])) c.no_words-words.ensures.1
