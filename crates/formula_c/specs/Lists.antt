-- The 41 words of a list that was run: the operation's own answer, then "forty answers".
use Rattle.std.specs.Prelude.{List, ◌∷◌, ℕ}
use Rattle.list_laws.specs.Running.{ListRun}

abbrev pub list_words : ListRun → List ℕ
list_words r = r.answer ∷ r.answers
