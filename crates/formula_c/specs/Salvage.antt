-- The three words of a salvage: the answer, and how many bytes of each output were written.
use Rattle.std.specs.Prelude.{List, [], ◌∷◌, ℕ, length}
use Rattle.salvage_laws.specs.Salvage.{Salvage, rescued, unfit}

abbrev pub salvage_words : Salvage → List ℕ
salvage_words (rescued k n) = 0 ∷ length k ∷ length n ∷ []
salvage_words unfit = 10 ∷ 0 ∷ 0 ∷ []
