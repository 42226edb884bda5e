-- "the formulas in which no part is real" (paper 02, Ask 12), by their trees.
use Rattle.std.specs.Prelude.{Bool, true, not, ◌&&◌}
use Rattle.grammar.specs.Tree.{Tree, literal, cell, indexed, unary, binary, logic, choice, tick, since, total, matching}
use Rattle.profile.specs.Parts.{real_bank, real_value, real_unary, real_total}

unfoldable pub integer_only : Tree → Bool
integer_only (literal p v) = not (real_value v)
integer_only (cell b i) = not (real_bank b)
integer_only (indexed b t) = not (real_bank b) && integer_only t
integer_only (unary p o t) = not (real_unary o) && integer_only t
integer_only (binary p o t u) = integer_only t && integer_only u
integer_only (logic p d t u) = integer_only t && integer_only u
integer_only (choice p c t u) = integer_only c && (integer_only t && integer_only u)
integer_only tick = true
integer_only (since p t) = integer_only t
integer_only (total p o b i n) = not (real_total o) && not (real_bank b)
integer_only (matching p o t b i n) = integer_only t && not (real_bank b)
