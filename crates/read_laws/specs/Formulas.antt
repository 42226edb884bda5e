-- Which cells a formula reads (paper 02, Ask 11): "every cell named, every cell of a range, and the whole bank for an index". Both sides of `&&` and `||` and
-- both branches of IF count, whether or not they would run: the list is of the text, not of one run. TICKms and SINCE read no cell.
use Rattle.totals.specs.Totals.{span_of}
use Rattle.grammar.specs.Tree.{Tree, literal, cell, indexed, unary, binary, logic, choice, tick, since, total, matching}
use Rattle.text.specs.Targets.{Target, to_cell, to_indexed, no_target}
use Rattle.read_set.specs.Cells.{Cells, nothing, one_cell, cell_range, whole_bank, union}

unfoldable pub tree_cells : Tree → Cells
tree_cells (literal p v) = nothing
tree_cells (cell b i) = one_cell b i
tree_cells (indexed b t) = union (tree_cells t) (whole_bank b)
tree_cells (unary p o t) = tree_cells t
tree_cells (binary p o t u) = union (tree_cells t) (tree_cells u)
tree_cells (logic p d t u) = union (tree_cells t) (tree_cells u)
tree_cells (choice p c t u) = union (tree_cells c) (union (tree_cells t) (tree_cells u))
tree_cells tick = nothing
tree_cells (since p t) = tree_cells t
tree_cells (total p o b i n) = cell_range b i (span_of b i n)
tree_cells (matching p o t b i n) = union (tree_cells t) (cell_range b i (span_of b i n))

-- "For a stored run the target's own index counts as read." The cell or the bank stored to is written, not read
abbrev pub target_cells : Target → Cells
target_cells (to_cell b i) = nothing
target_cells (to_indexed b t) = tree_cells t
target_cells no_target = nothing
