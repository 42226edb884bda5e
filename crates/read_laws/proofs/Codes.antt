-- A formula's code reads just the formula's cells.
use mathlib.Core.Path.{◌≡◌, refl, sym, ap, ◌∙◌}
use mathlib.Core.Bool.{Bool, true, false, ◌||◌, or_assoc, or-false}
use mathlib.Core.List.{List, [], ◌∷◌, ◌++◌}
use Prim.Native.Nat.{ℕ, ◌+◌}
use lib.ListN.{length}
use Rattle.values.specs.declared.Value.{Value}
use Rattle.values.specs.declared.Value.TheVariants as Value
use Rattle.values.specs.declared.Kind.{Kind}
use Rattle.values.specs.declared.Kind.TheVariants as Kind
use Rattle.memory.specs.declared.Bank.{Bank}
use Rattle.totals.specs.Totals.{span_of}
use Rattle.grammar.specs.Tree.{Tree, literal, cell, indexed, unary, binary, logic, choice, tick, since, total, matching, tree_kind}
use Rattle.code.specs.declared.Instr.{Instr}
use Rattle.code.specs.declared.Instr.TheVariants.{LoadIndexed, Unary, Binary, Jump, JumpIf, Since, Match}
use Rattle.tree_code.specs.Code.{code_of, push, truth_tail, branch_tail, branch_tail_skip}
use Rattle.read_set.specs.Cells.{one_cell, cell_range, whole_bank, instr_cells, code_cells}
use Rattle.read_laws.specs.Formulas.{tree_cells}

module _ (b : Bank) (j : ℕ) where
  joined : (c d : List Instr) → code_cells (c ++ d) b j ≡ (code_cells c b j || code_cells d b j)
  joined [] d = refl
  joined (i ∷ c) d = ap (λ (x : Bool). instr_cells i b j || x) (joined c d) ∙ sym (or_assoc (instr_cells i b j) (code_cells c b j) (code_cells d b j))

  -- code and then what reads nothing, or an instruction
  then-nothing : (c d : List Instr) → code_cells d b j ≡ false → code_cells (c ++ d) b j ≡ code_cells c b j
  then-nothing c d e = joined c d ∙ rw e (or-false (code_cells c b j))

  pushed : (v : Value) → instr_cells (push v) b j ≡ false
  pushed (Value.Int z) = refl
  pushed (Value.Real x) = refl

  truth-tail : (d : Bool) → code_cells (truth_tail d) b j ≡ false
  truth-tail true = refl
  truth-tail false = refl

  branch-tail : (k l : Kind) → code_cells (branch_tail k l) b j ≡ false
  branch-tail Kind.Int Kind.Int = refl
  branch-tail Kind.Int Kind.Real = refl
  branch-tail Kind.Real Kind.Int = refl
  branch-tail Kind.Real Kind.Real = refl

  -- one part's cells, then what follows it
  and-then : (c d : List Instr) (x y : Bool) → code_cells c b j ≡ x → code_cells d b j ≡ y → code_cells (c ++ d) b j ≡ (x || y)
  and-then c d x y e h = joined c d ∙ rw (e, h)

  pub code-cells : (t : Tree) → code_cells (code_of t) b j ≡ tree_cells t b j
  unfolding code_of tree_cells
  code-cells (literal p v) = rw (pushed v)
  code-cells (cell c i) = or-false (one_cell c i b j)
  code-cells (indexed c t) = and-then (code_of t) (LoadIndexed c ∷ []) (tree_cells t b j) (whole_bank c b j) (code-cells t) (or-false (whole_bank c b j))
  code-cells (unary p o t) = then-nothing (code_of t) (Unary o ∷ []) refl ∙ code-cells t
  code-cells (binary p o t u) =
      and-then (code_of t) (code_of u ++ Binary o ∷ []) (tree_cells t b j) (tree_cells u b j) (code-cells t)
      (then-nothing (code_of u) (Binary o ∷ []) refl ∙ code-cells u)
  code-cells (logic p d t u) =
      and-then (code_of t) (JumpIf d (length (code_of u) + 3) ∷ (code_of u ++ truth_tail d)) (tree_cells t b j) (tree_cells u b j) (code-cells t)
      (then-nothing (code_of u) (truth_tail d) (truth-tail d) ∙ code-cells u)
  code-cells (choice p c t u) =
      let tail = branch_tail (tree_kind t) (tree_kind u) in
      let jump = Jump (length (code_of u) + branch_tail_skip (tree_kind t) (tree_kind u)) in
      and-then (code_of c) (JumpIf false (length (code_of t) + 1) ∷ (code_of t ++ jump ∷ (code_of u ++ tail))) (tree_cells c b j)
      (tree_cells t b j || tree_cells u b j)
      (code-cells c)
      (and-then (code_of t) (jump ∷ (code_of u ++ tail)) (tree_cells t b j) (tree_cells u b j) (code-cells t)
      (then-nothing (code_of u) tail (branch-tail (tree_kind t) (tree_kind u)) ∙ code-cells u))
  code-cells tick = refl
  code-cells (since p t) = then-nothing (code_of t) (Since ∷ []) refl ∙ code-cells t
  code-cells (total p o c i n) = or-false (cell_range c i (span_of c i n) b j)
  code-cells (matching p o t c i n) =
      and-then (code_of t) (Match o c i (span_of c i n) ∷ []) (tree_cells t b j) (cell_range c i (span_of c i n) b j) (code-cells t)
      (or-false (cell_range c i (span_of c i n) b j))
