-- The code of a tree, by recursion on it. A jump's number is how many instructions it skips.
use Rattle.std.specs.Prelude.{Bool, true, false, not, List, [], ◌∷◌, ◌++◌, ℕ, ◌+◌, pos, length}
use Rattle.values.specs.declared.Kind.{Kind}
use Rattle.values.specs.declared.Kind.TheVariants as K
use Rattle.values.specs.declared.Value.{Value}
use Rattle.values.specs.declared.Value.TheVariants as V'
use Rattle.operators.specs.declared.UnaryOp.TheVariants.{ToReal}
use Rattle.totals.specs.Totals.{span_of}
use Rattle.code.specs.declared.Instr.{Instr}
use Rattle.code.specs.declared.Instr.TheVariants.{PushInt, PushReal, Load, LoadIndexed, Unary, Binary, Jump, JumpIf, Tick, Since, Total, Match}
use Rattle.grammar.specs.Tree.{Tree, literal, cell, indexed, unary, binary, logic, choice, tick, since, total, matching, tree_kind}

abbrev pub push : Value → Instr
push (V'.Int z) = PushInt z
push (V'.Real x) = PushReal x

abbrev pub push_bool : Bool → Instr
push_bool true = PushInt (pos 1)
push_bool false = PushInt (pos 0)

-- after both sides of `&&` or `||`, where d decides: d if the right side's truth is d, otherwise the other
abbrev pub truth_tail : Bool → List Instr
truth_tail d = JumpIf d 2 ∷ push_bool (not d) ∷ Jump 1 ∷ push_bool d ∷ []

-- after the branches of IF, of the kinds given: what promotes an integer branch, and how many instructions the first branch skips of it
abbrev pub branch_tail : Kind → Kind → List Instr
branch_tail K.Int K.Int = []
branch_tail K.Int K.Real = Jump 1 ∷ Unary ToReal ∷ []
branch_tail K.Real K.Int = Unary ToReal ∷ []
branch_tail K.Real K.Real = []

abbrev pub branch_tail_skip : Kind → Kind → ℕ
branch_tail_skip K.Int K.Int = 0
branch_tail_skip K.Int K.Real = 1
branch_tail_skip K.Real K.Int = 1
branch_tail_skip K.Real K.Real = 0

unfoldable pub code_of : Tree → List Instr
unfolding tree_kind
code_of (literal p v) = push v ∷ []
code_of (cell b i) = Load b i ∷ []
code_of (indexed b t) = code_of t ++ LoadIndexed b ∷ []
code_of (unary p o t) = code_of t ++ Unary o ∷ []
code_of (binary p o t u) = code_of t ++ (code_of u ++ Binary o ∷ [])
code_of (logic p d t u) = code_of t ++ JumpIf d (length (code_of u) + 3) ∷ (code_of u ++ truth_tail d)
code_of (choice p c t u) =
    code_of c ++ JumpIf false (length (code_of t) + 1) ∷ (code_of t ++ Jump (length (code_of u) + branch_tail_skip (tree_kind t) (tree_kind u))
    ∷ (code_of u ++ branch_tail (tree_kind t) (tree_kind u)))
code_of tick = Tick ∷ []
code_of (since p t) = code_of t ++ Since ∷ []
code_of (total p o b i n) = Total o b i (span_of b i n) ∷ []
code_of (matching p o t b i n) = code_of t ++ Match o b i (span_of b i n) ∷ []
