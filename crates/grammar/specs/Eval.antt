-- The value of a tree (paper 01: "The rules give the value of the whole tree, or the first fault met in working it out"): left to right, "`&&` and `||`
-- skip the right side where the left decides; IF works out only the chosen branch". "TICKms(), the tick handed in by the caller as a 32-bit pattern, .. the
-- same throughout" (paper 02, Ask 13). Over an environment: whatever a memory holds, at any tick.
use Rattle.std.specs.Prelude.{Bool, cond}
use Rattle.std.specs.Bool.{beq}
use Rattle.values.specs.declared.Value.TheVariants.{Int}
use Rattle.values.specs.declared.Outcome.{Outcome}
use Rattle.values.specs.declared.Outcome.TheVariants.{Done}
use Rattle.values.specs.Patterns.{signed_of}
use Rattle.operators.specs.Operators.{unary_rule, since_rule, binary_rule, truth_rule, from_bool, branch_rule}
use Rattle.memory.specs.Environment.{Environment, indexed_cell}
use Rattle.totals.specs.Totals.{then, total_over, match_over, span_of}
use Rattle.grammar.specs.Tree.{Tree, literal, cell, indexed, unary, binary, logic, choice, tick, since, total, matching, tree_kind}

-- the left side's truth is l, and d decides: then it is the result, and otherwise the right side's truth
abbrev pub short_circuit : Bool → Bool → Outcome → Outcome
short_circuit d l r = cond (beq l d) (Done (from_bool d)) (then r (λ v. Done (from_bool (truth_rule v))))

unfoldable pub eval : Environment → Tree → Outcome
unfolding tree_kind total_over match_over
eval E (literal p v) = Done v
eval E (cell b i) = E.cell b i
eval E (indexed b t) = then (eval E t) (λ v. indexed_cell E b v)
eval E (unary p o t) = then (eval E t) (λ v. unary_rule o v)
eval E (binary p o t u) = then (eval E t) (λ v. then (eval E u) (λ w. binary_rule o v w))
eval E (logic p d t u) = then (eval E t) (λ v. short_circuit d (truth_rule v) (eval E u))
eval E (choice p c t u) =
    then (eval E c)
    (λ v. cond (truth_rule v) (then (eval E t) (λ w. Done (branch_rule w (tree_kind u)))) (then (eval E u) (λ w. Done (branch_rule w (tree_kind t)))))
eval E tick = Done (Int (signed_of 32 E.tick))
eval E (since p t) = then (eval E t) (λ v. since_rule E.tick v)
eval E (total p o b i n) = (total_over E o b i (span_of b i n)).result
eval E (matching p o t b i n) = then (eval E t) (λ v. (match_over E o v b i (span_of b i n)).result)
