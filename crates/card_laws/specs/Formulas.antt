-- "the formula's own number, target included" (paper 02, request 6): 2 for a target that is none, else what refuses the expression, 3 to 9.
use Rattle.std.specs.Prelude.{List, ℕ, Ok, Err}
use Rattle.text.specs.Judge.{Judgement, accepted, judge}
use Rattle.text.specs.Judge as Judge
use Rattle.text.specs.Targets.{Target, to_cell, to_indexed, no_target, target_of}
use Rattle.card_laws.specs.Verdicts.{Verdict}

abbrev pub judged_expr : Judgement → Verdict
judged_expr (accepted t) = Ok tt
judged_expr (Judge.refused a p) = Err a

abbrev pub judged_target : Target → Verdict → Verdict
judged_target (to_cell b i) v = v
judged_target (to_indexed b t) v = v
judged_target no_target v = Err 2

unfoldable pub formula_answer : List ℕ → List ℕ → Verdict
formula_answer t e = judged_target (target_of t) (judged_expr (judge e))
