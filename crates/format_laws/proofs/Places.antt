-- What does not look at places: the kind of a tree, its worth, its code, whether it is faultless, and the operator at its top.
use mathlib.Core.Path.{◌≡◌, refl, sym, ap, ◌∙◌}
use mathlib.Core.Bool.{Bool, true, false, ◌&&◌, cond}
use mathlib.Core.List.{List, [], ◌∷◌, ◌++◌}
use Prim.Native.Nat.{ℕ, ◌+◌}
use lib.ListN.{length}
use Rattle.values.specs.declared.Kind.{Kind}
use Rattle.values.specs.declared.Outcome.{Outcome}
use Rattle.values.specs.declared.Outcome.TheVariants.{Done}
use Rattle.operators.specs.Kinds.{is_int, join, unary_kind, unary_takes, binary_kind, binary_takes}
use Rattle.operators.specs.Operators.{unary_rule, since_rule, binary_rule, truth_rule, branch_rule}
use Rattle.memory.specs.Environment.{Environment, indexed_cell}
use Rattle.totals.specs.Totals.{then, match_over, span_of, good_count}
use Rattle.grammar.specs.Tree.{Tree, literal, cell, indexed, unary, binary, logic, choice, tick, since, total, matching, tree_kind, Diagnostic, clear}
use Rattle.grammar.specs.Tree.{at, precedes, earlier, unless, diagnostic_of}
use Rattle.grammar.specs.Eval.{short_circuit, eval}
use Rattle.code.specs.declared.Instr.{Instr}
use Rattle.code.specs.declared.Instr.TheVariants.{LoadIndexed, Unary, Binary, JumpIf, Jump, Since, Match}
use Rattle.tree_code.specs.Code.{truth_tail, branch_tail, branch_tail_skip, code_of}
use Rattle.format_laws.specs.Formatted.{top, without_places}

pub top-placeless : (t : Tree) → top (without_places t) ≡ top t
unfolding without_places
top-placeless (literal p v) = refl
top-placeless (cell b i) = refl
top-placeless (indexed b t) = refl
top-placeless (unary p o t) = refl
top-placeless (binary p o t u) = refl
top-placeless (logic p d t u) = refl
top-placeless (choice p c t u) = refl
top-placeless tick = refl
top-placeless (since p t) = refl
top-placeless (total p o b i n) = refl
top-placeless (matching p o t b i n) = refl

-- ---- kind
pub kind-placeless : (t : Tree) → tree_kind (without_places t) ≡ tree_kind t
unfolding tree_kind without_places
kind-placeless (literal p v) = refl
kind-placeless (cell b i) = refl
kind-placeless (indexed b t) = refl
kind-placeless (unary p o t) = ap (unary_kind o) (kind-placeless t)
kind-placeless (binary p o t u) = ap (λ k. binary_kind o k (tree_kind (without_places u))) (kind-placeless t) ∙ ap (binary_kind o (tree_kind t)) (kind-placeless u)
kind-placeless (logic p d t u) = refl
kind-placeless (choice p c t u) = ap (λ k. join k (tree_kind (without_places u))) (kind-placeless t) ∙ ap (join (tree_kind t)) (kind-placeless u)
kind-placeless tick = refl
kind-placeless (since p t) = refl
kind-placeless (total p o b i n) = refl
kind-placeless (matching p o t b i n) = refl

-- ---- worth
-- the outcome of IF from those of its parts and the kinds of its branches
abbrev chosen : Outcome → Outcome → Outcome → Kind → Kind → Outcome
chosen c x y k l = then c (λ v. cond (truth_rule v) (then x (λ w. Done (branch_rule w l))) (then y (λ w. Done (branch_rule w k))))

pub worth-placeless : (E : Environment) (t : Tree) → eval E (without_places t) ≡ eval E t
unfolding eval without_places
worth-placeless E (literal p v) = refl
worth-placeless E (cell b i) = refl
worth-placeless E (indexed b t) = ap (λ x. then x (λ v. indexed_cell E b v)) (worth-placeless E t)
worth-placeless E (unary p o t) = ap (λ x. then x (λ v. unary_rule o v)) (worth-placeless E t)
worth-placeless E (binary p o t u) =
    ap (λ x. then x (λ v. then (eval E (without_places u)) (λ w. binary_rule o v w))) (worth-placeless E t)
    ∙ ap (λ y. then (eval E t) (λ v. then y (λ w. binary_rule o v w))) (worth-placeless E u)
worth-placeless E (logic p d t u) =
    ap (λ x. then x (λ v. short_circuit d (truth_rule v) (eval E (without_places u)))) (worth-placeless E t)
    ∙ ap (λ y. then (eval E t) (λ v. short_circuit d (truth_rule v) y)) (worth-placeless E u)
worth-placeless E (choice p c t u) =
    ap (λ x. chosen x (eval E (without_places t)) (eval E (without_places u)) (tree_kind (without_places t)) (tree_kind (without_places u))) (worth-placeless E c)
    ∙ ap (λ x. chosen (eval E c) x (eval E (without_places u)) (tree_kind (without_places t)) (tree_kind (without_places u))) (worth-placeless E t)
    ∙ ap (λ x. chosen (eval E c) (eval E t) x (tree_kind (without_places t)) (tree_kind (without_places u))) (worth-placeless E u)
    ∙ ap (λ k. chosen (eval E c) (eval E t) (eval E u) k (tree_kind (without_places u))) (kind-placeless t)
    ∙ ap (λ k. chosen (eval E c) (eval E t) (eval E u) (tree_kind t) k) (kind-placeless u)
worth-placeless E tick = refl
worth-placeless E (since p t) = ap (λ x. then x (λ v. since_rule E.tick v)) (worth-placeless E t)
worth-placeless E (total p o b i n) = refl
worth-placeless E (matching p o t b i n) = ap (λ x. then x (λ v. (match_over E o v b i (span_of b i n)).result)) (worth-placeless E t)

-- ---- code
abbrev chosen_code : List Instr → List Instr → List Instr → Kind → Kind → List Instr
chosen_code c x y k l = c ++ JumpIf false (length x + 1) ∷ (x ++ Jump (length y + branch_tail_skip k l) ∷ (y ++ branch_tail k l))

pub code-placeless : (t : Tree) → code_of (without_places t) ≡ code_of t
unfolding code_of without_places
code-placeless (literal p v) = refl
code-placeless (cell b i) = refl
code-placeless (indexed b t) = ap (λ x. x ++ LoadIndexed b ∷ []) (code-placeless t)
code-placeless (unary p o t) = ap (λ x. x ++ Unary o ∷ []) (code-placeless t)
code-placeless (binary p o t u) =
    ap (λ x. x ++ (code_of (without_places u) ++ Binary o ∷ [])) (code-placeless t) ∙ ap (λ y. code_of t ++ (y ++ Binary o ∷ [])) (code-placeless u)
code-placeless (logic p d t u) =
    ap (λ x. x ++ JumpIf d (length (code_of (without_places u)) + 3) ∷ (code_of (without_places u) ++ truth_tail d)) (code-placeless t)
    ∙ ap (λ y. code_of t ++ JumpIf d (length y + 3) ∷ (y ++ truth_tail d)) (code-placeless u)
code-placeless (choice p c t u) =
    ap (λ x. chosen_code x (code_of (without_places t)) (code_of (without_places u)) (tree_kind (without_places t)) (tree_kind (without_places u))) (code-placeless c)
    ∙ ap (λ x. chosen_code (code_of c) x (code_of (without_places u)) (tree_kind (without_places t)) (tree_kind (without_places u))) (code-placeless t)
    ∙ ap (λ x. chosen_code (code_of c) (code_of t) x (tree_kind (without_places t)) (tree_kind (without_places u))) (code-placeless u)
    ∙ ap (λ k. chosen_code (code_of c) (code_of t) (code_of u) k (tree_kind (without_places u))) (kind-placeless t)
    ∙ ap (λ k. chosen_code (code_of c) (code_of t) (code_of u) (tree_kind t) k) (kind-placeless u)
code-placeless tick = refl
code-placeless (since p t) = ap (λ x. x ++ Since ∷ []) (code-placeless t)
code-placeless (total p o b i n) = refl
code-placeless (matching p o t b i n) = ap (λ x. x ++ Match o b i (span_of b i n) ∷ []) (code-placeless t)

-- ---- faults of the text that the tree shows
abbrev pub is_clear : Diagnostic → Bool
is_clear clear = true
is_clear (at p a) = false

clear-cond : (b : Bool) (p a q c : ℕ) → is_clear (cond b (at p a) (at q c)) ≡ false
clear-cond true p a q c = refl
clear-cond false p a q c = refl

clear-earlier : (x y : Diagnostic) → is_clear (earlier x y) ≡ (is_clear x && is_clear y)
clear-earlier clear y = refl
clear-earlier (at p a) clear = refl
clear-earlier (at p a) (at q b) = clear-cond (precedes p a q b) p a q b

clear-unless : (b : Bool) (p a : ℕ) → is_clear (unless b (at p a)) ≡ b
clear-unless true p a = refl
clear-unless false p a = refl

-- a fault of the node itself, and what follows
node-clear : (a b : Bool) (p q c : ℕ) (x y : Diagnostic) → a ≡ b → is_clear x ≡ is_clear y
    → is_clear (earlier (unless a (at p c)) x) ≡ is_clear (earlier (unless b (at q c)) y)
node-clear a b p q c x y e f =
    clear-earlier (unless a (at p c)) x ∙ ap (λ z. z && is_clear x) (clear-unless a p c ∙ e) ∙ ap (λ z. b && z) f
    ∙ ap (λ z. z && is_clear y) (sym (clear-unless b q c)) ∙ sym (clear-earlier (unless b (at q c)) y)

both-clear : (x x' y y' : Diagnostic) → is_clear x ≡ is_clear x' → is_clear y ≡ is_clear y' → is_clear (earlier x y) ≡ is_clear (earlier x' y')
both-clear x x' y y' e f = clear-earlier x y ∙ ap (λ z. z && is_clear y) e ∙ ap (λ z. is_clear x' && z) f ∙ sym (clear-earlier x' y')

clear-placeless : (t : Tree) → is_clear (diagnostic_of (without_places t)) ≡ is_clear (diagnostic_of t)
unfolding diagnostic_of without_places
clear-placeless (literal p v) = refl
clear-placeless (cell b i) = refl
clear-placeless (indexed b t) = clear-placeless t
clear-placeless (unary p o t) =
    node-clear (unary_takes o (tree_kind (without_places t))) (unary_takes o (tree_kind t)) 0 p 9 (diagnostic_of (without_places t)) (diagnostic_of t)
    (ap (unary_takes o) (kind-placeless t)) (clear-placeless t)
clear-placeless (binary p o t u) =
    node-clear (binary_takes o (tree_kind (without_places t)) (tree_kind (without_places u))) (binary_takes o (tree_kind t) (tree_kind u)) 0 p 9
    (earlier (diagnostic_of (without_places t)) (diagnostic_of (without_places u))) (earlier (diagnostic_of t) (diagnostic_of u))
    (ap (λ k. binary_takes o k (tree_kind (without_places u))) (kind-placeless t) ∙ ap (binary_takes o (tree_kind t)) (kind-placeless u))
    (both-clear (diagnostic_of (without_places t)) (diagnostic_of t) (diagnostic_of (without_places u)) (diagnostic_of u) (clear-placeless t) (clear-placeless u))
clear-placeless (logic p d t u) =
    both-clear (diagnostic_of (without_places t)) (diagnostic_of t) (diagnostic_of (without_places u)) (diagnostic_of u) (clear-placeless t) (clear-placeless u)
clear-placeless (choice p c t u) =
    both-clear (diagnostic_of (without_places c)) (diagnostic_of c) (earlier (diagnostic_of (without_places t)) (diagnostic_of (without_places u)))
    (earlier (diagnostic_of t) (diagnostic_of u)) (clear-placeless c)
    (both-clear (diagnostic_of (without_places t)) (diagnostic_of t) (diagnostic_of (without_places u)) (diagnostic_of u) (clear-placeless t) (clear-placeless u))
clear-placeless tick = refl
clear-placeless (since p t) =
    node-clear (is_int (tree_kind (without_places t))) (is_int (tree_kind t)) 0 p 9 (diagnostic_of (without_places t)) (diagnostic_of t) (ap is_int (kind-placeless t))
    (clear-placeless t)
clear-placeless (total p o b i n) = clear-unless (good_count b i n) 0 6 ∙ sym (clear-unless (good_count b i n) p 6)
clear-placeless (matching p o t b i n) =
    node-clear (good_count b i n) (good_count b i n) 0 p 6 (diagnostic_of (without_places t)) (diagnostic_of t) refl (clear-placeless t)

is-clear : (x : Diagnostic) → is_clear x ≡ true → x ≡ clear
is-clear clear e = refl
is-clear (at p a) e = cc

pub faultless-placeless : (t u : Tree) → without_places t ≡ without_places u → diagnostic_of u ≡ clear → diagnostic_of t ≡ clear
faultless-placeless t u e f =
    is-clear (diagnostic_of t) (sym (clear-placeless t) ∙ ap (λ x. is_clear (diagnostic_of x)) e ∙ clear-placeless u ∙ ap is_clear f)
