-- Where no part is real every kind is Int, so nothing but a count can be wrong with the tree.
use mathlib.Core.Path.{◌≡◌, refl, sym, ap, ◌∙◌, subst}
use mathlib.Core.Bool.{Bool, true, false, not, ◌&&◌, cond}
use Prim.Native.Nat.{ℕ}
use Rattle.values.specs.declared.Kind.{Kind}
use Rattle.values.specs.declared.Kind.TheVariants as K
use Rattle.values.specs.Values.{kind_of}
use Rattle.operators.specs.declared.UnaryOp.{UnaryOp}
use Rattle.operators.specs.declared.UnaryOp.TheVariants as U
use Rattle.operators.specs.declared.BinaryOp.{BinaryOp}
use Rattle.operators.specs.declared.BinaryOp.TheVariants as B
use Rattle.operators.specs.Kinds.{is_int, unary_takes, binary_takes}
use Rattle.totals.specs.Totals.{good_count}
use Rattle.grammar.specs.Tree.{Tree, literal, cell, indexed, unary, binary, logic, choice, tick, since, total, matching, tree_kind, Diagnostic, clear}
use Rattle.grammar.specs.Tree.{at, precedes, earlier, unless, wrong_kind_at, wrong_count_at, diagnostic_of}
use Rattle.profile.specs.Parts.{real_bank, real_value, real_unary, real_total}
use Rattle.profile.proofs.Tests.{both, not-true}
use Rattle.profile.proofs.Integers.{is-int, bank-int, join-int, unary_int, binary_int, total-int, match-int}
use Rattle.profile_text.specs.Trees.{integer_only}
use Rattle.profile_text.specs.Theorems as Theorems
use Rattle.profile_text.specs.Theorems.{PartOf}

-- ---- kinds
pub kind-int : (t : Tree) → integer_only t ≡ true → tree_kind t ≡ K.Int
unfolding integer_only tree_kind
kind-int (literal p v) e = is-int (kind_of v) (not-true (real_value v) e)
kind-int (cell b i) e = bank-int b (not-true (real_bank b) e)
kind-int (indexed b t) e = bank-int b (not-true (real_bank b) (both (not (real_bank b)) (integer_only t) e).0)
kind-int (unary p o t) e =
    let h = both (not (real_unary o)) (integer_only t) e in unary_int o (tree_kind t) (not-true (real_unary o) h.0) (kind-int t h.1)
kind-int (binary p o t u) e = let h = both (integer_only t) (integer_only u) e in binary_int o (tree_kind t) (tree_kind u) (kind-int t h.0) (kind-int u h.1)
kind-int (logic p d t u) e = refl
kind-int (choice p c t u) e =
    let h = both (integer_only t) (integer_only u) (both (integer_only c) (integer_only t && integer_only u) e).1 in
    join-int (tree_kind t) (tree_kind u) (kind-int t h.0) (kind-int u h.1)
kind-int tick e = refl
kind-int (since p t) e = refl
kind-int (total p o b i n) e =
    let h = both (not (real_total o)) (not (real_bank b)) e in total-int o b (not-true (real_total o) h.0) (not-true (real_bank b) h.1)
kind-int (matching p o t b i n) e = match-int o b (not-true (real_bank b) (both (integer_only t) (not (real_bank b)) e).1)

-- ---- parts
pub part-only : {u t : Tree} → PartOf u t → integer_only t ≡ true → integer_only u ≡ true
unfolding integer_only
part-only Theorems.all e = e
part-only (Theorems.index {b} {t} h) e = part-only h (both (not (real_bank b)) (integer_only t) e).1
part-only (Theorems.operand {o = o} {t = t} h) e = part-only h (both (not (real_unary o)) (integer_only t) e).1
part-only (Theorems.left {t = t} {v = v} h) e = part-only h (both (integer_only t) (integer_only v) e).0
part-only (Theorems.right {t = t} {v = v} h) e = part-only h (both (integer_only t) (integer_only v) e).1
part-only (Theorems.decides {t = t} {v = v} h) e = part-only h (both (integer_only t) (integer_only v) e).0
part-only (Theorems.otherwise {t = t} {v = v} h) e = part-only h (both (integer_only t) (integer_only v) e).1
part-only (Theorems.condition {c = c} {t = t} {v = v} h) e = part-only h (both (integer_only c) (integer_only t && integer_only v) e).0
part-only (Theorems.if_true {c = c} {t = t} {v = v} h) e =
    part-only h (both (integer_only t) (integer_only v) (both (integer_only c) (integer_only t && integer_only v) e).1).0
part-only (Theorems.if_false {c = c} {t = t} {v = v} h) e =
    part-only h (both (integer_only t) (integer_only v) (both (integer_only c) (integer_only t && integer_only v) e).1).1
part-only (Theorems.moment h) e = part-only h e
part-only (Theorems.compared {t = t} {b = b} h) e = part-only h (both (integer_only t) (not (real_bank b)) e).0

-- ---- what can be wrong with such a tree
data OnlySix : Diagnostic → Type 0 where
  nothing : OnlySix clear
  count : {p a : ℕ} → a ≡ 6 → OnlySix (at p a)

six-cond : {x y : Diagnostic} (b : Bool) → OnlySix x → OnlySix y → OnlySix (cond b x y)
six-cond true h k = h
six-cond false h k = k

six-earlier : (x y : Diagnostic) → OnlySix x → OnlySix y → OnlySix (earlier x y)
six-earlier clear y h k = k
six-earlier (at p a) clear h k = h
six-earlier (at p a) (at q b) h k = six-cond (precedes p a q b) h k

-- an operand of the right kind
six-kind : (b : Bool) (p : ℕ) → b ≡ true → OnlySix (unless b (wrong_kind_at p))
six-kind b p e = subst (λ (x : Bool). OnlySix (unless x (wrong_kind_at p))) (sym e) nothing

six-count : (b : Bool) (p : ℕ) → OnlySix (unless b (wrong_count_at p))
six-count true p = nothing
six-count false p = count refl

unary-takes : (o : UnaryOp) → unary_takes o K.Int ≡ true
unary-takes U.Neg = refl
unary-takes U.Complement = refl
unary-takes U.Not = refl
unary-takes U.Abs = refl
unary-takes U.ToReal = refl
unary-takes U.Trunc = refl
unary-takes U.Round = refl
unary-takes U.Frac = refl

binary-takes : (o : BinaryOp) → binary_takes o K.Int K.Int ≡ true
binary-takes (B.Arith o) = refl
binary-takes B.Power = refl
binary-takes (B.Shift o) = refl
binary-takes (B.Compare o) = refl
binary-takes (B.Bits o) = refl
binary-takes (B.Choice o) = refl

unary-right : (o : UnaryOp) (t : Tree) → integer_only t ≡ true → unary_takes o (tree_kind t) ≡ true
unary-right o t e = ap (unary_takes o) (kind-int t e) ∙ unary-takes o

binary-right : (o : BinaryOp) (t u : Tree) → integer_only t ≡ true → integer_only u ≡ true → binary_takes o (tree_kind t) (tree_kind u) ≡ true
binary-right o t u e f = ap (λ (k : Kind). binary_takes o k (tree_kind u)) (kind-int t e) ∙ ap (binary_takes o K.Int) (kind-int u f) ∙ binary-takes o

only-six : (t : Tree) → integer_only t ≡ true → OnlySix (diagnostic_of t)
unfolding integer_only diagnostic_of
only-six (literal p v) e = nothing
only-six (cell b i) e = nothing
only-six (indexed b t) e = only-six t (both (not (real_bank b)) (integer_only t) e).1
only-six (unary p o t) e =
    let h = (both (not (real_unary o)) (integer_only t) e).1 in
    six-earlier _ _ (six-kind (unary_takes o (tree_kind t)) p (unary-right o t h)) (only-six t h)
only-six (binary p o t u) e =
    let h = both (integer_only t) (integer_only u) e in
    six-earlier _ _ (six-kind (binary_takes o (tree_kind t) (tree_kind u)) p (binary-right o t u h.0 h.1))
    (six-earlier _ _ (only-six t h.0) (only-six u h.1))
only-six (logic p d t u) e = let h = both (integer_only t) (integer_only u) e in six-earlier _ _ (only-six t h.0) (only-six u h.1)
only-six (choice p c t u) e =
    let h = both (integer_only c) (integer_only t && integer_only u) e in
    let k = both (integer_only t) (integer_only u) h.1 in
    six-earlier _ _ (only-six c h.0) (six-earlier _ _ (only-six t k.0) (only-six u k.1))
only-six tick e = nothing
only-six (since p t) e = six-earlier _ _ (six-kind (is_int (tree_kind t)) p (ap is_int (kind-int t e))) (only-six t e)
only-six (total p o b i n) e = six-count (good_count b i n) p
only-six (matching p o t b i n) e = six-earlier _ _ (six-count (good_count b i n) p) (only-six t (both (integer_only t) (not (real_bank b)) e).0)

pub late_six : (t : Tree) (p a : ℕ) → integer_only t ≡ true → diagnostic_of t ≡ at p a → a ≡ 6
late_six t p a e d = go (subst OnlySix d (only-six t e))
  where
    go : OnlySix (at p a) → a ≡ 6
    go (count i) = i
