-- The code of a formula in which no part is real: no instruction reads R or makes a real, so it holds only integers.
use mathlib.Core.Path.{◌≡◌, refl, sym, ap, ◌∙◌, subst}
use mathlib.Core.Bool.{Bool, true, false, not, ◌&&◌, cond}
use mathlib.Core.List.{List, [], ◌∷◌, ◌++◌}
use Prim.Native.Nat.{ℕ, zero, suc, ◌+◌}
use lib.ListN.{length}
use Rattle.values.specs.declared.Kind.{Kind}
use Rattle.values.specs.declared.Kind.TheVariants as K
use Rattle.values.specs.declared.Value.{Value}
use Rattle.values.specs.declared.Value.TheVariants as V'
use Rattle.operators.specs.Kinds.{is_int, unary_kind, unary_takes, binary_kind, binary_takes}
use Rattle.memory.specs.Cells.{bank_kind}
use Rattle.totals.specs.Totals.{total_kind, match_kind}
use Rattle.code.specs.declared.Instr.{Instr}
use Rattle.code.specs.declared.Instr.TheVariants.{PushInt, PushReal, Load, LoadIndexed, Unary, Binary, Jump, JumpIf, Tick, Since, Total, Match, Unknown}
use Rattle.grammar.specs.Tree.{Tree, literal, cell, indexed, unary, binary, logic, choice, tick, since, total, matching, tree_kind}
use Rattle.verifier.specs.Typing.{Shape, ill_typed, next, has_room, move_of}
use Rattle.verifier.specs.Accepts.{instr_at, Reached, start, onward, Accepts}
use Rattle.tree_code.specs.Code.{code_of, push, truth_tail, branch_tail, branch_tail_skip}
use Rattle.profile.specs.Parts.{real_bank, real_value, real_unary, real_total}
use Rattle.profile.proofs.Tests.{false-true, both, and, not-true}
use Rattle.profile.proofs.Integers.{int-kind, bank-int, unary_int, binary_int, total-int, match-int}
use Rattle.profile_text.specs.Trees.{integer_only}
use Rattle.profile_text.proofs.Parts.{kind-int}
use Rattle.code.specs.Reals.{reads_real, makes_real}
use Rattle.verifier.specs.Profile.{all_int, held_after, AcceptsIn}
use Rattle.profile_code.proofs.Checked.{held}
use Rattle.profile_code.proofs.Theorems.{profile-code}

-- an instruction that has nothing to do with reals
abbrev whole : Instr → Bool
whole i = not (reads_real i) && not (makes_real i)

abbrev all_whole : List Instr → Bool
all_whole [] = true
all_whole (i ∷ c) = whole i && all_whole c

join : (c d : List Instr) → all_whole c ≡ true → all_whole d ≡ true → all_whole (c ++ d) ≡ true
join [] d e f = f
join (i ∷ c) d e f = let h = both (whole i) (all_whole c) e in and (whole i) (all_whole (c ++ d)) h.0 (join c d h.1 f)

at : (c : List Instr) (p : ℕ) → all_whole c ≡ true → whole (instr_at c p) ≡ true
at [] p e = refl
at (i ∷ c) zero e = (both (whole i) (all_whole c) e).0
at (i ∷ c) (suc p) e = at c p (both (whole i) (all_whole c) e).1

-- ---- the code of a tree

push-whole : (v : Value) → not (real_value v) ≡ true → all_whole (push v ∷ []) ≡ true
push-whole (V'.Int z) e = refl
push-whole (V'.Real x) e = false-true e

truth-whole : (d : Bool) → all_whole (truth_tail d) ≡ true
truth-whole true = refl
truth-whole false = refl

tail-whole : (a b : Kind) → a ≡ K.Int → b ≡ K.Int → all_whole (branch_tail a b) ≡ true
tail-whole a b e f = rw (e, f) refl

-- a last instruction
last : (c : List Instr) (i : Instr) → all_whole c ≡ true → whole i ≡ true → all_whole (c ++ i ∷ []) ≡ true
last c i e f = join c (i ∷ []) e (and (whole i) true f refl)

-- one that reads no R and makes no real
reads_none : (b : Bool) → not b ≡ true → (not b && true) ≡ true
reads_none b e = and (not b) true e refl

code-whole : (t : Tree) → integer_only t ≡ true → all_whole (code_of t) ≡ true
unfolding code_of integer_only
code-whole (literal p v) e = push-whole v e
code-whole (cell b i) e = last [] (Load b i) refl (reads_none (real_bank b) e)
code-whole (indexed b t) e =
    let h = both (not (real_bank b)) (integer_only t) e in last (code_of t) (LoadIndexed b) (code-whole t h.1) (reads_none (real_bank b) h.0)
code-whole (unary p o t) e = let h = both (not (real_unary o)) (integer_only t) e in last (code_of t) (Unary o) (code-whole t h.1) h.0
code-whole (binary p o t u) e =
    let h = both (integer_only t) (integer_only u) e in
    join (code_of t) (code_of u ++ Binary o ∷ []) (code-whole t h.0) (last (code_of u) (Binary o) (code-whole u h.1) refl)
code-whole (logic p d t u) e =
    let h = both (integer_only t) (integer_only u) e in
    join (code_of t) (JumpIf d (length (code_of u) + 3) ∷ (code_of u ++ truth_tail d)) (code-whole t h.0)
    (join (code_of u) (truth_tail d) (code-whole u h.1) (truth-whole d))
code-whole (choice p c t u) e =
    let h = both (integer_only c) (integer_only t && integer_only u) e in
    let k = both (integer_only t) (integer_only u) h.1 in
    let rest = code_of u ++ branch_tail (tree_kind t) (tree_kind u) in
    let over = Jump (length (code_of u) + branch_tail_skip (tree_kind t) (tree_kind u)) in
    join (code_of c) (JumpIf false (length (code_of t) + 1) ∷ (code_of t ++ over ∷ rest)) (code-whole c h.0)
    (join (code_of t) (over ∷ rest) (code-whole t k.0)
    (join (code_of u) (branch_tail (tree_kind t) (tree_kind u)) (code-whole u k.1)
    (tail-whole (tree_kind t) (tree_kind u) (kind-int t k.0) (kind-int u k.1))))
code-whole tick e = refl
code-whole (since p t) e = last (code_of t) Since (code-whole t e) refl
code-whole (total p o b i n) e =
    let h = both (not (real_total o)) (not (real_bank b)) e in
    and (not (real_bank b) && not (real_total o)) true (and (not (real_bank b)) (not (real_total o)) h.1 h.0) refl
code-whole (matching p o t b i n) e =
    let h = both (integer_only t) (not (real_bank b)) e in last (code_of t) (Match o b i _) (code-whole t h.0) (reads_none (real_bank b) h.1)

-- ---- such code holds only integers

-- what an instruction leaves on integers, where it leaves a k
left : (k : Kind) (b : Bool) (s : Shape) → k ≡ K.Int → all_int s ≡ true → all_int (held_after (cond b (next (k ∷ s)) ill_typed)) ≡ true
left k true s e f = and (is_int k) (all_int s) (ap is_int e) f
left k false s e f = refl

module _ (k : Kind) (s : Shape) (e : all_int (k ∷ s) ≡ true) where
  top : k ≡ K.Int
  top = int-kind k (both (is_int k) (all_int s) e).0

  below : all_int s ≡ true
  below = (both (is_int k) (all_int s) e).1

no_reads : (i : Instr) → whole i ≡ true → reads_real i ≡ false
no_reads i g = not-true (reads_real i) (both (not (reads_real i)) (not (makes_real i)) g).0

no-makes : (i : Instr) → whole i ≡ true → makes_real i ≡ false
no-makes i g = not-true (makes_real i) (both (not (reads_real i)) (not (makes_real i)) g).1

stays : (i : Instr) (s : Shape) → whole i ≡ true → all_int s ≡ true → all_int (held_after (move_of i s)) ≡ true
unfolding move_of
stays (PushInt z) s g e = left K.Int (has_room s) s refl e
stays (PushReal x) s g e = false-true g
stays (Load b i) s g e = left (bank_kind b) (has_room s) s (bank-int b (no_reads (Load b i) g)) e
stays (LoadIndexed b) [] g e = refl
stays (LoadIndexed b) (k ∷ s) g e = left (bank_kind b) true s (bank-int b (no_reads (LoadIndexed b) g)) (below k s e)
stays (Unary o) [] g e = refl
stays (Unary o) (k ∷ s) g e = left (unary_kind o k) (unary_takes o k) s (unary_int o k (no-makes (Unary o) g) (top k s e)) (below k s e)
stays (Binary o) [] g e = refl
stays (Binary o) (k ∷ []) g e = refl
stays (Binary o) (k ∷ (j ∷ s)) g e =
    let f = below k (j ∷ s) e in left (binary_kind o j k) (binary_takes o j k) s (binary_int o j k (top j s f) (top k (j ∷ s) e)) (below j s f)
stays (Jump d) s g e = e
stays (JumpIf t d) [] g e = refl
stays (JumpIf t d) (k ∷ s) g e = below k s e
stays Tick s g e = left K.Int (has_room s) s refl e
stays Since [] g e = refl
stays Since (k ∷ s) g e = left K.Int (is_int k) s refl (below k s e)
stays (Total o b i n) s g e =
    left (total_kind o b) (has_room s) s (total-int o b (no-makes (Total o b i n) g) (no_reads (Total o b i n) g)) e
stays (Match o b i n) [] g e = refl
stays (Match o b i n) (k ∷ s) g e = left (match_kind o b) true s (match-int o b (no_reads (Match o b i n) g)) (below k s e)
stays Unknown s g e = refl

ints : (c : List Instr) → all_whole c ≡ true → (p : ℕ) (s : Shape) → Reached c p s → all_int s ≡ true
ints c g _ _ start = refl
ints c g _ _ (onward {p} {q} {s} {r} d h w) = ap all_int (sym (held w)) ∙ stays (instr_at c p) s (at c p g) (ints c g p s d)

pub compiled : (t : Tree) (k : Kind) → integer_only t ≡ true → Accepts (code_of t) k → AcceptsIn false (code_of t) K.Int
compiled t k e a =
    let g = code-whole t e in
    let b = (profile-code.checked (code_of t) k).1 (a, (ints (code_of t) g, λ p h. no_reads (instr_at (code_of t) p) (at (code_of t) p g))) in
    subst (AcceptsIn false (code_of t)) (int-kind k (both (is_int k) true (ints (code_of t) g (length (code_of t)) (k ∷ []) a.ended)).0) b
