-- From what was read and written of a tree's parts to what was read and written of the tree: each law mirrors its clause of `code_of`.
use mathlib.Core.Path.{◌≡◌, refl, sym, ap, ap₂, ◌∙◌}
use mathlib.Core.Bool.{Bool, true, false, cond}
use mathlib.Core.List.{List}
use Prim.Native.Nat.{ℕ, suc, ◌+◌, ◌-◌}
use native.Mathlib.Nat.{add-zero}
use native.Mathlib.Numerals.{add-one}
use native.Mathlib.Omega.{arith}
use lib.Dec.{eqb, ltb}
use lib.IntN.{ℤ}
use lib.ListN.{length}
use Rattle.values.specs.declared.Kind.{Kind}
use Rattle.values.specs.declared.Kind.TheVariants as K
use Rattle.operators.specs.declared.UnaryOp.{UnaryOp}
use Rattle.operators.specs.declared.BinaryOp.{BinaryOp}
use Rattle.operators.specs.Kinds.{is_int, join, unary_kind, unary_takes, binary_kind, binary_takes}
use Rattle.memory.specs.declared.Bank.{Bank}
use Rattle.memory.specs.Cells.{bank_kind}
use Rattle.totals.specs.declared.TotalOp.{TotalOp}
use Rattle.totals.specs.declared.MatchOp.{MatchOp}
use Rattle.totals.specs.Totals.{total_kind, match_kind, good_count, span_of}
use Rattle.grammar.specs.Tree.{Tree, indexed, unary, binary, logic, choice, tick, since, total, matching, tree_kind, diagnostic_of, Diagnostic, clear}
use Rattle.grammar.specs.Tree.{earlier, unless, wrong_kind_at, wrong_count_at}
use Rattle.grammar.specs.Symbols.{infix_tree}
use Rattle.code.specs.declared.Instr.{Instr}
use Rattle.code.specs.declared.Instr.TheVariants.{LoadIndexed, Unary, Binary, Jump, JumpIf, Tick, Since, Total, Match}
use Rattle.tree_code.specs.Code.{code_of, truth_tail, branch_tail_skip, branch_tail}
use Rattle.draft.specs.private.Words.{binary_at}
use Rattle.draft.specs.private.Draft.{put_instr, put_code, reserved, settled_code, joined_code, joined_end, infix_kind, infix_wrong, chosen_code}
use Rattle.compiler.specs.private.Reading.{DraftHolds}
use Rattle.draft.proofs.Putting.{Lies, lies-add, lies-then, lies-filled}

lies : {pc : ℕ} {o o' : List ℕ} {e : ℕ} {k : Kind} {w : Diagnostic} {t : Tree} → DraftHolds pc o o' e k w t → Lies (code_of t) pc e o o'
lies m = record { ends = m.ends; code = m.code }

made : {pc : ℕ} {o o' : List ℕ} {e : ℕ} {k : Kind} {w : Diagnostic} {t : Tree} → tree_kind t ≡ k → diagnostic_of t ≡ w → Lies (code_of t) pc e o o'
    → DraftHolds pc o o' e k w t
made k w l = record { kind = k; wrong = w; ends = l.ends; code = l.code }

-- ---- one instruction
pub means-tick : {pc : ℕ} {o o' : List ℕ} → o' ≡ put_instr o pc Tick → DraftHolds pc o o' (pc + 1) K.Int clear tick
unfolding code_of tree_kind diagnostic_of
means-tick q = made refl refl (lies-add Tick q)

pub means-total : {pc : ℕ} {o o' : List ℕ} (p : ℕ) (a : TotalOp) (b : Bank) (i : ℕ) (z : ℤ) → o' ≡ put_instr o pc (Total a b i (span_of b i z))
    → DraftHolds pc o o' (pc + 1) (total_kind a b) (unless (good_count b i z) (wrong_count_at p)) (total p a b i z)
unfolding code_of tree_kind diagnostic_of
means-total p a b i z q = made refl refl (lies-add (Total a b i (span_of b i z)) q)

-- ---- one instruction more
module _ {pc : ℕ} {o o₁ o₂ : List ℕ} {e : ℕ} {k : Kind} {w : Diagnostic} {t : Tree} (m : DraftHolds pc o o₁ e k w t) where
  pub means-indexed : (b : Bank) → o₂ ≡ put_instr o₁ e (LoadIndexed b) → DraftHolds pc o o₂ (e + 1) (bank_kind b) w (indexed b t)
  unfolding code_of tree_kind diagnostic_of
  means-indexed b q = made refl m.wrong (lies-then (lies m) (lies-add (LoadIndexed b) q))

  pub means-unary : (p : ℕ) (a : UnaryOp) → o₂ ≡ put_instr o₁ e (Unary a)
      → DraftHolds pc o o₂ (e + 1) (unary_kind a k) (earlier (unless (unary_takes a k) (wrong_kind_at p)) w) (unary p a t)
  unfolding code_of tree_kind diagnostic_of
  means-unary p a q =
      made (ap (unary_kind a) m.kind) (ap₂ (λ (x : Kind) (y : Diagnostic). earlier (unless (unary_takes a x) (wrong_kind_at p)) y) m.kind m.wrong)
      (lies-then (lies m) (lies-add (Unary a) q))

  pub means-since : (p : ℕ) → o₂ ≡ put_instr o₁ e Since → DraftHolds pc o o₂ (e + 1) K.Int (earlier (unless (is_int k) (wrong_kind_at p)) w) (since p t)
  unfolding code_of tree_kind diagnostic_of
  means-since p q =
      made refl (ap₂ (λ (x : Kind) (y : Diagnostic). earlier (unless (is_int x) (wrong_kind_at p)) y) m.kind m.wrong) (lies-then (lies m) (lies-add Since q))

  pub means-matching : (p : ℕ) (a : MatchOp) (b : Bank) (i : ℕ) (z : ℤ) → o₂ ≡ put_instr o₁ e (Match a b i (span_of b i z))
      → DraftHolds pc o o₂ (e + 1) (match_kind a b) (earlier (unless (good_count b i z) (wrong_count_at p)) w) (matching p a t b i z)
  unfolding code_of tree_kind diagnostic_of
  means-matching p a b i z q =
      made refl (ap (λ (x : Diagnostic). earlier (unless (good_count b i z) (wrong_count_at p)) x) m.wrong)
      (lies-then (lies m) (lies-add (Match a b i (span_of b i z)) q))

-- ---- two sides
module _ {pc : ℕ} {o o₁ o₂ o₃ : List ℕ} {e e' : ℕ} {k k' : Kind} {w w' : Diagnostic} {t u : Tree} (m : DraftHolds pc o o₁ e k w t) where
  pub means-binary : (p : ℕ) (a : BinaryOp) → DraftHolds e o₁ o₂ e' k' w' u → o₃ ≡ put_instr o₂ e' (Binary a)
      → DraftHolds pc o o₃ (e' + 1) (binary_kind a k k') (earlier (unless (binary_takes a k k') (wrong_kind_at p)) (earlier w w')) (binary p a t u)
  unfolding code_of tree_kind diagnostic_of
  means-binary p a n q =
      made (ap₂ (binary_kind a) m.kind n.kind)
      (ap₂ earlier (ap₂ (λ (x : Kind) (y : Kind). unless (binary_takes a x y) (wrong_kind_at p)) m.kind n.kind) (ap₂ earlier m.wrong n.wrong))
      (lies-then (lies m) (lies-then (lies n) (lies-add (Binary a) q)))

  means-logic : (p : ℕ) (d : Bool) → DraftHolds (suc e) o₁ o₂ e' k' w' u → o₃ ≡ settled_code o₂ e e' d
      → DraftHolds pc o o₃ (e' + 4) K.Int (earlier w w') (logic p d t u)
  unfolding code_of tree_kind diagnostic_of
  means-logic p d n q =
      let c : e' - suc e ≡ length (code_of u) = omega (arith, n.ends) in
      let b : Lies (truth_tail d) e' (e' + 4) (put_instr o₂ e (JumpIf d (length (code_of u) + 3))) o₃ =
      record { ends = refl; code = q ∙ ap (λ x. put_code (put_instr o₂ e (JumpIf d (x + 3))) e' (truth_tail d)) c } in
      made refl (ap₂ earlier m.wrong n.wrong) (lies-then (lies m) (lies-then (lies-filled (JumpIf d (length (code_of u) + 3)) (lies n) refl) b))

  pub means-infix : (n p : ℕ) → DraftHolds (e + reserved n) o₁ o₂ e' k' w' u → o₃ ≡ joined_code o₂ n e e'
      → DraftHolds pc o o₃ (joined_end n e') (infix_kind n k k') (earlier (infix_wrong n p k k') (earlier w w')) (infix_tree n p t u)
  means-infix n p = by (ltb n 18)
    where
      op : BinaryOp
      op = binary_at n

      by : (b : Bool) → DraftHolds (e + cond b 0 1) o₁ o₂ e' k' w' u → o₃ ≡ cond b (put_instr o₂ e' (Binary op)) (settled_code o₂ e e' (eqb n 19))
          → DraftHolds pc o o₃ (e' + cond b 1 4) (cond b (binary_kind op k k') K.Int)
          (earlier (cond b (unless (binary_takes op k k') (wrong_kind_at p)) clear) (earlier w w')) (cond b (binary p op t u) (logic p (eqb n 19) t u))
      by true h q = means-binary p op (rw add-zero at h) q
      by false h q = means-logic p (eqb n 19) (rw add-one at h) q

-- ---- the branches of IF: c ends at i, t at j and u at e
pub means-choice : {pc : ℕ} {o o₁ o₂ o₃ o₄ o₅ : List ℕ} {i j e : ℕ} {a b k : Kind} {w v x : Diagnostic} {c t u : Tree} (p : ℕ) → DraftHolds pc o o₁ i k w c
    → DraftHolds (i + 1) o₁ o₂ j a v t
    → o₃ ≡ put_instr o₂ i (JumpIf false (j - i)) → DraftHolds (j + 1) o₃ o₄ e b x u → o₅ ≡ chosen_code o₄ j e a b
    → DraftHolds pc o o₅ (e + length (branch_tail a b)) (join a b) (earlier w (earlier v x)) (choice p c t u)
unfolding code_of tree_kind diagnostic_of
means-choice {o₄ = o₄} {o₅ = o₅} {i = i} {j = j} {e = e} {a = a} {b = b} {t = t} {u = u} p hc ht q hu r =
    let n : j - i ≡ length (code_of t) + 1 = omega (arith, ht.ends) in
    let m : e - suc j ≡ length (code_of u) = omega (arith, hu.ends) in
    let g : Instr = Jump (length (code_of u) + branch_tail_skip (tree_kind t) (tree_kind u)) in
    let l : Lies (branch_tail (tree_kind t) (tree_kind u)) e (e + length (branch_tail a b)) (put_instr o₄ j g) o₅ =
    record { ends = rw (ht.kind, hu.kind); code = rw (m, sym ht.kind, sym hu.kind) at r } in
    made (ap₂ join ht.kind hu.kind)
    (ap₂ earlier hc.wrong (ap₂ earlier ht.wrong hu.wrong))
    (lies-then (lies hc) (lies-then (lies-filled (JumpIf false (length (code_of t) + 1)) (lies (rw add-one at ht)) (rw n at q))
    (lies-then (lies-filled g (lies (rw add-one at hu)) refl) l)))
