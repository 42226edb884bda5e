-- `memory::cells::signed_cell` meets its contract: half the range, added around its end and taken off again, is 65536 less from 32768 on.
use mathlib.Core.Path.{◌≡◌, refl, sym, ap, ◌∙◌, subst}
use mathlib.Core.Bool.{Bool, true, false}
use Prim.Native.Nat.{ℕ, ◌+◌, ◌%◌, ◌-◌, ◌<◌}
use native.Mathlib.Omega.{arith}
use lib.Dec.{ltb}
use lib.IntN.{ℤ, pos, neg_ℤ, ◌+ℤ◌, ◌-ℤ◌, pos-+ℤ-pos, +ℤ_assoc, neg_ℤ-+ℤ, +ℤ-neg_ℤ_cancel}
use borrow.Author.Tests.{ltb-true, ltb-false}
use mir.Syntax.{w32}
use mir.Val.{SFits, to_z}
use mir.ValLaws.{to_z_pos, to_z-of_z}
use Rattle.values.specs.declared.Value.TheVariants.{Int}
use Rattle.values.specs.declared.Outcome.TheVariants.{Done}
use Rattle.values.specs.Patterns.{signed_of}
use Rattle.values.proofs.patterns.Readings.{signed-mag}
use Rattle.values.proofs.Laws.{pattern-laws}
use Rattle.memory.proofs.cells.signed_cell.Goals as goal

both-less : (m h : ℕ) → pos (m + h) -ℤ pos (h + h) ≡ pos m -ℤ pos h
both-less m h =
    ap (λ (z : ℤ). z -ℤ pos (h + h)) (sym (pos-+ℤ-pos m h)) ∙ ap (λ (z : ℤ). pos m +ℤ pos h -ℤ z) (sym (pos-+ℤ-pos h h))
    ∙ ap (λ (z : ℤ). pos m +ℤ pos h +ℤ z) (neg_ℤ-+ℤ (pos h) (pos h)) ∙ sym (+ℤ_assoc (pos m +ℤ pos h) (neg_ℤ (pos h)) (neg_ℤ (pos h)))
    ∙ ap (λ (z : ℤ). z -ℤ pos h) (+ℤ-neg_ℤ_cancel (pos m) (pos h))

added-less : (m h : ℕ) → pos (m + h) -ℤ pos h ≡ pos m
added-less m h = ap (λ (z : ℤ). z -ℤ pos h) (sym (pos-+ℤ-pos m h)) ∙ +ℤ-neg_ℤ_cancel (pos m) (pos h)

turned : (n : ℕ) → n < 65536 → to_z w32 ((n + 32768) % 65536) -ℤ pos 32768 ≡ signed_of 16 n
turned n l = by (ltb n 32768) refl
  where
    by : (t : Bool) → ltb n 32768 ≡ t → to_z w32 ((n + 32768) % 65536) -ℤ pos 32768 ≡ signed_of 16 n
    by true e =
        let h = ltb-true n 32768 e in
        let q : (n + 32768) % 65536 ≡ n + 32768 = omega arith in
        ap (λ (z : ℤ). z -ℤ pos 32768) (ap (to_z w32) q ∙ to_z_pos w32 (n + 32768) (omega arith)) ∙ added-less n 32768
        ∙ sym (pattern-laws.signed_clear 16 n h)
    by false e =
        let h = ltb-false n 32768 e in
        let q : (n + 32768) % 65536 ≡ n - 32768 = omega arith in
        let m : n - 32768 + 32768 ≡ n = omega arith in
        ap (λ (z : ℤ). z -ℤ pos 32768) (ap (to_z w32) q ∙ to_z_pos w32 (n - 32768) (omega arith)) ∙ sym (both-less (n - 32768) 32768)
        ∙ ap (λ (j : ℕ). pos j -ℤ pos 65536) m ∙ sym (pattern-laws.signed_set 16 n h l)

turned-fits : (n : ℕ) → n < 65536 → SFits w32 (to_z w32 ((n + 32768) % 65536) -ℤ pos 32768)
turned-fits n l = subst (SFits w32) (sym (turned n l)) (record { sfits = omega (arith, signed-mag 16 n (omega arith) l) })

pub overflow_add-turned : goal.overflow_add-turned
overflow_add-turned c = omega (arith, c.requires)

pub overflow_cast-result : goal.overflow_cast-result
overflow_cast-result c = omega (arith, c.requires)

pub overflow_sub-result : goal.overflow_sub-result
overflow_sub-result c = turned-fits c.args.n c.requires

pub returns : goal.returns
returns c = ap (λ (z : ℤ). Done (Int z)) (to_z-of_z w32 _ (turned-fits c.args.n c.requires) ∙ turned c.args.n c.requires)
