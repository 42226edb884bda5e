-- `memory::names::number_below` meets its contract: the digits are the whole text, and their number is below the limit if it is below the bound.
use mathlib.Core.Path.{◌≡◌, sym, ◌∙◌}
use mathlib.Core.Bool.{true}
use native.Mathlib.Nat.{zero-add}
use native.Mathlib.Omega.{arith}
use Rattle.memory.specs.Names.{no_leading_zero}
use Rattle.memory.proofs.names.Decimals.{single, no_zero, not-digits, not-below, below}
use Rattle.memory.proofs.names.number_below.Goals as goal
use Rattle.memory.proofs.names.number_below.Goals.{else-text-eq48-via-then-text-eq48+else-text-ne1, else-text-eq48-via-else-text-eq48}

pub returns-then-d-text : goal.returns-then-d-text
returns-then-d-text c =
    rw (not-digits c.args.text.now c.args.bound (λ e. c.if-d-text.true (c.digits-d.ensures.end_value.0 ∙ zero-add _ ∙ e)))

pub returns-then-bound-n : goal.returns-then-bound-n
returns-then-bound-n c =
    let d = c.digits-d.ensures in
    rw (not-below c.args.text.now c.args.bound _ (sym (d.end_value.0 ∙ zero-add _) ∙ c.if-d-text.false) d.value_value c.requires c.if-bound-n.true)

pub returns : goal.returns
returns c =
    let ds = c.args.text.now in
    let d = c.digits-d.ensures in
    let p : no_leading_zero ds ≡ true = elim c.else-text-eq48.branch [
      | else-text-eq48-via-then-text-eq48+else-text-ne1 w ↦ single ds w.if-text-ne1.false
      | else-text-eq48-via-else-text-eq48 w ↦ no_zero ds (omega arith) w.if-text-eq48.false
    ] in
    let h = below ds c.args.bound _ (sym (d.end_value.0 ∙ zero-add _) ∙ c.if-d-text.false) d.value_value c.requires p (omega (arith, c.if-bound-n.false)) in
    rw (h.0, h.1)
