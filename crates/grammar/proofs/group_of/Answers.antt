-- `group_of` meets its contract: an arm for each binary operator, and no symbol behind them is one.
use mathlib.Core.Path.{◌≡◌, refl, sym, ap, ◌∙◌}
use mathlib.Core.Bool.{Bool, true, false}
use Prim.Native.Nat.{ℕ, ◌+◌, ◌-◌, ◌≤◌}
use native.Mathlib.Omega.{arith}
use lib.Dec.{ltb}
use lib.ListN.{get_or, get_or-replicate, get_or-eq_default}
use lib.Seq.{get_or-drop}
use borrow.Author.Tests.{ltb-true, ltb-false}
use Rattle.grammar.specs.Symbols.{groups, group_number}
use Rattle.grammar.proofs.group_of.Goals as goal

others : (n : ℕ) → 20 ≤ n → 0 ≡ group_number n
unfolding group_number
others n l = go (ltb n 27) refl
  where
    go : (b : Bool) → ltb n 27 ≡ b → 0 ≡ get_or groups n 0
    go true e =
        let h = ltb-true n 27 e in
        let m : 20 + (n - 20) ≡ n = omega arith in
        sym (ap (λ (i : ℕ). get_or groups i 0) (sym m) ∙ sym (get_or-drop 20 groups (n - 20) 0) ∙ get_or-replicate 7 (n - 20) 0 0 (omega arith))
    go false e = sym (get_or-eq_default groups 0 (ltb-false n 27 e))

pub returns-in_default : goal.returns-in_default
returns-in_default c = others _ (omega arith)
