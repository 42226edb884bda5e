-- What a line does to a case, by its key. Assumes nothing.
use mathlib.Core.Path.{◌≡◌, sym, ◌∙◌}
use mathlib.Core.Bool.{true, false}
use mathlib.Core.List.{List}
use Prim.Native.Nat.{ℕ, suc, ◌+◌, ◌-◌, ◌≤◌, ◌<◌}
use native.Mathlib.Numerals.{add-one}
use native.Mathlib.Omega.{arith}
use lib.ListN.{length, take, drop, length-drop}
use lib.Seq.{take_all}
use borrow.Author.Tests.{lt-ltb, le-ltb}
use Rattle.memory.specs.Names.{named_rule}
use Rattle.tokens.specs.Symbols.{equal_bytes}
use Rattle.lines.specs.Lines.{key_length}
use Rattle.program.specs.declared.case.Case.{Case}
use Rattle.program.specs.Cases.{target_key, expr_key, set_cell, keyed, after_line}

-- ---- by the definition
module _ (s : Case) (l : List ℕ) {k : ℕ} (e : k ≡ key_length l) where
  pub no_key : length l ≤ k → after_line s l ≡ s
  unfolding after_line
  no_key h = rw (← e, le-ltb k (length l) h)

  pub key-line : k < length l → after_line s l ≡ keyed s (take k l) (drop (suc k) l)
  unfolding after_line
  key-line h = rw (← e, lt-ltb k (length l) h)

-- ---- by the key
module _ (s : Case) (l : List ℕ) {k : ℕ} (u : (k ≡ key_length l) × (k ≤ length l)) where
  pub skipped : k ≡ length l → s ≡ after_line s l
  skipped h = sym (no_key s l u.0 (omega arith))

  module _ (h : k ≡ length l → ⊥) {v : List ℕ} (f : v ≡ drop (suc k) l) where
    opened : after_line s l ≡ keyed s (take k l) v
    opened = key-line s l u.0 (omega (arith, u.1)) ∙ rw f

    pub target_line : true ≡ equal_bytes (take k l) target_key → record { memory = s.memory; target = v; text = s.text } ≡ after_line s l
    unfolding keyed
    target_line a = sym (opened ∙ rw (← a))

    pub expr_line : false ≡ equal_bytes (take k l) target_key → true ≡ equal_bytes (take k l) expr_key
        → record { memory = s.memory; target = s.target; text = v } ≡ after_line s l
    unfolding keyed
    expr_line a b = sym (opened ∙ rw (← a, ← b))

    pub cell-line : false ≡ equal_bytes (take k l) target_key → false ≡ equal_bytes (take k l) expr_key → {m : List ℕ}
        → m ≡ set_cell s.memory v (named_rule (take k l)) → record { memory = m; target = s.target; text = s.text } ≡ after_line s l
    unfolding keyed
    cell-line a b g = sym (opened ∙ rw (← a, ← b, ← g))

-- the rest of a slice, as the code takes it
pub value_of : (l : List ℕ) (k : ℕ) → take (length l - (k + 1)) (drop (k + 1) l) ≡ drop (suc k) l
value_of l k = take_all (length l - (k + 1)) (drop (k + 1) l) (rw length-drop (omega arith)) ∙ rw add-one
