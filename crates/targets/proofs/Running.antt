-- The target of a run: a text of one byte is a bank letter or nothing, since a cell's name is longer.
use Rattle.std.specs.Prelude.{Option, Some, None}
use mathlib.Core.Path.{◌≡◌, refl, sym, ap, ◌∙◌}
use mathlib.Core.List.{List, [], ◌∷◌}
use Prim.Native.Nat.{ℕ}
use native.Mathlib.Omega.{arith}
use lib.ListN.{length, get_or}
use Rattle.memory.specs.declared.Bank.{Bank}
use Rattle.memory.specs.Names.{letter_bank, cell_after_letter, named_rule, storable, target_rule}
use Rattle.text.specs.Targets.{stored_bank}
use Rattle.targets.specs.Found.{by_letter, by_name, found_to_run}

pub lettered : (k : ℕ) (s : List ℕ) {l : (Option Bank)} → length s ≡ 1 → stored_bank (letter_bank (get_or s 0 0)) ≡ l → by_letter k l ≡ found_to_run k s
lettered k [] h e = absurd (omega arith)
lettered k (c ∷ []) h e = ap (by_letter k) (sym e)
lettered k (c ∷ d ∷ s) h e = absurd (omega arith)

-- no letter alone names a cell
letter-alone : (l : Option Bank) → storable (cell_after_letter [] l) ≡ None
letter-alone (Some b) = refl
letter-alone None = refl

pub one_byte : (c : ℕ) → target_rule (c ∷ []) ≡ None
unfolding named_rule
one_byte c = letter-alone (letter_bank c)

no_bytes : target_rule [] ≡ None
unfolding named_rule
no_bytes = refl

pub named : (k : ℕ) (s : List ℕ) {x : (Option (Bank × ℕ))} → (length s ≡ 1 → ⊥) → target_rule s ≡ x → by_name x ≡ found_to_run k s
named k [] h e = ap by_name (sym e ∙ no_bytes)
named k (c ∷ []) h e = absurd (h refl)
named k (c ∷ d ∷ s) h e = ap by_name (sym e)
