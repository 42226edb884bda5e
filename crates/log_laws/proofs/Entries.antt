-- What a line of the log can say: a cell of its bank and a pattern that it can be given, a tick of 32 bits, a card's number. Assumes nothing.
use Rattle.std.specs.Prelude.{Option, Some, None}
use mathlib.Core.Path.{◌≡◌, refl}
use mathlib.Core.Bool.{Bool, true, false, cond}
use mathlib.Core.List.{List}
use Prim.Native.Nat.{ℕ, zero, suc, ◌^◌, ◌≤◌, ◌<◌}
use native.Mathlib.Omega.{arith}
use lib.Dec.{ltb}
use lib.ListN.{length}
use Rattle.words.specs.Ascii.{ascii}
use Rattle.memory.specs.declared.Bank.{Bank}
use Rattle.memory.specs.declared.Bank.TheVariants.{R}
use Rattle.memory.specs.Layout.{layout_of}
use Rattle.memory.specs.Laws.{Bits, is_x, is_c, Holdable}
use Rattle.memory.specs.Names.{decimal_value, number_below, named_rule}
use Rattle.tokens.specs.Symbols.{equal_bytes}
use Rattle.lines.specs.Lines.{key_length, key_of, value_of}
use Rattle.lines.specs.Forms.{hex_form, cell_pattern}
use Rattle.lines.specs.Printing.{cell_text}
use Rattle.lines.specs.Laws.{patterns}
use Rattle.lines.proofs.Laws.{form-laws}
use Rattle.program.proofs.Names.{below, element-below}
use Rattle.card_laws.specs.Lines.{Field, field, wrong, rest_of_line}
use Rattle.card_laws.specs.Cards.{most_cards, card_number}
use Rattle.log_laws.specs.Log.{LogEntry, change, tick, run, bad, tick_entry, run_entry, change_entry, cell_entry, text_entry, ended_entry, log_entry_of}

pub data Within : LogEntry → Type 0 where
  of-change : {b : Bank} {i n : ℕ} → i < (layout_of b).elements → n < patterns b → Within (change b i n)
  of-tick : {t : ℕ} → t < 2 ^ 32 → Within (tick t)
  of-run : {k : ℕ} → k ≤ most_cards → Within (run k)
  of-bad : Within bad

-- such a pattern can be put into the cell
pub holdable : (b : Bank) (n : ℕ) → n < patterns b → Holdable b n
holdable b n h = record { bit = λ w. by w h }
  where
    by : {a : Bank} → Bits a → n < patterns a → n < 2
    by is_x h = h
    by is_c h = h

within-cond : (x : Bool) {a b : LogEntry} → Within a → Within b → Within (cond x a b)
within-cond true h k = h
within-cond false h k = k

within-tick : (v : List ℕ) (f : Option ℕ) → hex_form v ≡ f → Within (tick_entry f)
within-tick v (Some n) e = of-tick (form-laws.below R v n e)
within-tick v None e = of-bad

within-run : (k : ℕ) → k ≤ most_cards → Within (run_entry k)
within-run zero h = of-bad
within-run (suc k) h = of-run h

most : (v : List ℕ) → card_number v ≤ most_cards
unfolding card_number
most v = by (number_below 65 v) refl
  where
    by : (x : Bool) → number_below 65 v ≡ x → cond x (decimal_value v) 0 ≤ most_cards
    by true e = omega (arith, below 65 v e)
    by false e = omega arith

within-change : (b : Bank) (i : ℕ) (v : List ℕ) (f : Option ℕ) → i < (layout_of b).elements → cell_pattern b v ≡ f → Within (change_entry b i v f)
within-change b i v (Some n) h e = within-cond (equal_bytes v (cell_text b n)) (of-change h (form-laws.below b v n e)) of-bad
within-change b i v None h e = of-bad

within-cell : (key v : List ℕ) (x : (Option (Bank × ℕ))) → named_rule key ≡ x → Within (cell_entry v x)
within-cell key v (Some (b, i)) e = within-change b i v (cell_pattern b v) (element-below key e) refl
within-cell key v None e = of-bad

pub text-within : (l : List ℕ) → Within (text_entry l)
text-within l =
    within-cond (ltb (key_length l) (length l))
    (within-cond (equal_bytes (key_of l) (ascii "tick")) (within-tick (value_of l) (hex_form (value_of l)) refl)
    (within-cond (equal_bytes (key_of l) (ascii "run")) (within-run (card_number (value_of l)) (most (value_of l)))
    (within-cell (key_of l) (value_of l) (named_rule (key_of l)) refl)))
    of-bad

pub line-within : (l : List ℕ) → Within (log_entry_of l)
unfolding log_entry_of
line-within l = by (rest_of_line l)
  where
    by : (f : Field) → Within (ended_entry f)
    by (field v r) = text-within v
    by wrong = of-bad
