-- What a line says, by the ways that its key and its value can come out. Assumes nothing.
use mathlib.Core.Path.{◌≡◌, refl, sym, ap, subst, ◌∙◌}
use mathlib.Core.Bool.{Bool, true, false, cond}
use mathlib.Core.List.{List}
use Prim.Native.Nat.{ℕ, zero, suc, ◌^◌, ◌≤◌, ◌<◌}
use native.Mathlib.Omega.{arith}
use lib.Dec.{ltb}
use lib.ListN.{length, take, drop}
use borrow.Author.Tests.{lt-ltb, le-ltb}
use Rattle.std.specs.Prelude.{Option, Some, None}
use Rattle.words.specs.Ascii.{ascii}
use Rattle.memory.specs.declared.Bank.{Bank}
use Rattle.memory.specs.declared.Bank.TheVariants.{X, C, «V», N, D, R}
use Rattle.memory.specs.Layout.{layout_of}
use Rattle.memory.specs.Laws.{Holdable}
use Rattle.memory.specs.Names.{named_rule}
use Rattle.tokens.specs.Symbols.{equal_bytes}
use Rattle.lines.specs.Lines.{key_length}
use Rattle.lines.specs.Forms.{hex_form, cell_pattern}
use Rattle.lines.specs.Printing.{cell_text}
use Rattle.lines.specs.Laws.{patterns}
use Rattle.lines.proofs.Laws.{form-laws}
use Rattle.card_laws.specs.Cards.{card_number}
use Rattle.log_laws.specs.Log.{LogEntry, change, tick, run, bad, tick_entry, run_entry, change_entry, cell_entry, keyed_entry, text_entry}
use Rattle.log_laws.proofs.Entries.{Within, of-change, of-bad, holdable, text-within}
use Rattle.log_lines.specs.declared.entry.Entry.{Entry}
use Rattle.log_lines.specs.declared.entry.Entry.TheVariants.{Change, Run}
use Rattle.log_lines.specs.private.Steps.{entry_in, EntryInside}

pub tick_is : (v : List ℕ) {f : (Option ℕ)} → f ≡ hex_form v → entry_in (tick_entry f) ≡ entry_in (tick_entry (hex_form v))
tick_is v e = ap (λ (x : (Option ℕ)). entry_in (tick_entry x)) e

pub run_none : (v : List ℕ) {k : ℕ} → k ≡ card_number v → k ≡ 0 → None ≡ entry_in (run_entry (card_number v))
run_none v e z = ap (λ (n : ℕ). entry_in (run_entry n)) (sym z ∙ e)

pub run_is : (v : List ℕ) (k : ℕ) → k ≡ card_number v → (k ≡ 0 → ⊥) → Some (Run k) ≡ entry_in (run_entry (card_number v))
run_is v zero e h = absurd (h refl)
run_is v (suc k) e h = ap (λ (n : ℕ). entry_in (run_entry n)) e

-- ---- a change
module _ (b : Bank) (i : ℕ) (v : List ℕ) where
  pub no-form : None ≡ cell_pattern b v → None ≡ entry_in (change_entry b i v (cell_pattern b v))
  no-form e = ap (λ (f : (Option ℕ)). entry_in (change_entry b i v f)) e

  pub change-by : (x : Bool) {n : ℕ} {t : List ℕ} → Some n ≡ cell_pattern b v → t ≡ cell_text b n → x ≡ equal_bytes v t
      → entry_in (cond x (change b i n) bad) ≡ entry_in (change_entry b i v (cell_pattern b v))
  change-by x {n} {t} e p q =
      ap (λ (y : Bool). entry_in (cond y (change b i n) bad)) (q ∙ ap (equal_bytes v) p) ∙ ap (λ (f : (Option ℕ)). entry_in (change_entry b i v f)) e

to-width : (b : Bank) (n : ℕ) → n < patterns b → n < 256 ^ (layout_of b).width
to-width X n h = omega arith
to-width C n h = omega arith
to-width «V» n h = omega arith
to-width N n h = omega arith
to-width D n h = omega arith
to-width R n h = omega arith

pub wide : (b : Bank) (v : List ℕ) (n : ℕ) → Some n ≡ cell_pattern b v → n < 256 ^ (layout_of b).width
wide b v n e = to-width b n (form-laws.below b v n (sym e))

-- ---- a line
module _ (l : List ℕ) {k : ℕ} (e : k ≡ key_length l) where
  pub no_key : length l ≤ k → None ≡ entry_in (text_entry l)
  no_key h = rw (← e, le-ltb k (length l) h)

  module _ (h : k < length l) {v : List ℕ} (f : v ≡ drop (suc k) l) where
    keyed : keyed_entry (take k l) v ≡ text_entry l
    keyed = sym (rw (← e, lt-ltb k (length l) h, f))

    pub tick-line : true ≡ equal_bytes (take k l) (ascii "tick") → {r : Option Entry} → r ≡ entry_in (tick_entry (hex_form v)) → r ≡ entry_in (text_entry l)
    tick-line a q =
        q ∙ ap (λ (x : Bool). entry_in
        (cond x (tick_entry (hex_form v)) (cond (equal_bytes (take k l) (ascii "run")) (run_entry (card_number v)) (cell_entry v (named_rule (take k l)))))) a
        ∙ ap entry_in keyed

    module _ (a : false ≡ equal_bytes (take k l) (ascii "tick")) where
      other : {x : LogEntry} → x ≡ cond (equal_bytes (take k l) (ascii "run")) (run_entry (card_number v)) (cell_entry v (named_rule (take k l)))
          → entry_in x ≡ entry_in (text_entry l)
      other q =
          ap entry_in (q
          ∙ ap (λ (x : Bool). cond x (tick_entry (hex_form v))
          (cond (equal_bytes (take k l) (ascii "run")) (run_entry (card_number v)) (cell_entry v (named_rule (take k l))))) a
          ∙ keyed)

      pub run-line : true ≡ equal_bytes (take k l) (ascii "run") → {r : Option Entry} → r ≡ entry_in (run_entry (card_number v)) → r ≡ entry_in (text_entry l)
      run-line b q = q ∙ other (ap (λ (x : Bool). cond x (run_entry (card_number v)) (cell_entry v (named_rule (take k l)))) b)

      pub cell-line : false ≡ equal_bytes (take k l) (ascii "run") → {n : (Option (Bank × ℕ))} → n ≡ named_rule (take k l) → {r : Option Entry} → r ≡ entry_in (cell_entry v n)
          → r ≡ entry_in (text_entry l)
      cell-line b g q =
          q ∙ ap (λ (n : (Option (Bank × ℕ))). entry_in (cell_entry v n)) g
          ∙ other (ap (λ (x : Bool). cond x (run_entry (card_number v)) (cell_entry v (named_rule (take k l)))) b)

-- ---- the cell of a change is one of its bank, and can hold its pattern
vacuous : {x : Option Entry} → ((b : Bank) (i n : ℕ) → x ≡ Some (Change b i n) → ⊥) → EntryInside x
vacuous h = record { inside = λ {b = b} {i = i} {n = n} e. absurd (h b i n e); holds = λ {b = b} {i = i} {n = n} e. absurd (h b i n e) }

inside_of : (e : LogEntry) → Within e → EntryInside (entry_in e)
inside_of (change b i n) (of-change h k) =
    record {
      inside =
          λ {b = c} {i = j} {n = m} e.
          let same-bank : b ≡ c = cc in
          let same-element : i ≡ j = cc in
          subst (λ (d : Bank). j < (layout_of d).elements) same-bank (subst (λ (a : ℕ). a < (layout_of b).elements) same-element h);
      holds =
          λ {b = c} {i = j} {n = m} e.
          let same-bank : b ≡ c = cc in
          let same-pattern : n ≡ m = cc in
          subst (λ (d : Bank). Holdable d m) same-bank (subst (Holdable b) same-pattern (holdable b n k));
    }
inside_of (tick t) w = vacuous (λ b i m e. let z : ◌≡◌ {A = ℕ} 0 1 = cc in absurd (omega arith))
inside_of (run k) w = vacuous (λ b i m e. let z : ◌≡◌ {A = ℕ} 0 1 = cc in absurd (omega arith))
inside_of bad w = vacuous (λ b i m e. let z : ◌≡◌ {A = ℕ} 0 1 = cc in absurd (omega arith))

pub inside_too : (l : List ℕ) {r : Option Entry} → r ≡ entry_in (text_entry l) → (r ≡ entry_in (text_entry l)) × EntryInside r
inside_too l e = (e, subst EntryInside (sym e) (inside_of (text_entry l) (text-within l)))

pub bad-inside : EntryInside None
bad-inside = inside_of bad of-bad
