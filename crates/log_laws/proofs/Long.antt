-- A line that is longer than any good one is bad. Assumes nothing.
use Rattle.std.specs.Prelude.{Option, Some, None}
use mathlib.Core.Path.{◌≡◌, refl, sym, ap, subst, ◌∙◌}
use mathlib.Core.Bool.{Bool, true, false, cond}
use mathlib.Core.List.{List, [], ◌∷◌, ◌++◌}
use Prim.Native.Nat.{ℕ, zero, suc, ◌+◌, ◌-◌, ◌≤◌, ◌<◌}
use native.Mathlib.Omega.{arith}
use lib.Dec.{eqb, ltb}
use lib.ListN.{length, take, drop, length-drop}
use lib.Seq.{length-take-le}
use borrow.Author.Tests.{ltb-true, ltb-false, not-true}
use Rattle.words.specs.Ascii.{ascii}
use Rattle.memory.specs.declared.Bank.{Bank}
use Rattle.memory.specs.declared.Bank.TheVariants.{R}
use Rattle.memory.specs.Names.{decimal_value, named_rule}
use Rattle.tokens.specs.Bytes.{all}
use Rattle.tokens.specs.Symbols.{equal_bytes}
use Rattle.tokens.proofs.Tests.{both}
use Rattle.tokens.proofs.Same.{equal as same_bytes}
use Rattle.lines.specs.Lines.{except, key_length, key_of, value_of}
use Rattle.lines.specs.Forms.{hex_form}
use Rattle.lines.proofs.Long.{no_number, no_name, no_value}
use Rattle.card_laws.specs.Lines.{line_end, Lacks, field, wrong, to_end}
use Rattle.card_laws.specs.Cards.{card_number}
use Rattle.salvage_laws.specs.Cut.{onto_first}
use Rattle.log_laws.specs.Log.{LogEntry, bad, ends_line, log_lines, tick_entry, run_entry, change_entry, cell_entry, keyed_entry, text_entry}
use Rattle.log_laws.specs.Log.{ended_entry, log_entry_of}
use Rattle.log_laws.specs.Window.{most_line}

-- ---- by the value: at most eleven bytes
cell-bad : (v : List ℕ) (n : (Option (Bank × ℕ))) → 11 < length v → cell_entry v n ≡ bad
cell-bad v (Some (b, i)) h = ap (change_entry b i v) (no_value b v h)
cell-bad v None h = refl

value-bad : (key v : List ℕ) → 11 < length v → keyed_entry key v ≡ bad
unfolding card_number
value-bad key v h = by (equal_bytes key (ascii "tick")) (equal_bytes key (ascii "run"))
  where
    by : (x y : Bool) → cond x (tick_entry (hex_form v)) (cond y (run_entry (card_number v)) (cell_entry v (named_rule key))) ≡ bad
    by true y = ap tick_entry (no_value R v h)
    by false true = ap (λ (t : Bool). run_entry (cond t (decimal_value v) 0)) (no_number 1 65 v (omega arith) (omega arith))
    by false false = cell-bad v (named_rule key) h

-- ---- by the key: at most four
other_key : (key word : List ℕ) → length word ≤ 4 → 4 < length key → equal_bytes key word ≡ false
other_key key word h k = by (equal_bytes key word) refl
  where
    by : (x : Bool) → equal_bytes key word ≡ x → x ≡ false
    by true e = absurd (omega (arith, ap length (same_bytes key word e)))
    by false e = refl

key-bad : (key v : List ℕ) → 4 < length key → keyed_entry key v ≡ bad
key-bad key v h = rw (other_key key (ascii "tick") (omega arith) h, other_key key (ascii "run") (omega arith) h, no_name key h)

text-bad : (l : List ℕ) → most_line ≤ length l → text_entry l ≡ bad
text-bad l h = by (ltb (key_length l) (length l)) refl
  where
    by_value : (x : Bool) → ltb 11 (length (value_of l)) ≡ x → key_length l < length l → keyed_entry (key_of l) (value_of l) ≡ bad
    by_value true e k = value-bad (key_of l) (value_of l) (ltb-true 11 (length (value_of l)) e)
    by_value false e k =
        let v : length (value_of l) ≤ 11 = ltb-false 11 (length (value_of l)) e in
        let long : length (key_of l) ≡ key_length l = length-take-le (key_length l) l (omega arith) in
        key-bad (key_of l) (value_of l) (omega (arith, long, v, length-drop (suc (key_length l)) l))

    by : (x : Bool) → ltb (key_length l) (length l) ≡ x → cond x (keyed_entry (key_of l) (value_of l)) bad ≡ bad
    by true e = by_value (ltb 11 (length (value_of l))) refl (ltb-true (key_length l) (length l) e)
    by false e = refl

pub long-bad : (l : List ℕ) → most_line ≤ to_end l → log_entry_of l ≡ bad
unfolding log_entry_of
long-bad l h = by (ltb (to_end l) (length l)) refl
  where
    by : (x : Bool) → ltb (to_end l) (length l) ≡ x → ended_entry (cond x (field (take (to_end l) l) (drop (suc (to_end l)) l)) wrong) ≡ bad
    by true e = text-bad (take (to_end l) l) (omega (arith, length-take-le (to_end l) l (omega (arith, ltb-true (to_end l) (length l) e))))
    by false e = refl

-- ---- bytes without a line end begin the first line
pub end-beyond : (h p : List ℕ) → Lacks line_end h → length h ≤ to_end (h ++ p)
end-beyond [] p q = omega arith
end-beyond (c ∷ h) p q =
    let b = both (except 10 c) (all (except 10) h) q in
    rw b.0 (omega (arith, end-beyond h p b.1))

pub data FirstLine (h s : List ℕ) : Type 0 where
  first : (p : List ℕ) (ls : List (List ℕ)) → log_lines s ≡ (h ++ p) ∷ ls → FirstLine h s

no_end : (c : ℕ) (h : List ℕ) → Lacks line_end (c ∷ h) → ends_line c [] ≡ false
no_end c h q = not-true (eqb c 10) (both (except 10 c) (all (except 10) h) q).0

-- a byte that ends no line goes before the first line of what follows
before : (c : ℕ) (s : List ℕ) → eqb c 10 ≡ false → log_lines (c ∷ s) ≡ onto_first c (log_lines s)
before c s e = ap (λ (x : Bool). cond x ((c ∷ []) ∷ log_lines s) (onto_first c (log_lines s))) e

alone : (c : ℕ) (ps : List (List ℕ)) {s : List ℕ} → log_lines s ≡ onto_first c ps → FirstLine (c ∷ []) s
alone c [] e = first [] [] e
alone c (p ∷ ps) e = first p ps e

pub first_of : (c : ℕ) (h s : List ℕ) → Lacks line_end (c ∷ h) → FirstLine (c ∷ h) (c ∷ h ++ s)
first_of c [] s q = alone c (log_lines s) (before c s (no_end c [] q))
first_of c (d ∷ h) s q = by (first_of d h s (both (except 10 c) (all (except 10) (d ∷ h)) q).1)
  where
    by : FirstLine (d ∷ h) (d ∷ h ++ s) → FirstLine (c ∷ d ∷ h) (c ∷ d ∷ h ++ s)
    by (first p ls e) = first p ls (before c (d ∷ h ++ s) (no_end c (d ∷ h) q) ∙ ap (onto_first c) e)
