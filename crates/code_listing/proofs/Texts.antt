-- What is put by the class of an instruction that is known is the instruction's text. Assumes nothing.
use Rattle.std.specs.Prelude.{Option, Some, None}
use mathlib.Core.Path.{◌≡◌, refl, sym, ap, ◌∙◌}
use mathlib.Core.Bool.{Bool, true, false, not, cond}
use mathlib.Core.List.{List, [], ◌∷◌, ◌++◌}
use Prim.Native.Nat.{ℕ, ◌^◌, ◌<◌}
use native.Mathlib.Omega.{arith}
use lib.Dec.{T, eqb, ltb}
use lib.ListN.{get_or}
use lib.Ieee.{Float, nan, inf, fin, binary32, is_nan, of_bits, to_bits}
use lib.Ieee.Bits.{to_bits-of_bits}
use borrow.Author.Tests.{ltb-true}
use Rattle.reals.specs.declared.ArithOp.TheVariants.{Add}
use Rattle.values.specs.declared.CompareOp.TheVariants.{Eq}
use Rattle.operators.specs.declared.UnaryOp.TheVariants.{Neg}
use Rattle.operators.specs.declared.BinaryOp.TheVariants.{Arith}
use Rattle.operators.specs.Tables.{unary_ops, binary_ops, unary_of, binary_of}
use Rattle.words.specs.Ascii.{ascii}
use Rattle.memory.specs.declared.Bank.{Bank}
use Rattle.memory.specs.declared.Bank.TheVariants.{X, C, «V», N, D, R}
use Rattle.memory.specs.Layout.{layout_of}
use Rattle.memory.specs.Numbers.{bank_numbered, bank_number}
use Rattle.totals.specs.declared.TotalOp.TheVariants as TotalOp
use Rattle.totals.specs.declared.MatchOp.TheVariants as MatchOp
use Rattle.totals.specs.Totals.{good_range}
use Rattle.totals.specs.Numbers.{total_ops, match_ops, total_of, match_of}
use Rattle.code.specs.declared.Instr.{Instr}
use Rattle.code.specs.declared.Instr.TheVariants.{Load, LoadIndexed, Unary, Binary, Tick, Since, Total, Match, Unknown}
use Rattle.code.specs.declared.Class.{Class}
use Rattle.code.specs.Instructions.{finite_only, push_real, load_element, load_indexed, range_bank, range_first, range_count, over_range, opcode_of, word_of}
use Rattle.code.specs.Instructions.{instruction_of}
use Rattle.code.specs.private.Classes.{class_of, of_bank, of_unary, of_binary, of_total, of_match, number_of, instr_in}
use Rattle.code.proofs.Page.{number-class}
use Rattle.lines.specs.Printing.{cell_text, letter_byte}
use Rattle.lines.proofs.Long.{few}
use Rattle.text_tables.specs.Tables.{row_at}
use Rattle.code.proofs.Numbers.{unary-forth, binary-forth, total-forth, match-forth}
use Rattle.code_listing.specs.Listing.{unary_names, binary_names, total_names, match_names, jump_text, instr_text}
use Rattle.code_listing.specs.private.Parts.{letter_of, cell_of, range_of}
use Rattle.totals.specs.declared.MatchOp.{MatchOp}
use Rattle.totals.specs.declared.TotalOp.{TotalOp}

abbrev Known : Instr → Type 0
Known i = i ≡ Unknown → ⊥

-- ---- a bank's letter is its row
pub letter-row : (b : Bank) → row_at (bank_number b) (ascii "X\nC\nV\nN\nD\nR") ≡ letter_byte b ∷ []
unfolding row_at
letter-row X = refl
letter-row C = refl
letter-row «V» = refl
letter-row N = refl
letter-row D = refl
letter-row R = refl

-- ---- by class, of a number k and a word v
module _ (p : ℕ) where
  when : (t : Bool) (i : Instr) {s : List ℕ} → s ≡ instr_text p i → Known (cond t i Unknown) → s ≡ instr_text p (cond t i Unknown)
  when true i e h = e
  when false i e h = absurd (h refl)

  single-text : (v : ℕ) → v < 2 ^ 32 → Known (push_real v) → ascii "PUSH_REAL " ++ cell_text R v ≡ instr_text p (push_real v)
  unfolding is_nan
  single-text v h = by (of_bits binary32 v) (to_bits-of_bits binary32 v h)
    where
      by : (x : Float) → (T (not (is_nan x)) → to_bits binary32 x ≡ v) → Known (finite_only x)
          → ascii "PUSH_REAL " ++ cell_text R v ≡ instr_text p (finite_only x)
      by nan b k = absurd (k refl)
      by (inf s) b k = absurd (k refl)
      by (fin s m e) b k = ap (λ (n : ℕ). ascii "PUSH_REAL " ++ cell_text R n) (sym (b tt))

  load-text : (x : (Option Bank)) (v : ℕ) → Known (of_bank load_element x v) → ascii "LOAD " ++ cell_of x v ≡ instr_text p (of_bank load_element x v)
  load-text (Some b) v h = when (ltb v (layout_of b).elements) (Load b v) refl h
  load-text None v h = absurd (h refl)

  indexed-text : (x : (Option Bank)) (v : ℕ) → Known (of_bank load_indexed x v) → ascii "LOAD_INDEXED " ++ letter_of x ≡ instr_text p (of_bank load_indexed x v)
  indexed-text (Some b) v h = when (eqb v 0) (LoadIndexed b) refl h
  indexed-text None v h = absurd (h refl)

  unary-text : (k v : ℕ) → Known (of_unary (unary_of k) v) → row_at k unary_names ≡ instr_text p (of_unary (unary_of k) v)
  unary-text k v = by (ltb k 8) refl
    where
      by : (t : Bool) → ltb k 8 ≡ t → Known (of_unary (cond t (Some (get_or unary_ops k Neg)) None) v)
          → row_at k unary_names ≡ instr_text p (of_unary (cond t (Some (get_or unary_ops k Neg)) None) v)
      by true e h = when (eqb v 0) (Unary (get_or unary_ops k Neg)) (ap (λ (n : ℕ). row_at n unary_names) (sym (unary-forth k (ltb-true k 8 e)))) h
      by false e h = absurd (h refl)

  binary-text : (k v : ℕ) → Known (of_binary (binary_of k) v) → row_at k binary_names ≡ instr_text p (of_binary (binary_of k) v)
  binary-text k v = by (ltb k 20) refl
    where
      by : (t : Bool) → ltb k 20 ≡ t → Known (of_binary (cond t (Some (get_or binary_ops k (Arith Add))) None) v)
          → row_at k binary_names ≡ instr_text p (of_binary (cond t (Some (get_or binary_ops k (Arith Add))) None) v)
      by true e h =
          when (eqb v 0) (Binary (get_or binary_ops k (Arith Add))) (ap (λ (n : ℕ). row_at n binary_names) (sym (binary-forth k (ltb-true k 20 e)))) h
      by false e h = absurd (h refl)

  -- over a range: the name, then the range
  ranging-text : (f : Bank → ℕ → ℕ → Instr) (name : List ℕ) → ((b : Bank) (i n : ℕ) → name ++ range_of (Some b) i n ≡ instr_text p (f b i n))
      → (x : (Option Bank)) (i n : ℕ) → Known (over_range f x i n) → name ++ range_of x i n ≡ instr_text p (over_range f x i n)
  ranging-text f name e (Some b) i n h = when (good_range b i n) (f b i n) (e b i n) h
  ranging-text f name e None i n h = absurd (h refl)

  abbrev spread : ℕ → List ℕ
  spread v = range_of (bank_numbered (range_bank v)) (range_first v) (range_count v)

  total-text : (k v : ℕ) → Known (of_total (total_of k) v) → row_at k total_names ++ spread v ≡ instr_text p (of_total (total_of k) v)
  total-text k v = by (ltb k 4) refl
    where
      by : (t : Bool) → ltb k 4 ≡ t → Known (of_total (cond t (Some (get_or total_ops k TotalOp.Sum)) None) v)
          → row_at k total_names ++ spread v ≡ instr_text p (of_total (cond t (Some (get_or total_ops k TotalOp.Sum)) None) v)
      by true e h =
          ranging-text (Total (get_or total_ops k TotalOp.Sum)) (row_at k total_names)
          (λ b i n. ap (λ (m : ℕ). row_at m total_names ++ range_of (Some b) i n) (sym (total-forth k (ltb-true k 4 e))))
          (bank_numbered (range_bank v)) (range_first v) (range_count v) h
      by false e h = absurd (h refl)

  match-text : (k v : ℕ) → Known (of_match (match_of k) v) → row_at k match_names ++ spread v ≡ instr_text p (of_match (match_of k) v)
  match-text k v = by (ltb k 12) refl
    where
      by : (t : Bool) → ltb k 12 ≡ t → Known (of_match (cond t (Some (get_or match_ops k (MatchOp.Count Eq))) None) v)
          → row_at k match_names ++ spread v ≡ instr_text p (of_match (cond t (Some (get_or match_ops k (MatchOp.Count Eq))) None) v)
      by true e h =
          ranging-text (Match (get_or match_ops k (MatchOp.Count Eq))) (row_at k match_names)
          (λ b i n. ap (λ (m : ℕ). row_at m match_names ++ range_of (Some b) i n) (sym (match-forth k (ltb-true k 12 e))))
          (bank_numbered (range_bank v)) (range_first v) (range_count v) h
      by false e h = absurd (h refl)

-- a loaded element is below 1,000
element-below : (x : (Option Bank)) (v : ℕ) → Known (of_bank load_element x v) → v < 1000
element-below (Some b) v h = by (ltb v (layout_of b).elements) refl h
  where
    by : (t : Bool) → ltb v (layout_of b).elements ≡ t → Known (cond t (Load b v) Unknown) → v < 1000
    by true e g = omega (arith, few b, ltb-true v (layout_of b).elements e)
    by false e g = absurd (g refl)
element-below None v h = absurd (h refl)

-- ---- of an instruction whose class is c
module _ (p w : ℕ) {c : Class} (q : c ≡ class_of (opcode_of w)) (known : Known (instruction_of w)) where
  is : (d : Class) → c ≡ d → instruction_of w ≡ instr_in d w
  is d e = number-class w ∙ ap (λ (x : Class). instr_in x w) (sym q ∙ e)

  known_in : (d : Class) → c ≡ d → Known (instr_in d w)
  known_in d e z = known (is d e ∙ z)

  text_in : (d : Class) → c ≡ d → {s : List ℕ} → s ≡ instr_text p (instr_in d w) → s ≡ instr_text p (instruction_of w)
  text_in d e r = r ∙ sym (ap (instr_text p) (is d e))

  pub integer-is : c ≡ Class.PushInt → {v : ℕ} → v ≡ word_of w → ascii "PUSH_INT " ++ cell_text D v ≡ instr_text p (instruction_of w)
  integer-is e r = text_in Class.PushInt e (ap (λ (v : ℕ). ascii "PUSH_INT " ++ cell_text D v) r)

  pub single-is : c ≡ Class.PushReal → {v : ℕ} → v ≡ word_of w → v < 2 ^ 32 → ascii "PUSH_REAL " ++ cell_text R v ≡ instr_text p (instruction_of w)
  single-is e r h =
      text_in Class.PushReal e
      (ap (λ (v : ℕ). ascii "PUSH_REAL " ++ cell_text R v) r ∙ single-text p (word_of w) (omega arith) (known_in Class.PushReal e))

  pub jump-is : c ≡ Class.Jump → {v : ℕ} → v ≡ word_of w → jump_text (ascii "JUMP ") p v ≡ instr_text p (instruction_of w)
  jump-is e r = text_in Class.Jump e (ap (jump_text (ascii "JUMP ") p) r)

  pub jump-false-is : c ≡ Class.JumpIfFalse → {v : ℕ} → v ≡ word_of w → jump_text (ascii "JUMP_IF_FALSE ") p v ≡ instr_text p (instruction_of w)
  jump-false-is e r = text_in Class.JumpIfFalse e (ap (jump_text (ascii "JUMP_IF_FALSE ") p) r)

  pub jump-true-is : c ≡ Class.JumpIfTrue → {v : ℕ} → v ≡ word_of w → jump_text (ascii "JUMP_IF_TRUE ") p v ≡ instr_text p (instruction_of w)
  jump-true-is e r = text_in Class.JumpIfTrue e (ap (jump_text (ascii "JUMP_IF_TRUE ") p) r)

  pub tick_is : c ≡ Class.Tick → ascii "TICK" ≡ instr_text p (instruction_of w)
  tick_is e = text_in Class.Tick e (when p (eqb (word_of w) 0) Tick refl (known_in Class.Tick e))

  pub since-is : c ≡ Class.Since → ascii "SINCE" ≡ instr_text p (instruction_of w)
  since-is e = text_in Class.Since e (when p (eqb (word_of w) 0) Since refl (known_in Class.Since e))

  pub load_is : c ≡ Class.Load → ascii "LOAD " ++ cell_of (bank_numbered (number_of w)) (word_of w) ≡ instr_text p (instruction_of w)
  load_is e = text_in Class.Load e (load-text p (bank_numbered (number_of w)) (word_of w) (known_in Class.Load e))

  pub load_below : c ≡ Class.Load → word_of w < 1000
  load_below e = element-below (bank_numbered (number_of w)) (word_of w) (known_in Class.Load e)

  pub indexed-is : c ≡ Class.LoadIndexed → ascii "LOAD_INDEXED " ++ letter_of (bank_numbered (number_of w)) ≡ instr_text p (instruction_of w)
  indexed-is e = text_in Class.LoadIndexed e (indexed-text p (bank_numbered (number_of w)) (word_of w) (known_in Class.LoadIndexed e))

  pub unary-is : c ≡ Class.Unary → {k : ℕ} → k ≡ number_of w → row_at k unary_names ≡ instr_text p (instruction_of w)
  unary-is e r =
      text_in Class.Unary e (ap (λ (k : ℕ). row_at k unary_names) r ∙ unary-text p (number_of w) (word_of w) (known_in Class.Unary e))

  pub binary-is : c ≡ Class.Binary → {k : ℕ} → k ≡ number_of w → row_at k binary_names ≡ instr_text p (instruction_of w)
  binary-is e r =
      text_in Class.Binary e (ap (λ (k : ℕ). row_at k binary_names) r ∙ binary-text p (number_of w) (word_of w) (known_in Class.Binary e))

  pub total-is : c ≡ Class.Total
      → row_at (number_of w) total_names ++ range_of (bank_numbered (range_bank (word_of w))) (range_first (word_of w)) (range_count (word_of w))
      ≡ instr_text p (instruction_of w)
  total-is e = text_in Class.Total e (total-text p (number_of w) (word_of w) (known_in Class.Total e))

  pub match_is : c ≡ Class.Match
      → row_at (number_of w) match_names ++ range_of (bank_numbered (range_bank (word_of w))) (range_first (word_of w)) (range_count (word_of w))
      ≡ instr_text p (instruction_of w)
  match_is e = text_in Class.Match e (match-text p (number_of w) (word_of w) (known_in Class.Match e))

  pub never : c ≡ Class.Unknown → ⊥
  never e = known (is Class.Unknown e)
