-- What an instruction reads, by its class.
use Rattle.std.specs.Prelude.{Option, Some, None}
use mathlib.Core.Path.{◌≡◌, refl, sym, ap, ◌∙◌, subst}
use mathlib.Core.Bool.{Bool, true, false, cond}
use Prim.Native.Nat.{ℕ, ◌+◌}
use native.Mathlib.Omega.{arith}
use lib.Dec.{ltb, eqb}
use lib.Ieee.{Float, nan, inf, fin, binary32}
use lib.Ieee as Ieee
use borrow.Author.Tests.{ltb-true, ltb-false, le-leb, lt-leb, ne_eqb, eq-eqb}
use Rattle.memory.specs.declared.Bank.{Bank}
use Rattle.memory.specs.Layout.{layout_of}
use Rattle.memory.specs.Numbers.{bank_numbered}
use Rattle.operators.specs.Tables.{unary_of, binary_of}
use Rattle.totals.specs.declared.TotalOp.{TotalOp}
use Rattle.totals.specs.declared.MatchOp.{MatchOp}
use Rattle.totals.specs.Totals.{good_range}
use Rattle.code.specs.declared.Instr.{Instr}
use Rattle.code.specs.declared.Instr.TheVariants.{Load, LoadIndexed, Unary, Binary, Tick, Since, Total, Match, Unknown}
use Rattle.code.specs.declared.Class.{Class}
use Rattle.code.specs.Instructions.{finite_only, load_element, load_indexed, range_bank, range_first, range_count, over_range, opcode_of, word_of}
use Rattle.code.specs.Instructions.{instruction_of}
use Rattle.code.specs.private.Classes.{class_of, of_bank, of_unary, of_binary, of_total, of_match, instr_in, number_of}
use Rattle.code.proofs.Page.{number-class}
use Rattle.read_set.specs.declared.Interval.{Interval}
use Rattle.read_set.specs.Cells.{cell_range, instr_cells}
use Rattle.read_set.specs.private.Intervals.{empty, within, Reads, RangeReads}
use Rattle.read_set.proofs.Intervals.{nothing_read, range-read, cell-range, bank-range, bank-good}
use Rattle.operators.specs.declared.BinaryOp.{BinaryOp}
use Rattle.operators.specs.declared.UnaryOp.{UnaryOp}

-- ---- instructions that read nothing
unknown-reads : Reads Unknown empty
unknown-reads = nothing_read (instr_cells Unknown) (λ c j. refl)

-- the word must be 0
zero-only : (t : Bool) (i : Instr) → Reads i empty → Reads (cond t i Unknown) empty
zero-only true i r = r
zero-only false i r = unknown-reads

finite-reads : (x : Float) → Reads (finite_only x) empty
finite-reads nan = unknown-reads
finite-reads (inf s) = unknown-reads
finite-reads (fin s m e) = nothing_read (instr_cells (finite_only (fin s m e))) (λ c j. refl)

unary-reads : (u : (Option UnaryOp)) (w : ℕ) → Reads (of_unary u w) empty
unary-reads (Some o) w = zero-only (eqb w 0) (Unary o) (nothing_read (instr_cells (Unary o)) (λ c j. refl))
unary-reads None w = unknown-reads

binary-reads : (u : (Option BinaryOp)) (w : ℕ) → Reads (of_binary u w) empty
binary-reads (Some o) w = zero-only (eqb w 0) (Binary o) (nothing_read (instr_cells (Binary o)) (λ c j. refl))
binary-reads None w = unknown-reads

-- the classes that read nothing
pub data Silent : Class → Type 0 where
  push-int : Silent Class.PushInt
  push-real : Silent Class.PushReal
  jump : Silent Class.Jump
  jump-if-false : Silent Class.JumpIfFalse
  jump-if-true : Silent Class.JumpIfTrue
  tick : Silent Class.Tick
  since : Silent Class.Since
  unary : Silent Class.Unary
  binary : Silent Class.Binary
  unknown : Silent Class.Unknown

silent-reads : {c : Class} → Silent c → (w : ℕ) → Reads (instr_in c w) empty
silent-reads push-int w = nothing_read (instr_cells (instr_in Class.PushInt w)) (λ c j. refl)
silent-reads push-real w = finite-reads (Ieee.of_bits binary32 (word_of w))
silent-reads jump w = nothing_read (instr_cells (instr_in Class.Jump w)) (λ c j. refl)
silent-reads jump-if-false w = nothing_read (instr_cells (instr_in Class.JumpIfFalse w)) (λ c j. refl)
silent-reads jump-if-true w = nothing_read (instr_cells (instr_in Class.JumpIfTrue w)) (λ c j. refl)
silent-reads tick w = zero-only (eqb (word_of w) 0) Tick (nothing_read (instr_cells Tick) (λ c j. refl))
silent-reads since w = zero-only (eqb (word_of w) 0) Since (nothing_read (instr_cells Since) (λ c j. refl))
silent-reads unary w = unary-reads (unary_of (number_of w)) (word_of w)
silent-reads binary w = binary-reads (binary_of (number_of w)) (word_of w)
silent-reads unknown w = unknown-reads

-- ---- a cell
element-reads : (b : Bank) (w : ℕ) → Reads (load_element b w) (within b w 1)
element-reads b w = by (ltb w (layout_of b).elements) refl
  where
    by : (t : Bool) → ltb w (layout_of b).elements ≡ t → Reads (cond t (Load b w) Unknown) (within b w 1)
    by true e =
        let l = ltb-true w (layout_of b).elements e in
        range-read (instr_cells (Load b w)) b w 1 (le-leb (w + 1) (layout_of b).elements (omega arith)) (λ c j h. cell-range b w c j)
    by false e =
        let l = ltb-false w (layout_of b).elements e in
        let bad : good_range b w 1 ≡ false = lt-leb (w + 1) (layout_of b).elements (omega arith) in
        rw bad unknown-reads

-- the bank, or the operator, of a number as it was read
pub found : {A : Type 0} {x y : A} (f : ℕ → A) {k n : ℕ} → k ≡ n → x ≡ f k → x ≡ y → f n ≡ y
found f e q r = ap f (sym e) ∙ sym q ∙ r

module _ {x : (Option Bank)} {r : Interval} where
  pub cell-known : {b : Bank} (v w : ℕ) → x ≡ Some b → v ≡ w → r ≡ within b v 1 → Reads (of_bank load_element x w) r
  cell-known {b} v w e z q = rw (e, q ∙ ap (λ (n : ℕ). within b n 1) z) (element-reads b w)

  pub bank-none : (f : Bank → ℕ → Instr) (w : ℕ) → x ≡ None → r ≡ empty → Reads (of_bank f x w) r
  bank-none f w e q = rw (e, q) unknown-reads

-- ---- a bank
module _ {x : (Option Bank)} {r : Interval} where
  pub bank-known : {b : Bank} (v w n : ℕ) → v ≡ w → v ≡ 0 → n ≡ (layout_of b).elements → x ≡ Some b → r ≡ within b 0 n → Reads (of_bank load_indexed x w) r
  bank-known {b} v w n y z l e q =
      rw (e, q ∙ ap (within b 0) l, eq-eqb w 0 (sym y ∙ z))
      (range-read (instr_cells (LoadIndexed b)) b 0 (layout_of b).elements (bank-good b) (λ c j h. bank-range b c j h))

pub bank-unknown : {r : Interval} (x : (Option Bank)) (v w : ℕ) → v ≡ w → (v ≡ 0 → ⊥) → r ≡ empty → Reads (of_bank load_indexed x w) r
bank-unknown {r} x v w y z q = rw q (by x)
  where
    by : (b : Option Bank) → Reads (of_bank load_indexed b w) empty
    by (Some b) = rw (ne_eqb w 0 (λ e. z (y ∙ e))) unknown-reads
    by None = unknown-reads

-- ---- a range
good-reads : (f : Bank → ℕ → ℕ → Instr) → ((b : Bank) (i n : ℕ) (c : Bank) (j : ℕ) → instr_cells (f b i n) c j ≡ cell_range b i n c j) → (b : Bank) (i n : ℕ)
    → Reads (over_range f (Some b) i n) (within b i n)
good-reads f h b i n = by (good_range b i n) refl
  where
    by : (t : Bool) → good_range b i n ≡ t → Reads (cond t (f b i n) Unknown) (within b i n)
    by true g = range-read (instr_cells (f b i n)) b i n g (λ c j l. h b i n c j)
    by false g = rw g unknown-reads

pub range-known : {r : Interval} {b : Bank} (w : ℕ) {i n : ℕ} → bank_numbered (range_bank w) ≡ Some b → i ≡ range_first w → n ≡ range_count w
    → r ≡ within b i n → RangeReads w r
range-known {r} {b} w {i} {n} e p q z =
    record {
      reads = λ f h.
          rw (e, z ∙ ap (λ (k : ℕ). within b k n) p ∙ ap (within b (range_first w)) q) (good-reads f h b (range_first w) (range_count w));
    }

pub range_none : {r : Interval} (w : ℕ) → bank_numbered (range_bank w) ≡ None → r ≡ empty → RangeReads w r
range_none w e q = record { reads = λ f h. rw (e, q) unknown-reads }

module _ {r : Interval} where
  pub total-known : {x : (Option TotalOp)} {o : TotalOp} (v w : ℕ) → x ≡ Some o → v ≡ w → RangeReads v r → Reads (of_total x w) r
  total-known {o = o} v w e z t = rw (e, ← z) (t.reads (Total o) (λ b i n c j. refl))

  pub total-none : {x : (Option TotalOp)} (w : ℕ) → x ≡ None → r ≡ empty → Reads (of_total x w) r
  total-none w e q = rw (e, q) unknown-reads

  pub match-known : {x : (Option MatchOp)} {o : MatchOp} (v w : ℕ) → x ≡ Some o → v ≡ w → RangeReads v r → Reads (of_match x w) r
  match-known {o = o} v w e z t = rw (e, ← z) (t.reads (Match o) (λ b i n c j. refl))

  pub match_none : {x : (Option MatchOp)} (w : ℕ) → x ≡ None → r ≡ empty → Reads (of_match x w) r
  match_none w e q = rw (e, q) unknown-reads

-- ---- an instruction, of the class found
pub of-class : {d : Class} (w : ℕ) (c : Class) (r : Interval) → d ≡ class_of (opcode_of w) → d ≡ c → Reads (instr_in c w) r → Reads (instruction_of w) r
of-class w c r e q x = subst (λ (i : Instr). Reads i r) (ap (λ (x : Class). instr_in x w) (sym q ∙ e) ∙ sym (number-class w)) x

pub of-silent : {d : Class} (w : ℕ) (c : Class) (r : Interval) → d ≡ class_of (opcode_of w) → d ≡ c → Silent c → r ≡ empty → Reads (instruction_of w) r
of-silent w c r e q s z = of-class w c r e q (rw z (silent-reads s w))
