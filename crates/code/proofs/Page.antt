-- The page by its classes: what an opcode means, found by the number that it adds to the first of its class.
use Rattle.std.specs.Prelude.{Option, Some, None}
use mathlib.Core.Path.{◌≡◌, refl, ap, ◌∙◌}
use mathlib.Core.Logic.{◌≢◌}
use mathlib.Core.Bool.{Bool, true, false, cond}
use mathlib.Core.List.{List, [], ◌∷◌, ◌++◌}
use Prim.Native.Nat.{ℕ, zero, suc, ◌+◌, ◌%◌, ◌≤◌, ◌<◌}
use native.Mathlib.Omega.{arith}
use lib.Dec.{eqb, ltb, lit<, leb-suc-suc}
use lib.ListN.{length, get_or}
use borrow.Author.Tests.{lt-ltb, le-ltb, eq-eqb, ne_eqb, ltb-true, ltb-false}
use Rattle.reals.specs.declared.ArithOp.TheVariants.{Add}
use Rattle.operators.specs.declared.UnaryOp.TheVariants.{Neg}
use Rattle.operators.specs.declared.BinaryOp.TheVariants.{Arith}
use Rattle.operators.specs.Tables.{unary_ops, binary_ops, unary_of, binary_of}
use Rattle.memory.specs.declared.Bank.TheVariants.{X}
use Rattle.memory.specs.Numbers.{banks, bank_numbered}
use Rattle.values.specs.declared.CompareOp.TheVariants.{Eq}
use Rattle.totals.specs.declared.TotalOp.TheVariants as TotalOp
use Rattle.totals.specs.declared.MatchOp.TheVariants as MatchOp
use Rattle.totals.specs.Numbers.{total_ops, match_ops, total_of, match_of}
use Rattle.code.specs.declared.Instr.{Instr}
use Rattle.code.specs.declared.Instr.TheVariants.{Jump, JumpIf, Unknown}
use Rattle.code.specs.declared.Class.{Class}
use Rattle.code.specs.Instructions.{PUSH-INT, PUSH-REAL, JUMP, JUMP-IF-FALSE, JUMP-IF-TRUE, TICK, SINCE, LOAD, LOAD-INDEXED, UNARY, BINARY, TOTAL, MATCH}
use Rattle.code.specs.Instructions.{push_int, push_real, load_element, load_indexed, apply_unary, apply_binary, apply_total, apply_match, push_tick, apply_since}
use Rattle.code.specs.Instructions.{Row, rows, unnumbered, lookup, instruction, opcode_of, word_of, instruction_of}
use Rattle.code.specs.private.Classes.{class_size, single_class, class_of, of_bank, of_unary, of_binary, of_total, of_match, classed, instr_in}
use Rattle.totals.specs.declared.TotalOp.{TotalOp}
use Rattle.totals.specs.declared.MatchOp.{MatchOp}
use Rattle.operators.specs.declared.BinaryOp.{BinaryOp}
use Rattle.memory.specs.declared.Bank.{Bank}
use Rattle.operators.specs.declared.UnaryOp.{UnaryOp}

-- ---- the rows of a list
module _ {A : Type 0} (f : A → ℕ → Instr) (rest : List Row) (w : ℕ) where
  rows_at : (d : A) (o : ℕ) (l : List A) (k : ℕ)
      → lookup (rows o f l ++ rest) (o + k) w ≡ cond (ltb k (length l)) (f (get_or l k d) w) (lookup rest (o + k) w)
  rows_at d o [] k =
      let beyond : 0 ≤ k = omega arith in
      rw (le-ltb k 0 beyond)
  rows_at d o (a ∷ l) zero =
      let same : o + 0 ≡ o = omega arith in
      let first : 0 < suc (length l) = omega arith in
      rw (eq-eqb (o + 0) o same, lt-ltb 0 (suc (length l)) first)
  rows_at d o (a ∷ l) (suc k) =
      let other : o + suc k ≢ o = λ e. omega arith in
      let next : o + suc k ≡ suc o + k = omega arith in
      rw (ne_eqb (o + suc k) o other, leb-suc-suc (suc k) (length l), next) (rows_at d (suc o) l k)

  rows-past : (o : ℕ) (l : List A) (q : ℕ) → o + length l ≤ q → lookup (rows o f l ++ rest) q w ≡ lookup rest q w
  rows-past o [] q h = refl
  rows-past o (a ∷ l) q h =
      let other : q ≢ o = λ e. omega arith in
      rw (ne_eqb q o other) (rows-past (suc o) l q (omega arith))

  rows_before : (o : ℕ) (l : List A) (q : ℕ) → q < o → lookup (rows o f l ++ rest) q w ≡ lookup rest q w
  rows_before o [] q h = refl
  rows_before o (a ∷ l) q h =
      let other : q ≢ o = λ e. omega arith in
      rw (ne_eqb q o other) (rows_before (suc o) l q (omega arith))

-- ---- the page from each class on
abbrev match_page : List Row
match_page = rows MATCH apply_match match_ops ++ unnumbered

abbrev total_page : List Row
total_page = rows TOTAL apply_total total_ops ++ match_page

abbrev binary_page : List Row
binary_page = rows BINARY apply_binary binary_ops ++ total_page

abbrev unary_page : List Row
unary_page = rows UNARY apply_unary unary_ops ++ binary_page

abbrev indexed_page : List Row
indexed_page = rows LOAD-INDEXED load_indexed banks ++ unary_page

-- ---- the single opcodes
above-singles : (o w : ℕ) → LOAD ≤ o → lookup unnumbered o w ≡ Unknown
above-singles o w h =
    let other : (n : ℕ) → n < LOAD → eqb o n ≡ false = λ n l. ne_eqb o n (λ e. omega arith) in
    rw (
      other PUSH-INT (lit< tt),
      other PUSH-REAL (lit< tt),
      other JUMP (lit< tt),
      other JUMP-IF-FALSE (lit< tt),
      other JUMP-IF-TRUE (lit< tt),
      other TICK (lit< tt),
      other SINCE (lit< tt),
    )

-- an opcode before a class is found in none from that class on
module _ (o w : ℕ) where
  before-match : o < MATCH → lookup match_page o w ≡ lookup unnumbered o w
  before-match h = rows_before apply_match unnumbered w MATCH match_ops o h

  before-total : o < TOTAL → lookup total_page o w ≡ lookup unnumbered o w
  before-total h = rows_before apply_total match_page w TOTAL total_ops o h ∙ before-match (omega arith)

  before-binary : o < BINARY → lookup binary_page o w ≡ lookup unnumbered o w
  before-binary h = rows_before apply_binary total_page w BINARY binary_ops o h ∙ before-total (omega arith)

  before-unary : o < UNARY → lookup unary_page o w ≡ lookup unnumbered o w
  before-unary h = rows_before apply_unary binary_page w UNARY unary_ops o h ∙ before-binary (omega arith)

  before-indexed : o < LOAD-INDEXED → lookup indexed_page o w ≡ lookup unnumbered o w
  before-indexed h = rows_before load_indexed unary_page w LOAD-INDEXED banks o h ∙ before-unary (omega arith)

  below-load : o < LOAD → instruction o w ≡ lookup unnumbered o w
  unfolding instruction
  below-load h = rows_before load_element indexed_page w LOAD banks o h ∙ before-indexed (omega arith)

-- an opcode past a class is found from the next one on: the classes have room for 32 numbers each
module _ (o w : ℕ) where
  past-load : LOAD-INDEXED ≤ o → instruction o w ≡ lookup indexed_page o w
  unfolding instruction
  past-load h = rows-past load_element indexed_page w LOAD banks o (omega arith)

  past-indexed : UNARY ≤ o → instruction o w ≡ lookup unary_page o w
  past-indexed h = past-load (omega arith) ∙ rows-past load_indexed unary_page w LOAD-INDEXED banks o (omega arith)

  past-unary : BINARY ≤ o → instruction o w ≡ lookup binary_page o w
  past-unary h = past-indexed (omega arith) ∙ rows-past apply_unary binary_page w UNARY unary_ops o (omega arith)

  past-binary : TOTAL ≤ o → instruction o w ≡ lookup total_page o w
  past-binary h = past-unary (omega arith) ∙ rows-past apply_binary total_page w BINARY binary_ops o (omega arith)

  past-total : MATCH ≤ o → instruction o w ≡ lookup match_page o w
  past-total h = past-binary (omega arith) ∙ rows-past apply_total match_page w TOTAL total_ops o (omega arith)

  beyond-classes : MATCH + class_size ≤ o → instruction o w ≡ Unknown
  beyond-classes h = past-total (omega arith) ∙ rows-past apply_match unnumbered w MATCH match_ops o (omega arith) ∙ above-singles o w (omega arith)

-- ---- the classes: the bank or the operator of a number, or none
among : {A B : Type 0} (g : A → B) (t : Bool) (x y : A) (z : B) → z ≡ g y → cond t (g x) z ≡ g (cond t x y)
among g true x y z e = refl
among g false x y z e = e

module _ (k w : ℕ) (h : k < class_size) where
  pub load-class : instruction (LOAD + k) w ≡ of_bank load_element (bank_numbered k) w
  unfolding instruction
  load-class =
      rows_at load_element indexed_page w X LOAD banks k
      ∙ among (λ (b : (Option Bank)). of_bank load_element b w) (ltb k 6) (Some (get_or banks k X)) None _
      (before-indexed (LOAD + k) w (omega arith) ∙ above-singles (LOAD + k) w (omega arith))

  pub indexed-class : instruction (LOAD-INDEXED + k) w ≡ of_bank load_indexed (bank_numbered k) w
  indexed-class =
      past-load (LOAD-INDEXED + k) w (omega arith) ∙ rows_at load_indexed unary_page w X LOAD-INDEXED banks k
      ∙ among (λ (b : (Option Bank)). of_bank load_indexed b w) (ltb k 6) (Some (get_or banks k X)) None _
      (before-unary (LOAD-INDEXED + k) w (omega arith) ∙ above-singles (LOAD-INDEXED + k) w (omega arith))

  pub unary-class : instruction (UNARY + k) w ≡ of_unary (unary_of k) w
  unary-class =
      past-indexed (UNARY + k) w (omega arith) ∙ rows_at apply_unary binary_page w Neg UNARY unary_ops k
      ∙ among (λ (u : (Option UnaryOp)). of_unary u w) (ltb k 8) (Some (get_or unary_ops k Neg)) None _
      (before-binary (UNARY + k) w (omega arith) ∙ above-singles (UNARY + k) w (omega arith))

  pub binary-class : instruction (BINARY + k) w ≡ of_binary (binary_of k) w
  binary-class =
      past-unary (BINARY + k) w (omega arith) ∙ rows_at apply_binary total_page w (Arith Add) BINARY binary_ops k
      ∙ among (λ (u : (Option BinaryOp)). of_binary u w) (ltb k 20) (Some (get_or binary_ops k (Arith Add))) None _
      (before-total (BINARY + k) w (omega arith) ∙ above-singles (BINARY + k) w (omega arith))

  pub total-class : instruction (TOTAL + k) w ≡ of_total (total_of k) w
  total-class =
      past-binary (TOTAL + k) w (omega arith) ∙ rows_at apply_total match_page w TotalOp.Sum TOTAL total_ops k
      ∙ among (λ (u : (Option TotalOp)). of_total u w) (ltb k 4) (Some (get_or total_ops k TotalOp.Sum)) None _
      (before-match (TOTAL + k) w (omega arith) ∙ above-singles (TOTAL + k) w (omega arith))

  pub match-class : instruction (MATCH + k) w ≡ of_match (match_of k) w
  match-class =
      past-total (MATCH + k) w (omega arith) ∙ rows_at apply_match unnumbered w (MatchOp.Count Eq) MATCH match_ops k
      ∙ among (λ (u : (Option MatchOp)). of_match u w) (ltb k 12) (Some (get_or match_ops k (MatchOp.Count Eq))) None _
      (above-singles (MATCH + k) w (omega arith))

-- ---- an opcode by its class
module _ (o w : ℕ) where
  single-class : o < LOAD → instruction o w ≡ classed (single_class o) (o % class_size) w
  single-class h =
      below-load o w h
      ∙ by (eqb o PUSH-INT) (eqb o PUSH-REAL) (eqb o JUMP) (eqb o JUMP-IF-FALSE) (eqb o JUMP-IF-TRUE) (eqb o TICK) (eqb o SINCE)
    where
      by : (a b c d e f g : Bool)
          → cond a (push_int w) (cond b (push_real w) (cond c (Jump w) (cond d (JumpIf false w) (cond e (JumpIf true w)
          (cond f (push_tick w) (cond g (apply_since w) Unknown))))))
          ≡ classed (cond a Class.PushInt (cond b Class.PushReal (cond c Class.Jump (cond d Class.JumpIfFalse (cond e Class.JumpIfTrue
          (cond f Class.Tick (cond g Class.Since Class.Unknown)))))))
          (o % class_size) w
      by true b c d e f g = refl
      by false true c d e f g = refl
      by false false true d e f g = refl
      by false false false true e f g = refl
      by false false false false true f g = refl
      by false false false false false true g = refl
      by false false false false false false true = refl
      by false false false false false false false = refl

  -- the opcode is the k-th of a class
  in-class : (first : ℕ) (c : Class) → ((k : ℕ) → k < class_size → instruction (first + k) w ≡ classed c k w) → first % class_size ≡ 0
      → first ≤ o → o < first + class_size → instruction o w ≡ classed c (o % class_size) w
  in-class first c law aligned low high =
      let place : o ≡ first + o % class_size = omega arith in
      ap (λ n. instruction n w) place ∙ law (o % class_size) (omega arith)

  pub class-instruction : instruction o w ≡ classed (class_of o) (o % class_size) w
  class-instruction =
      by (ltb o LOAD) (ltb o LOAD-INDEXED) (ltb o UNARY) (ltb o BINARY) (ltb o TOTAL) (ltb o MATCH) (ltb o (MATCH + class_size))
      refl refl refl refl refl refl refl
    where
      by : (a b c d e f g : Bool) → ltb o LOAD ≡ a → ltb o LOAD-INDEXED ≡ b → ltb o UNARY ≡ c → ltb o BINARY ≡ d → ltb o TOTAL ≡ e
          → ltb o MATCH ≡ f → ltb o (MATCH + class_size) ≡ g
          → instruction o w ≡ classed (cond a (single_class o) (cond b Class.Load (cond c Class.LoadIndexed (cond d Class.Unary
          (cond e Class.Binary (cond f Class.Total (cond g Class.Match Class.Unknown))))))) (o % class_size) w
      by true b c d e f g p q r s t u v = single-class (ltb-true o LOAD p)
      by false true c d e f g p q r s t u v =
          in-class LOAD Class.Load (λ k h. load-class k w h) refl (ltb-false o LOAD p) (ltb-true o LOAD-INDEXED q)
      by false false true d e f g p q r s t u v =
          in-class LOAD-INDEXED Class.LoadIndexed (λ k h. indexed-class k w h) refl (ltb-false o LOAD-INDEXED q) (ltb-true o UNARY r)
      by false false false true e f g p q r s t u v =
          in-class UNARY Class.Unary (λ k h. unary-class k w h) refl (ltb-false o UNARY r) (ltb-true o BINARY s)
      by false false false false true f g p q r s t u v =
          in-class BINARY Class.Binary (λ k h. binary-class k w h) refl (ltb-false o BINARY s) (ltb-true o TOTAL t)
      by false false false false false true g p q r s t u v =
          in-class TOTAL Class.Total (λ k h. total-class k w h) refl (ltb-false o TOTAL t) (ltb-true o MATCH u)
      by false false false false false false true p q r s t u v =
          in-class MATCH Class.Match (λ k h. match-class k w h) refl (ltb-false o MATCH u) (ltb-true o (MATCH + class_size) v)
      by false false false false false false false p q r s t u v = beyond-classes o w (ltb-false o (MATCH + class_size) v)

-- the instruction of a number of eight bytes
pub number-class : (n : ℕ) → instruction_of n ≡ instr_in (class_of (opcode_of n)) n
number-class n = class-instruction (opcode_of n) (word_of n)
