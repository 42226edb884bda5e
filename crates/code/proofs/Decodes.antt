-- What an opcode and a word decode to: the one instruction whose number they make, or Unknown.
use Rattle.std.specs.Prelude.{Option, Some, None}
use mathlib.Core.Path.{◌≡◌, refl, sym, ap, ◌∙◌, subst}
use mathlib.Core.Bool.{true, false, not}
use mathlib.Core.List.{List, [], ◌∷◌, ◌++◌}
use Prim.Native.Nat.{ℕ, suc, ◌+◌, ◌^◌, ◌<◌}
use native.Mathlib.Nat.{add-zero, zero-add, add-suc}
use native.Mathlib.Omega.{arith}
use lib.Dec.{T, eqb, ltb}
use lib.ListN.{length, get_or}
use lib.Ieee.{Float, nan, inf, fin, binary32, fits, is_nan, of_bits, to_bits}
use lib.Ieee.Bits.{of_bits-fits, to_bits-of_bits}
use borrow.Author.Tests.{ltb-true, eqb-true}
use mir.Syntax.{w32}
use mir.Val.{SFits}
use mir.ValLaws.{to_z-Fits}
use Rattle.values.specs.Integers.{in_range}
use Rattle.values.specs.Patterns.{signed_of}
use Rattle.values.proofs.Ranges.{sfits-range}
use Rattle.values.proofs.patterns.Readings.{low_signed, signed-to_z}
use Rattle.operators.specs.declared.UnaryOp.TheVariants.{Neg}
use Rattle.reals.specs.declared.ArithOp.TheVariants.{Add}
use Rattle.operators.specs.declared.BinaryOp.TheVariants.{Arith}
use Rattle.operators.specs.Tables.{unary_ops, binary_ops, unary_number, binary_number}
use Rattle.memory.specs.declared.Bank.{Bank}
use Rattle.memory.specs.declared.Bank.TheVariants.{X}
use Rattle.memory.specs.Layout.{layout_of}
use Rattle.memory.specs.Numbers.{banks, bank_numbered, bank_number}
use Rattle.values.specs.declared.CompareOp.TheVariants.{Eq}
use Rattle.operators.proofs.Gives.{picked}
use Rattle.totals.specs.declared.TotalOp.TheVariants as TotalOp
use Rattle.totals.specs.declared.MatchOp.TheVariants as MatchOp
use Rattle.totals.specs.Totals.{good_range}
use Rattle.totals.specs.Numbers.{total_ops, match_ops, total_number, match_number}
use Rattle.code.specs.declared.Instr.{Instr}
use Rattle.code.specs.declared.Instr.TheVariants.{Load, LoadIndexed, Unary, Binary, Tick, Since, Total, Match, Unknown}
use Rattle.code.specs.Instructions.{PUSH-INT, PUSH-REAL, LOAD, LOAD-INDEXED, UNARY, BINARY, TOTAL, MATCH}
use Rattle.code.specs.Instructions.{if_zero, finite_only, push_int, push_real, load_element, load_indexed, apply_unary, apply_binary, range_bank}
use Rattle.code.specs.Instructions.{range_first, range_count, over_range, ranging, apply_total, apply_match}
use Rattle.code.specs.Instructions.{Row, rows, page, lookup, instruction, opcode_of, word_of, instruction_of}
use Rattle.code.specs.Encode.{join_word, join_range, code_word, Encodable, push-int, push-real, load, load-indexed, unary, binary, jump, jump-if}
use Rattle.code.specs.Encode.{push-tick, since, total, matching}
use Rattle.code.proofs.Numbers.{bank-forth, unary-forth, binary-forth, total-forth, match-forth, bank-number}

pub data Decodes (n : ℕ) : Instr → Type 0 where
  none : Decodes n Unknown
  one : {i : Instr} → Encodable i → code_word i ≡ n → Decodes n i

-- ---- one opcode
-- at every word of 32 bits
abbrev Right : ℕ → (ℕ → Instr) → Type 0
Right o f = (w : ℕ) → w < 2 ^ 32 → Decodes (join_word o w) (f w)

integer : Right PUSH-INT push_int
integer w h =
    let fit : SFits w32 (signed_of 32 w) = rw (signed-to_z w32 w) (to_z-Fits w32 w (record { fits = h })) in
    let range : T (in_range (signed_of 32 w)) = rw (sfits-range (signed_of 32 w) fit) tt in
    one (push-int (signed_of 32 w) range) (ap (join_word PUSH-INT) (low_signed 32 w h))

real : Right PUSH-REAL push_real
unfolding is_nan
real w h = by (of_bits binary32 w) (of_bits-fits binary32 w) (to_bits-of_bits binary32 w h)
  where
    by : (x : Float) → T (fits binary32 x) → (T (not (is_nan x)) → to_bits binary32 x ≡ w) → Decodes (join_word PUSH-REAL w) (finite_only x)
    by nan f b = none
    by (inf s) f b = none
    by (fin s m e) f b = one (push-real (fin s m e) (record { fit = f; real = tt })) (ap (join_word PUSH-REAL) (b tt))

element : (b : Bank) → Right (LOAD + bank_number b) (load_element b)
element b w h =
    picked (Decodes (join_word (LOAD + bank_number b) w)) (ltb w (layout_of b).elements) (Load b w) Unknown
    (λ g. one (load b w (ltb-true w (layout_of b).elements g)) refl)
    none

-- without a word
alone : (o : ℕ) (i : Instr) → Encodable i → code_word i ≡ join_word o 0 → Right o (λ w. if_zero w i)
alone o i e q w h = picked (Decodes (join_word o w)) (eqb w 0) i Unknown (λ g. one e (q ∙ ap (join_word o) (sym (eqb-true w 0 g)))) none

-- over a range, which the word has
range-whole : (w b : ℕ) → b ≡ range_bank w → join_range b (range_first w) (range_count w) ≡ w
range-whole w b e = rw e (omega arith)

ranges : (o : ℕ) (f : Bank → ℕ → ℕ → Instr) → ((b : Bank) (i n : ℕ) → T (good_range b i n) → Encodable (f b i n))
    → ((b : Bank) (i n : ℕ) → code_word (f b i n) ≡ join_word o (join_range (bank_number b) i n)) → Right o (ranging f)
ranges o f e q w h = by (bank_numbered (range_bank w)) refl
  where
    by : (x : Option Bank) → bank_numbered (range_bank w) ≡ x → Decodes (join_word o w) (over_range f x (range_first w) (range_count w))
    by (Some b) is =
        picked (Decodes (join_word o w)) (good_range b (range_first w) (range_count w)) (f b (range_first w) (range_count w)) Unknown
        (λ g. one (e b (range_first w) (range_count w) (rw g tt))
        (q b (range_first w) (range_count w) ∙ ap (join_word o) (range-whole w (bank_number b) (bank-number (range_bank w) b is))))
        none
    by None is = none

-- ---- the page
data Rights : List Row → Type 0 where
  end : Rights []
  next : {r : Row} {rs : List Row} → Right r.opcode r.instr → Rights rs → Rights (r ∷ rs)

-- the rows of a list, of which each has its number
module _ {A : Type 0} (number : A → ℕ) (d : A) (first : ℕ) (f : A → ℕ → Instr) (right : (a : A) → Right (first + number a) (f a))
    {rest : List Row} (others : Rights rest) where
  rows_right : (k : ℕ) (l : List A) → ((n : ℕ) → n < length l → number (get_or l n d) ≡ k + n) → Rights (rows (first + k) f l ++ rest)
  rows_right k [] h = others
  rows_right k (a ∷ l) h =
      let here : number a ≡ k = h 0 (omega arith) ∙ add-zero k in
      next (subst (λ n. Right (first + n) (f a)) here (right a))
      (rw (add-suc first k) at (rows_right (suc k) l (λ n g. h (suc n) (omega arith) ∙ omega arith)))

page-right : Rights page
page-right =
    rows_right bank_number X LOAD load_element element
    (rows_right bank_number X LOAD-INDEXED load_indexed (λ b. alone _ (LoadIndexed b) (load-indexed b) refl)
    (rows_right unary_number Neg UNARY apply_unary (λ o. alone _ (Unary o) (unary o) refl)
    (rows_right binary_number (Arith Add) BINARY apply_binary (λ o. alone _ (Binary o) (binary o) refl)
    (rows_right total_number TotalOp.Sum TOTAL apply_total (λ o. ranges _ (Total o) (total o) (λ b i n. refl))
    (rows_right match_number (MatchOp.Count Eq) MATCH apply_match (λ o. ranges _ (Match o) (matching o) (λ b i n. refl))
    (next integer (next real (next (λ w h. one (jump w h) refl) (next (λ w h. one (jump-if false w h) refl) (next (λ w h. one (jump-if true w h) refl)
    (next (alone _ Tick push-tick refl) (next (alone _ Since since refl) end)))))))
    0 match_ops (λ n h. match-forth n h ∙ sym (zero-add n)))
    0 total_ops (λ n h. total-forth n h ∙ sym (zero-add n)))
    0 binary_ops (λ n h. binary-forth n h ∙ sym (zero-add n)))
    0 unary_ops (λ n h. unary-forth n h ∙ sym (zero-add n)))
    0 banks (λ n h. bank-forth n h ∙ sym (zero-add n)))
    0 banks (λ n h. bank-forth n h ∙ sym (zero-add n))

lookup-right : {rs : List Row} → Rights rs → (o : ℕ) → Right o (lookup rs o)
lookup-right end o w h = none
lookup-right (next {r} {rs} g gs) o w h =
    picked (Decodes (join_word o w)) (eqb o r.opcode) (r.instr w) (lookup rs o w) (λ e. rw (eqb-true o r.opcode e) (g w h)) (lookup-right gs o w h)

pub number-decodes : (n : ℕ) → n < 2 ^ 64 → Decodes n (instruction_of n)
unfolding instruction
number-decodes n h =
    let whole : join_word (opcode_of n) (word_of n) ≡ n = omega arith in
    subst (λ m. Decodes m (instruction_of n)) whole (lookup-right page-right (opcode_of n) (word_of n) (omega arith))
