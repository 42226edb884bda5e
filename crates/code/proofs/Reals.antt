-- Which instructions read R: one law for each class of those that read a bank, and one for the others.
use Rattle.std.specs.Prelude.{Option, Some, None}
use mathlib.Core.Path.{◌≡◌, refl, sym, ap, ◌∙◌}
use mathlib.Core.Bool.{Bool, true, false, not, cond}
use Prim.Native.Nat.{ℕ}
use lib.Dec.{eqb, ltb}
use lib.Ieee.{Float, nan, inf, fin, binary32, of_bits}
use Rattle.values.specs.declared.Kind.{Kind}
use Rattle.operators.specs.Tables.{unary_of, binary_of}
use Rattle.operators.specs.Kinds.{is_int, kind_number}
use Rattle.memory.specs.declared.Bank.{Bank}
use Rattle.memory.specs.Layout.{layout_of}
use Rattle.memory.specs.Cells.{bank_kind, real_bank}
use Rattle.memory.specs.Numbers.{bank_numbered, bank_typed}
use Rattle.totals.specs.Totals.{good_range}
use Rattle.totals.specs.Numbers.{total_of, match_of}
use Rattle.code.specs.declared.Instr.{Instr}
use Rattle.code.specs.declared.Instr.TheVariants.{Unknown}
use Rattle.code.specs.declared.Class.{Class}
use Rattle.code.specs.declared.Class.TheVariants.{PushInt, PushReal, Jump, JumpIfFalse, JumpIfTrue, Tick, Since, Load, LoadIndexed, Unary}
use Rattle.code.specs.declared.Class.TheVariants.{Binary, Total, Match}
use Rattle.code.specs.Instructions.{finite_only, load_element, load_indexed, range_bank, range_first, range_count, over_range, opcode_of, word_of, instruction_of}
use Rattle.code.specs.Reals.{reads_real}
use Rattle.code.specs.private.Classes.{class_of, number_of, of_bank, of_unary, of_binary, of_total, of_match, instr_in}
use Rattle.code.proofs.Page.{number-class}
use Rattle.totals.specs.declared.TotalOp.{TotalOp}
use Rattle.totals.specs.declared.MatchOp.{MatchOp}
use Rattle.operators.specs.declared.BinaryOp.{BinaryOp}
use Rattle.operators.specs.declared.UnaryOp.{UnaryOp}

-- what is an instruction reads R just if r
abbrev pub SaysReal : Bool → Instr → Type 0
SaysReal r i = (i ≡ Unknown → ⊥) → r ≡ reads_real i

-- by its class c, which is k, the number n of the eight bytes is an instruction
pub by-class : (n : ℕ) {c : Class} {r : Bool} (k : Class) → c ≡ class_of (opcode_of n) → c ≡ k → SaysReal r (instr_in k n) → SaysReal r (instruction_of n)
by-class n k e q h = rw (number-class n ∙ ap (λ x. instr_in x n) (sym e ∙ q)) h

-- ---- a bank's kind by its number

real-kind : (k : Kind) → eqb (kind_number k) 1 ≡ not (is_int k)
real-kind Kind.Int = refl
real-kind Kind.Real = refl

-- an instruction if a test holds
tested : (t : Bool) (i : Instr) {r : Bool} → r ≡ reads_real i → SaysReal r (cond t i Unknown)
tested true i e n = e
tested false i e n = absurd (n refl)

of-bank : (f : Bank → ℕ → Instr) → ((b : Bank) (w : ℕ) → SaysReal (real_bank b) (f b w)) → (x : (Option Bank)) (w : ℕ) → SaysReal (eqb (bank_typed x) 1) (of_bank f x w)
of-bank f h (Some b) w n = real-kind (bank_kind b) ∙ h b w n
of-bank f h None w n = absurd (n refl)

over-range : (f : Bank → ℕ → ℕ → Instr) → ((b : Bank) (i m : ℕ) → real_bank b ≡ reads_real (f b i m)) → (x : (Option Bank)) (i m : ℕ)
    → SaysReal (eqb (bank_typed x) 1) (over_range f x i m)
over-range f h (Some b) i m n = real-kind (bank_kind b) ∙ tested (good_range b i m) (f b i m) (h b i m) n
over-range f h None i m n = absurd (n refl)

of-total : (o : (Option TotalOp)) (w : ℕ) → SaysReal (eqb (bank_typed (bank_numbered (range_bank w))) 1) (of_total o w)
of-total (Some o) w = over-range (Instr.Total o) (λ b i m. refl) (bank_numbered (range_bank w)) (range_first w) (range_count w)
of-total None w = λ n. absurd (n refl)

of-match : (o : (Option MatchOp)) (w : ℕ) → SaysReal (eqb (bank_typed (bank_numbered (range_bank w))) 1) (of_match o w)
of-match (Some o) w = over-range (Instr.Match o) (λ b i m. refl) (bank_numbered (range_bank w)) (range_first w) (range_count w)
of-match None w = λ n. absurd (n refl)

-- the bank of the number b has the kind k
module _ (n : ℕ) {b k : ℕ} (t : k ≡ bank_typed (bank_numbered b)) where
  module _ (e : b ≡ number_of n) where
    pub load-reads : SaysReal (eqb k 1) (instr_in Load n)
    load-reads = rw (t, e) (of-bank load_element (λ b w. tested (ltb w (layout_of b).elements) (Instr.Load b w) refl) (bank_numbered (number_of n)) (word_of n))

    pub indexed-reads : SaysReal (eqb k 1) (instr_in LoadIndexed n)
    indexed-reads = rw (t, e) (of-bank load_indexed (λ b w. tested (eqb w 0) (Instr.LoadIndexed b) refl) (bank_numbered (number_of n)) (word_of n))

  module _ {w : ℕ} (e : b ≡ range_bank w) (q : w ≡ word_of n) where
    pub total-reads : SaysReal (eqb k 1) (instr_in Total n)
    total-reads = rw (t, e, q) (of-total (total_of (number_of n)) (word_of n))

    pub match-reads : SaysReal (eqb k 1) (instr_in Match n)
    match-reads = rw (t, e, q) (of-match (match_of (number_of n)) (word_of n))

-- ---- the other classes

finite-reads : (x : Float) → false ≡ reads_real (finite_only x)
finite-reads nan = refl
finite-reads (inf s) = refl
finite-reads (fin s m e) = refl

unary-reads : (o : (Option UnaryOp)) (w : ℕ) → SaysReal false (of_unary o w)
unary-reads (Some o) w = tested (eqb w 0) (Instr.Unary o) refl
unary-reads None w = λ n. refl

binary-reads : (o : (Option BinaryOp)) (w : ℕ) → SaysReal false (of_binary o w)
binary-reads (Some o) w = tested (eqb w 0) (Instr.Binary o) refl
binary-reads None w = λ n. refl

pub other-reads : (n : ℕ) (k : Class) → (k ≡ Load → ⊥) → (k ≡ LoadIndexed → ⊥) → (k ≡ Total → ⊥) → (k ≡ Match → ⊥) → SaysReal false (instr_in k n)
other-reads n PushInt l x t m = λ i. refl
other-reads n PushReal l x t m = λ i. finite-reads (of_bits binary32 (word_of n))
other-reads n Jump l x t m = λ i. refl
other-reads n JumpIfFalse l x t m = λ i. refl
other-reads n JumpIfTrue l x t m = λ i. refl
other-reads n Tick l x t m = tested (eqb (word_of n) 0) Instr.Tick refl
other-reads n Since l x t m = tested (eqb (word_of n) 0) Instr.Since refl
other-reads n Load l x t m = absurd (l refl)
other-reads n LoadIndexed l x t m = absurd (x refl)
other-reads n Unary l x t m = unary-reads (unary_of (number_of n)) (word_of n)
other-reads n Binary l x t m = binary-reads (binary_of (number_of n)) (word_of n)
other-reads n Total l x t m = absurd (t refl)
other-reads n Match l x t m = absurd (m refl)
other-reads n Class.Unknown l x t m = λ i. refl
