-- What an instruction of each class leaves: one law for each way through the class's function.
use Rattle.std.specs.Prelude.{Option, Some, None}
use mathlib.Core.Path.{◌≡◌, refl, sym, ◌∙◌}
use mathlib.Core.Bool.{Bool, true, false, cond, false≢true}
use mathlib.Core.List.{◌∷◌}
use Prim.Native.Nat.{ℕ}
use lib.Dec.{ltb}
use lib.Ieee.{Float, nan, inf, fin, binary32, of_bits}
use lib.Ieee.Scale.{finite}
use borrow.Author.Tests.{ne_eqb}
use Rattle.values.specs.declared.Kind.{Kind}
use Rattle.values.specs.declared.Kind.TheVariants.{Int, Real}
use Rattle.operators.specs.Tables.{unary_of, binary_of}
use Rattle.operators.specs.Kinds.{is_int, unary_takes, unary_kind, binary_takes, binary_kind, kind_number, typed, unary_typed, binary_typed}
use Rattle.memory.specs.declared.Bank.{Bank}
use Rattle.memory.specs.declared.Bank.TheVariants.{X, C, «V», N, D, R}
use Rattle.memory.specs.Layout.{layout_of}
use Rattle.memory.specs.Cells.{bank_kind}
use Rattle.memory.specs.Numbers.{bank_numbered, bank_elements}
use Rattle.totals.specs.declared.TotalOp.{TotalOp}
use Rattle.totals.specs.declared.MatchOp.{MatchOp}
use Rattle.totals.specs.Totals.{range_within, total_kind, match_kind}
use Rattle.totals.specs.Numbers.{total_of, match_of, total_typed, match_typed}
use Rattle.code.specs.declared.Instr.{Instr}
use Rattle.code.specs.declared.Instr.TheVariants.{Unknown}
use Rattle.code.specs.declared.Class.TheVariants.{PushReal, Tick, Since, Load, LoadIndexed, Unary, Binary, Total, Match}
use Rattle.code.specs.Instructions.{finite_only, load_element, load_indexed, push_tick, apply_since, range_bank, range_first, range_count, over_range, word_of}
use Rattle.code.specs.private.Classes.{number_of, of_bank, of_unary, of_binary, of_total, of_match, instr_in}
use Rattle.verifier.specs.Typing.{Shape, ill_typed, next, push_kind, move_of}
use Rattle.verifier.specs.private.Shapes.{number_kind, leaving, push_number, element_typed, within_bank, LeavesKind, ReplacesKind, ReplacesTwo}
use Rattle.operators.specs.declared.BinaryOp.{BinaryOp}
use Rattle.operators.specs.declared.UnaryOp.{UnaryOp}

-- ---- what is no instruction leaves nothing

module _ {i : Instr} (e : i ≡ Unknown) where
  pub gives_none : LeavesKind i 2
  unfolding move_of
  gives_none = record { is = λ s. rw e }

  turns-none : (k : ℕ) → ReplacesKind i k 2
  unfolding move_of
  turns-none k = record { is = λ s. rw e }

  pairs-none : (j k : ℕ) → ReplacesTwo i j k 2
  unfolding move_of
  pairs-none j k = record { is = λ s. rw e }

-- ---- a kind's number says the kind

pushed-kind : (k : Kind) (s : Shape) → push_kind k s ≡ push_number (kind_number k) s
pushed-kind Int s = refl
pushed-kind Real s = refl

left-kind : (b : Bool) (k : Kind) (s : Shape) → cond b (next (k ∷ s)) ill_typed ≡ leaving (typed b k) s
left-kind true Int s = refl
left-kind true Real s = refl
left-kind false Int s = refl
left-kind false Real s = refl

-- ---- a pushed real

real-is : (x : Float) → finite x ≡ true → LeavesKind (finite_only x) 1
unfolding move_of
real-is nan e = absurd (false≢true e)
real-is (inf s) e = absurd (false≢true e)
real-is (fin s m n) e = record { is = λ r. refl }

real-not : (x : Float) → finite x ≡ false → LeavesKind (finite_only x) 2
real-not nan e = gives_none refl
real-not (inf s) e = gives_none refl
real-not (fin s m n) e = absurd (false≢true (sym e))

-- ---- banks

load_is : (b : (Option Bank)) (w : ℕ) → LeavesKind (of_bank load_element b w) (element_typed b w)
unfolding move_of
load_is (Some b) w = record { is = λ s. go (ltb w (layout_of b).elements) s }
  where
    go : (t : Bool) (s : Shape) → move_of (cond t (Instr.Load b w) Unknown) s ≡ push_number (cond t (kind_number (bank_kind b)) 2) s
    go true s = pushed-kind (bank_kind b) s
    go false s = refl
load_is None w = gives_none refl

-- every bank has a first element
indexed-is : (b : (Option Bank)) (k : ℕ) → ReplacesKind (of_bank load_indexed b 0) k (element_typed b 0)
unfolding move_of
indexed-is (Some X) k = record { is = λ s. refl }
indexed-is (Some C) k = record { is = λ s. refl }
indexed-is (Some «V») k = record { is = λ s. refl }
indexed-is (Some N) k = record { is = λ s. refl }
indexed-is (Some D) k = record { is = λ s. refl }
indexed-is (Some R) k = record { is = λ s. refl }
indexed-is None k = turns-none refl k

-- ---- the tick

tick_is : LeavesKind (push_tick 0) 0
unfolding move_of
tick_is = record { is = λ s. refl }

since-is : (k : ℕ) → ReplacesKind (apply_since 0) k (typed (is_int (number_kind k)) Int)
unfolding move_of
since-is k = record { is = λ s. left-kind (is_int (number_kind k)) Int s }

-- ---- operators

unary-is : (o : (Option UnaryOp)) (k : ℕ) → ReplacesKind (of_unary o 0) k (unary_typed o (number_kind k))
unfolding move_of
unary-is (Some o) k = record { is = λ s. left-kind (unary_takes o (number_kind k)) (unary_kind o (number_kind k)) s }
unary-is None k = turns-none refl k

binary-is : (o : (Option BinaryOp)) (j k : ℕ) → ReplacesTwo (of_binary o 0) j k (binary_typed o (number_kind j) (number_kind k))
unfolding move_of
binary-is (Some o) j k =
    record { is = λ s. left-kind (binary_takes o (number_kind j) (number_kind k)) (binary_kind o (number_kind j) (number_kind k)) s }
binary-is None j k = pairs-none refl j k

-- ---- ranges

-- an instruction over a range that does not lie within its bank is none
no-range : (f : Bank → ℕ → ℕ → Instr) (x : (Option Bank)) (i n : ℕ) → range_within (bank_elements x) i n ≡ false → over_range f x i n ≡ Unknown
no-range f (Some b) i n e = rw e
no-range f None i n e = refl

range-total : (o : TotalOp) (x : (Option Bank)) (i n : ℕ) → range_within (bank_elements x) i n ≡ true
    → LeavesKind (over_range (Instr.Total o) x i n) (total_typed (Some o) x)
unfolding move_of
range-total o (Some b) i n e = rw e (record { is = λ s. pushed-kind (total_kind o b) s })
range-total o None i n e = gives_none refl

range-match : (o : MatchOp) (x : (Option Bank)) (i n : ℕ) → range_within (bank_elements x) i n ≡ true → (k : ℕ)
    → ReplacesKind (over_range (Instr.Match o) x i n) k (match_typed (Some o) x)
unfolding move_of
range-match o (Some b) i n e k = rw e (record { is = λ s. left-kind true (match_kind o b) s })
range-match o None i n e k = turns-none refl k

module _ (w : ℕ) where
  total-is : (u : Option TotalOp) → within_bank w ≡ true → LeavesKind (of_total u w) (total_typed u (bank_numbered (range_bank w)))
  total-is (Some o) e = range-total o (bank_numbered (range_bank w)) (range_first w) (range_count w) e
  total-is None e = gives_none refl

  total-not : (u : Option TotalOp) → within_bank w ≡ false → LeavesKind (of_total u w) 2
  total-not (Some o) e = gives_none (no-range (Instr.Total o) (bank_numbered (range_bank w)) (range_first w) (range_count w) e)
  total-not None e = gives_none refl

  match_is : (u : Option MatchOp) → within_bank w ≡ true → (k : ℕ) → ReplacesKind (of_match u w) k (match_typed u (bank_numbered (range_bank w)))
  match_is (Some o) e = range-match o (bank_numbered (range_bank w)) (range_first w) (range_count w) e
  match_is None e = turns-none refl

  match-not : (u : Option MatchOp) → within_bank w ≡ false → (k : ℕ) → ReplacesKind (of_match u w) k 2
  match-not (Some o) e = turns-none (no-range (Instr.Match o) (bank_numbered (range_bank w)) (range_first w) (range_count w) e)
  match-not None e = turns-none refl

-- ---- a word that must be 0

module _ {w : ℕ} (h : w ≡ 0 → ⊥) where
  tick-not : LeavesKind (push_tick w) 2
  tick-not = gives_none (rw (ne_eqb w 0 h))

  since-not : (k : ℕ) → ReplacesKind (apply_since w) k 2
  since-not = turns-none (rw (ne_eqb w 0 h))

  indexed-not : (b : (Option Bank)) (k : ℕ) → ReplacesKind (of_bank load_indexed b w) k 2
  indexed-not (Some b) = turns-none (rw (ne_eqb w 0 h))
  indexed-not None = turns-none refl

  unary-not : (o : (Option UnaryOp)) (k : ℕ) → ReplacesKind (of_unary o w) k 2
  unary-not (Some o) = turns-none (rw (ne_eqb w 0 h))
  unary-not None = turns-none refl

  binary-not : (o : (Option BinaryOp)) (j k : ℕ) → ReplacesTwo (of_binary o w) j k 2
  binary-not (Some o) = pairs-none (rw (ne_eqb w 0 h))
  binary-not None = pairs-none refl

-- ---- each way through a function, by the number w of the eight bytes

module _ (w : ℕ) {d : ℕ} (q : d ≡ word_of w) where
  pub pushed-real : {b : Bool} → b ≡ finite (of_bits binary32 d) → b ≡ true → LeavesKind (instr_in PushReal w) 1
  pushed-real e t = real-is (of_bits binary32 (word_of w)) (rw (← q) (sym e ∙ t))

  pub unpushed-real : {b : Bool} → b ≡ finite (of_bits binary32 d) → b ≡ false → LeavesKind (instr_in PushReal w) 2
  unpushed-real e t = real-not (of_bits binary32 (word_of w)) (rw (← q) (sym e ∙ t))

  other_word : (d ≡ 0 → ⊥) → word_of w ≡ 0 → ⊥
  other_word h e = h (q ∙ e)

  pub no-tick : (d ≡ 0 → ⊥) → LeavesKind (instr_in Tick w) 2
  no-tick h = tick-not (other_word h)

  pub ticks : d ≡ 0 → LeavesKind (instr_in Tick w) 0
  ticks z =
      let word : word_of w ≡ 0 = sym q ∙ z in
      rw word tick_is

  pub no-since : (d ≡ 0 → ⊥) → (k : ℕ) → ReplacesKind (instr_in Since w) k 2
  no-since h = since-not (other_word h)

  pub applies-since : {n : ℕ} → d ≡ 0 → (k : ℕ) → n ≡ typed (is_int (number_kind k)) Int → ReplacesKind (instr_in Since w) k n
  applies-since z k e =
      let word : word_of w ≡ 0 = sym q ∙ z in
      rw (e, word) (since-is k)

  pub no-indexed : (d ≡ 0 → ⊥) → (k : ℕ) → ReplacesKind (instr_in LoadIndexed w) k 2
  no-indexed h = indexed-not (other_word h) (bank_numbered (number_of w))

  pub no-unary : (d ≡ 0 → ⊥) → (k : ℕ) → ReplacesKind (instr_in Unary w) k 2
  no-unary h = unary-not (other_word h) (unary_of (number_of w))

  pub no-binary : (d ≡ 0 → ⊥) → (j k : ℕ) → ReplacesTwo (instr_in Binary w) j k 2
  no-binary h = binary-not (other_word h) (binary_of (number_of w))

  -- the bank or the operator of the number i
  module _ {i n : ℕ} (p : i ≡ number_of w) where
    pub loads : n ≡ element_typed (bank_numbered i) d → LeavesKind (instr_in Load w) n
    loads e = rw (e, p, q) (load_is (bank_numbered (number_of w)) (word_of w))

    pub loads-indexed : d ≡ 0 → n ≡ element_typed (bank_numbered i) 0 → (k : ℕ) → ReplacesKind (instr_in LoadIndexed w) k n
    loads-indexed z e k =
        let word : word_of w ≡ 0 = sym q ∙ z in
        rw (e, p, word) (indexed-is (bank_numbered (number_of w)) k)

    pub applies-unary : d ≡ 0 → (k : ℕ) → n ≡ unary_typed (unary_of i) (number_kind k) → ReplacesKind (instr_in Unary w) k n
    applies-unary z k e =
        let word : word_of w ≡ 0 = sym q ∙ z in
        rw (e, p, word) (unary-is (unary_of (number_of w)) k)

    pub applies-binary : d ≡ 0 → (j k : ℕ) → n ≡ binary_typed (binary_of i) (number_kind j) (number_kind k) → ReplacesTwo (instr_in Binary w) j k n
    applies-binary z j k e =
        let word : word_of w ≡ 0 = sym q ∙ z in
        rw (e, p, word) (binary-is (binary_of (number_of w)) j k)

-- a range that the code finds to lie within its bank, or not
module _ (w : ℕ) {t : Bool} (g : t ≡ within_bank (word_of w)) where
  pub no-total : t ≡ false → LeavesKind (instr_in Total w) 2
  no-total e = total-not (word_of w) (total_of (number_of w)) (sym g ∙ e)

  pub no-match : t ≡ false → (k : ℕ) → ReplacesKind (instr_in Match w) k 2
  no-match e = match-not (word_of w) (match_of (number_of w)) (sym g ∙ e)

  -- the operator of the number i over the bank of the number b
  module _ {i d b n : ℕ} (e : t ≡ true) (p : i ≡ number_of w) (q : d ≡ word_of w) (r : b ≡ range_bank d) where
    pub adds-up : n ≡ total_typed (total_of i) (bank_numbered b) → LeavesKind (instr_in Total w) n
    adds-up f = rw (f, p, r, q) (total-is (word_of w) (total_of (number_of w)) (sym g ∙ e))

    pub compares : n ≡ match_typed (match_of i) (bank_numbered b) → (k : ℕ) → ReplacesKind (instr_in Match w) k n
    compares f k = rw (f, p, r, q) (match_is (word_of w) (match_of (number_of w)) (sym g ∙ e) k)
