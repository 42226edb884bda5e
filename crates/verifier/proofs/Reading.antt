-- What leaves an integer does not read R, but for a match that counts: one law for each class.
use Rattle.std.specs.Prelude.{Option, Some, None}
use mathlib.Core.Path.{◌≡◌, refl, sym, ap, ◌∙◌}
use mathlib.Core.Bool.{Bool, true, false, not, ◌&&◌, cond, false≢true}
use mathlib.Core.List.{[], ◌∷◌}
use Prim.Native.Nat.{ℕ}
use lib.Dec.{eqb, ltb}
use lib.Ieee.{Float, nan, inf, fin, binary32, of_bits}
use Rattle.values.specs.declared.Kind.{Kind}
use Rattle.values.specs.declared.Kind.TheVariants.{Int, Real}
use Rattle.operators.specs.Tables.{unary_of, binary_of}
use Rattle.operators.specs.Kinds.{is_int, kind_number}
use Rattle.memory.specs.declared.Bank.{Bank}
use Rattle.memory.specs.Layout.{layout_of}
use Rattle.memory.specs.Cells.{bank_kind, real_bank}
use Rattle.memory.specs.Numbers.{bank_numbered, bank_typed}
use Rattle.totals.specs.declared.TotalOp.{TotalOp}
use Rattle.totals.specs.declared.MatchOp.{MatchOp}
use Rattle.totals.specs.Totals.{good_range}
use Rattle.totals.specs.Numbers.{total_of, match_of}
use Rattle.code.specs.declared.Instr.{Instr}
use Rattle.code.specs.declared.Instr.TheVariants.{Unknown}
use Rattle.code.specs.declared.Class.TheVariants as Class
use Rattle.code.specs.Instructions.{finite_only, load_element, load_indexed, range_bank, range_first, range_count, over_range, word_of}
use Rattle.code.specs.Reals.{reads_real}
use Rattle.code.specs.private.Classes.{number_of, of_bank, of_unary, of_binary, of_total, of_match, instr_in}
use Rattle.verifier.specs.Typing.{Shape, ill_typed, next, move_of}
use Rattle.verifier.specs.Profile.{all_int, held_after}
use Rattle.verifier.specs.private.Shapes.{leaving, push_number, LeavesKind, ReplacesKind, bars_range}
use Rattle.verifier.specs.private.Pass.{admitted_move}
use Rattle.verifier.proofs.Moves.{unknown-moves}
use Rattle.verifier.proofs.Admitted.{Silent, none-admitted}
use Rattle.operators.specs.declared.BinaryOp.{BinaryOp}
use Rattle.operators.specs.declared.UnaryOp.{UnaryOp}

-- an instruction where a test holds
tested : (t : Bool) (i : Instr) → reads_real i ≡ false → reads_real (cond t i Unknown) ≡ false
tested true i e = e
tested false i e = refl

-- ---- classes that read no bank

finite-reads : (x : Float) → reads_real (finite_only x) ≡ false
finite-reads nan = refl
finite-reads (inf s) = refl
finite-reads (fin s m e) = refl

unary-reads : (o : (Option UnaryOp)) (w : ℕ) → reads_real (of_unary o w) ≡ false
unary-reads (Some o) w = tested (eqb w 0) (Instr.Unary o) refl
unary-reads None w = refl

binary-reads : (o : (Option BinaryOp)) (w : ℕ) → reads_real (of_binary o w) ≡ false
binary-reads (Some o) w = tested (eqb w 0) (Instr.Binary o) refl
binary-reads None w = refl

module _ {reals : Bool} {n : ℕ} (w : ℕ) where
  pub int-silent : Silent reals n (instr_in Class.PushInt w)
  int-silent r z = refl

  pub real-silent : Silent reals n (instr_in Class.PushReal w)
  real-silent r z = finite-reads (of_bits binary32 (word_of w))

  pub tick-silent : Silent reals n (instr_in Class.Tick w)
  tick-silent r z = tested (eqb (word_of w) 0) Instr.Tick refl

  pub since-silent : Silent reals n (instr_in Class.Since w)
  since-silent r z = tested (eqb (word_of w) 0) Instr.Since refl

  pub unary-silent : Silent reals n (instr_in Class.Unary w)
  unary-silent r z = unary-reads (unary_of (number_of w)) (word_of w)

  pub binary-silent : Silent reals n (instr_in Class.Binary w)
  binary-silent r z = binary-reads (binary_of (number_of w)) (word_of w)

-- ---- classes that leave a bank's kind

int-bank : (b : Bank) → bank_kind b ≡ Int → real_bank b ≡ false
int-bank b e = rw e

left-int : (k : Kind) → next (k ∷ []) ≡ next (Int ∷ []) → k ≡ Int
left-int k e = cc

real-int : {X : Type 0} → next (Real ∷ []) ≡ next (Int ∷ []) → X
real-int e = cc

load_int : (t : Bool) (b : Bank) (v : ℕ) → move_of (cond t (Instr.Load b v) Unknown) [] ≡ next (Int ∷ [])
    → reads_real (cond t (Instr.Load b v) Unknown) ≡ false
unfolding move_of
load_int true b v e = int-bank b (left-int (bank_kind b) e)
load_int false b v e = refl

indexed-int : (t : Bool) (b : Bank) → move_of (cond t (Instr.LoadIndexed b) Unknown) (Int ∷ []) ≡ next (Int ∷ [])
    → reads_real (cond t (Instr.LoadIndexed b) Unknown) ≡ false
unfolding move_of
indexed-int true b e = int-bank b (left-int (bank_kind b) e)
indexed-int false b e = refl

total-int : (t : Bool) (o : TotalOp) (b : Bank) (i m : ℕ) → move_of (cond t (Instr.Total o b i m) Unknown) [] ≡ next (Int ∷ [])
    → reads_real (cond t (Instr.Total o b i m) Unknown) ≡ false
unfolding move_of
total-int true TotalOp.Sum b i m e = int-bank b (left-int (bank_kind b) e)
total-int true TotalOp.Average b i m e = real-int e
total-int true (TotalOp.Choice o) b i m e = int-bank b (left-int (bank_kind b) e)
total-int false o b i m e = refl

module _ {reals : Bool} {n : ℕ} (w : ℕ) where
  pub load-silent : LeavesKind (instr_in Class.Load w) n → Silent reals n (instr_in Class.Load w)
  load-silent t r z = by (bank_numbered (number_of w)) (t.is [] ∙ ap (λ n. push_number n []) z)
    where
      by : (x : Option Bank) → move_of (of_bank load_element x (word_of w)) [] ≡ next (Int ∷ []) → reads_real (of_bank load_element x (word_of w)) ≡ false
      by (Some b) e = load_int (ltb (word_of w) (layout_of b).elements) b (word_of w) e
      by None e = refl

  pub indexed-silent : ReplacesKind (instr_in Class.LoadIndexed w) 0 n → Silent reals n (instr_in Class.LoadIndexed w)
  indexed-silent t r z = by (bank_numbered (number_of w)) (t.is [] ∙ ap (λ n. leaving n []) z)
    where
      by : (x : Option Bank) → move_of (of_bank load_indexed x (word_of w)) (Int ∷ []) ≡ next (Int ∷ []) → reads_real (of_bank load_indexed x (word_of w)) ≡ false
      by (Some b) e = indexed-int (eqb (word_of w) 0) b e
      by None e = refl

  pub total-silent : LeavesKind (instr_in Class.Total w) n → Silent reals n (instr_in Class.Total w)
  total-silent t r z = by (total_of (number_of w)) (t.is [] ∙ ap (λ n. push_number n []) z)
    where
      over : (o : TotalOp) (x : (Option Bank)) (i m : ℕ) → move_of (over_range (Instr.Total o) x i m) [] ≡ next (Int ∷ [])
          → reads_real (over_range (Instr.Total o) x i m) ≡ false
      over o (Some b) i m e = total-int (good_range b i m) o b i m e
      over o None i m e = refl

      by : (u : Option TotalOp) → move_of (of_total u (word_of w)) [] ≡ next (Int ∷ []) → reads_real (of_total u (word_of w)) ≡ false
      by (Some o) e = over o (bank_numbered (range_bank (word_of w))) (range_first (word_of w)) (range_count (word_of w)) e
      by None e = refl

-- ---- a match: its bank is asked

real-kind : (k : Kind) → eqb (kind_number k) 1 ≡ not (is_int k)
real-kind Int = refl
real-kind Real = refl

clear-range : (o : MatchOp) (x : (Option Bank)) (i m : ℕ) → eqb (bank_typed x) 1 ≡ false → reads_real (over_range (Instr.Match o) x i m) ≡ false
clear-range o (Some b) i m e = tested (good_range b i m) (Instr.Match o b i m) (sym (real-kind (bank_kind b)) ∙ e)
clear-range o None i m e = refl

clear-match : (u : (Option MatchOp)) (w : ℕ) → eqb (bank_typed (bank_numbered (range_bank w))) 1 ≡ false → reads_real (of_match u w) ≡ false
clear-match (Some o) w e = clear-range o (bank_numbered (range_bank w)) (range_first w) (range_count w) e
clear-match None w e = refl

barred-if : (t : Bool) (i : Instr) (s : Shape) → reads_real i ≡ true → admitted_move false (cond t i Unknown) s ≡ ill_typed
barred-if true i s e = ap (λ r. cond (not r && all_int (held_after (move_of i s))) (move_of i s) ill_typed) e
barred-if false i s e = none-admitted false Unknown s (unknown-moves s)

barred-range : (o : MatchOp) (x : (Option Bank)) (i m : ℕ) (s : Shape) → eqb (bank_typed x) 1 ≡ true
    → admitted_move false (over_range (Instr.Match o) x i m) s ≡ ill_typed
barred-range o (Some b) i m s e = barred-if (good_range b i m) (Instr.Match o b i m) s (sym (real-kind (bank_kind b)) ∙ e)
barred-range o None i m s e = none-admitted false Unknown s (unknown-moves s)

barred-match : (u : (Option MatchOp)) (w : ℕ) (s : Shape) → eqb (bank_typed (bank_numbered (range_bank w))) 1 ≡ true → admitted_move false (of_match u w) s ≡ ill_typed
barred-match (Some o) w s e = barred-range o (bank_numbered (range_bank w)) (range_first w) (range_count w) s e
barred-match None w s e = none-admitted false Unknown s (unknown-moves s)

pub match-silent : (reals : Bool) {n : ℕ} (w : ℕ) → bars_range reals (word_of w) ≡ false → Silent reals n (instr_in Class.Match w)
match-silent true w e r z = absurd (false≢true (sym r))
match-silent false w e r z = clear-match (match_of (number_of w)) (word_of w) e

pub match-barred : (reals : Bool) (w : ℕ) (s : Shape) → bars_range reals (word_of w) ≡ true → admitted_move reals (instr_in Class.Match w) s ≡ ill_typed
match-barred true w s e = absurd (false≢true e)
match-barred false w s e = barred-match (match_of (number_of w)) (word_of w) s e
