-- What bytes decode to goes over no more than 256 cells: so n instructions count at most n, and 256 for each that goes over a range.
use Rattle.std.specs.Prelude.{Option, Some, None}
use mathlib.Core.Path.{◌≡◌, refl, sym, ◌∙◌, subst}
use mathlib.Core.Bool.{Bool, true, false, cond}
use mathlib.Core.List.{List}
use Prim.Native.Nat.{ℕ, zero, suc, ◌+◌, ◌*◌, ◌≤◌, ◌<◌}
use native.Mathlib.Omega.{arith}
use lib.Dec.{T, eqb, ltb}
use lib.Ieee.{Float, nan, inf, fin, binary32, of_bits}
use borrow.Author.Tests.{lt-ltb}
use Rattle.operators.specs.Tables.{unary_of, binary_of}
use Rattle.memory.specs.declared.Bank.{Bank}
use Rattle.memory.specs.Layout.{layout_of}
use Rattle.memory.specs.Numbers.{bank_numbered}
use Rattle.totals.specs.Totals.{good_range}
use Rattle.totals.specs.Numbers.{total_of, match_of}
use Rattle.totals.proofs.Laws.{total-laws}
use Rattle.code.specs.declared.Instr.{Instr}
use Rattle.code.specs.declared.Instr.TheVariants.{Load, LoadIndexed, Unary, Binary, Tick, Since, Total, Match, Unknown}
use Rattle.code.specs.declared.Class.{Class}
use Rattle.code.specs.Instructions.{finite_only, load_element, load_indexed, range_bank, range_first, range_count, over_range}
use Rattle.code.specs.Instructions.{opcode_of, word_of, fetched, decode_at, decode_from, instructions}
use Rattle.code.specs.private.Classes.{class_of, number_of, of_bank, of_unary, of_binary, of_total, of_match, classed}
use Rattle.code.proofs.Page.{number-class}
use Rattle.code.proofs.Parts.{decode-fetched}
use Rattle.machine.specs.Machine.{range_cells, cost_bound, max_cells, ranges_of}
use Rattle.totals.specs.declared.TotalOp.{TotalOp}
use Rattle.totals.specs.declared.MatchOp.{MatchOp}
use Rattle.operators.specs.declared.BinaryOp.{BinaryOp}
use Rattle.operators.specs.declared.UnaryOp.{UnaryOp}

-- no more than 256 cells, and none where there is no range
record Few (i : Instr) : Type 0 where
  is : range_cells i ≤ max_cells * cond (ltb 0 (range_cells i)) 1 0

none-few : {i : Instr} → range_cells i ≡ 0 → Few i
none-few {i} e = record { is = rw e (omega arith) }

some-few : {i : Instr} → 0 < range_cells i → range_cells i ≤ max_cells → Few i
some-few {i} p l = record { is = rw (lt-ltb 0 (range_cells i) p) (omega arith) }

either-few : (t : Bool) {i j : Instr} → (t ≡ true → Few i) → Few j → Few (cond t i j)
either-few true f g = f refl
either-few false f g = g

range-few : (f : Bank → ℕ → ℕ → Instr) → ((b : Bank) (i n : ℕ) → range_cells (f b i n) ≡ n) → (x : (Option Bank)) (i n : ℕ) → Few (over_range f x i n)
range-few f e (Some b) i n =
    either-few (good_range b i n) (λ g.
    let small = total-laws.range_small b i n (rw g tt) in
    some-few (rw (e b i n) small.0) (rw (e b i n) (omega (arith, small.1)))) (none-few refl)
range-few f e None i n = none-few refl

total-few : (u : (Option TotalOp)) (w : ℕ) → Few (of_total u w)
total-few (Some o) w = range-few (Total o) (λ b i n. refl) (bank_numbered (range_bank w)) (range_first w) (range_count w)
total-few None w = none-few refl

match-few : (u : (Option MatchOp)) (w : ℕ) → Few (of_match u w)
match-few (Some o) w = range-few (Match o) (λ b i n. refl) (bank_numbered (range_bank w)) (range_first w) (range_count w)
match-few None w = none-few refl

-- ---- the classes that go over no range
either-none : (t : Bool) (i : Instr) → range_cells i ≡ 0 → range_cells (cond t i Unknown) ≡ 0
either-none true i e = e
either-none false i e = refl

finite-none : (x : Float) → range_cells (finite_only x) ≡ 0
finite-none nan = refl
finite-none (inf s) = refl
finite-none (fin s m e) = refl

load-none : (u : (Option Bank)) (w : ℕ) → range_cells (of_bank load_element u w) ≡ 0
load-none (Some b) w = either-none (ltb w (layout_of b).elements) (Load b w) refl
load-none None w = refl

indexed-none : (u : (Option Bank)) (w : ℕ) → range_cells (of_bank load_indexed u w) ≡ 0
indexed-none (Some b) w = either-none (eqb w 0) (LoadIndexed b) refl
indexed-none None w = refl

unary-none : (u : (Option UnaryOp)) (w : ℕ) → range_cells (of_unary u w) ≡ 0
unary-none (Some o) w = either-none (eqb w 0) (Unary o) refl
unary-none None w = refl

binary-none : (u : (Option BinaryOp)) (w : ℕ) → range_cells (of_binary u w) ≡ 0
binary-none (Some o) w = either-none (eqb w 0) (Binary o) refl
binary-none None w = refl

abbrev pub is_plain : Class → Bool
is_plain Class.PushInt = true
is_plain Class.PushReal = true
is_plain Class.Jump = true
is_plain Class.JumpIfFalse = true
is_plain Class.JumpIfTrue = true
is_plain Class.Tick = true
is_plain Class.Since = true
is_plain Class.Load = true
is_plain Class.LoadIndexed = true
is_plain Class.Unary = true
is_plain Class.Binary = true
is_plain Class.Total = false
is_plain Class.Match = false
is_plain Class.Unknown = true

pub plain-none : (c : Class) (k w : ℕ) → T (is_plain c) → range_cells (classed c k w) ≡ 0
plain-none Class.PushInt k w t = refl
plain-none Class.PushReal k w t = finite-none (of_bits binary32 w)
plain-none Class.Jump k w t = refl
plain-none Class.JumpIfFalse k w t = refl
plain-none Class.JumpIfTrue k w t = refl
plain-none Class.Tick k w t = either-none (eqb w 0) Tick refl
plain-none Class.Since k w t = either-none (eqb w 0) Since refl
plain-none Class.Load k w t = load-none (bank_numbered k) w
plain-none Class.LoadIndexed k w t = indexed-none (bank_numbered k) w
plain-none Class.Unary k w t = unary-none (unary_of k) w
plain-none Class.Binary k w t = binary-none (binary_of k) w
plain-none Class.Total k w t = absurd t
plain-none Class.Match k w t = absurd t
plain-none Class.Unknown k w t = refl

-- ---- every class
class-few : (c : Class) (k w : ℕ) → Few (classed c k w)
class-few Class.Total k w = total-few (total_of k) w
class-few Class.Match k w = match-few (match_of k) w
class-few Class.PushInt k w = none-few (plain-none Class.PushInt k w tt)
class-few Class.PushReal k w = none-few (plain-none Class.PushReal k w tt)
class-few Class.Jump k w = none-few (plain-none Class.Jump k w tt)
class-few Class.JumpIfFalse k w = none-few (plain-none Class.JumpIfFalse k w tt)
class-few Class.JumpIfTrue k w = none-few (plain-none Class.JumpIfTrue k w tt)
class-few Class.Tick k w = none-few (plain-none Class.Tick k w tt)
class-few Class.Since k w = none-few (plain-none Class.Since k w tt)
class-few Class.Load k w = none-few (plain-none Class.Load k w tt)
class-few Class.LoadIndexed k w = none-few (plain-none Class.LoadIndexed k w tt)
class-few Class.Unary k w = none-few (plain-none Class.Unary k w tt)
class-few Class.Binary k w = none-few (plain-none Class.Binary k w tt)
class-few Class.Unknown k w = none-few (plain-none Class.Unknown k w tt)

decode-few : (s : List ℕ) (p : ℕ) → Few (decode_at s p)
decode-few s p =
    let n = fetched s p in
    subst Few (sym (decode-fetched s p ∙ number-class n)) (class-few (class_of (opcode_of n)) (number_of n) (word_of n))

pub decode-cells : (s : List ℕ) (p : ℕ) → range_cells (decode_at s p) ≤ max_cells
decode-cells s p = by (ltb 0 (range_cells (decode_at s p))) (decode-few s p).is
  where
    by : (t : Bool) → range_cells (decode_at s p) ≤ max_cells * cond t 1 0 → range_cells (decode_at s p) ≤ max_cells
    by true h = omega arith
    by false h = omega arith

bound-from : (s : List ℕ) (p n : ℕ) → cost_bound (decode_from s p n) ≤ n + max_cells * ranges_of (decode_from s p n)
unfolding decode_from
bound-from s p zero = omega arith
bound-from s p (suc n) = omega (arith, bound-from s (suc p) n, (decode-few s p).is)

-- of n instructions of any bytes
pub bound-code : (s : List ℕ) (n : ℕ) → cost_bound (instructions s n) ≤ n + max_cells * ranges_of (instructions s n)
bound-code s n = bound-from s 0 n
