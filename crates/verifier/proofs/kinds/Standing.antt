-- Which instructions are known: those that act on two integers, apart from jumps.
use mathlib.Core.Path.{◌≡◌, refl, sym, ap, ◌∙◌}
use mathlib.Core.Bool.{Bool, true, false, cond}
use mathlib.Core.List.{[], ◌∷◌}
use Prim.Native.Nat.{ℕ}
use lib.Dec.{ltb}
use Rattle.values.specs.declared.Kind.TheVariants.{Int}
use Rattle.operators.specs.declared.UnaryOp.{UnaryOp}
use Rattle.operators.specs.declared.UnaryOp.TheVariants.{Neg, Complement, Not, Abs, ToReal, Trunc, Round, Frac}
use Rattle.operators.specs.declared.BinaryOp.{BinaryOp}
use Rattle.operators.specs.declared.BinaryOp.TheVariants.{Arith, Power, Shift, Compare, Bits, Choice}
use Rattle.operators.specs.Kinds.{unary_takes, binary_takes}
use Rattle.code.specs.declared.Instr.{Instr}
use Rattle.code.specs.declared.Instr.TheVariants.{PushInt, PushReal, Load, LoadIndexed, Unary, Binary, Jump, JumpIf, Tick, Since, Total, Match, Unknown}
use Rattle.code.specs.declared.Class.{Class}
use Rattle.code.specs.Instructions.{opcode_of, instruction_of}
use Rattle.code.specs.private.Classes.{class_of, instr_in}
use Rattle.code.proofs.Page.{number-class}
use Rattle.verifier.specs.Typing.{Shape, ill_typed, next, move_of, well_formed}
use Rattle.verifier.specs.private.Shapes.{LeavesKind, ReplacesKind, ReplacesTwo}

abbrev two : Shape
two = Int ∷ (Int ∷ [])

unary_int : (o : UnaryOp) → unary_takes o Int ≡ true
unary_int Neg = refl
unary_int Complement = refl
unary_int Not = refl
unary_int Abs = refl
unary_int ToReal = refl
unary_int Trunc = refl
unary_int Round = refl
unary_int Frac = refl

binary_int : (o : BinaryOp) → binary_takes o Int Int ≡ true
binary_int (Arith o) = refl
binary_int Power = refl
binary_int (Shift o) = refl
binary_int (Compare o) = refl
binary_int (Bits o) = refl
binary_int (Choice o) = refl

-- it goes on or not
goes_on : (b : Bool) {x : Shape} (r : Shape) → next x ≡ cond b (next r) ill_typed → b ≡ true
goes_on true r e = refl
goes_on false r e = cc

module _ (m : ℕ) where
  acts : (i : Instr) (b : Bool) (r : Shape) → move_of i two ≡ cond b (next r) ill_typed → b ≡ well_formed m i
  unfolding move_of
  acts (PushInt z) b r e = goes_on b r e
  acts (PushReal x) b r e = goes_on b r e
  acts (Load c i) b r e = goes_on b r e
  acts (LoadIndexed c) b r e = goes_on b r e
  acts (Unary o) b r e = goes_on b r (rw (unary_int o) at e)
  acts (Binary o) b r e = goes_on b r (rw (binary_int o) at e)
  acts (Jump d) true r e = cc
  acts (Jump d) false r e = cc
  acts (JumpIf t d) true r e = cc
  acts (JumpIf t d) false r e = cc
  acts Tick b r e = goes_on b r e
  acts Since b r e = goes_on b r e
  acts (Total o c i n) b r e = goes_on b r e
  acts (Match o c i n) b r e = goes_on b r e
  acts Unknown true r e = cc
  acts Unknown false r e = refl

  module _ {i : Instr} {n : ℕ} where
    pub gives-known : LeavesKind i n → ltb n 2 ≡ well_formed m i
    gives-known f = acts i (ltb n 2) _ (f.is two)

    pub turns-known : ReplacesKind i 0 n → ltb n 2 ≡ well_formed m i
    turns-known f = acts i (ltb n 2) _ (f.is (Int ∷ []))

    pub pairs-known : ReplacesTwo i 0 0 n → ltb n 2 ≡ well_formed m i
    pairs-known f = acts i (ltb n 2) _ (f.is [])

-- ---- by its class c, which is k, the number n of the eight bytes is an instruction

module _ (n : ℕ) {c : Class} (k : Class) (e : c ≡ class_of (opcode_of n)) (q : c ≡ k) where
  pub in-class : instruction_of n ≡ instr_in k n
  in-class = number-class n ∙ ap (λ x. instr_in x n) (sym e ∙ q)

  pub known_by : (m : ℕ) {r : Bool} → r ≡ well_formed m (instr_in k n) → r ≡ well_formed m (instruction_of n)
  known_by m h = h ∙ ap (well_formed m) (sym in-class)
