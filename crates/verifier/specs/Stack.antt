-- The values held by a run, which demand 3 bounds: code "is never short of a value and never holds more than 128".
use Rattle.std.specs.Prelude.{◌≡◌, Bool, List, [], ◌∷◌, map, ℕ, ◌≤◌, T, length, ℤ, Float}
use Rattle.values.specs.declared.Kind.{Kind}
use Rattle.values.specs.declared.Value.{Value}
use Rattle.values.specs.Values.{kind_of}
use Rattle.operators.specs.declared.UnaryOp.{UnaryOp}
use Rattle.operators.specs.declared.BinaryOp.{BinaryOp}
use Rattle.operators.specs.Kinds.{is_int, unary_takes, binary_takes}
use Rattle.memory.specs.declared.Bank.{Bank}
use Rattle.memory.specs.Environment.{Environment}
use Rattle.totals.specs.declared.TotalOp.{TotalOp}
use Rattle.totals.specs.declared.MatchOp.{MatchOp}
use Rattle.code.specs.declared.Instr.{Instr}
use Rattle.code.specs.declared.Instr.TheVariants.{PushInt, PushReal, Load, LoadIndexed, Unary, Binary, Jump, JumpIf, Tick, Since, Total, Match}
use Rattle.machine.specs.Machine.{max_height}
use Rattle.machine.specs.Configurations.{Configuration, Begins, Finishes}
use Rattle.verifier.specs.Typing.{Shape}

-- what an instruction takes is held, of kinds that it takes, the last pushed first: "Code is short of a value if an instruction begins with fewer held than it
-- takes, or one of the wrong kind."
pub data HasOperands : Instr → Shape → Type 0 where
  push-int : {z : ℤ} {s : Shape} → HasOperands (PushInt z) s
  push-real : {x : Float} {s : Shape} → HasOperands (PushReal x) s
  load : {b : Bank} {i : ℕ} {s : Shape} → HasOperands (Load b i) s
  load-indexed : {b : Bank} {k : Kind} {s : Shape} → HasOperands (LoadIndexed b) (k ∷ s)
  unary : {o : UnaryOp} {k : Kind} {s : Shape} → T (unary_takes o k) → HasOperands (Unary o) (k ∷ s)
  binary : {o : BinaryOp} {j k : Kind} {s : Shape} → T (binary_takes o j k) → HasOperands (Binary o) (k ∷ (j ∷ s))
  jump_always : {d : ℕ} {s : Shape} → HasOperands (Jump d) s
  jump-if : {t : Bool} {d : ℕ} {k : Kind} {s : Shape} → HasOperands (JumpIf t d) (k ∷ s)
  push-tick : {s : Shape} → HasOperands Tick s
  since : {k : Kind} {s : Shape} → T (is_int k) → HasOperands Since (k ∷ s)
  total : {o : TotalOp} {b : Bank} {i n : ℕ} {s : Shape} → HasOperands (Total o b i n) s
  matching : {o : MatchOp} {b : Bank} {i n : ℕ} {k : Kind} {s : Shape} → HasOperands (Match o b i n) (k ∷ s)

-- what the run of c in E holds, where the end has a value of the kind k
pub record StackSafe (E : Environment) (c : List Instr) (k : Kind) : Type 0 where
  -- "never holds more than 128": before and after every instruction, and at the end
  pub height : {left : List Instr} {d : ℕ} {st : List Value} → Configuration E c left d st → length st ≤ max_height
  -- "is never short of a value"
  pub operands : {i : Instr} {st : List Value} → Begins E c i st → HasOperands i (map kind_of st)
  -- "the end has one value"
  pub result : {st : List Value} → Finishes E c st → map kind_of st ≡ k ∷ []
