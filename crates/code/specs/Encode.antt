-- The eight bytes of an instruction, and that bytes and instructions correspond: proofs/Laws.antt proves `EncodeLaws`.
use Rattle.std.specs.Prelude.{◌≡◌, ◌≢◌, Bool, true, false, List, ℕ, ◌+◌, ◌*◌, ◌^◌, ◌<◌, T, ℤ, length, Float}
use Rattle.std.specs.Float.Ieee as Ieee
use Rattle.std.specs.Float.{binary32}
use Rattle.reals.specs.Singles.{Single}
use Rattle.values.specs.Integers.{in_range}
use Rattle.values.specs.Patterns.{low_bits}
use Rattle.operators.specs.declared.UnaryOp.{UnaryOp}
use Rattle.operators.specs.declared.BinaryOp.{BinaryOp}
use Rattle.words.specs.Words.{bytes_of}
use Rattle.words.specs.Laws.{Bytes}
use Rattle.memory.specs.declared.Bank.{Bank}
use Rattle.memory.specs.Layout.{layout_of}
use Rattle.memory.specs.Numbers.{bank_number}
use Rattle.operators.specs.Tables.{unary_number, binary_number}
use Rattle.totals.specs.declared.TotalOp.{TotalOp}
use Rattle.totals.specs.declared.MatchOp.{MatchOp}
use Rattle.totals.specs.Totals.{good_range}
use Rattle.totals.specs.Numbers.{total_number, match_number}
use Rattle.code.specs.declared.Instr.{Instr}
use Rattle.code.specs.declared.Instr.TheVariants.{PushInt, PushReal, Load, LoadIndexed, Unary, Binary, Jump, JumpIf, Tick, Since, Total, Match, Unknown}
use Rattle.code.specs.Instructions.{PUSH-INT, PUSH-REAL, JUMP, JUMP-IF-FALSE, JUMP-IF-TRUE, TICK, SINCE, LOAD, LOAD-INDEXED, UNARY, BINARY}
use Rattle.code.specs.Instructions.{TOTAL, MATCH, decode_at}

-- the number of eight bytes, of an opcode and a word
abbrev pub join_word : ℕ → ℕ → ℕ
join_word o w = o + 2 ^ 32 * w

-- the word of a range, of a bank's number, a first element and a count
abbrev pub join_range : ℕ → ℕ → ℕ → ℕ
join_range b i n = b + 2 ^ 8 * i + 2 ^ 16 * n

-- the number of an instruction's eight bytes
abbrev pub code_word : Instr → ℕ
code_word (PushInt z) = join_word PUSH-INT (low_bits 32 z)
code_word (PushReal x) = join_word PUSH-REAL (Ieee.to_bits binary32 x)
code_word (Load b i) = join_word (LOAD + bank_number b) i
code_word (LoadIndexed b) = join_word (LOAD-INDEXED + bank_number b) 0
code_word (Unary o) = join_word (UNARY + unary_number o) 0
code_word (Binary o) = join_word (BINARY + binary_number o) 0
code_word (Jump d) = join_word JUMP d
code_word (JumpIf false d) = join_word JUMP-IF-FALSE d
code_word (JumpIf true d) = join_word JUMP-IF-TRUE d
code_word Tick = join_word TICK 0
code_word Since = join_word SINCE 0
code_word (Total o b i n) = join_word (TOTAL + total_number o) (join_range (bank_number b) i n)
code_word (Match o b i n) = join_word (MATCH + match_number o) (join_range (bank_number b) i n)
code_word Unknown = 0

abbrev pub encode : Instr → List ℕ
encode i = bytes_of 8 (code_word i)

-- an instruction that eight bytes can hold
pub data Encodable : Instr → Type 0 where
  push-int : (z : ℤ) → T (in_range z) → Encodable (PushInt z)
  push-real : (x : Float) → Single x → Encodable (PushReal x)
  load : (b : Bank) (i : ℕ) → i < (layout_of b).elements → Encodable (Load b i)
  load-indexed : (b : Bank) → Encodable (LoadIndexed b)
  unary : (o : UnaryOp) → Encodable (Unary o)
  binary : (o : BinaryOp) → Encodable (Binary o)
  jump : (d : ℕ) → d < 2 ^ 32 → Encodable (Jump d)
  jump-if : (t : Bool) (d : ℕ) → d < 2 ^ 32 → Encodable (JumpIf t d)
  push-tick : Encodable Tick
  since : Encodable Since
  total : (o : TotalOp) (b : Bank) (i n : ℕ) → T (good_range b i n) → Encodable (Total o b i n)
  matching : (o : MatchOp) (b : Bank) (i n : ℕ) → T (good_range b i n) → Encodable (Match o b i n)

pub record EncodeLaws : Type 0 where
  -- decoding undoes encoding
  pub decoded : (i : Instr) → Encodable i → decode_at (encode i) 0 ≡ i
  -- eight bytes are the encoding of one instruction, or of none
  pub encoded : (bs : List ℕ) → length bs ≡ 8 → Bytes bs → decode_at bs 0 ≢ Unknown → (encode (decode_at bs 0) ≡ bs) × Encodable (decode_at bs 0)
