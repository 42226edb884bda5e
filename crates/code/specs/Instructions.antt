-- The instruction set: one row an opcode, and which eight bytes are which instruction (paper 01, "Code and its check": "every one is known (a cell beyond its
-- bank, or a pushed infinity or NaN, is not)"). docs/INSTRUCTIONS.md is the same page in words.
use Rattle.std.specs.Prelude.{true, false, cond, List, [], ◌∷◌, ◌++◌, ℕ, zero, suc, ◌+◌, ◌*◌, ◌/◌, ◌%◌, ◌^◌, eqb, ltb, length, take, drop, Float, Option, Some, None}
use Rattle.std.specs.Float.Ieee as Ieee
use Rattle.std.specs.Float.{nan, inf, fin, binary32}
use Rattle.values.specs.Patterns.{signed_of}
use Rattle.operators.specs.declared.UnaryOp.{UnaryOp}
use Rattle.operators.specs.declared.BinaryOp.{BinaryOp}
use Rattle.operators.specs.Tables.{unary_ops, binary_ops}
use Rattle.words.specs.Words.{little_endian}
use Rattle.memory.specs.declared.Bank.{Bank}
use Rattle.memory.specs.Layout.{layout_of}
use Rattle.memory.specs.Numbers.{banks, bank_numbered}
use Rattle.totals.specs.declared.TotalOp.{TotalOp}
use Rattle.totals.specs.declared.MatchOp.{MatchOp}
use Rattle.totals.specs.Totals.{good_range}
use Rattle.totals.specs.Numbers.{total_ops, match_ops}
use Rattle.code.specs.declared.Instr.{Instr}
use Rattle.code.specs.declared.Instr.TheVariants.{PushInt, PushReal, Load, LoadIndexed, Unary, Binary, Jump, JumpIf, Tick, Since, Total, Match, Unknown}

-- ---- the opcodes
abbrev pub PUSH-INT : ℕ
PUSH-INT = 1

abbrev pub PUSH-REAL : ℕ
PUSH-REAL = 2

abbrev pub JUMP : ℕ
JUMP = 3

abbrev pub JUMP-IF-FALSE : ℕ
JUMP-IF-FALSE = 4

abbrev pub JUMP-IF-TRUE : ℕ
JUMP-IF-TRUE = 5

abbrev pub TICK : ℕ
TICK = 6

abbrev pub SINCE : ℕ
SINCE = 7

-- the first of a class: the number of the bank or of the operator is added
abbrev pub LOAD : ℕ
LOAD = 32

abbrev pub LOAD-INDEXED : ℕ
LOAD-INDEXED = 64

abbrev pub UNARY : ℕ
UNARY = 96

abbrev pub BINARY : ℕ
BINARY = 128

abbrev pub TOTAL : ℕ
TOTAL = 160

abbrev pub MATCH : ℕ
MATCH = 192

-- ---- the instruction of a word, behind its opcode
-- the word must be 0
abbrev pub if_zero : ℕ → Instr → Instr
if_zero w i = cond (eqb w 0) i Unknown

abbrev pub finite_only : Float → Instr
finite_only nan = Unknown
finite_only (inf s) = Unknown
finite_only (fin s m e) = PushReal (fin s m e)

abbrev pub push_int : ℕ → Instr
push_int w = PushInt (signed_of 32 w)

abbrev pub push_real : ℕ → Instr
push_real w = finite_only (Ieee.of_bits binary32 w)

abbrev pub load_element : Bank → ℕ → Instr
load_element b w = cond (ltb w (layout_of b).elements) (Load b w) Unknown

abbrev pub load_indexed : Bank → ℕ → Instr
load_indexed b w = if_zero w (LoadIndexed b)

abbrev pub apply_unary : UnaryOp → ℕ → Instr
apply_unary o w = if_zero w (Unary o)

abbrev pub apply_binary : BinaryOp → ℕ → Instr
apply_binary o w = if_zero w (Binary o)

abbrev pub push_tick : ℕ → Instr
push_tick w = if_zero w Tick

abbrev pub apply_since : ℕ → Instr
apply_since w = if_zero w Since

-- the word of an instruction over a range: its lowest byte is the bank's number, the next the first element, the upper two the count
abbrev pub range_bank : ℕ → ℕ
range_bank w = w % 2 ^ 8

abbrev pub range_first : ℕ → ℕ
range_first w = w / 2 ^ 8 % 2 ^ 8

abbrev pub range_count : ℕ → ℕ
range_count w = w / 2 ^ 16

-- "In the check, an instruction with such a count or range is not known" (paper 02, Ask 2)
abbrev pub over_range : (Bank → ℕ → ℕ → Instr) → Option Bank → ℕ → ℕ → Instr
over_range f (Some b) i n = cond (good_range b i n) (f b i n) Unknown
over_range f None i n = Unknown

abbrev pub ranging : (Bank → ℕ → ℕ → Instr) → ℕ → Instr
ranging f w = over_range f (bank_numbered (range_bank w)) (range_first w) (range_count w)

abbrev pub apply_total : TotalOp → ℕ → Instr
apply_total o w = ranging (Total o) w

abbrev pub apply_match : MatchOp → ℕ → Instr
apply_match o w = ranging (Match o) w

-- ---- the page
pub record Row : Type 0 where
  pub opcode : ℕ
  pub instr : ℕ → Instr

abbrev pub row : ℕ → (ℕ → Instr) → Row
row o f = record { opcode = o; instr = f }

-- a row for each of a numbered list, from an opcode on
abbrev pub rows : {A : Type 0} → ℕ → (A → ℕ → Instr) → List A → List Row
rows o f [] = []
rows o f (a ∷ l) = row o (f a) ∷ rows (suc o) f l

abbrev pub unnumbered : List Row
unnumbered =
    row PUSH-INT push_int ∷ row PUSH-REAL push_real ∷ row JUMP Jump ∷ row JUMP-IF-FALSE (JumpIf false) ∷ row JUMP-IF-TRUE (JumpIf true)
    ∷ row TICK push_tick ∷ row SINCE apply_since ∷ []

abbrev pub page : List Row
page =
    rows LOAD load_element banks ++ (rows LOAD-INDEXED load_indexed banks ++ (rows UNARY apply_unary unary_ops ++ (rows BINARY apply_binary binary_ops
    ++ (rows TOTAL apply_total total_ops ++ (rows MATCH apply_match match_ops ++ unnumbered)))))

abbrev pub lookup : List Row → ℕ → ℕ → Instr
lookup [] o w = Unknown
lookup (r ∷ rs) o w = cond (eqb o r.opcode) (r.instr w) (lookup rs o w)

-- the instruction of an opcode and a word
unfoldable pub instruction : ℕ → ℕ → Instr
instruction o w = lookup page o w

-- ---- the eight bytes
-- byte 0 is the opcode, bytes 1 to 3 are 0, since no opcode reaches them, and bytes 4 to 7 are the word
abbrev pub opcode_of : ℕ → ℕ
opcode_of n = n % 2 ^ 32

abbrev pub word_of : ℕ → ℕ
word_of n = n / 2 ^ 32

abbrev pub instruction_of : ℕ → Instr
instruction_of n = instruction (opcode_of n) (word_of n)

-- the number of the eight bytes at a place; 0 where the code does not reach
unfoldable pub fetched : List ℕ → ℕ → ℕ
fetched s p = cond (ltb p (length s / 8)) (little_endian (take 8 (drop (8 * p) s))) 0

unfoldable pub decode_at : List ℕ → ℕ → Instr
unfolding instruction fetched
decode_at s p = instruction_of (fetched s p)

-- the first n instructions of the code, from the place p
unfoldable pub decode_from : List ℕ → ℕ → ℕ → List Instr
unfolding decode_at
decode_from s p zero = []
decode_from s p (suc n) = decode_at s p ∷ decode_from s (suc p) n

abbrev pub instructions : List ℕ → ℕ → List Instr
instructions s n = decode_from s 0 n
