-- Opcodes by class, for the contracts of `class_of` and `number_of` and of what is done for a class. A reader believes Instructions alone, to which
-- proofs/Page.antt ties this.
use Rattle.std.specs.Prelude.{true, false, cond, ℕ, ◌+◌, ◌%◌, eqb, ltb, Option, Some, None}
use Rattle.operators.specs.Tables.{unary_of, binary_of}
use Rattle.memory.specs.declared.Bank.{Bank}
use Rattle.memory.specs.Numbers.{bank_numbered}
use Rattle.totals.specs.Numbers.{total_of, match_of}
use Rattle.code.specs.declared.Instr.{Instr}
use Rattle.code.specs.declared.Instr.TheVariants as Instr
use Rattle.code.specs.declared.Class.{Class}
use Rattle.code.specs.declared.Class.TheVariants.{PushInt, PushReal, Jump, JumpIfFalse, JumpIfTrue, Tick, Since, Load, LoadIndexed, Unary}
use Rattle.code.specs.declared.Class.TheVariants.{Binary, Total, Match, Unknown}
use Rattle.code.specs.Instructions.{PUSH-INT, PUSH-REAL, JUMP, JUMP-IF-FALSE, JUMP-IF-TRUE, TICK, SINCE, LOAD, LOAD-INDEXED, UNARY, BINARY, TOTAL, MATCH}
use Rattle.code.specs.Instructions.{push_int, push_real, load_element, load_indexed, apply_unary, apply_binary, apply_total, apply_match, push_tick}
use Rattle.code.specs.Instructions.{apply_since, opcode_of, word_of}
use Rattle.totals.specs.declared.TotalOp.{TotalOp}
use Rattle.totals.specs.declared.MatchOp.{MatchOp}
use Rattle.operators.specs.declared.BinaryOp.{BinaryOp}
use Rattle.operators.specs.declared.UnaryOp.{UnaryOp}

-- from the first opcode of a class to that of the next
abbrev pub class_size : ℕ
class_size = 32

abbrev pub single_class : ℕ → Class
single_class o =
    cond (eqb o PUSH-INT) PushInt (cond (eqb o PUSH-REAL) PushReal (cond (eqb o JUMP) Jump
    (cond (eqb o JUMP-IF-FALSE) JumpIfFalse (cond (eqb o JUMP-IF-TRUE) JumpIfTrue (cond (eqb o TICK) Tick (cond (eqb o SINCE) Since Unknown))))))

abbrev pub range_class : ℕ → Class
range_class o = cond (ltb o MATCH) Total (cond (ltb o (MATCH + class_size)) Match Unknown)

abbrev pub class_of : ℕ → Class
class_of o =
    cond (ltb o LOAD) (single_class o) (cond (ltb o LOAD-INDEXED) Load (cond (ltb o UNARY) LoadIndexed (cond (ltb o BINARY) Unary
    (cond (ltb o TOTAL) Binary (range_class o)))))

-- of the number of eight bytes: what its opcode adds to the first of its class
abbrev pub number_of : ℕ → ℕ
number_of n = opcode_of n % class_size

-- the instruction of a bank or an operator, if there is one of the number
abbrev pub of_bank : (Bank → ℕ → Instr) → Option Bank → ℕ → Instr
of_bank f (Some b) w = f b w
of_bank f None w = Instr.Unknown

abbrev pub of_unary : Option UnaryOp → ℕ → Instr
of_unary (Some o) w = apply_unary o w
of_unary None w = Instr.Unknown

abbrev pub of_binary : Option BinaryOp → ℕ → Instr
of_binary (Some o) w = apply_binary o w
of_binary None w = Instr.Unknown

abbrev pub of_total : Option TotalOp → ℕ → Instr
of_total (Some o) w = apply_total o w
of_total None w = Instr.Unknown

abbrev pub of_match : Option MatchOp → ℕ → Instr
of_match (Some o) w = apply_match o w
of_match None w = Instr.Unknown

-- the instruction of a class, a number in it and a word
abbrev pub classed : Class → ℕ → ℕ → Instr
classed PushInt k w = push_int w
classed PushReal k w = push_real w
classed Jump k w = Instr.Jump w
classed JumpIfFalse k w = Instr.JumpIf false w
classed JumpIfTrue k w = Instr.JumpIf true w
classed Tick k w = push_tick w
classed Since k w = apply_since w
classed Load k w = of_bank load_element (bank_numbered k) w
classed LoadIndexed k w = of_bank load_indexed (bank_numbered k) w
classed Unary k w = of_unary (unary_of k) w
classed Binary k w = of_binary (binary_of k) w
classed Total k w = of_total (total_of k) w
classed Match k w = of_match (match_of k) w
classed Unknown k w = Instr.Unknown

-- the instruction that the number of eight bytes would be in a class
abbrev pub instr_in : Class → ℕ → Instr
instr_in c n = classed c (number_of n) (word_of n)
