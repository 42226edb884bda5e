-- What an instruction has to do with reals (paper 02, Ask 12: "Code checked for the profile holds only integers and has no instruction that reads R").
use Rattle.std.specs.Prelude.{Bool, true, false, ℕ}
use Rattle.code.specs.declared.Instr.{Instr}
use Rattle.code.specs.declared.Instr.TheVariants.{PushInt, PushReal, Load, LoadIndexed, Unary, Binary, Jump, JumpIf, Tick, Since, Total, Match, Unknown}
use Rattle.operators.specs.Reals.{real_unary}
use Rattle.memory.specs.Cells.{real_bank}
use Rattle.totals.specs.Totals.{real_total}

-- "reads R": a load, an indexed load or a range of it, whatever it leaves
abbrev pub reads_real : Instr → Bool
reads_real (PushInt z) = false
reads_real (PushReal x) = false
reads_real (Load b i) = real_bank b
reads_real (LoadIndexed b) = real_bank b
reads_real (Unary o) = false
reads_real (Binary o) = false
reads_real (Jump d) = false
reads_real (JumpIf t d) = false
reads_real Tick = false
reads_real Since = false
reads_real (Total o b i n) = real_bank b
reads_real (Match o b i n) = real_bank b
reads_real Unknown = false

-- leaves a real, whatever it takes and reads
abbrev pub makes_real : Instr → Bool
makes_real (PushInt z) = false
makes_real (PushReal x) = true
makes_real (Load b i) = false
makes_real (LoadIndexed b) = false
makes_real (Unary o) = real_unary o
makes_real (Binary o) = false
makes_real (Jump d) = false
makes_real (JumpIf t d) = false
makes_real Tick = false
makes_real Since = false
makes_real (Total o b i n) = real_total o
makes_real (Match o b i n) = false
makes_real Unknown = false

-- how many values an instruction takes
abbrev pub operand_count : Instr → ℕ
operand_count (PushInt z) = 0
operand_count (PushReal x) = 0
operand_count (Load b i) = 0
operand_count (LoadIndexed b) = 1
operand_count (Unary o) = 1
operand_count (Binary o) = 2
operand_count (Jump d) = 0
operand_count (JumpIf t d) = 1
operand_count Tick = 0
operand_count Since = 1
operand_count (Total o b i n) = 0
operand_count (Match o b i n) = 1
operand_count Unknown = 0
