-- The sheet of sums of paper 01, "Proved: these twelve, as one list under one claim": each compiled and run at tick 0 on a memory whose cells hold
-- something else, with the value that is returned, before the store, and what the cell reads after it. proofs/Sheet.antt proves `Sums sheet`.
use Rattle.std.specs.Prelude.{◌≡◌, List, [], ◌∷◌, ℕ, pos, negsuc, replicate}
use Prim.Native.String.{String}
use Rattle.words.specs.Ascii.{ascii}
use Rattle.std.specs.Float.Ieee as Ieee
use Rattle.std.specs.Float.{binary32}
use Rattle.values.specs.declared.Value.{Value}
use Rattle.values.specs.declared.Value.TheVariants.{Int, Real}
use Rattle.values.specs.declared.Outcome.{Outcome}
use Rattle.values.specs.declared.Outcome.TheVariants.{Done}
use Rattle.memory.specs.declared.Bank.{Bank}
use Rattle.memory.specs.declared.Bank.TheVariants.{«V», N, D, R}
use Rattle.memory.specs.Layout.{image_size}
use Rattle.memory.specs.Environment.{memory_at}
use Rattle.operations.specs.Operations.{report_of, Request, request, request_answer, request_memory}

-- every byte is 1, so that no cell holds beforehand what is stored to it
abbrev pub ones : List ℕ
ones = replicate image_size 1

-- a cell, the text that is stored to it, the value that is returned, and what the cell reads afterwards; or the answer that the text gets
pub data Sum : Type 0 where
  is : String → String → Bank → Value → Value → Sum
  gets : String → String → ℕ → Sum

abbrev pub asked : String → String → Request
asked target text = request (ascii target) (ascii text) ones (replicate 16384 0) (replicate 16384 0)

-- the answer, the value that is returned, and what element 0 of the bank reads afterwards
pub record Effect : Type 0 where
  pub answer : ℕ
  pub value : Value
  pub cell : Outcome

abbrev pub effect : Bank → Request → Effect
effect b q =
    let r = report_of (request_answer 0 ones q) in
    record { answer = r.answer; value = r.value; cell = (memory_at 0 (request_memory 0 ones q)).cell b 0 }

abbrev pub SumHolds : Sum → Type 0
SumHolds (is target text b v w) = effect b (asked target text) ≡ record { answer = 0; value = v; cell = Done w }
SumHolds (gets target text a) = (report_of (request_answer 0 ones (asked target text))).answer ≡ a

abbrev pub Sums : List Sum → Type 0
Sums [] = Unit {0}
Sums (s ∷ ss) = SumHolds s × Sums ss

abbrev int : ℕ → Value
int n = Int (pos n)

abbrev real : ℕ → Value
real pattern = Real (Ieee.of_bits binary32 pattern)

-- A to L; the patterns are those of 3.5 and of the single nearest to 1002.51
abbrev pub sheet : List Sum
sheet =
    is "D0" "1000 + 1024 + 251" D (int 2275) (int 2275)
    ∷ is "R0" "(5 + 2) / 2.0" R (real 1080033280) (real 1080033280)
    ∷ is "D0" "1000 + 2.51" D (real 1148887204) (int 1002)
    ∷ is "V0" "1 + 65535" «V» (int 65536) (int 0)
    ∷ is "N0" "1 + 32767" N (int 32768) (Int (negsuc 32767))
    ∷ is "N0" "1 - 65535" N (Int (negsuc 65533)) (int 2)
    ∷ is "D0" "2**3**2" D (int 64) (int 64)
    ∷ is "D0" "-2**2" D (int 4) (int 4)
    ∷ is "D0" "6 & 2 == 2" D (int 0) (int 0)
    ∷ is "D0" "0xFFFFFFF8 >>> 28" D (int 15) (int 15)
    ∷ is "D0" "0 && 1/0" D (int 0) (int 0)
    ∷ gets "D0" "2147483647 + 1" 12
    ∷ []
