-- The old image (paper 01): "Memory is 3,204 bytes, little-endian: X at 0, C at 64 (one byte a bit, any non-zero byte reads 1), V at 128, N at 640, D at
-- 1152, R at 2176, then the flags IndexError, OutOfRange, Overflow, DividedByZero at 3200 to 3203." The box converts it and reads no cell of it.
use Rattle.std.specs.Prelude.{ℕ, ◌+◌, ◌*◌, take, drop}
use Rattle.std.proofs.lemmas.List.Edits.{sets}
use Rattle.words.specs.Words.{little_endian, bytes_of}
use Rattle.values.specs.declared.Fault.{Fault}
use Rattle.values.specs.declared.Fault.TheVariants.{DividedByZero, Overflow, OutOfRange, IndexError}
use Rattle.memory.specs.declared.Bank.{Bank}
use Rattle.memory.specs.declared.Bank.TheVariants.{X, C, «V», N, D, R}
use Rattle.memory.specs.Layout.{layout_of, ImageLayout}

abbrev pub old_size : ℕ
old_size = 3204

abbrev pub old_place : Bank → ℕ
old_place X = 0
old_place C = 64
old_place «V» = 128
old_place N = 640
old_place D = 1152
old_place R = 2176

abbrev pub old_flag : Fault → ℕ
old_flag IndexError = 3200
old_flag OutOfRange = 3201
old_flag Overflow = 3202
old_flag DividedByZero = 3203

-- an element has bytes of its own, a bit one
abbrev pub cell_at : Bank → ℕ → ℕ
cell_at b i = old_place b + i * (layout_of b).width

abbrev pub bytewise : ImageLayout
bytewise =
    record {
      size = old_size;
      get = λ s b i. little_endian (take (layout_of b).width (drop (cell_at b i) s));
      put = λ s b i n. sets s (cell_at b i) (bytes_of (layout_of b).width n);
      flag = old_flag;
    }
