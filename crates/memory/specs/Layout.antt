-- The image (paper 02, Ask 9): "Keep X and C in eight bytes each, lowest bit first; the other banks follow in the old order without gaps, and memory is 3,092
-- bytes." As paper 01 has it: "little-endian"; "bits X0-X63 .., C0-C63; V0-V255 ..; N0-N255 ..; D0-D255 ..; R0-R255"; "then the flags IndexError, OutOfRange,
-- Overflow, DividedByZero".
use Rattle.std.specs.Prelude.{Bool, ◌&&◌, List, [], ◌∷◌, ℕ, ◌+◌, ◌*◌, ◌/◌, ◌%◌, eqb, ltb, length, get_or, take, drop}
use Rattle.std.proofs.lemmas.List.Edits.{sets}
use Rattle.words.specs.Words.{little_endian, bytes_of}
use Rattle.words.specs.Bits.{bit, with_bit}
use Rattle.values.specs.declared.Fault.{Fault}
use Rattle.values.specs.declared.Fault.TheVariants.{DividedByZero, Overflow, OutOfRange, IndexError}
use Rattle.memory.specs.declared.Bank.{Bank}
use Rattle.memory.specs.declared.Bank.TheVariants.{X, C, «V», N, D, R}
use Rattle.memory.specs.declared.Layout.{Layout}

abbrev pub image_size : ℕ
image_size = 3092

-- a bank is a row of blocks, each as wide as this says: a byte of eight bits, or an element's own bytes
abbrev pub layout_of : Bank → Layout
layout_of X = record { place = 0; elements = 64; width = 1 }
layout_of C = record { place = 8; elements = 64; width = 1 }
layout_of «V» = record { place = 16; elements = 256; width = 2 }
layout_of N = record { place = 528; elements = 256; width = 2 }
layout_of D = record { place = 1040; elements = 256; width = 4 }
layout_of R = record { place = 2064; elements = 256; width = 4 }

abbrev pub flag_at : Fault → ℕ
flag_at IndexError = 3088
flag_at OutOfRange = 3089
flag_at Overflow = 3090
flag_at DividedByZero = 3091

-- the first byte of a block
abbrev pub block_place : Bank → ℕ → ℕ
block_place b n = (layout_of b).place + n * (layout_of b).width

-- the block that has an element, its first byte, and its bytes
abbrev pub block_of : Bank → ℕ → ℕ
block_of X i = i / 8
block_of C i = i / 8
block_of «V» i = i
block_of N i = i
block_of D i = i
block_of R i = i

abbrev pub block_at : Bank → ℕ → ℕ
block_at b i = block_place b (block_of b i)

abbrev pub block_bytes : List ℕ → Bank → ℕ → List ℕ
block_bytes s b i = take (layout_of b).width (drop (block_at b i) s)

-- the number of the element i in the bytes of its block
abbrev pub number_in : Bank → ℕ → List ℕ → ℕ
number_in X i bs = bit (get_or bs 0 0) (i % 8)
number_in C i bs = bit (get_or bs 0 0) (i % 8)
number_in «V» i bs = little_endian bs
number_in N i bs = little_endian bs
number_in D i bs = little_endian bs
number_in R i bs = little_endian bs

-- the bytes of its block with the number n for the element i
abbrev pub block_with : Bank → ℕ → ℕ → List ℕ → List ℕ
block_with X i n bs = with_bit (get_or bs 0 0) (i % 8) n ∷ []
block_with C i n bs = with_bit (get_or bs 0 0) (i % 8) n ∷ []
block_with «V» i n bs = bytes_of (layout_of «V»).width n
block_with N i n bs = bytes_of (layout_of N).width n
block_with D i n bs = bytes_of (layout_of D).width n
block_with R i n bs = bytes_of (layout_of R).width n

-- how an image keeps cells and flags: its size, the number that a cell holds, the image with a number put into a cell, and the place of a flag's byte
pub record ImageLayout : Type 0 where
  pub size : ℕ
  pub get : List ℕ → Bank → ℕ → ℕ
  pub put : List ℕ → Bank → ℕ → ℕ → List ℕ
  pub flag : Fault → ℕ

-- the image above. `sets s at bs`: the bytes bs from the place at on, every other byte as it was
abbrev pub packed : ImageLayout
packed =
    record {
      size = image_size;
      get = λ s b i. number_in b i (block_bytes s b i);
      put = λ s b i n. sets s (block_at b i) (block_with b i n (block_bytes s b i));
      flag = flag_at;
    }

-- the image is of the right size, and the bank has the element
abbrev pub has_cell_in : ImageLayout → List ℕ → Bank → ℕ → Bool
has_cell_in F s b i = eqb (length s) F.size && ltb i (layout_of b).elements

abbrev pub has_cell : List ℕ → Bank → ℕ → Bool
has_cell s b i = has_cell_in packed s b i
