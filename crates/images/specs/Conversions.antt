-- The correspondence between the two images, and the conversions (paper 02, Ask 9): "Give the correspondence between the two images .. Each conversion gives
-- the corresponding image, an old one with 0 or 1 for each bit. Refusals: .. a conversion whose image or lent buffer has the wrong size is 1."
use Rattle.std.specs.Prelude.{◌≡◌, Bool, ◌&&◌, cond, List, [], ◌∷◌, ◌++◌, ℕ, zero, suc, ◌+◌, ◌*◌, ◌/◌, ◌%◌, ◌<◌, eqb, length, get_or, drop}
use Rattle.words.specs.Bits.{bit}
use Rattle.values.specs.declared.Fault.{Fault}
use Rattle.memory.specs.declared.Bank.{Bank}
use Rattle.memory.specs.declared.Bank.TheVariants.{X, C, «V», N, D, R}
use Rattle.memory.specs.Layout.{image_size, layout_of, packed}
use Rattle.images.specs.Bytewise.{old_size, bytewise}

-- "any non-zero byte reads 1"
abbrev pub truth_of : ℕ → ℕ
truth_of n = cond (eqb n 0) 0 1

-- what the new image holds of a number in the old one: of a bit 0 or 1, else the number itself
abbrev pub normalized : Bank → ℕ → ℕ
normalized X n = truth_of n
normalized C n = truth_of n
normalized «V» n = n
normalized N n = n
normalized D n = n
normalized R n = n

-- an old image m and a new one n hold the same numbers, and the same bytes as flags. Numbers, not what is read: every infinity and NaN reads 13
pub record Corresponds (m n : List ℕ) : Type 0 where
  pub left : length m ≡ old_size
  pub right : length n ≡ image_size
  pub cells : (b : Bank) (i : ℕ) → i < (layout_of b).elements → normalized b (bytewise.get m b i) ≡ packed.get n b i
  pub flags : (f : Fault) → get_or m (bytewise.flag f) 0 ≡ get_or n (packed.flag f) 0

-- n numbers, by their place from k on
abbrev pub row : (ℕ → ℕ) → ℕ → ℕ → List ℕ
row f k zero = []
row f k (suc n) = f k ∷ row f (suc k) n

-- the byte of n bytes' bits from the place a on, the first lowest
abbrev pub byte_of : List ℕ → ℕ → ℕ → ℕ
byte_of m a zero = 0
byte_of m a (suc n) = byte_of m (suc a) n * 2 + truth_of (get_or m a 0)

-- sixteen bytes of eight bits each, and what stands behind the bits as it is
abbrev pub packed_of : List ℕ → List ℕ
packed_of m = row (λ k. byte_of m (8 * k) 8) 0 16 ++ drop 128 m

-- 128 bytes, each 0 or 1, and the rest as it is
abbrev pub unpacked_of : List ℕ → List ℕ
unpacked_of n = row (λ i. bit (get_or n (i / 8) 0) (i % 8)) 0 128 ++ drop 16 n

-- both sizes are right: the old image's and the new one's
abbrev pub sized : List ℕ → List ℕ → Bool
sized m n = eqb (length m) old_size && eqb (length n) image_size

-- the answer of either conversion, and what it leaves in the buffer lent to it
abbrev pub conversion_answer : List ℕ → List ℕ → ℕ
conversion_answer m n = cond (sized m n) 0 1

abbrev pub packed_into : List ℕ → List ℕ → List ℕ
packed_into m n = cond (sized m n) (packed_of m) n

abbrev pub unpacked_into : List ℕ → List ℕ → List ℕ
unpacked_into n m = cond (sized m n) (unpacked_of n) m
