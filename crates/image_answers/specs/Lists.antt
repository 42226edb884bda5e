-- Paper 02, Ask 9, of the operation of Ask 14: on corresponding images a list gives equal answers, the same code bytes and corresponding images.
-- proofs/Lists.antt proves the record.
use Rattle.std.specs.Prelude.{◌≡◌, List, ℕ}
use Rattle.memory.specs.Layout.{packed}
use Rattle.images.specs.Bytewise.{bytewise}
use Rattle.images.specs.Conversions.{Corresponds}
use Rattle.list_laws.specs.Running.{Listed, Buffers, answered_in, ran_list_in}

-- corresponding images, and the same bytes in both code buffers
pub record CorrespondingBuffers (s t : Buffers) : Type 0 where
  pub memory : Corresponds s.memory t.memory
  pub code : s.code ≡ t.code
  pub index : s.index ≡ t.index

-- s has the old image, t the packed one
pub record SameLists : Type 0 where
  pub formula : (tick : ℕ) (e : Listed) (s t : Buffers) → CorrespondingBuffers s t → answered_in bytewise tick e s ≡ answered_in packed tick e t
  pub answer : (tick : ℕ) (es : List Listed) (s t : Buffers) → CorrespondingBuffers s t
      → (ran_list_in bytewise tick es s).answer ≡ (ran_list_in packed tick es t).answer
  pub answers : (tick : ℕ) (es : List Listed) (s t : Buffers) → CorrespondingBuffers s t
      → (ran_list_in bytewise tick es s).answers ≡ (ran_list_in packed tick es t).answers
  pub buffers : (tick : ℕ) (es : List Listed) (s t : Buffers) → CorrespondingBuffers s t
      → CorrespondingBuffers (ran_list_in bytewise tick es s).buffers (ran_list_in packed tick es t).buffers
