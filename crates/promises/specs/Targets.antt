-- Request 1: which texts are targets, and what compile_target answers and writes of a good one. proofs/Targets.antt proves `TargetPromises`.
use Rattle.std.specs.Prelude.{◌≡◌, true, ◌↔◌, List, [], ◌∷◌, ◌++◌, ℕ, ◌≤◌, ◌<◌, pos, length}
use Rattle.words.specs.Ascii.{byte}
use Rattle.values.specs.declared.Value.TheVariants.{Int}
use Rattle.memory.specs.declared.Bank.{Bank}
use Rattle.memory.specs.declared.Bank.TheVariants.{C, «V», N, D, R}
use Rattle.memory.specs.Layout.{layout_of}
use Rattle.memory.specs.Names.{all_digits, no_leading_zero, decimal_value}
use Rattle.grammar.specs.Tree.{Tree}
use Rattle.text.specs.Targets.{to_cell, to_indexed, no_target, index_text, target_of}
use Rattle.text.specs.Theorems.{AcceptedFrom}
use Rattle.delivery.specs.declared.Answer.TheVariants.{Done}
use Rattle.operations.specs.Operations.{done_with, compile_target_answer, compile_target_code}
use Rattle.promises.specs.Terms.{compile_answer_of, compiled_code, Room}

-- "its bank C, V, N, D or R"
pub data StoredLetter : ℕ → Bank → Type 0 where
  letter_C : StoredLetter (byte "C") C
  letter_V : StoredLetter (byte "V") «V»
  letter_N : StoredLetter (byte "N") N
  letter_D : StoredLetter (byte "D") D
  letter_R : StoredLetter (byte "R") R

-- paper 01: "exactly one word that is a C, V, N, D or R cell, no spaces", and "a bank letter and a decimal number without a leading zero (`0` itself is
-- good)"
pub record CellTarget (s : List ℕ) (b : Bank) (i : ℕ) : Type 0 where
  pub letter : ℕ
  pub digits : List ℕ
  pub form : s ≡ letter ∷ digits
  pub bank : StoredLetter letter b
  pub decimal : all_digits digits ≡ true
  pub unpadded : no_leading_zero digits ≡ true
  pub number : decimal_value digits ≡ i
  pub inside : i < (layout_of b).elements

-- "`bank[expression]`, .. spaces inside the brackets only; that `[` counts as a level"; "A target has its own 1,024 bytes, eight levels"
pub record IndexedTarget (s : List ℕ) (b : Bank) (t : Tree) : Type 0 where
  pub letter : ℕ
  pub index : List ℕ
  pub form : s ≡ letter ∷ byte "[" ∷ index ++ byte "]" ∷ []
  pub bank : StoredLetter letter b
  pub short : length s ≤ 1024
  pub accepted : AcceptedFrom 1 index t

pub record TargetPromises : Type 0 where
  -- "A target becomes a cell or `bank[expression]`": exactly these texts
  pub cells : (s : List ℕ) (b : Bank) (i : ℕ) → target_of s ≡ to_cell b i ↔ CellTarget s b i
  pub indexed : (s : List ℕ) (b : Bank) (t : Tree) → target_of s ≡ to_indexed b t ↔ IndexedTarget s b t
  pub index-text : (s : List ℕ) (b : Bank) (t : Tree) (x : IndexedTarget s b t) → x.index ≡ index_text s
  -- "a bad target is 2 .. whatever is wrong inside": every other text
  pub others : (s : List ℕ)
      → target_of s ≡ no_target ↔ (((b : Bank) (i : ℕ) → CellTarget s b i → ⊥) × ((b : Bank) (t : Tree) → IndexedTarget s b t → ⊥))
  -- compile_target answers integer 0 and the bank: with its element for a plain cell, which "has none and keeps that buffer", ..
  pub compiled_cell : (s index : List ℕ) (b : Bank) (i : ℕ) → target_of s ≡ to_cell b i → Room index
      → (compile_target_answer index s ≡ Done (Int (pos 0)) 0 b i) × (compile_target_code index s ≡ index)
  -- .. and with the number of instructions that compile answers for the index, written as compile writes them
  pub compiled_index : (s index : List ℕ) (b : Bank) (t : Tree) → target_of s ≡ to_indexed b t → Room index
      → (n : ℕ) × ((compile_answer_of (index_text s) index ≡ done_with n)
      × ((compile_target_answer index s ≡ Done (Int (pos 0)) n b 0) × (compile_target_code index s ≡ compiled_code (index_text s) index)))
