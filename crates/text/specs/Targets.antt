-- Targets (paper 02, request 1): "A target becomes a cell or `bank[expression]`, its bank C, V, N, D or R, spaces inside the brackets only; that `[` counts
-- as a level." "A target has its own 1,024 bytes, eight levels"; "a bad target is 2 .. whatever is wrong inside".
use Rattle.std.specs.Prelude.{Bool, ◌&&◌, cond, List, ℕ, ◌-◌, eqb, leb, length, get_or, take, drop, Option, Some, None}
use Rattle.words.specs.Ascii.{byte}
use Rattle.memory.specs.declared.Bank.{Bank}
use Rattle.memory.specs.declared.Bank.TheVariants.{X, C, «V», N, D, R}
use Rattle.memory.specs.Names.{letter_bank, target_rule}
use Rattle.grammar.specs.Tree.{Tree}
use Rattle.text.specs.Judge.{Judgement, accepted, refused, judge_from}

-- where a value goes: a cell, the element of a bank that an index gives, or nowhere
pub data Target : Type 0 where
  to_cell : Bank → ℕ → Target
  to_indexed : Bank → Tree → Target
  no_target : Target

-- the bank of an indexed target: X is read only
abbrev pub stored_bank : Option Bank → Option Bank
stored_bank (Some X) = None
stored_bank (Some C) = Some C
stored_bank (Some «V») = Some «V»
stored_bank (Some N) = Some N
stored_bank (Some D) = Some D
stored_bank (Some R) = Some R
stored_bank None = None

-- `[` behind the letter, and `]` at the end
abbrev pub is_enclosed : List ℕ → Bool
is_enclosed s = eqb (get_or s 1 0) (byte "[") && eqb (get_or s (length s - 1) 0) (byte "]")

-- what stands between them
abbrev pub index_text : List ℕ → List ℕ
index_text s = take (length s - 3) (drop 2 s)

abbrev pub indexed_by : Option Bank → Judgement → Target
indexed_by (Some b) (accepted t) = to_indexed b t
indexed_by (Some b) (refused a p) = no_target
indexed_by None j = no_target

-- the index is a formula with one bracket open before it
unfoldable pub indexed_target : List ℕ → Target
unfolding letter_bank judge_from
indexed_target s = cond (leb (length s) 1024 && is_enclosed s) (indexed_by (stored_bank (letter_bank (get_or s 0 0))) (judge_from 1 (index_text s))) no_target

abbrev pub target_from : List ℕ → Option (Bank × ℕ) → Target
target_from s (Some (b, i)) = to_cell b i
target_from s None = indexed_target s

unfoldable pub target_of : List ℕ → Target
unfolding indexed_target
target_of s = target_from s (target_rule s)
