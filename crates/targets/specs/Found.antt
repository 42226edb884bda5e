-- What is found of a target, and its index's code (paper 02, request 1): "A run takes the bank and the index code, checked like the other; a plain cell has
-- none and keeps that buffer." "demand 3 holds for each code, the index within a good target being an accepted formula too". proofs/Theorems.antt proves
-- `TargetTheorems`.
use Rattle.std.specs.Prelude.{◌≡◌, Bool, true, false, ◌&&◌, cond, List, [], ◌∷◌, ℕ, ◌<◌, leb, length, get_or, take, Option, Some, None}
use Rattle.memory.specs.declared.Bank.{Bank}
use Rattle.memory.specs.Layout.{layout_of}
use Rattle.memory.specs.Names.{letter_bank, target_rule}
use Rattle.grammar.specs.Tree.{Tree}
use Rattle.text.specs.Judge.{accepted}
use Rattle.text.specs.Theorems.{AcceptedFormula}
use Rattle.text.specs.Targets.{Target, to_cell, to_indexed, no_target, stored_bank, is_enclosed, index_text, target_of}
use Rattle.profile.specs.Parts.{real_bank}
use Rattle.tree_code.specs.Code.{code_of}
use Rattle.compiler.specs.Compile.{coded_bytes}
use Rattle.targets.specs.declared.Element.TheVariants.{Is, By}
use Rattle.targets.specs.declared.Element.{Element}

-- the bank of a text of the form `bank[..]`, of at most 1,024 bytes
abbrev pub enclosed_bank : List ℕ → Option Bank
enclosed_bank s = cond (leb (length s) 1024 && is_enclosed s) (stored_bank (letter_bank (get_or s 0 0))) None

-- the element is a plain cell's own, or the index's code gives it
abbrev pub found_of : Target → Option (Bank × Element)
found_of (to_cell b i) = Some (b, Is i)
found_of (to_indexed b t) = Some (b, By (length (code_of t)))
found_of no_target = None

-- the buffer for the index's code afterwards: "a plain cell has none and keeps that buffer"
abbrev pub index_bytes : List ℕ → Target → List ℕ
index_bytes code (to_cell b i) = code
index_bytes code (to_indexed b t) = coded_bytes code (accepted t)
index_bytes code no_target = code

-- run's target: a cell, or a bank letter alone, whose element k instructions give
abbrev pub by_letter : ℕ → Option Bank → Option (Bank × Element)
by_letter k (Some b) = Some (b, By k)
by_letter k None = None

abbrev pub by_name : Option (Bank × ℕ) → Option (Bank × Element)
by_name (Some (b, i)) = Some (b, Is i)
by_name None = None

abbrev pub found_to_run : ℕ → List ℕ → Option (Bank × Element)
found_to_run k [] = None
found_to_run k (c ∷ []) = by_letter k (stored_bank (letter_bank c))
found_to_run k (c ∷ d ∷ cs) = by_name (target_rule (c ∷ d ∷ cs))

-- where reals are not taken (paper 02, request 12), "an R target .. is 2": an R cell, and the letter R
abbrev pub taken_found : Bool → Option (Bank × Element) → Option (Bank × Element)
taken_found true x = x
taken_found false (Some (b, e)) = cond (real_bank b) None (Some (b, e))
taken_found false None = None

abbrev pub run_target_in : Bool → ℕ → List ℕ → Option (Bank × Element)
run_target_in reals k s = taken_found reals (found_to_run k s)

pub record TargetTheorems : Type 0 where
  -- "the index within a good target being an accepted formula too"
  pub index_accepted : (s : List ℕ) (b : Bank) (t : Tree) → target_of s ≡ to_indexed b t → AcceptedFormula (index_text s) t
  -- a plain cell is one of its bank
  pub cell-inside : (s : List ℕ) (b : Bank) (i : ℕ) → target_of s ≡ to_cell b i → i < (layout_of b).elements
  -- run takes a plain cell, whatever index code it is given beside it, or the first byte of a target with an index
  pub runs_to_cell : (k : ℕ) (s : List ℕ) (b : Bank) (i : ℕ) → target_of s ≡ to_cell b i → found_to_run k s ≡ Some (b, Is i)
  pub runs_to_bank : (k : ℕ) (s : List ℕ) (b : Bank) (t : Tree) → target_of s ≡ to_indexed b t → found_to_run k (take 1 s) ≡ Some (b, By k)
