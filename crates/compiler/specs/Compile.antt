-- What compiling does (paper 01): "compiling, with a code buffer under 16,384 bytes" is 10, before the text is looked at; "1 to 10 .. change nothing";
-- "Compile alone returns .. the number of instructions"; "code bytes past the last instruction keep what they held". proofs/Theorems.antt proves
-- `CompileTheorems`.
use Rattle.std.specs.Prelude.{◌≡◌, Bool, cond, List, [], ◌∷◌, ◌++◌, ℕ, ◌≤◌, ltb, length, Result, Ok, Err}
use Rattle.std.proofs.lemmas.List.Edits.{sets}
use Rattle.grammar.specs.Tree.{Tree}
use Rattle.text.specs.Judge.{Judgement, accepted, refused, judge_from}
use Rattle.profile_text.specs.Judge.{judge_in}
use Rattle.code.specs.declared.Instr.{Instr}
use Rattle.code.specs.Encode.{encode}
use Rattle.code.specs.Instructions.{instructions}
use Rattle.tree_code.specs.Code.{code_of}
use Rattle.tree_code.specs.Demand.{Compiled}
use Rattle.token_table.specs.declared.Refusal.{Refusal}
pub use Rattle.token_table.specs.Refusals.{refusal}

-- the bytes of some instructions
unfoldable pub encode_all : List Instr → List ℕ
encode_all [] = []
encode_all (i ∷ c) = encode i ++ encode_all c

-- for a buffer of so many bytes, what becomes of a text with the judgement j
abbrev pub in_room : ℕ → Judgement → Judgement
in_room room j = cond (ltb room 16384) (refused 10 0) j

-- the judgement of a text, with d brackets open before it
abbrev pub compiling_from : ℕ → ℕ → List ℕ → Judgement
compiling_from d room s = in_room room (judge_from d s)

-- the same where reals are taken or not (paper 02, request 12)
abbrev pub compiling_in : Bool → ℕ → ℕ → List ℕ → Judgement
compiling_in reals d room s = in_room room (judge_in reals d s)

-- the expression that an operation is given
abbrev pub compiling : ℕ → List ℕ → Judgement
compiling room s = compiling_from 0 room s

-- how many instructions the code has, or the answer and place that refuse the text
abbrev pub Coded : Type 0
Coded = Result ℕ Refusal

abbrev pub coded_answer : Judgement → Coded
coded_answer (accepted t) = Ok (length (code_of t))
coded_answer (refused a p) = Err (refusal a p)

-- the buffer afterwards, every byte
abbrev pub coded_bytes : List ℕ → Judgement → List ℕ
coded_bytes code (accepted t) = sets code 0 (encode_all (code_of t))
coded_bytes code (refused a p) = code

-- with d brackets open before the text
pub record CompileTheoremsFrom (d : ℕ) : Type 0 where
  -- the instructions in the buffer, in the number returned, are the code of the formula's tree
  pub there : (s code : List ℕ) (t : Tree) → judge_from d s ≡ accepted t → 16384 ≤ length code
      → instructions (coded_bytes code (accepted t)) (length (code_of t)) ≡ code_of t
  -- demand 3 of an accepted text
  pub demand : (s : List ℕ) (t : Tree) → judge_from d s ≡ accepted t → Compiled t (length s)

abbrev pub CompileTheorems : Type 0
CompileTheorems = CompileTheoremsFrom 0
