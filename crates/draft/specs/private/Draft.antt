-- For the contracts of private functions: what is put into the draft, an instruction to a word of 64 bits.
use Rattle.std.specs.Prelude.{Bool, cond, List, [], ◌∷◌, ◌++◌, ℕ, suc, ◌+◌, ◌-◌, eqb, ltb, set}
use Rattle.values.specs.declared.Kind.{Kind}
use Rattle.values.specs.declared.Kind.TheVariants.{Int}
use Rattle.operators.specs.Kinds.{unary_kind, unary_takes, binary_kind, binary_takes}
use Rattle.words.specs.Words.{bytes_of}
use Rattle.token_table.specs.private.Table.{word_place, word_at}
use Rattle.code.specs.declared.Instr.{Instr}
use Rattle.code.specs.declared.Instr.TheVariants.{Unary, Binary, Jump, JumpIf}
use Rattle.code.specs.Encode.{code_word}
use Rattle.grammar.specs.Tree.{Diagnostic, clear, unless, earlier, wrong_kind_at}
use Rattle.tree_code.specs.Code.{truth_tail, branch_tail_skip, branch_tail}
use Rattle.draft.specs.private.Results.{Read, Done}
use Rattle.draft.specs.private.Words.{unary_at, binary_at, prefix_number}

abbrev pub code_words : List Instr → List ℕ
code_words [] = []
code_words (i ∷ c) = code_word i ∷ code_words c

-- the bytes of some words
unfoldable pub word_bytes : List ℕ → List ℕ
word_bytes [] = []
word_bytes (w ∷ ws) = bytes_of 8 w ++ word_bytes ws

-- one instruction, and some one after another, each where the draft has such a place
abbrev pub put_instr : List ℕ → ℕ → Instr → List ℕ
put_instr s pc i = set s pc (code_word i)

unfoldable pub put_code : List ℕ → ℕ → List Instr → List ℕ
put_code s pc [] = s
put_code s pc (i ∷ c) = put_code (put_instr s pc i) (suc pc) c

-- the places kept for a jump before the right side: the binary operators from 18 on are `&&` and `||`
abbrev pub reserved : ℕ → ℕ
reserved n = cond (ltb n 18) 0 1

-- after the right side of `&&` or `||`, which ends at k: the jump over it, at j, and what makes 0 or 1 of it
abbrev pub settled_code : List ℕ → ℕ → ℕ → Bool → List ℕ
settled_code s j k d = put_code (put_instr s j (JumpIf d (k - suc j + 3))) k (truth_tail d)

-- after both sides of the binary operator n, which end at j and k
abbrev pub joined_code : List ℕ → ℕ → ℕ → ℕ → List ℕ
joined_code s n j k = cond (ltb n 18) (put_instr s k (Binary (binary_at n))) (settled_code s j k (eqb n 19))

abbrev pub joined_end : ℕ → ℕ → ℕ
joined_end n k = k + cond (ltb n 18) 1 4

abbrev pub infix_kind : ℕ → Kind → Kind → Kind
infix_kind n a b = cond (ltb n 18) (binary_kind (binary_at n) a b) Int

abbrev pub infix_wrong : ℕ → ℕ → Kind → Kind → Diagnostic
infix_wrong n p a b = cond (ltb n 18) (unless (binary_takes (binary_at n) a b) (wrong_kind_at p)) clear

-- after both branches of IF, which end at j and k and are of the kinds a and b
abbrev pub chosen_code : List ℕ → ℕ → ℕ → Kind → Kind → List ℕ
chosen_code s j k a b = put_code (put_instr s j (Jump (k - suc j + branch_tail_skip a b))) k (branch_tail a b)

-- under the unary operators from a position up to `first`, the last of them first, what was read becomes this, and the draft this
pub data Unaries (s : List ℕ) (first : ℕ) (o : List ℕ) (r : Read) : ℕ → List ℕ → Read → Type 0 where
  none : Unaries s first o r first o r
  more : {i j e : ℕ} {k : Kind} {w : Diagnostic} {o' : List ℕ} → Unaries s first o r (suc i) o' (Done j e k w)
      → Unaries s first o r i (put_instr o' e (Unary (unary_at (prefix_number (word_at s i)))))
      (Done j (e + 1) (unary_kind (unary_at (prefix_number (word_at s i))) k)
      (earlier (unless (unary_takes (unary_at (prefix_number (word_at s i))) k) (wrong_kind_at (word_place (word_at s i)))) w))
