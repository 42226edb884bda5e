-- Demand 3, on trees: "its compiled code gives what the written rules give for the formula's tree on that memory: a value of the same kind, the same bit
-- for bit, or a fault exactly when the rules give one, and then the same fault. The code check accepts that code, which executes at most two instructions
-- for each character and never holds more than 128 values." proofs/Demand.antt proves `Demand`. Paper 02, Ask 2: "The count is now one for each instruction
-- and each cell visited, a faulting one included; the bound is two a byte, .. plus 256 for each such call."
use Rattle.std.specs.Prelude.{◌≡◌, List, [], ◌∷◌, ℕ, ◌+◌, ◌*◌, ◌≤◌, length}
use Rattle.operators.specs.Laws.{OfKind}
use Rattle.memory.specs.Environment.{Environment}
use Rattle.tokens.specs.declared.Token.{Token}
use Rattle.tokens.specs.declared.Token.TheVariants.{Number, Cell, Letter, Name, Symbol}
use Rattle.tokens.specs.Symbols.{symbol_bytes}
use Rattle.tokens.specs.Words.{name_of}
use Rattle.tokens.specs.Scan.{Tok}
use Rattle.grammar.specs.Tree.{Tree, literal, cell, indexed, unary, binary, logic, choice, tick, since, total, matching, clear, tree_kind, diagnostic_of}
use Rattle.grammar.specs.Eval.{eval}
use Rattle.grammar.specs.Grammar.{Formula}
use Rattle.grammar.specs.Theorems.{Shallow}
use Rattle.machine.specs.Machine.{max_cells, end_of, exec}
use Rattle.verifier.specs.Accepts.{Accepts}
use Rattle.verifier.specs.Stack.{StackSafe}
use Rattle.verifier.specs.Safety.{Kinded}
use Rattle.tree_code.specs.Code.{code_of}

-- the bytes that a token takes at the least; blanks only add to them
abbrev pub bytes_of_token : Token → ℕ
bytes_of_token (Number v) = 1
bytes_of_token (Cell b i) = 2
bytes_of_token (Letter b) = 1
bytes_of_token (Name f) = length (name_of f)
bytes_of_token (Symbol n) = length (symbol_bytes n)

unfoldable pub least_bytes : List Tok → ℕ
least_bytes [] = 0
least_bytes (x ∷ xs) = bytes_of_token x.token + least_bytes xs

-- the calls of a tree that go over a range of cells
unfoldable pub range_calls : Tree → ℕ
range_calls (literal p v) = 0
range_calls (cell b i) = 0
range_calls (indexed b t) = range_calls t
range_calls (unary p o t) = range_calls t
range_calls (binary p o t u) = range_calls t + range_calls u
range_calls (logic p d t u) = range_calls t + range_calls u
range_calls (choice p c t u) = range_calls c + range_calls t + range_calls u
range_calls tick = 0
range_calls (since p t) = range_calls t
range_calls (total p o b i n) = 1
range_calls (matching p o t b i n) = range_calls t + 1

pub record Compiled (t : Tree) (n : ℕ) : Type 0 where
  -- the rules give a value of the formula's kind, or a fault
  pub kind : (E : Environment) → Kinded E → OfKind (tree_kind t) (eval E t)
  -- the code gives the same value, kind and bits, or the same fault
  pub same : (E : Environment) → Kinded E → (exec E (code_of t) 0 []).end ≡ end_of (eval E t)
  pub accepted : Accepts (code_of t) (tree_kind t)
  -- "never holds more than 128 values", and is never short of one
  pub stack : (E : Environment) → Kinded E → StackSafe E (code_of t) (tree_kind t)
  -- "A compiled formula has at most two instructions a byte", of n bytes, and counts no more but 256 for each call over a range
  pub short : length (code_of t) ≤ 2 * n
  pub quick : (E : Environment) → (exec E (code_of t) 0 []).count ≤ 2 * n + max_cells * range_calls t

pub record Demand : Type 0 where
  pub compiled : (w : List Tok) (t : Tree) (n : ℕ) → Formula w t → Shallow 0 w → diagnostic_of t ≡ clear → least_bytes w ≤ n → n ≤ 1024 → Compiled t n
