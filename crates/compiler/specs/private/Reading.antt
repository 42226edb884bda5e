-- For the contracts of private functions: what the reader, which walks a table of tokens, writes a draft and builds no tree, has to do with the parser on
-- tokens. A result `Done j e k w` stands for a tree of kind k, with the diagnostic w, whose code ends at e in the draft, and for the tokens from the
-- position j on.
use Rattle.std.specs.Prelude.{◌≡◌, Bool, false, cond, List, [], ◌∷◌, ℕ, ◌+◌, ◌-◌, ◌*◌, ◌≤◌, ◌<◌, leb, ltb, ℤ, length, Ok, Err}
use Rattle.values.specs.declared.Kind.{Kind}
use Rattle.memory.specs.declared.Bank.{Bank}
use Rattle.tokens.specs.declared.Function.{Function}
use Rattle.tokens.specs.Scan.{Tok}
use Rattle.tokens.specs.Words.{function_at}
use Rattle.token_table.specs.private.Table.{word_operand, word_number, word_place, word_at, tokens_from, TokenWords}
use Rattle.grammar.specs.Tree.{Tree, Diagnostic, tree_kind, diagnostic_of, choice, matching}
use Rattle.grammar.specs.Symbols.{loosest, open_paren, form_of, argument}
use Rattle.grammar.specs.Parse.{Result, ok, bad, deep, and_then, expect, expect_range, enter, call_body, expression, primary, arguments}
use Rattle.text.specs.Judge.{Judgement, accepted, refused}
use Rattle.tree_code.specs.Code.{code_of}
use Rattle.draft.specs.private.Results.{Read, Done, Bad, Deep, read_next, read_end, read_kind, read_wrong}
use Rattle.draft.specs.private.Draft.{put_code}
use Rattle.draft.specs.private.Ranges.{function_match, cell_bank, count_of, CellWord}
use Rattle.compiler.specs.Compile.{Coded, coded_answer, coded_bytes}
use Rattle.token_table.specs.Refusals.{refusal}

-- the tree's kind and diagnostic are these, and its code was put into the draft from pc up to e
pub record DraftHolds (pc : ℕ) (o o' : List ℕ) (e : ℕ) (k : Kind) (w : Diagnostic) (t : Tree) : Type 0 where
  pub kind : tree_kind t ≡ k
  pub wrong : diagnostic_of t ≡ w
  pub ends : e ≡ pc + length (code_of t)
  pub code : o' ≡ put_code o pc (code_of t)

-- the reader's result stands for the parser's
pub data SameResult (pc : ℕ) (o o' s : List ℕ) : Read → Result Tree → Type 0 where
  same_done : {j e : ℕ} {k : Kind} {w : Diagnostic} {t : Tree} {r : List Tok} → DraftHolds pc o o' e k w t → r ≡ tokens_from s j
      → SameResult pc o o' s (Done j e k w) (ok t r)
  same_bad : {j : ℕ} {r : List Tok} → r ≡ tokens_from s j → SameResult pc o o' s (Bad j) (bad r)
  same_deep : {j : ℕ} {r : List Tok} → r ≡ tokens_from s j → SameResult pc o o' s (Deep j) (deep r)

-- reading got on from `at` and writing from pc, by at most eight instructions a token
pub data Span (s : List ℕ) (at pc : ℕ) : Read → Type 0 where
  span_done : {j e : ℕ} {k : Kind} {w : Diagnostic} → at + 1 ≤ j → j ≤ length s → pc ≤ e → e + 8 * at ≤ pc + 8 * j → Span s at pc (Done j e k w)
  span_bad : {j : ℕ} → j ≤ length s → Span s at pc (Bad j)
  span_deep : {j : ℕ} → j ≤ length s → Span s at pc (Deep j)

-- the code read from `at` what the parser p reads there, at any fuel from the cost on, and wrote its code from pc on
pub record ReaderAgrees (p : ℕ → List Tok → Result Tree) (cost : ℕ) (s : List ℕ) (at pc : ℕ) (o o' : List ℕ) (r : Read) : Type 0 where
  pub span : Span s at pc r
  pub same : (f : ℕ) → (length s - at) * 8 + cost ≤ f → SameResult pc o o' s r (p f (tokens_from s at))

-- a table of a text's tokens, a position in it, and a place in the draft with room in numbers for what follows
pub record Fits (s : List ℕ) (at pc : ℕ) : Type 0 where
  pub tokens : TokenWords s
  pub small : length s ≤ 1025
  pub within : at ≤ length s
  pub room : pc + 8 * length s ≤ 32768 + 8 * at

-- a primary, where a token is left
abbrev pub primary_of : ℕ → ℕ → List Tok → Result Tree
primary_of f d [] = bad []
primary_of f d (x ∷ xs) = primary f d x xs

-- a tree, and then the symbol n
abbrev pub then_symbol : ℕ → Result Tree → Result Tree
then_symbol n q = and_then q (λ t r. expect n r (λ z. ok t z))

-- the call of g at p, from behind its parenthesis, and from its parenthesis on
abbrev pub arguments_of : Function → ℕ → ℕ → ℕ → List Tok → Result Tree
arguments_of g p d f ts = call_body (form_of g) p (λ m q. arguments f d m q) (λ q. expression f d loosest q) ts

abbrev pub call_of : Function → ℕ → ℕ → ℕ → List Tok → Result Tree
call_of g p d f ts = enter d open_paren ts (λ e r. arguments_of g p e f r)

-- behind the parenthesis at `opener` of a call whose name has the word w
pub record Arguing (w d : ℕ) (s : List ℕ) (opener pc : ℕ) (o o' : List ℕ) (r : Read) : Type 0 where
  pub span : Span s opener pc r
  pub same : (f : ℕ) → (length s - (opener + 1)) * 8 + 4 ≤ f → SameResult pc o o' s r
      (arguments_of (function_at (word_operand w)) (word_place w) d f (tokens_from s (opener + 1)))

-- the branches of IF behind the condition c
abbrev pub branches_of : Tree → ℕ → ℕ → ℕ → List Tok → Result Tree
branches_of c p d f ts = and_then (arguments f d 1 ts) (λ us q. ok (choice p c (argument 0 us) (argument 1 us)) q)

-- behind a condition that was read, the branches of IF
pub record Branches (d : ℕ) (s : List ℕ) (c : ℕ) (o o' : List ℕ) (r : Read) : Type 0 where
  pub span : (at pc : ℕ) → at ≤ read_next c → pc ≤ read_end c → read_end c + 8 * at + 8 ≤ pc + 8 * read_next c → Span s at pc r
  pub same : (pc : ℕ) (o₀ : List ℕ) (t : Tree) → DraftHolds pc o₀ o (read_end c) (read_kind c) (read_wrong c) t
      → (p f : ℕ) → (length s - read_next c) * 8 + 4 ≤ f → SameResult pc o₀ o' s r (branches_of t p d f (tokens_from s (read_next c)))

-- how far a first cell, a comma, a count and the closing parenthesis go from `at` on
pub data RangeFrom (s : List ℕ) (at : ℕ) : ℕ → Type 0 where
  whole : CellWord (word_at s at) → at + 4 ≤ length s
      → ((k : Bank → ℕ → ℕ → ℤ → Tree) → expect_range (tokens_from s at) k
      ≡ ok (k (cell_bank (word_at s at)) (word_number (word_at s at)) (word_place (word_at s (at + 2))) (count_of (word_at s (at + 2)))) (tokens_from s (at + 4)))
      → RangeFrom s at (at + 4)
  broken : {j : ℕ} → j < at + 4 → j ≤ length s → ((k : Bank → ℕ → ℕ → ℤ → Tree) → expect_range (tokens_from s at) k ≡ bad (tokens_from s j)) → RangeFrom s at j

-- behind a value that was read, the range of the total f
pub record Matching (f : ℕ) (s : List ℕ) (v : ℕ) (o o' : List ℕ) (r : Read) : Type 0 where
  pub span : (at pc : ℕ) → at ≤ read_next v → pc ≤ read_end v → read_end v + 8 * at ≤ pc + 8 * read_next v → Span s at pc r
  pub same : (pc : ℕ) (o₀ : List ℕ) (t : Tree) → DraftHolds pc o₀ o (read_end v) (read_kind v) (read_wrong v) t
      → SameResult pc o₀ o' s r (expect_range (tokens_from s (read_next v)) (λ b i p z. matching p (function_match f) t b i z))

-- the answer is that of the judgement, and where a formula was read its code is in the draft
pub record Judged (j : Judgement) (o o' : List ℕ) (r : Coded) : Type 0 where
  pub answer : r ≡ coded_answer j
  pub code : (t : Tree) → j ≡ accepted t → o' ≡ put_code o 0 (code_of t)

-- the buffer afterwards, where code of at most so many instructions is written
abbrev pub fitted_bytes : ℕ → List ℕ → Judgement → List ℕ
fitted_bytes most code (accepted t) = cond (leb (length (code_of t)) most) (coded_bytes code (accepted t)) code
fitted_bytes most code (refused a p) = code

-- the answer is code of more instructions than that
abbrev pub is_longer : Coded → ℕ → Bool
is_longer (Ok n) most = ltb most n
is_longer (Err r) most = false
