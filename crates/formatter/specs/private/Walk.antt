-- For the contracts of private functions: what a walk over the table of an accepted text's tokens writes. The parser's result is known beforehand, so no
-- refusal is left.
use Rattle.std.specs.Prelude.{◌≡◌, List, [], ◌∷◌, ◌++◌, ℕ, ◌+◌, ◌≤◌, ◌<◌, length}
use Rattle.words.specs.Ascii.{ascii}
use Rattle.tokens.specs.declared.Token.TheVariants.{Symbol}
use Rattle.tokens.specs.Symbols.{symbol_bytes}
use Rattle.tokens.specs.Scan.{Tok}
use Rattle.token_table.specs.private.Table.{word_place, word_at, tokens_from, TokenWords}
use Rattle.grammar.specs.Tree.{Tree}
use Rattle.grammar.specs.Grammar.{tok}
use Rattle.grammar.specs.Symbols.{loosest, close_paren, comma}
use Rattle.grammar.specs.Parse.{Result, ok, bad, expression, operand, primary}
use Rattle.text.specs.Judge.{accepted, judge}
use Rattle.format_laws.specs.Formatted.{lexeme, top, formatted}
use Rattle.format_writer.specs.private.Scratch.{Holds, Counted}
use Rattle.format_writer.specs.private.Spelling.{Stands}

-- ---- tokens as they are typed

-- each of the tokens stands at its place
pub data Typed (s : List ℕ) : List Tok → Type 0 where
  none : Typed s []
  some : {x : Tok} {xs : List Tok} (e : ℕ) → Stands s x.token x.place e → Typed s xs → Typed s (x ∷ xs)

-- a table of tokens of the text s, and a position in it
pub record Position (s table : List ℕ) (at : ℕ) : Type 0 where
  pub words : TokenWords table
  pub typed : Typed s (tokens_from table at)

-- ---- what tokens say: a text, the group at its top, and the tokens left

abbrev pub Saying : Type 1
Saying = List ℕ → ℕ → List Tok → Type 0

-- the text of the tree that a parser finds, at some fuel and with room for some brackets
pub data Says (p : ℕ → ℕ → List Tok → Result Tree) (s : List ℕ) (ts : List Tok) : List ℕ → ℕ → List Tok → Type 0 where
  says : (f d : ℕ) {t : Tree} {r : List Tok} → p f d ts ≡ ok t r → Says p s ts (formatted s t) (top t) r

abbrev pub SaysExpression : ℕ → List ℕ → List Tok → Saying
SaysExpression l s ts = Says (λ f d xs. expression f d l xs) s ts

abbrev pub SaysOperand : List ℕ → List Tok → Saying
SaysOperand s ts = Says (λ f d xs. operand f d xs) s ts

-- a primary, where a token is left
abbrev pub primary_of : ℕ → ℕ → List Tok → Result Tree
primary_of f d [] = bad []
primary_of f d (x ∷ xs) = primary f d x xs

abbrev pub SaysPrimary : List ℕ → List Tok → Saying
SaysPrimary s ts = Says (λ f d xs. primary_of f d xs) s ts

-- expressions with commas between them, and a closing symbol
pub data SaysItems (s : List ℕ) : List Tok → List ℕ → List Tok → Type 0 where
  last : {ts r : List Tok} (f d : ℕ) {t : Tree} (n p : ℕ) → (n ≡ comma → ⊥) → expression f d loosest ts ≡ ok t (tok (Symbol n) p ∷ r)
      → SaysItems s ts (formatted s t ++ symbol_bytes n) r
  more : {ts q r : List Tok} {x : List ℕ} (f d : ℕ) {t : Tree} (p : ℕ) → expression f d loosest ts ≡ ok t (tok (Symbol comma) p ∷ q) → SaysItems s q x r
      → SaysItems s ts (formatted s t ++ (ascii ", " ++ x)) r

-- the same, or a closing parenthesis alone
pub data SaysList (s : List ℕ) (ts : List Tok) : List ℕ → ℕ → List Tok → Type 0 where
  empty : (p : ℕ) {r : List Tok} → ts ≡ tok (Symbol close_paren) p ∷ r → SaysList s ts (ascii ")") 0 r
  items : {x : List ℕ} {r : List Tok} → SaysItems s ts x r → SaysList s ts x 0 r

-- the tokens say something
pub record Some (P : Saying) : Type 0 where
  pub text : List ℕ
  pub group : ℕ
  pub left : List Tok
  pub is : P text group left

-- ---- what is written of them

-- the text x, with g at its top, before the tokens r: it ends at e in the buffer, and before the position j of the table
pub record Writes (table x : List ℕ) (g : ℕ) (r : List Tok) (buf buf' : List ℕ) (n j e h : ℕ) : Type 0 where
  pub next : tokens_from table j ≡ r
  pub top : h ≡ g
  pub text : (o : List ℕ) → Holds o buf n → Holds (o ++ x) buf' e

-- the walk got on, and wrote what the tokens from `at` on say, whatever that is
pub record Formats (P : Saying) (s table : List ℕ) (at : ℕ) (buf buf' : List ℕ) (n j e h : ℕ) : Type 0 where
  pub ahead : at < j
  pub within : j ≤ length table
  pub counted : Counted e buf
  pub typed : Typed s (tokens_from table j)
  pub writes : (x : List ℕ) (g : ℕ) (r : List Tok) → P x g r → Writes table x g r buf buf' n j e h

-- unary operators from `at` up to a position, as they are typed
pub data SignsText (s table : List ℕ) (at : ℕ) : ℕ → List ℕ → Type 0 where
  none : SignsText s table at at []
  more : {i j : ℕ} {x : List ℕ} → j ≡ i + 1 → SignsText s table at i x → SignsText s table at j (x ++ lexeme s (word_place (word_at table i)))

-- their text was written
pub record WritesSigns (s table : List ℕ) (at first : ℕ) (buf buf' : List ℕ) (n r : ℕ) : Type 0 where
  pub bytes : List ℕ
  pub signs : SignsText s table at first bytes
  pub text : (o : List ℕ) → Holds o buf n → Holds (o ++ bytes) buf' r
  pub counted : Counted r buf

-- the text is a formula
pub record Accepted (s : List ℕ) : Type 0 where
  pub tree : Tree
  pub is : judge s ≡ accepted tree
