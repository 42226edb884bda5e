-- What is promised of a formatted formula (paper 02, request 10); proofs/Theorems.antt proves the record. Parentheses that the rule writes may be needless
-- to the grammar, as in `1 + (2 * 3)`.
use Rattle.std.specs.Prelude.{◌≡◌, List, ◌++◌, ℕ, ◌≤◌, ◌<◌, length, drop}
use Rattle.memory.specs.Environment.{Environment}
use Rattle.grammar.specs.Tree.{Tree, tree_kind}
use Rattle.grammar.specs.Eval.{eval}
use Rattle.grammar.specs.Parse.{most_open}
use Rattle.text.specs.Judge.{accepted, refused, judge}
use Rattle.tree_code.specs.Code.{code_of}
use Rattle.delivery.specs.declared.Answer.TheVariants.{Refused}
use Rattle.operations.specs.Operations.{done_with}
use Rattle.format_laws.specs.Formatted.{formatted, levels, without_places, spellings}
use Rattle.format_laws.specs.Format.{text_limit, gives, refuses, formatting, format_answer, format_buffer}

-- "Read again, the text gives the same tree, and saving it again gives the same bytes": x, made of the tree t of the text s, is a formula;
-- "literals stay as typed", and so do the names of functions and counts
pub record ReadAgain (s : List ℕ) (t : Tree) (x : List ℕ) : Type 0 where
  pub tree : Tree
  pub judged : judge x ≡ accepted tree
  pub same : without_places tree ≡ without_places t
  pub spelled : spellings x tree ≡ spellings s t
  pub text : formatted x tree ≡ x

pub record FormatTheorems : Type 0 where
  -- "Read again, the text gives the same tree, and saving it again gives the same bytes."
  pub again : (s : List ℕ) (t : Tree) → judge s ≡ accepted t → length (formatted s t) ≤ text_limit → levels (formatted s t) ≤ most_open
      → ReadAgain s t (formatted s t)
  -- "8 exactly if it would pass eight levels": the levels are all that refuses the text
  pub eight : (s : List ℕ) (t : Tree) → judge s ≡ accepted t → length (formatted s t) ≤ text_limit → most_open < levels (formatted s t)
      → (p : ℕ) × (judge (formatted s t) ≡ refused 8 p)
  -- what was formatted and is formatted again is good, with the same bytes, and so the same count
  pub twice : (s : List ℕ) (room : ℕ) (x : List ℕ) → formatting s room ≡ gives x → formatting x room ≡ gives x
  -- "redundant parentheses go": the text is made of the tree and of the spellings of its literals, names and counts, and of nothing else of s
  pub of_tree : (s r : List ℕ) (t u : Tree) → without_places t ≡ without_places u → spellings s t ≡ spellings r u → formatted s t ≡ formatted r u
  -- trees that are the same but for their places have the same kind, the same value in every memory, and the same code
  pub same_kind : (t u : Tree) → without_places t ≡ without_places u → tree_kind t ≡ tree_kind u
  pub same_value : (t u : Tree) → without_places t ≡ without_places u → (E : Environment) → eval E t ≡ eval E u
  pub same_code : (t u : Tree) → without_places t ≡ without_places u → code_of t ≡ code_of u
  -- the refusals, in their order: the formula's own; "10 for an output buffer under 1,024 bytes; 3 exactly if the text would pass 1,024 bytes, else 8
  -- exactly if it would pass eight levels, both with place 0"; else the text
  pub own : (s : List ℕ) (room a p : ℕ) → judge s ≡ refused a p → formatting s room ≡ refuses a p
  pub short_buffer : (s : List ℕ) (room : ℕ) (t : Tree) → judge s ≡ accepted t → room < text_limit → formatting s room ≡ refuses 10 0
  pub long : (s : List ℕ) (room : ℕ) (t : Tree) → judge s ≡ accepted t → text_limit ≤ room → text_limit < length (formatted s t) → formatting s room ≡ refuses 3 0
  pub deep : (s : List ℕ) (room : ℕ) (t : Tree) → judge s ≡ accepted t → text_limit ≤ room → length (formatted s t) ≤ text_limit
      → most_open < levels (formatted s t)
      → formatting s room ≡ refuses 8 0
  pub good : (s : List ℕ) (room : ℕ) (t : Tree) → judge s ≡ accepted t → text_limit ≤ room → length (formatted s t) ≤ text_limit
      → levels (formatted s t) ≤ most_open
      → formatting s room ≡ gives (formatted s t)
  -- "a refused save writes nothing, a good one only its text, with its length as the count"
  pub writes : (s out x : List ℕ) → formatting s (length out) ≡ gives x
      → (format_answer s out ≡ done_with (length x)) × (format_buffer s out ≡ x ++ drop (length x) out)
  pub keeps : (s out : List ℕ) (a p : ℕ) → formatting s (length out) ≡ refuses a p → (format_answer s out ≡ Refused a p) × (format_buffer s out ≡ out)
