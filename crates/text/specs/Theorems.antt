-- What a reader of the texts wants to know of `judge`, in the words of paper 01; proofs/Theorems.antt proves the record.
use Rattle.std.specs.Prelude.{◌≡◌, true, List, [], ◌∷◌, ◌++◌, ◌↔◌, ℕ, ◌≤◌, length}
use Rattle.tokens.specs.Scan.{Tok, tokens, wrong, scan}
use Rattle.grammar.specs.Tree.{Tree, clear, at, diagnostic_of}
use Rattle.grammar.specs.Grammar.{Formula, Viable}
use Rattle.grammar.specs.Parse.{most_open}
use Rattle.grammar.specs.Theorems.{is_opener, open_after, Shallow}
use Rattle.text.specs.Judge.{Judgement, accepted, refused, judge_from}

-- 3: "expression empty or over 1,024 bytes"
pub record Sized (s : List ℕ) : Type 0 where
  pub some : 1 ≤ length s
  pub short : length s ≤ 1024

-- the text is of such a length, and all of it is the tokens w
pub record ScansTo (s : List ℕ) (w : List Tok) : Type 0 where
  pub sized : Sized s
  pub scanned : scan s ≡ tokens w

-- "an accepted formula is an expression of which no refusal of its text, 3 to 9, holds"; with d brackets open before it
pub record AcceptedFrom (d : ℕ) (s : List ℕ) (t : Tree) : Type 0 where
  pub toks : List Tok
  pub reads : ScansTo s toks
  pub formula : Formula toks t
  pub shallow : Shallow d toks
  pub faultless : diagnostic_of t ≡ clear

abbrev pub AcceptedFormula : List ℕ → Tree → Type 0
AcceptedFormula s t = AcceptedFrom 0 s t

-- "Order .. 3 .. then 4, 5, 6 over the whole text, the smallest place first; then 7 and 8, smallest place first, 7 on a tie; then 9, smallest place"; and the 6
-- of a count "is looked for together with 9, after 7 and 8, smallest place first" (paper 02, Ask 2)
pub data HasJudgementFrom (d : ℕ) (s : List ℕ) : Judgement → Type 0 where
  wrong_size : (Sized s → ⊥) → HasJudgementFrom d s (refused 3 0)
  wrong_token : {a p : ℕ} → Sized s → scan s ≡ wrong a p → HasJudgementFrom d s (refused a p)
  -- 7: "the first token such that no grammatical text begins with the tokens up to and including it, length, nesting and kinds ignored, or the text's
  -- length if there is none"
  wrong_end : (w : List Tok) → ScansTo s w → Viable w → ((t : Tree) → Formula w t → ⊥) → Shallow d w → HasJudgementFrom d s (refused 7 (length s))
  wrong_next : (p : List Tok) (x : Tok) (ys : List Tok) → ScansTo s (p ++ x ∷ ys) → Viable p → (Viable (p ++ x ∷ []) → ⊥) → Shallow d p
      → HasJudgementFrom d s (refused 7 x.place)
  -- 8: "the first opener met with eight still open"
  too_deep : (p : List Tok) (x : Tok) (ys : List Tok) → ScansTo s (p ++ x ∷ ys) → Viable (p ++ x ∷ []) → Shallow d p → is_opener x ≡ true
      → most_open ≤ open_after d p
      → HasJudgementFrom d s (refused 8 x.place)
  -- 9: "an operand of the wrong kind"; 6: "a count below 1 or a range past the bank"
  diagnosed : {p a : ℕ} (w : List Tok) (t : Tree) → ScansTo s w → Formula w t → Shallow d w → diagnostic_of t ≡ at p a → HasJudgementFrom d s (refused a p)
  formula : {t : Tree} → AcceptedFrom d s t → HasJudgementFrom d s (accepted t)

abbrev pub HasJudgement : List ℕ → Judgement → Type 0
HasJudgement s j = HasJudgementFrom 0 s j

-- with d brackets open before the text
pub record TextTheoremsFrom (d : ℕ) : Type 0 where
  -- what each judgement says of the text
  pub outcome : (s : List ℕ) → HasJudgementFrom d s (judge_from d s)
  -- accepted are exactly the formulas, each with its one tree
  pub accepts : (s : List ℕ) (t : Tree) → judge_from d s ≡ accepted t ↔ AcceptedFrom d s t
  -- "Given exactly if": a text has no outcome but its judgement
  pub only : (s : List ℕ) (j : Judgement) → HasJudgementFrom d s j → j ≡ judge_from d s
  -- a refusal of a text is 3 to 9
  pub answers : (s : List ℕ) (a p : ℕ) → judge_from d s ≡ refused a p → (3 ≤ a) × (a ≤ 9)
  -- the place of a refusal is that of a byte of the text, or its length; so no place is above 1,024
  pub place_inside : (s : List ℕ) (a p : ℕ) → judge_from d s ≡ refused a p → p ≤ length s
  pub place_small : (s : List ℕ) (a p : ℕ) → judge_from d s ≡ refused a p → p ≤ 1024

abbrev pub TextTheorems : Type 0
TextTheorems = TextTheoremsFrom 0

-- with brackets open before the text
pub record TextFrom : Type 0 where
  pub theorems : (d : ℕ) → d ≤ most_open → TextTheoremsFrom d
  -- what is accepted behind d open brackets is accepted behind any fewer, with the same tree
  pub fewer : (d e : ℕ) (s : List ℕ) (t : Tree) → e ≤ d → judge_from d s ≡ accepted t → judge_from e s ≡ accepted t
