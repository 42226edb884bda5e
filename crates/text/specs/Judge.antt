-- What becomes of a text (paper 01, "The list of answers" and their order): 3 for its length; then "4, 5, 6 over the whole text, the smallest place first;
-- then 7 and 8, smallest place first, 7 on a tie; then 9, smallest place", with which the 6 of a count is looked for (paper 02, Ask 2); else it is a
-- formula, with its tree. What 7 and 8 say of the grammar is the crate grammar's `found`.
use Rattle.std.specs.Prelude.{◌&&◌, cond, List, [], ◌∷◌, ℕ, leb, length}
use Rattle.tokens.specs.Scan.{Tok, Scan, tokens, wrong, scan}
use Rattle.grammar.specs.Tree.{Tree, Diagnostic, clear, at, diagnostic_of}
use Rattle.grammar.specs.Parse.{Result, ok, bad, deep, starved, parse_from}

pub data Judgement : Type 0 where
  accepted : Tree → Judgement
  refused : ℕ → ℕ → Judgement

-- "or the text's length if there is none"
abbrev pub place_of : List ℕ → List Tok → ℕ
place_of s [] = length s
place_of s (x ∷ xs) = x.place

abbrev pub judge_tree : Tree → Diagnostic → Judgement
judge_tree t clear = accepted t
judge_tree t (at p a) = refused a p

unfoldable pub judge_parse : List ℕ → Result Tree → Judgement
unfolding diagnostic_of
judge_parse s (ok t []) = judge_tree t (diagnostic_of t)
judge_parse s (ok t (x ∷ xs)) = refused 7 x.place
judge_parse s (bad r) = refused 7 (place_of s r)
judge_parse s (deep r) = refused 8 (place_of s r)
judge_parse s starved = refused 7 0

unfoldable pub judge_scan : ℕ → List ℕ → Scan → Judgement
unfolding judge_parse parse_from
judge_scan d s (tokens ts) = judge_parse s (parse_from d ts)
judge_scan d s (wrong a p) = refused a p

-- "expression empty or over 1,024 bytes", with d brackets open before the text
unfoldable pub judge_from : ℕ → List ℕ → Judgement
unfolding judge_scan
judge_from d s = cond (leb 1 (length s) && leb (length s) 1024) (judge_scan d s (scan s)) (refused 3 0)

-- the expression that an operation is given
abbrev pub judge : List ℕ → Judgement
judge s = judge_from 0 s
