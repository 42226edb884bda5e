-- What becomes of a text in the full box (reals true) and in the profile (false). Paper 02, Ask 12: "19, at the first real token, looked for just before 7".
use Rattle.std.specs.Prelude.{Bool, true, false, ◌&&◌, cond, List, ℕ, leb, length}
use Rattle.tokens.specs.Scan.{Tok, Scan, tokens, wrong, scan}
use Rattle.grammar.specs.Tree.{Diagnostic, clear, at}
use Rattle.text.specs.Judge.{Judgement, refused, judge_scan}
use Rattle.profile_text.specs.Tokens.{first_real}

-- what the tokens show to be wrong before their grammar is looked at; in the full box nothing
abbrev pub token_diagnostic : Bool → List Tok → Diagnostic
token_diagnostic true ts = clear
token_diagnostic false ts = first_real ts

abbrev pub judge_unless : Diagnostic → Judgement → Judgement
judge_unless clear j = j
judge_unless (at p a) j = refused a p

-- 4, 5 and 6 over the whole text; then 19; then what the grammar says
unfoldable pub judge_scan_in : Bool → ℕ → List ℕ → Scan → Judgement
unfolding judge_scan first_real
judge_scan_in reals d s (tokens ts) = judge_unless (token_diagnostic reals ts) (judge_scan d s (tokens ts))
judge_scan_in reals d s (wrong a p) = refused a p

-- with d brackets open before the text
unfoldable pub judge_in : Bool → ℕ → List ℕ → Judgement
unfolding judge_scan_in
judge_in reals d s = cond (leb 1 (length s) && leb (length s) 1024) (judge_scan_in reals d s (scan s)) (refused 3 0)
