-- What the operation `format` answers and leaves (paper 02, request 10): "Refusals, after the formula's own: 10 for an output buffer under 1,024 bytes; 3
-- exactly if the text would pass 1,024 bytes, else 8 exactly if it would pass eight levels, both with place 0; a refused save writes nothing, a good one only
-- its text, with its length as the count."
use Rattle.std.specs.Prelude.{cond, List, ℕ, ltb, length}
use Rattle.std.proofs.lemmas.List.Edits.{sets}
use Rattle.grammar.specs.Parse.{most_open}
use Rattle.text.specs.Judge.{Judgement, accepted, refused, judge, judge_from}
use Rattle.delivery.specs.declared.Answer.{Answer}
use Rattle.delivery.specs.declared.Answer.TheVariants.{Refused}
use Rattle.operations.specs.Operations.{done_with}
use Rattle.format_laws.specs.Formatted.{formatted, levels}

-- how long a formula's text may be, and a buffer for one must
abbrev pub text_limit : ℕ
text_limit = 1024

-- the text, or a refusal with its place
pub data Formatting : Type 0 where
  gives : List ℕ → Formatting
  refuses : ℕ → ℕ → Formatting

-- "3 exactly if the text would pass 1,024 bytes, else 8 exactly if it would pass eight levels, both with place 0"
abbrev pub of_text : List ℕ → Formatting
of_text x = cond (ltb text_limit (length x)) (refuses 3 0) (cond (ltb most_open (levels x)) (refuses 8 0) (gives x))

-- "after the formula's own: 10 for an output buffer under 1,024 bytes"
abbrev pub of_judgement : List ℕ → ℕ → Judgement → Formatting
of_judgement s room (accepted t) = cond (ltb room text_limit) (refuses 10 0) (of_text (formatted s t))
of_judgement s room (refused a p) = refuses a p

-- of the text s, for a buffer of so many bytes
unfoldable pub formatting : List ℕ → ℕ → Formatting
unfolding judge_from formatted
formatting s room = of_judgement s room (judge s)

-- "with its length as the count"
abbrev pub answer_of : Formatting → Answer
answer_of (gives x) = done_with (length x)
answer_of (refuses a p) = Refused a p

-- "a refused save writes nothing, a good one only its text"
abbrev pub buffer_after : List ℕ → Formatting → List ℕ
buffer_after out (gives x) = sets out 0 x
buffer_after out (refuses a p) = out

-- the operation `format`, lent the buffer out
abbrev pub format_answer : List ℕ → List ℕ → Answer
format_answer s out = answer_of (formatting s (length out))

abbrev pub format_buffer : List ℕ → List ℕ → List ℕ
format_buffer s out = buffer_after out (formatting s (length out))
