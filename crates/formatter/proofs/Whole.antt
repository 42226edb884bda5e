-- An accepted text: its table of tokens, and the answer.
use Rattle.std.specs.Prelude.{Ok, Err}
use mathlib.Core.Path.{◌≡◌, refl, sym, ap, subst, ◌∙◌}
use mathlib.Core.Bool.{Bool, true, false, ◌&&◌, cond}
use mathlib.Core.List.{List, [], ◌∷◌}
use Prim.Native.Nat.{ℕ, ◌+◌, ◌-◌, ◌≤◌, ◌<◌}
use native.Mathlib.Omega.{arith}
use lib.Dec.{leb, ltb}
use lib.ListN.{length, take, drop}
use lib.Seq.{sets, drop-drop, length-take-le}
use borrow.Author.Tests.{leb-true, lt-ltb, le-ltb}
use Rattle.tokens.specs.declared.Token.{Token}
use Rattle.tokens.specs.Bytes.{is_space, run_len}
use Rattle.tokens.specs.Scan.{Lexeme, Found, Wrong, End, lexeme_of, blanks, lexeme_at, Tok, Scan, tokens, wrong, cons_token, scan}
use Rattle.tokens.specs.Theorems.{Stops, nothing, other}
use Rattle.tokens.proofs.Laws.{found, rest, at-found, at-wrong, at-end}
use Rattle.tokens.proofs.Runs.{run-stops}
use Rattle.tokens.proofs.Tests.{both}
use Rattle.token_table.specs.private.Table.{listed, tokens_from, Fills, TokenWords}
use Rattle.token_table.proofs.Laws.{filled-good, filled-wrong}
use Rattle.grammar.specs.Tree.{Tree, Diagnostic, clear, at, diagnostic_of}
use Rattle.grammar.specs.Grammar.{tok}
use Rattle.grammar.specs.Symbols.{loosest}
use Rattle.grammar.specs.Parse.{Result, ok, bad, deep, starved, most_open, fuel, expression, parse_from}
use Rattle.text.specs.Judge.{Judgement, accepted, refused, judge_tree, judge_parse, judge_scan, judge_from, judge}
use Rattle.profile_text.proofs.Judging.{same-tokens}
use Rattle.compiler.specs.Compile.{coded_answer}
use Rattle.delivery.specs.declared.Answer.{Answer}
use Rattle.operations.specs.Operations.{done_with}
use Rattle.format_laws.specs.Formatted.{formatted, top, levels}
use Rattle.format_laws.specs.Format.{text_limit, of_text, formatting, answer_of, buffer_after, format_answer, format_buffer}
use Rattle.format_writer.specs.private.Scratch.{Holds, kept, lost}
use Rattle.format_writer.specs.private.Spelling.{Stands}
use Rattle.formatter.specs.private.Walk.{Typed, none, some, Position, says, SaysExpression, Some, Accepted}
use Rattle.compiler.specs.Compile.{refusal}

-- ---- what the judgement says
tree_of : (u : Tree) (d : Diagnostic) {t : Tree} → judge_tree u d ≡ accepted t → u ≡ t
tree_of u clear e = cc
tree_of u (at p a) e = let z : ◌≡◌ {A = ℕ} 0 1 = cc in absurd (omega arith)

parsed : (s : List ℕ) (q : Result Tree) {t : Tree} → judge_parse s q ≡ accepted t → q ≡ ok t []
unfolding judge_parse
parsed s (ok u []) e = ap (λ (x : Tree). ok x []) (tree_of u (diagnostic_of u) e)
parsed s (ok u (x ∷ xs)) e = let z : ◌≡◌ {A = ℕ} 0 1 = cc in absurd (omega arith)
parsed s (bad r) e = let z : ◌≡◌ {A = ℕ} 0 1 = cc in absurd (omega arith)
parsed s (deep r) e = let z : ◌≡◌ {A = ℕ} 0 1 = cc in absurd (omega arith)
parsed s starved e = let z : ◌≡◌ {A = ℕ} 0 1 = cc in absurd (omega arith)

record Scanned (z : Scan) (t : Tree) : Type 0 where
  toks : List Tok
  is : z ≡ tokens toks
  parses : parse_from 0 toks ≡ ok t []

scanned : (s : List ℕ) (z : Scan) {t : Tree} → judge_scan 0 s z ≡ accepted t → Scanned z t
unfolding judge_scan
scanned s (tokens w) e = record { toks = w; is = refl; parses = parsed s (parse_from 0 w) e }
scanned s (wrong a p) e = let z : ◌≡◌ {A = ℕ} 0 1 = cc in absurd (omega arith)

sized : (b : Bool) (j : Judgement) {t : Tree} → cond b j (refused 3 0) ≡ accepted t → (b ≡ true) × (j ≡ accepted t)
sized true j e = (refl, e)
sized false j e = let z : ◌≡◌ {A = ℕ} 0 1 = cc in absurd (omega arith)

judged : (s : List ℕ) {t : Tree} → judge s ≡ accepted t → (length s ≤ 1024) × Scanned (scan s) t
unfolding judge_from
judged s e =
    let h = sized (leb 1 (length s) && leb (length s) 1024) (judge_scan 0 s (scan s)) e in
    (leb-true (length s) 1024 (both (leb 1 (length s)) (leb (length s) 1024) h.0).1, scanned s (scan s) h.1)

pub accepted-short : {s : List ℕ} → Accepted s → length s ≤ 1024
accepted-short {s} a = (judged s a.is).0

-- ---- tokens as they are typed
no_run : {p : ℕ → Bool} {t : List ℕ} → Stops p t → run_len p t ≡ 0
no_run nothing = refl
no_run (other e) = rw e

-- a token that was found behind blanks stands at its place
again : (s : List ℕ) (i : ℕ) {t : Token} {p e : ℕ} → lexeme_at s i ≡ Found t p e → Stands s t p e
again s i {t} {p} {e} m =
    let k = i + blanks s i in
    let d : drop k s ≡ drop (blanks s i) (drop i s) = sym (drop-drop (blanks s i) i s) in
    let z : blanks s k ≡ 0 = ap (run_len is_space) d ∙ no_run (run-stops is_space (drop i s)) in
    let y : k + blanks s k ≡ k = omega (arith, z) in
    let w : lexeme_at s k ≡ Found t p e = ap (λ (j : ℕ). lexeme_of (drop j s) j) y ∙ m in
    subst (λ (j : ℕ). lexeme_at s j ≡ Found t p e) (sym (found s i m).place) w

typed : (s : List ℕ) (i : ℕ) (w : List Tok) → rest s i ≡ tokens w → Typed s w
typed s i [] q = none
typed s i (x ∷ w) q = by (lexeme_at s i) refl (λ e. typed s e w)
  where
    no_way : {a p : ℕ} → rest s i ≡ wrong a p → Typed s (x ∷ w)
    no_way r = let z : ◌≡◌ {A = ℕ} 0 1 = cc in absurd (omega arith)

    ended : rest s i ≡ tokens [] → Typed s (x ∷ w)
    ended r = let z : ◌≡◌ {A = ℕ} 0 1 = cc in absurd (omega arith)

    onward : (t : Token) (p e : ℕ) → lexeme_at s i ≡ Found t p e → (r : Scan) → rest s e ≡ r → rest s i ≡ cons_token (tok t p) r
        → (rest s e ≡ tokens w → Typed s w) → Typed s (x ∷ w)
    onward t p e m (tokens v) c d ih =
        let first : tok t p ≡ x = cc in
        let others : rest s e ≡ tokens w = cc in
        subst (λ (y : Tok). Typed s (y ∷ w)) first (some e (again s i m) (ih others))
    onward t p e m (wrong a b) c d ih = no_way d

    by : (l : Lexeme) → lexeme_at s i ≡ l → ((e : ℕ) → rest s e ≡ tokens w → Typed s w) → Typed s (x ∷ w)
    by (Found t p e) m ih = onward t p e m (rest s e) refl (at-found s i m) (ih e)
    by (Wrong a p) m ih = no_way (at-wrong s i m)
    by End m ih = ended (at-end s i m)

-- ---- a table that was filled
module _ (s table : List ℕ) (f : Fills (scan s) table (Ok tt)) where
  pub whole-position : TokenWords table → Position s table 0
  whole-position w = record { words = w; typed = typed s 0 (listed table) (filled-good f) }

  pub whole_says : {t : Tree} → judge s ≡ accepted t → SaysExpression loosest s (tokens_from table 0) (formatted s t) (top t) []
  unfolding parse_from
  whole_says {t} e =
      let h = (judged s e).1 in
      let same : h.toks ≡ listed table = same-tokens (sym h.is ∙ filled-good f) in
      says (fuel h.toks) (most_open - 0) (ap (expression (fuel h.toks) (most_open - 0) loosest) (sym same) ∙ h.parses)

  pub whole-some : Accepted s → Some (SaysExpression loosest s (tokens_from table 0))
  whole-some a = record { text = formatted s a.tree; group = top a.tree; left = []; is = whole_says a.is }

pub no-wrong : (s table : List ℕ) {a p : ℕ} → Accepted s → Fills (scan s) table (Err (refusal a p)) → ⊥
no-wrong s table k f = let h = (judged s k.is).1 in let q = sym h.is ∙ filled-wrong f in let z : ◌≡◌ {A = ℕ} 0 1 = cc in omega arith

pub from_nothing : (buf : List ℕ) → Holds [] buf 0
from_nothing buf = kept (omega arith) refl

-- ---- the answer to a text
abbrev pub Answers : List ℕ → List ℕ → Answer → List ℕ → Type 0
Answers x out r out' = (r ≡ answer_of (of_text x)) × (out' ≡ buffer_after out (of_text x))

module _ {scratch x : List ℕ} {n : ℕ} (l : length scratch ≡ text_limit) where
  pub too_long : (out : List ℕ) → text_limit < n → Holds x scratch n → Answers x out (Answer.Refused 3 0) out
  too_long out h (kept k e) = absurd (omega (arith, k, l))
  too_long out h (lost k e) = let z : ltb text_limit (length x) ≡ true = lt-ltb text_limit (length x) (omega (arith, k, l)) in (rw z, rw z)

  module _ (h : n ≤ text_limit) where
    part : Holds x scratch n → take n scratch ≡ x
    part (kept k e) = e
    part (lost k e) = absurd (omega (arith, e, l))

    size : Holds x scratch n → length x ≡ n
    size v = sym (ap length (part v)) ∙ length-take-le n scratch (omega (arith, l))

    fits : Holds x scratch n → ltb text_limit (length x) ≡ false
    fits v = le-ltb text_limit (length x) (omega (arith, size v))

    pub too_deep : (out : List ℕ) {d : ℕ} → d ≡ levels (take n scratch) → most_open < d → Holds x scratch n → Answers x out (Answer.Refused 8 0) out
    too_deep out q m v =
        let z : ltb most_open (levels x) ≡ true = lt-ltb most_open (levels x) (omega (arith, q, ap levels (part v))) in
        (rw (fits v, z), rw (fits v, z))

    pub good-text : (out : List ℕ) {d : ℕ} {out' : List ℕ} → d ≡ levels (take n scratch) → d ≤ most_open → out' ≡ sets out 0 (take n scratch)
        → Holds x scratch n → Answers x out (done_with n) out'
    good-text out q m b v =
        let z : ltb most_open (levels x) ≡ false = le-ltb most_open (levels x) (omega (arith, q, ap levels (part v))) in
        (rw (fits v, z) (ap done_with (sym (size v))), rw (fits v, z) (b ∙ ap (sets out 0) (part v)))

pub part-short : (scratch : List ℕ) (n : ℕ) → length scratch ≡ text_limit → n ≤ text_limit → length (take n scratch) ≤ 1024
part-short scratch n l h = let z = length-take-le n scratch (omega (arith, l)) in omega (arith, z)

-- ---- the answer of the operation
accepted-of : (j : Judgement) {n : ℕ} → Ok n ≡ coded_answer j → (t : Tree) × (j ≡ accepted t)
accepted-of (accepted t) e = (t, refl)
accepted-of (refused a p) e = let z : ◌≡◌ {A = ℕ} 0 1 = cc in absurd (omega arith)

pub accepted-text : (s : List ℕ) {n : ℕ} → Ok n ≡ coded_answer (judge s) → Accepted s
accepted-text s e = let (t, q) = accepted-of (judge s) e in record { tree = t; is = q }

refused-of : (j : Judgement) {a p : ℕ} → Err (refusal a p) ≡ coded_answer j → j ≡ refused a p
refused-of (accepted t) e = let z : ◌≡◌ {A = ℕ} 0 1 = cc in absurd (omega arith)
refused-of (refused b q) {a} {p} e =
    let one : refusal a p ≡ refusal b q = cc in
    let x : a ≡ b = ap (λ r. r.answer) one in
    let y : p ≡ q = ap (λ r. r.place) one in
    cc

module _ (s out : List ℕ) where
  pub refused-answer : {a p : ℕ} → Err (refusal a p) ≡ coded_answer (judge s) → (Answer.Refused a p ≡ format_answer s out) × (out ≡ format_buffer s out)
  unfolding formatting
  refused-answer e = let q = refused-of (judge s) e in (rw q, rw q)

  pub small-answer : Accepted s → length out < text_limit → (Answer.Refused 10 0 ≡ format_answer s out) × (out ≡ format_buffer s out)
  unfolding formatting
  small-answer k h = let z : ltb (length out) text_limit ≡ true = lt-ltb (length out) text_limit h in (rw (k.is, z), rw (k.is, z))

  pub good-answer : {r : Answer} {out' : List ℕ} (k : Accepted s) → text_limit ≤ length out → Answers (formatted s k.tree) out r out'
      → (r ≡ format_answer s out) × (out' ≡ format_buffer s out)
  unfolding formatting
  good-answer k h e = let z : ltb (length out) text_limit ≡ false = le-ltb (length out) text_limit h in (rw (k.is, z) e.0, rw (k.is, z) e.1)
