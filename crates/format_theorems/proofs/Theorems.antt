-- The theorems: the formatted text is scanned to tokens that are a formula with the same tree; its levels decide whether it is accepted.
use mathlib.Core.Path.{◌≡◌, refl, sym, ap, subst, ◌∙◌}
use mathlib.Core.Bool.{Bool, true, false, cond}
use mathlib.Core.List.{List, [], ◌∷◌, ◌++◌, append_assoc, append-nil}
use Prim.Native.Nat.{ℕ, ◌+◌, ◌≤◌, ◌<◌}
use native.Mathlib.Omega.{arith}
use lib.Dec.{ltb}
use lib.ListN.{length, drop}
use lib.Seq.{sets-eq}
use native.Mathlib.Nat.{zero-add}
use borrow.Author.Tests.{ltb-false, lt-ltb, le-ltb}
use Rattle.tokens.specs.Scan.{Tok, tokens, wrong, scan}
use Rattle.tokens.specs.Theorems.{Starts, first, nothing, Scans}
use Rattle.tokens.proofs.Theorems.{token-theorems}
use Rattle.grammar.specs.Tree.{Tree, tree_kind}
use Rattle.grammar.specs.Eval.{eval}
use Rattle.grammar.specs.Symbols.{loosest}
use Rattle.grammar.specs.Grammar.{Formula}
use Rattle.grammar.specs.Parse.{most_open}
use Rattle.grammar.specs.Theorems.{Shallow}
use Rattle.grammar.proofs.Levels.{lift}
use Rattle.text.specs.Judge.{Judgement, accepted, refused, judge}
use Rattle.text.specs.Theorems.{Sized, ScansTo, AcceptedFrom, HasJudgementFrom, wrong_size, wrong_token, wrong_end, wrong_next, too_deep, diagnosed, formula}
use Rattle.text.proofs.Theorems.{text-theorems}
use Rattle.tree_code.specs.Code.{code_of}
use Rattle.operations.specs.Operations.{done_with}
use Rattle.format_laws.specs.Formatted.{top, formatted, levels, without_places, spellings}
use Rattle.format_laws.specs.Format.{text_limit, gives, refuses, of_text, of_judgement, formatting, answer_of, buffer_after, format_answer, format_buffer}
use Rattle.format_laws.proofs.Places.{kind-placeless, worth-placeless, code-placeless, faultless-placeless}
use Rattle.format_laws.proofs.Spelled.{of_tree}
use Rattle.format_laws.proofs.Refusals.{long-text, deep-text, good-text}
use Rattle.format_laws.proofs.Nodes.{top-most}
use Rattle.format_theorems.specs.Theorems.{ReadAgain, FormatTheorems}
use Rattle.format_theorems.proofs.Lexed.{Lexed, end, scans-of, Alike, alike_of, kept_of}
use Rattle.format_theorems.proofs.Standing.{standing}
use Rattle.format_theorems.proofs.Again.{holds, kept-tree}

-- ---- the text of an accepted tree, as tokens
record Tokens (s : List ℕ) (t : Tree) (x : List ℕ) : Type 0 where
  toks : List Tok
  tree : Tree
  scanned : scan x ≡ tokens toks
  formula : Formula toks tree
  same : without_places tree ≡ without_places t
  alike : Alike x toks
  spelled : spellings x tree ≡ spellings s t
  text : formatted x tree ≡ formatted s t
  some : 1 ≤ length x

starts-some : {P : ℕ → Bool} (x : List ℕ) → Starts P x → 1 ≤ length x
starts-some {P = P} [] x'' = elim x'' [ ]
starts-some (c ∷ cs) (first e) = omega arith

tokens-again : (s : List ℕ) (t : Tree) → AcceptedFrom 0 s t → Tokens s t (formatted s t)
tokens-again s t a =
    let x = formatted s t in
    let k = holds s a.formula (standing s a.toks (subst (Scans 0 s) a.reads.scanned (token-theorems.scans s))) in
    let r = k.at 0 in
    let whole = r.lexes.lexes [] [] [] nothing end in
    let first = subst (λ (i : List ℕ). Lexed 0 i (r.toks ++ []) (spellings s t ++ [])) (append-nil x) whole in
    let second = subst (λ (i : List Tok). Lexed 0 x i (spellings s t ++ [])) (append-nil r.toks) first in
    let read : Lexed 0 x r.toks (spellings s t) = subst (λ (i : List (List ℕ)). Lexed 0 x r.toks i) (append-nil (spellings s t)) second in
    let typed = kept-tree x r.derives ∙ kept_of read x refl in
    record {
      toks = r.toks;
      tree = r.tree;
      scanned = sym (token-theorems.only x (tokens r.toks) (scans-of read));
      formula = lift (top t) loosest (top-most t) r.derives;
      same = r.same;
      alike = alike_of read;
      spelled = typed;
      text = of_tree x s r.tree t r.same typed;
      some = starts-some x k.begins;
    }

accepts : (s : List ℕ) (t : Tree) → judge s ≡ accepted t → AcceptedFrom 0 s t
accepts s t e = (text-theorems.accepts s t).0 e

again : (s : List ℕ) (t : Tree) → judge s ≡ accepted t → length (formatted s t) ≤ text_limit → levels (formatted s t) ≤ most_open → ReadAgain s t (formatted s t)
again s t e short low =
    let a = accepts s t e in
    let r = tokens-again s t a in
    let sized : Sized (formatted s t) = record { some = r.some; short = short } in
    let all : AcceptedFrom 0 (formatted s t) r.tree =
    record {
      toks = r.toks;
      reads = record { sized = sized; scanned = r.scanned };
      formula = r.formula;
      shallow = r.alike.shallow 0 low;
      faultless = faultless-placeless r.tree t r.same a.faultless;
    } in
    record { tree = r.tree; judged = (text-theorems.accepts (formatted s t) r.tree).1 all; same = r.same; spelled = r.spelled; text = r.text }

-- ---- too many levels: whatever else could refuse the text does not
module _ (s : List ℕ) (t : Tree) (x : List ℕ) (r : Tokens s t x) (short : length x ≤ text_limit) (high : most_open < levels x) where
  same-tokens : (w : List Tok) → ScansTo x w → w ≡ r.toks
  same-tokens w h = let e : tokens w ≡ tokens r.toks = sym h.scanned ∙ r.scanned in cc

  not-shallow : (w : List Tok) → ScansTo x w → Shallow 0 w → ⊥
  not-shallow w h sh = omega (arith, r.alike.low 0 (omega arith) (subst (Shallow 0) (same-tokens w h) sh))

  eight-only : (j : Judgement) → HasJudgementFrom 0 x j → judge x ≡ j → (p : ℕ) × (judge x ≡ refused 8 p)
  eight-only j (wrong_size n) e = absurd (n (record { some = r.some; short = short }))
  eight-only j (wrong_token h q) e = let z : ◌≡◌ {A = ℕ} 0 1 = differ (sym r.scanned ∙ q) in absurd (omega arith)
    where
      differ : {a p : ℕ} {w : List Tok} → tokens w ≡ wrong a p → ◌≡◌ {A = ℕ} 0 1
      differ q = cc
  eight-only j (wrong_end w h v n sh) e = absurd (n r.tree (subst (λ (i : List Tok). Formula i r.tree) (sym (same-tokens w h)) r.formula))
  eight-only j (wrong_next p y ys h v n sh) e =
      let whole : Formula ((p ++ y ∷ []) ++ ys) r.tree =
      subst (λ (i : List Tok). Formula i r.tree) (sym (append_assoc p (y ∷ []) ys ∙ same-tokens (p ++ y ∷ ys) h)) r.formula in
      absurd (n (ys, r.tree, whole))
  eight-only j (too_deep p y ys h v sh o d) e = (y.place, e)
  eight-only j (diagnosed w u h f sh k) e = absurd (not-shallow w h sh)
  eight-only j (formula a) e = absurd (not-shallow a.toks a.reads a.shallow)

eight : (s : List ℕ) (t : Tree) → judge s ≡ accepted t → length (formatted s t) ≤ text_limit → most_open < levels (formatted s t)
    → (p : ℕ) × (judge (formatted s t) ≡ refused 8 p)
eight s t e short high =
    eight-only s t (formatted s t) (tokens-again s t (accepts s t e)) short high (judge (formatted s t)) (text-theorems.outcome (formatted s t)) refl

-- ---- the operation
of-accepted : (s : List ℕ) (room : ℕ) (t : Tree) → judge s ≡ accepted t → text_limit ≤ room → formatting s room ≡ of_text (formatted s t)
unfolding formatting
of-accepted s room t e h = ap (of_judgement s room) e ∙ rw (le-ltb room text_limit h)

-- what a text that is given was
record Given (s : List ℕ) (room : ℕ) (x : List ℕ) : Type 0 where
  tree : Tree
  judged : judge s ≡ accepted tree
  roomy : text_limit ≤ room
  text : formatted s tree ≡ x
  short : length (formatted s tree) ≤ text_limit
  low : levels (formatted s tree) ≤ most_open

given : (s : List ℕ) (room : ℕ) (x : List ℕ) → formatting s room ≡ gives x → Given s room x
unfolding formatting
given s room x = of-judgement (judge s) refl
  where
    refused-not : {A : Type 0} {a p : ℕ} → refuses a p ≡ gives x → A
    refused-not e = let z : ◌≡◌ {A = ℕ} 0 1 = cc in absurd (omega arith)

    of-tests : (t : Tree) → judge s ≡ accepted t → (a b c : Bool) → ltb room text_limit ≡ a → ltb text_limit (length (formatted s t)) ≡ b
        → ltb most_open (levels (formatted s t)) ≡ c
        → cond a (refuses 10 0) (cond b (refuses 3 0) (cond c (refuses 8 0) (gives (formatted s t)))) ≡ gives x → Given s room x
    of-tests t e true b c i j k q = refused-not q
    of-tests t e false true c i j k q = refused-not q
    of-tests t e false false true i j k q = refused-not q
    of-tests t e false false false i j k q =
        record {
          tree = t;
          judged = e;
          roomy = ltb-false room text_limit i;
          text = cc;
          short = ltb-false text_limit (length (formatted s t)) j;
          low = ltb-false most_open (levels (formatted s t)) k;
        }

    of-judgement : (j : Judgement) → judge s ≡ j → of_judgement s room j ≡ gives x → Given s room x
    of-judgement (accepted t) e q =
        of-tests t e (ltb room text_limit) (ltb text_limit (length (formatted s t))) (ltb most_open (levels (formatted s t))) refl refl refl q
    of-judgement (refused a p) e q = refused-not q

twice : (s : List ℕ) (room : ℕ) (x : List ℕ) → formatting s room ≡ gives x → formatting x room ≡ gives x
twice s room x e =
    let g = given s room x e in
    let r = again s g.tree g.judged g.short g.low in
    subst (λ (y : List ℕ). formatting y room ≡ gives y) g.text
    (of-accepted (formatted s g.tree) room r.tree r.judged g.roomy ∙ ap of_text r.text ∙ good-text (formatted s g.tree) g.short g.low)

own : (s : List ℕ) (room a p : ℕ) → judge s ≡ refused a p → formatting s room ≡ refuses a p
unfolding formatting
own s room a p e = ap (of_judgement s room) e

short_buffer : (s : List ℕ) (room : ℕ) (t : Tree) → judge s ≡ accepted t → room < text_limit → formatting s room ≡ refuses 10 0
unfolding formatting
short_buffer s room t e h = ap (of_judgement s room) e ∙ rw (lt-ltb room text_limit h)

-- ---- the buffer
writes : (s out x : List ℕ) → formatting s (length out) ≡ gives x → (format_answer s out ≡ done_with (length x)) × (format_buffer s out ≡ x ++ drop (length x) out)
writes s out x e =
    let g = given s (length out) x e in
    let fits : 0 + length x ≤ length out = omega (arith, g.short, g.roomy, ap length g.text) in
    (ap answer_of e, ap (buffer_after out) e ∙ sets-eq x out 0 fits ∙ ap (λ (k : ℕ). x ++ drop k out) (zero-add (length x)))

-- ---- places
same_kind : (t u : Tree) → without_places t ≡ without_places u → tree_kind t ≡ tree_kind u
same_kind t u e = sym (kind-placeless t) ∙ ap tree_kind e ∙ kind-placeless u

pub format-theorems : FormatTheorems
format-theorems =
    record {
      again = again;
      eight = eight;
      twice = twice;
      of_tree = of_tree;
      same_kind = same_kind;
      same_value = λ t u e E. sym (worth-placeless E t) ∙ ap (eval E) e ∙ worth-placeless E u;
      same_code = λ t u e. sym (code-placeless t) ∙ ap code_of e ∙ code-placeless u;
      own = own;
      short_buffer = short_buffer;
      long = λ s room t e h l. of-accepted s room t e h ∙ long-text (formatted s t) l;
      deep = λ s room t e h l d. of-accepted s room t e h ∙ deep-text (formatted s t) l d;
      writes = writes;
      keeps = λ s out a p e. (ap answer_of e, ap (buffer_after out) e);
      good = λ s room t e h l d. of-accepted s room t e h ∙ good-text (formatted s t) l d;
    }
