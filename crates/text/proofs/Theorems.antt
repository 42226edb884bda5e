-- The theorems about texts, from those about the grammar.
use mathlib.Core.Path.{◌≡◌, refl, sym, subst}
use mathlib.Core.Bool.{Bool, true, false, ◌&&◌, cond}
use mathlib.Core.List.{List, [], ◌∷◌}
use Prim.Native.Nat.{ℕ, ◌≤◌}
use native.Mathlib.Omega.{arith}
use lib.Dec.{leb}
use lib.ListN.{length}
use borrow.Author.Tests.{le-leb, leb-true}
use Rattle.tokens.specs.Scan.{Tok, Scan, tokens, wrong, scan}
use Rattle.grammar.specs.Tree.{Tree, Diagnostic, clear, at, diagnostic_of}
use Rattle.grammar.specs.Parse.{Result, ok, bad, deep, starved, most_open, parse_from}
use Rattle.grammar.specs.Theorems as G
use Rattle.grammar.specs.Theorems.{HasParseFrom}
use Rattle.grammar.proofs.Theorems.{grammar-from}
use Rattle.text.specs.Judge.{Judgement, accepted, refused, judge_tree, judge_parse, judge_scan, judge_from}
use Rattle.text.specs.Theorems.{Sized, ScansTo, AcceptedFrom, HasJudgementFrom, wrong_size, wrong_token, wrong_end, wrong_next, too_deep}
use Rattle.text.specs.Theorems.{diagnosed, formula, TextTheoremsFrom, TextTheorems, TextFrom}
use Rattle.text.proofs.Only.{one-outcome}
use Rattle.text.proofs.Numbers.{numbered, three-nine}
use Rattle.text.proofs.Places.{placed}

-- the test of the length
fits : (s : List ℕ) → Sized s → (leb 1 (length s) && leb (length s) 1024) ≡ true
fits s h = rw (le-leb 1 (length s) h.some, le-leb (length s) 1024 h.short) refl

sized : (s : List ℕ) → (leb 1 (length s) && leb (length s) 1024) ≡ true → Sized s
sized s e = go (leb 1 (length s)) (leb (length s) 1024) refl refl e
  where
    go : (a b : Bool) → leb 1 (length s) ≡ a → leb (length s) 1024 ≡ b → (a && b) ≡ true → Sized s
    go true true p q e = record { some = leb-true 1 (length s) p; short = leb-true (length s) 1024 q }
    go true false p q e = let z : ◌≡◌ {A = ℕ} 0 1 = cc in absurd (omega arith)
    go false b p q e = let z : ◌≡◌ {A = ℕ} 0 1 = cc in absurd (omega arith)

-- what each result of the parser says
found-outcome : {d : ℕ} (s : List ℕ) (w : List Tok) {q : Result Tree} → ScansTo s w → HasParseFrom d w q → HasJudgementFrom d s (judge_parse s q)
unfolding judge_parse
found-outcome {d} s w h (G.formula {t = t} a sh) = go (diagnostic_of t) refl
  where
    go : (x : Diagnostic) → diagnostic_of t ≡ x → HasJudgementFrom d s (judge_tree t x)
    go clear e = formula (record { toks = w; reads = h; formula = a; shallow = sh; faultless = e })
    go (at p b) e = diagnosed w t h a sh e
found-outcome s w h (G.unfinished v n sh) = wrong_end w h v n sh
found-outcome s w h (G.surplus {x = x} {ys = ys} p e v n sh) = wrong_next p x ys (subst (ScansTo s) e h) v n sh
found-outcome s w h (G.refused {x = x} {ys = ys} p e v n sh) = wrong_next p x ys (subst (ScansTo s) e h) v n sh
found-outcome s w h (G.too_deep {x = x} {ys = ys} p e v sh o le) = too_deep p x ys (subst (ScansTo s) e h) v sh o le

module _ (d : ℕ) (few : d ≤ most_open) where
  outcome : (s : List ℕ) → HasJudgementFrom d s (judge_from d s)
  unfolding judge_from judge_scan
  outcome s = go (leb 1 (length s) && leb (length s) 1024) refl
    where
      read : Sized s → (z : Scan) → scan s ≡ z → HasJudgementFrom d s (judge_scan d s z)
      read h (tokens w) e = found-outcome s w (record { sized = h; scanned = e }) (grammar-from.found d w few)
      read h (wrong a p) e = wrong_token h e

      go : (b : Bool) → (leb 1 (length s) && leb (length s) 1024) ≡ b → HasJudgementFrom d s (cond b (judge_scan d s (scan s)) (refused 3 0))
      go true e = read (sized s e) (scan s) refl
      go false e = wrong_size (λ h. let f = fits s h in let z : ◌≡◌ {A = ℕ} 0 1 = cc in omega arith)

  only : (s : List ℕ) (j : Judgement) → HasJudgementFrom d s j → j ≡ judge_from d s
  only s j h = one-outcome h (outcome s)

  accepts-only : (s : List ℕ) (t : Tree) → judge_from d s ≡ accepted t → AcceptedFrom d s t
  accepts-only s t e = go (subst (HasJudgementFrom d s) e (outcome s))
    where
      go : HasJudgementFrom d s (accepted t) → AcceptedFrom d s t
      go (formula h) = h

  place : (s : List ℕ) (a p : ℕ) → judge_from d s ≡ refused a p → (p ≤ length s) × (p ≤ 1024)
  place s a p e = placed (subst (HasJudgementFrom d s) e (outcome s))

  theorems : TextTheoremsFrom d
  theorems =
      record {
        outcome = outcome;
        accepts = λ s t. (accepts-only s t, λ h. sym (only s (accepted t) (formula h)));
        only = only;
        answers = λ s a p e. three-nine (numbered (subst (HasJudgementFrom d s) e (outcome s)));
        place_inside = λ s a p e. (place s a p e).0;
        place_small = λ s a p e. (place s a p e).1;
      }

-- a refusal is no formula
pub refused-not : {A : Type 0} {a p : ℕ} {t : Tree} → refused a p ≡ accepted t → A
refused-not e = let z : ◌≡◌ {A = ℕ} 0 1 = cc in absurd (omega arith)

module _ (d e : ℕ) (s : List ℕ) (t : Tree) (le : e ≤ d) where
  fewer-parse : (w : List Tok) (q : Result Tree) → parse_from d w ≡ q → judge_parse s q ≡ accepted t → judge_parse s (parse_from e w) ≡ accepted t
  unfolding judge_parse
  fewer-parse w (ok u []) i j = rw (grammar-from.fewer d e w u le i) j
  fewer-parse w (ok u (x ∷ r)) i j = refused-not j
  fewer-parse w (bad r) i j = refused-not j
  fewer-parse w (deep r) i j = refused-not j
  fewer-parse w starved i j = refused-not j

  fewer : judge_from d s ≡ accepted t → judge_from e s ≡ accepted t
  unfolding judge_from judge_scan
  fewer = go (leb 1 (length s) && leb (length s) 1024)
    where
      read : (z : Scan) → judge_scan d s z ≡ accepted t → judge_scan e s z ≡ accepted t
      read (tokens w) j = fewer-parse w (parse_from d w) refl j
      read (wrong a p) j = refused-not j

      go : (b : Bool) → cond b (judge_scan d s (scan s)) (refused 3 0) ≡ accepted t → cond b (judge_scan e s (scan s)) (refused 3 0) ≡ accepted t
      go true j = read (scan s) j
      go false j = refused-not j

pub text-from : TextFrom
text-from = record { theorems = theorems; fewer = fewer }

pub text-theorems : TextTheorems
text-theorems = theorems 0 (omega arith)
