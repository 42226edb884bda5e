-- A judgement of the profile: the full box's where no token is real, else 19 at the first that is.
use mathlib.Core.Path.{◌≡◌, refl, sym, ap, ◌∙◌, subst}
use mathlib.Core.Bool.{Bool, true, false, not, ◌&&◌, cond}
use mathlib.Core.List.{List, [], ◌∷◌, ◌++◌}
use Prim.Native.Nat.{ℕ}
use native.Mathlib.Omega.{arith}
use lib.Dec.{leb}
use lib.ListN.{length}
use borrow.Author.Tests.{le-leb, leb-true}
use Rattle.tokens.specs.Scan.{Tok, Scan, tokens, wrong, scan}
use Rattle.grammar.specs.Tree.{Diagnostic, clear, at}
use Rattle.text.specs.Judge.{Judgement, refused, judge_scan, judge_from}
use Rattle.text.specs.Theorems.{Sized}
use Rattle.profile.proofs.Tests.{both}
use Rattle.profile_text.specs.Tokens.{real_token, no_real, real_at, first_real}
use Rattle.profile_text.specs.Judge.{judge_unless, judge_scan_in, judge_in}
use Rattle.profile_text.specs.Theorems.{FirstRealAt}

abbrev fits : List ℕ → Bool
fits s = leb 1 (length s) && leb (length s) 1024

-- ---- with reals
full-scan : (d : ℕ) (s : List ℕ) (z : Scan) → judge_scan_in true d s z ≡ judge_scan d s z
unfolding judge_scan_in judge_scan
full-scan d s (tokens ts) = refl
full-scan d s (wrong a p) = refl

pub full : (d : ℕ) (s : List ℕ) → judge_in true d s ≡ judge_from d s
unfolding judge_in judge_from
full d s = ap (λ (j : Judgement). cond (fits s) j (refused 3 0)) (full-scan d s (scan s))

-- ---- the tokens up to the first real one
pub record Split (ts : List Tok) (p : ℕ) : Type 0 where
  pub before : List Tok
  pub first : Tok
  pub after : List Tok
  pub parts : ts ≡ before ++ first ∷ after
  pub none_before : no_real before ≡ true
  pub is_real : real_token first.token ≡ true
  pub there : p ≡ first.place

data Firsts (ts : List Tok) : Diagnostic → Type 0 where
  none : no_real ts ≡ true → Firsts ts clear
  one : (p : ℕ) → Split ts p → Firsts ts (real_at p)

firsts : (ts : List Tok) → Firsts ts (first_real ts)
unfolding first_real no_real
firsts [] = none refl
firsts (x ∷ xs) = by (real_token x.token) refl (firsts xs)
  where
    later : (real_token x.token ≡ false) → {f : Diagnostic} → Firsts xs f → Firsts (x ∷ xs) f
    later e (none h) = none (rw e h)
    later e (one p q) =
        one p (record {
          before = x ∷ q.before;
          first = q.first;
          after = q.after;
          parts = ap (λ (ys : List Tok). x ∷ ys) q.parts;
          none_before = rw e q.none_before;
          is_real = q.is_real;
          there = q.there;
        })

    by : (b : Bool) → real_token x.token ≡ b → Firsts xs (first_real xs) → Firsts (x ∷ xs) (cond b (real_at x.place) (first_real xs))
    by true e h = one x.place (record { before = []; first = x; after = xs; parts = refl; none_before = refl; is_real = e; there = refl })
    by false e h = later e h

-- and back
pub none-clear : (ts : List Tok) → no_real ts ≡ true → first_real ts ≡ clear
unfolding first_real no_real
none-clear [] e = refl
none-clear (x ∷ xs) e = by (real_token x.token) e (none-clear xs)
  where
    by : (b : Bool) → (not b && no_real xs) ≡ true → (no_real xs ≡ true → first_real xs ≡ clear) → cond b (real_at x.place) (first_real xs) ≡ clear
    by true e h = let z : ◌≡◌ {A = ℕ} 0 1 = cc in absurd (omega arith)
    by false e h = h e

pub found : (ws : List Tok) (x : Tok) (vs : List Tok) → no_real ws ≡ true → real_token x.token ≡ true → first_real (ws ++ x ∷ vs) ≡ real_at x.place
unfolding first_real no_real
found [] x vs e r = rw r refl
found (w ∷ ws) x vs e r = by (real_token w.token) e (λ h. found ws x vs h r)
  where
    by : (b : Bool) → (not b && no_real ws) ≡ true → (no_real ws ≡ true → first_real (ws ++ x ∷ vs) ≡ real_at x.place)
        → cond b (real_at w.place) (first_real (ws ++ x ∷ vs)) ≡ real_at x.place
    by true e h = let z : ◌≡◌ {A = ℕ} 0 1 = cc in absurd (omega arith)
    by false e h = h e

-- ---- what a judgement of the profile says of the text, for each way that it comes about
pub data Judged (d : ℕ) (s : List ℕ) : Judgement → Type 0 where
  -- the text is too long or empty, or has bytes that are no token, or no token is real: as in the full box
  as_full : ((w : List Tok) → Sized s → scan s ≡ tokens w → no_real w ≡ true) → Judged d s (judge_from d s)
  real-token : (p : ℕ) → FirstRealAt s p → Judged d s (refused 19 p)

pub sized : (s : List ℕ) → fits s ≡ true → Sized s
sized s e = let h = both (leb 1 (length s)) (leb (length s) 1024) e in record { some = leb-true 1 (length s) h.0; short = leb-true (length s) 1024 h.1 }

pub fit : (s : List ℕ) → Sized s → fits s ≡ true
fit s h = rw (le-leb 1 (length s) h.some, le-leb (length s) 1024 h.short) refl

pub same-tokens : {ts w : List Tok} → tokens ts ≡ tokens w → ts ≡ w
same-tokens e = cc

pub judged : (d : ℕ) (s : List ℕ) → Judged d s (judge_in false d s)
unfolding judge_in judge_from judge_scan_in judge_scan
judged d s = by (fits s) refl (scan s) refl
  where
    first : (ts : List Tok) → fits s ≡ true → scan s ≡ tokens ts → {f : Diagnostic} → Firsts ts f → judge_from d s ≡ judge_scan d s (tokens ts)
        → Judged d s (judge_unless f (judge_scan d s (tokens ts)))
    first ts e z (none h) g = subst (Judged d s) g (as_full (λ w k y. subst (λ (v : List Tok). no_real v ≡ true) (same-tokens (sym z ∙ y)) h))
    first ts e z (one p q) g =
        real-token p (record {
          sized = sized s e;
          before = q.before;
          first = q.first;
          after = q.after;
          scanned = z ∙ ap tokens q.parts;
          none_before = q.none_before;
          is_real = q.is_real;
          there = q.there;
        })

    by : (b : Bool) → fits s ≡ b → (z : Scan) → scan s ≡ z → Judged d s (cond b (judge_scan_in false d s z) (refused 3 0))
    by true e (tokens ts) z = first ts e z (firsts ts) (rw (e, z) refl)
    by true e (wrong a p) z =
        let g : judge_from d s ≡ refused a p = rw (e, z) refl in
        subst (Judged d s) g (as_full (λ w k y. let n : ◌≡◌ {A = ℕ} 0 1 = let x : wrong a p ≡ tokens w = sym z ∙ y in cc in absurd (omega arith)))
    by false e z y =
        let g : judge_from d s ≡ refused 3 0 = rw e refl in
        subst (Judged d s) g (as_full (λ w k x. let f : true ≡ false = sym (fit s k) ∙ e in let n : ◌≡◌ {A = ℕ} 0 1 = cc in absurd (omega arith)))
