-- The order of the answers: 10 for the buffer, 3 for the length, then 4 to 6 for the tokens, then what the table says; and the copy of the draft.
use Rattle.std.specs.Prelude.{Ok, Err}
use mathlib.Core.Path.{◌≡◌, refl, sym, ap, subst, ◌∙◌}
use mathlib.Core.Bool.{Bool, true, false, ◌&&◌, cond}
use mathlib.Core.List.{List}
use Prim.Native.Nat.{ℕ, ◌≤◌, ◌<◌}
use native.Mathlib.Omega.{arith}
use lib.Dec.{eqb, leb}
use lib.ListN.{length, take}
use lib.Seq.{sets}
use borrow.Author.Tests.{lt-ltb, le-ltb, le-leb, lt-leb, leb-true, ltb-true, ltb-false, ne_eqb}
use Rattle.tokens.proofs.Tests.{both}
use Rattle.tokens.specs.Scan.{Scan, tokens, wrong, scan}
use Rattle.token_table.specs.private.Table.{word_place, listed, Fills}
use Rattle.token_table.proofs.Laws.{filled-good, filled-wrong}
use Rattle.grammar.specs.Tree.{Tree, Diagnostic, clear, at}
use Rattle.grammar.specs.Parse.{parse_from}
use Rattle.text.specs.Judge.{Judgement, accepted, refused, judge_parse, judge_scan, judge_from}
use Rattle.text.specs.Theorems.{Sized}
use Rattle.profile_text.specs.Tokens.{real_at}
use Rattle.profile_text.specs.Judge.{token_diagnostic, judge_unless, judge_scan_in, judge_in}
use Rattle.profile_text.proofs.Judging.{full}
use Rattle.real_tokens.specs.private.Words.{shown}
use Rattle.tree_code.specs.Code.{code_of}
use Rattle.draft.specs.private.Draft.{word_bytes, put_code}
use Rattle.draft.proofs.Putting.{words-put}
use Rattle.compiler.specs.Compile.{Coded, in_room, compiling, compiling_in, coded_answer, coded_bytes}
use Rattle.compiler.specs.private.Reading.{Judged, fitted_bytes, is_longer}
use Rattle.compiler.proofs.Bytes.{words-encoded}
use Rattle.compiler.proofs.Theorems.{compiled}
use Rattle.token_table.specs.Refusals.{refusal}

-- the answer a, and the buffer made code', are those of the judgement j
abbrev pub Told : List ℕ → Judgement → Coded → List ℕ → Type 0
Told code j a code' = (a ≡ coded_answer j) × (code' ≡ coded_bytes code j)

-- ---- a judgement in the draft
pub turned_down : {j : Judgement} {o o' : List ℕ} {a p : ℕ} → j ≡ refused a p → Judged j o o' (Err (refusal a p))
turned_down q = record { answer = rw q refl; code = λ t e. let z : ◌≡◌ {A = ℕ} 0 1 = cc in absurd (omega arith) }

pub taken-up : {j : Judgement} {o o' : List ℕ} {n : ℕ} (t : Tree) → j ≡ accepted t → n ≡ length (code_of t) → o' ≡ put_code o 0 (code_of t)
    → Judged j o o' (Ok n)
taken-up {o = o} t q l d = record { answer = rw q (ap Ok l); code = λ u e. let one : t ≡ u = cc in d ∙ ap (λ (v : Tree). put_code o 0 (code_of v)) one }

-- ---- a word that was found, or 0
pub shown-none : {w : ℕ} {e : Diagnostic} → w ≡ 0 → shown w ≡ e → clear ≡ e
shown-none z q = ap shown (sym z) ∙ q

pub shown-real : {w p : ℕ} {e : Diagnostic} → (w ≡ 0 → ⊥) → p ≡ word_place w → shown w ≡ e → real_at p ≡ e
shown-real {w} n l q = let z : eqb w 0 ≡ false = ne_eqb w 0 n in let r : shown w ≡ real_at (word_place w) = rw z in ap real_at l ∙ (sym r ∙ q)

-- ---- the tokens
module _ (reals : Bool) (d : ℕ) {s : List ℕ} (h : Sized s) where
  goes_on : judge_in reals d s ≡ judge_scan_in reals d s (scan s)
  unfolding judge_in
  goes_on = rw (le-leb 1 (length s) h.some, le-leb (length s) 1024 h.short) refl

  -- no real token was found, or it is not asked for
  pub all_read : {table o o' : List ℕ} {a : Coded} → Fills (scan s) table (Ok tt) → clear ≡ token_diagnostic reals (listed table)
      → ((x : List ℕ) → length x ≡ length s → Judged (judge_parse x (parse_from d (listed table))) o o' a)
      → Judged (judge_in reals d s) o o' a
  unfolding judge_scan_in judge_scan
  all_read i n f = rw (goes_on ∙ ap (judge_scan_in reals d s) (filled-good i), sym n) (f s refl)

  pub real-token : {table o o' : List ℕ} {p : ℕ} → Fills (scan s) table (Ok tt) → real_at p ≡ token_diagnostic reals (listed table)
      → Judged (judge_in reals d s) o o' (Err (refusal 19 p))
  unfolding judge_scan_in
  real-token i n = turned_down (goes_on ∙ ap (judge_scan_in reals d s) (filled-good i) ∙ rw (sym n) refl)

  pub wrong_token : {table o o' : List ℕ} {a p : ℕ} → Fills (scan s) table (Err (refusal a p)) → Judged (judge_in reals d s) o o' (Err (refusal a p))
  unfolding judge_scan_in
  wrong_token i = turned_down (goes_on ∙ ap (judge_scan_in reals d s) (filled-wrong i))

-- ---- what is accepted without reals is accepted with them
accepted-unless : (e : Diagnostic) (j : Judgement) {t : Tree} → judge_unless e j ≡ accepted t → j ≡ accepted t
accepted-unless clear j q = q
accepted-unless (at p a) j q = let z : ◌≡◌ {A = ℕ} 0 1 = cc in absurd (omega arith)

accepted-scan : (reals : Bool) (d : ℕ) (s : List ℕ) (z : Scan) {t : Tree} → judge_scan_in reals d s z ≡ accepted t → judge_scan d s z ≡ accepted t
unfolding judge_scan_in judge_scan
accepted-scan reals d s (tokens ts) q = accepted-unless (token_diagnostic reals ts) (judge_scan d s (tokens ts)) q
accepted-scan reals d s (wrong a p) q = q

accepted-full : (reals : Bool) (d : ℕ) (s : List ℕ) (t : Tree) → judge_in reals d s ≡ accepted t → judge_from d s ≡ accepted t
unfolding judge_in judge_from
accepted-full reals d s t q = by (leb 1 (length s) && leb (length s) 1024) q
  where
    by : (b : Bool) → cond b (judge_scan_in reals d s (scan s)) (refused 3 0) ≡ accepted t → cond b (judge_scan d s (scan s)) (refused 3 0) ≡ accepted t
    by true q = accepted-scan reals d s (scan s) q
    by false q = q

-- ---- the copy of the draft
-- the same, where code of at most so many instructions is written
abbrev pub Fitted : ℕ → List ℕ → Judgement → Coded → List ℕ → Type 0
Fitted most code j a code' = (a ≡ coded_answer j) × (code' ≡ fitted_bytes most code j)

coded-length : {j : Judgement} {n : ℕ} (t : Tree) → Ok n ≡ coded_answer j → j ≡ accepted t → n ≡ length (code_of t)
coded-length t e q = let l : Ok _ ≡ coded_answer (accepted t) = e ∙ ap coded_answer q in cc

not-refused : {j : Judgement} {n a p : ℕ} {A : Type 0} → Ok n ≡ coded_answer j → j ≡ refused a p → A
not-refused {n = n} {a = a} {p = p} e q = let l : Ok n ≡ Err (refusal a p) = e ∙ ap coded_answer q in let z : ◌≡◌ {A = ℕ} 0 1 = cc in absurd (omega arith)

module _ {j : Judgement} {o o' : List ℕ} where
  module _ {n most : ℕ} (x : Judged j o o' (Ok n)) where
    pub copied : n ≤ most → most ≤ length o → (code : List ℕ) {code' : List ℕ} → code' ≡ sets code 0 (word_bytes (take n o')) → Fitted most code j
        (Ok n) code'
    copied few room code {code'} e = (x.answer, go j refl)
      where
        go : (i : Judgement) → j ≡ i → code' ≡ fitted_bytes most code j
        go (accepted t) q =
            let m : n ≡ length (code_of t) = coded-length t x.answer q in
            let fits : length (code_of t) ≤ length o = omega arith in
            rw (q, le-leb (length (code_of t)) most (omega arith))
            (e ∙ ap (λ (ws : List ℕ). sets code 0 (word_bytes ws)) (rw (m, x.code t q) (words-put o (code_of t) fits))
            ∙ ap (sets code 0) (words-encoded (code_of t)))
        go (refused a p) q = not-refused x.answer q

    pub passed_over : most < n → (code : List ℕ) → Fitted most code j (Ok n) code
    passed_over more code = (x.answer, go j refl)
      where
        go : (i : Judgement) → j ≡ i → code ≡ fitted_bytes most code j
        go (accepted t) q = let m : n ≡ length (code_of t) = coded-length t x.answer q in rw (q, lt-leb (length (code_of t)) most (omega arith)) refl
        go (refused a p) q = not-refused x.answer q

  pub not_written : (most : ℕ) (code : List ℕ) {a p : ℕ} → Judged j o o' (Err (refusal a p)) → Fitted most code j (Err (refusal a p)) code
  not_written most code {a} {p} x = (x.answer, go j refl)
    where
      go : (i : Judgement) → j ≡ i → code ≡ fitted_bytes most code j
      go (accepted t) q = let l : Err (refusal a p) ≡ coded_answer (accepted t) = x.answer ∙ ap coded_answer q in let z : ◌≡◌ {A = ℕ} 0 1 = cc in absurd
          (omega arith)
      go (refused b r) q = rw q refl

-- ---- an answer of at most so many instructions has its code in the buffer, any other has changed nothing
module _ (j : Judgement) (most : ℕ) (code code' : List ℕ) where
  pub kept : (a : Coded) → is_longer a most ≡ false → Fitted most code j a code' → Told code j a code'
  kept (Ok n) few (e, w) = (e, go j refl)
    where
      go : (i : Judgement) → j ≡ i → code' ≡ coded_bytes code j
      go (accepted t) q =
          let m : n ≡ length (code_of t) = coded-length t e q in
          let l : length (code_of t) ≤ most = omega (arith, ltb-false most n few) in
          w ∙ rw (q, le-leb (length (code_of t)) most l) refl
      go (refused a p) q = not-refused e q
  kept (Err r) few (e, w) = (e, go j refl)
    where
      go : (i : Judgement) → j ≡ i → code' ≡ coded_bytes code j
      go (accepted t) q = let l : Err r ≡ coded_answer (accepted t) = e ∙ ap coded_answer q in let z : ◌≡◌ {A = ℕ} 0 1 = cc in absurd (omega arith)
      go (refused b p) q = w ∙ rw q refl

  pub unchanged : (a : Coded) → is_longer a most ≡ true → Fitted most code j a code' → code' ≡ code
  unchanged (Ok n) more (e, w) = go j refl
    where
      go : (i : Judgement) → j ≡ i → code' ≡ code
      go (accepted t) q =
          let m : n ≡ length (code_of t) = coded-length t e q in
          let l : most < length (code_of t) = omega (arith, ltb-true most n more) in
          w ∙ rw (q, lt-leb (length (code_of t)) most l) refl
      go (refused a p) q = not-refused e q
  unchanged (Err r) more t = let z : ◌≡◌ {A = ℕ} 0 1 = cc in absurd (omega arith)

-- ---- a formula has at most two instructions a byte
pub all-fits : (reals : Bool) (d : ℕ) (s code code' : List ℕ) (a : Coded) → Sized s → Fitted 2048 code (judge_in reals d s) a code'
    → Told code (judge_in reals d s) a code'
all-fits reals d s code code' a h (e, w) = (e, go (judge_in reals d s) refl)
  where
    go : (i : Judgement) → judge_in reals d s ≡ i → code' ≡ coded_bytes code (judge_in reals d s)
    go (accepted t) q =
        let l : length (code_of t) ≤ 2048 = omega (arith, (compiled d s t (accepted-full reals d s t q)).short, h.short) in
        w ∙ rw (q, le-leb (length (code_of t)) 2048 l) refl
    go (refused b r) q = w ∙ rw q refl

-- ---- the length
module _ (s : List ℕ) where
  pub sized : {b : Bool} → b ≡ (leb 1 (length s) && leb (length s) 1024) → b ≡ true → Sized s
  sized e h =
      let (some, short) = both (leb 1 (length s)) (leb (length s) 1024) (sym e ∙ h) in
      record { some = leb-true 1 (length s) some; short = leb-true (length s) 1024 short }

  pub not-sized : {b : Bool} → b ≡ (leb 1 (length s) && leb (length s) 1024) → b ≡ false → (reals : Bool) (d : ℕ) → judge_in reals d s ≡ refused 3 0
  unfolding judge_in
  not-sized e h reals d = rw (sym e ∙ h) refl

-- ---- the buffer
module _ (reals : Bool) (d : ℕ) (s code : List ℕ) where
  pub small : length code < 16384 → Told code (compiling_in reals d (length code) s) (Err (refusal 10 0)) code
  small h = rw (lt-ltb (length code) 16384 h) (refl, refl)

  -- a buffer that is large enough
  module _ (h : 16384 ≤ length code) where
    pub enough : (a : Coded) (code' : List ℕ) → Told code (judge_in reals d s) a code' → Told code (compiling_in reals d (length code) s) a code'
    enough a code' t = rw (le-ltb (length code) 16384 h) t

    pub too_long : judge_in reals d s ≡ refused 3 0 → Told code (compiling_in reals d (length code) s) (Err (refusal 3 0)) code
    too_long q = enough (Err (refusal 3 0)) code (rw q (refl, refl))

-- with reals
pub told-full : (s code : List ℕ) {a : Coded} {code' : List ℕ} → Told code (compiling_in true 0 (length code) s) a code'
    → Told code (compiling (length code) s) a code'
told-full s code {a} {code'} t = subst (λ (j : Judgement). Told code (in_room (length code) j) a code') (full 0 s) t
