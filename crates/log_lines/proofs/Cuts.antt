-- The line at the front of a log. Assumes nothing.
use mathlib.Core.Path.{◌≡◌, refl, sym, ap, subst, ◌∙◌}
use mathlib.Core.Bool.{Bool, true, false, not, cond}
use mathlib.Core.List.{List, [], ◌∷◌, ◌++◌}
use Prim.Native.Nat.{ℕ, suc, ◌≤◌, ◌<◌}
use native.Mathlib.Omega.{arith}
use lib.Dec.{eqb}
use lib.ListN.{length, take, drop}
use lib.Seq.{take_all}
use borrow.Author.Tests.{lt-ltb}
use Rattle.tokens.proofs.Runs.{run-every}
use Rattle.lines.specs.Lines.{except}
use Rattle.card_laws.specs.Lines.{line_end, ended, Lacks, Field, field, wrong, to_end, rest_of_line}
use Rattle.card_laws.proofs.Lines.{line-length, Lined, rest-lined, rest-there}
use Rattle.salvage_laws.specs.Cut.{onto_first}
use Rattle.log_laws.specs.Log.{LogEntry, bad, text_entry, ended_entry, log_lines, log_entry_of}
use Rattle.log_laws.proofs.Lines.{unended-bad}

-- ---- the lines of a log are its first line and the lines behind it
abbrev pub first_line : List ℕ → List ℕ
first_line s = take (suc (to_end s)) s

abbrev pub behind_first : List ℕ → List ℕ
behind_first s = drop (suc (to_end s)) s

pub first-line : (c : ℕ) (s : List ℕ) → log_lines (c ∷ s) ≡ first_line (c ∷ s) ∷ log_lines (behind_first (c ∷ s))
first-line c [] = by (eqb c 10)
  where
    by : (x : Bool)
        → cond x ((c ∷ []) ∷ []) ((c ∷ []) ∷ []) ≡ take (suc (cond (not x) 1 0)) (c ∷ []) ∷ log_lines (drop (suc (cond (not x) 1 0)) (c ∷ []))
    by true = refl
    by false = refl
first-line c (d ∷ s) = by (eqb c 10) (first-line d s)
  where
    by : (x : Bool) → log_lines (d ∷ s) ≡ first_line (d ∷ s) ∷ log_lines (behind_first (d ∷ s))
        → cond x ((c ∷ []) ∷ log_lines (d ∷ s)) (onto_first c (log_lines (d ∷ s)))
        ≡ take (suc (cond (not x) (suc (to_end (d ∷ s))) 0)) (c ∷ d ∷ s) ∷ log_lines (drop (suc (cond (not x) (suc (to_end (d ∷ s))) 0)) (c ∷ d ∷ s))
    by true i = refl
    by false i = ap (onto_first c) i

-- ---- what it says
take_ended : (l r : List ℕ) → take (suc (length l)) (ended l r) ≡ ended l []
take_ended [] r = refl
take_ended (c ∷ l) r = ap (λ (s : List ℕ). c ∷ s) (take_ended l r)

entry-ended : (l : List ℕ) → Lacks line_end l → log_entry_of (ended l []) ≡ text_entry l
unfolding log_entry_of
entry-ended l h = ap ended_entry (rest-there l [] h)

module _ (s : List ℕ) {k : ℕ} (e : k ≡ to_end s) where
  pub entry-text : k < length s → text_entry (take k s) ≡ log_entry_of (take (suc k) s)
  entry-text h =
      let l : List ℕ = take (to_end s) s in
      let r : List ℕ = drop (suc (to_end s)) s in
      let q : rest_of_line s ≡ field l r = ap (λ (x : Bool). cond x (field l r) wrong) (lt-ltb (to_end s) (length s) (omega (arith, e))) in
      let d : Lined s l r = rest-lined s l r q in
      let n : suc k ≡ suc (length l) = ap suc (e ∙ ap to_end d.is ∙ line-length l r d.lacks-end) in
      let f : take (suc k) s ≡ ended l [] = ap (take (suc k)) d.is ∙ ap (λ (m : ℕ). take m (ended l r)) n ∙ take_ended l r in
      ap (λ (m : ℕ). text_entry (take m s)) e ∙ sym (ap log_entry_of f ∙ entry-ended l d.lacks-end)

  pub entry-bad : length s ≤ k → bad ≡ log_entry_of (take (suc k) s)
  entry-bad h =
      let all : take (to_end s) s ≡ s = take_all (to_end s) s (omega (arith, e)) in
      sym (ap log_entry_of (take_all (suc k) s (omega arith)) ∙ unended-bad s (subst (Lacks line_end) all (run-every (except 10) s)))
