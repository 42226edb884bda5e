-- How a log is cut into lines: the lines of two pieces, of which the first ends in a line, are those of both. Assumes nothing.
use mathlib.Core.Path.{◌≡◌, refl, ap, subst, ◌∙◌}
use mathlib.Core.Bool.{Bool, true, false, cond}
use mathlib.Core.List.{List, [], ◌∷◌, ◌++◌}
use Prim.Native.Nat.{ℕ, suc, ◌+◌, ◌<◌}
use native.Mathlib.Omega.{arith}
use lib.Dec.{eqb}
use lib.ListN.{length, take, drop}
use borrow.Author.Tests.{not-true, le-ltb}
use Rattle.tokens.specs.Bytes.{all}
use Rattle.tokens.proofs.Tests.{both}
use Rattle.lines.specs.Lines.{except}
use Rattle.card_laws.specs.Lines.{line_end, ended, Lacks, field, wrong, to_end}
use Rattle.salvage_laws.specs.Cut.{onto_first, cut, joined}
use Rattle.salvage_laws.proofs.Parts.{Some, some, onto-some, onto-append, cut-joined}
use Rattle.log_laws.specs.Log.{bad, ends_line, log_lines, ended_entry, log_entry_of}
use Rattle.log_laws.specs.Theorems.{EndsInLine, nothing, behind}

lines-some : (c : ℕ) (cs : List ℕ) → Some (log_lines (c ∷ cs))
lines-some c cs = by (ends_line c cs)
  where
    by : (x : Bool) → Some (cond x ((c ∷ []) ∷ log_lines cs) (onto_first c (log_lines cs)))
    by true = some (c ∷ []) (log_lines cs)
    by false = onto-some c (log_lines cs)

ended_some : (l : List ℕ) → Some (log_lines (ended l []))
ended_some [] = lines-some 10 []
ended_some (c ∷ l) = lines-some c (ended l [])

lines-behind : (l b : List ℕ) → log_lines (ended l [] ++ b) ≡ log_lines (ended l []) ++ log_lines b
lines-behind [] b = refl
lines-behind (c ∷ l) b = by (ends_line c l) (lines-behind l b)
  where
    by : (x : Bool) → log_lines (ended l [] ++ b) ≡ log_lines (ended l []) ++ log_lines b
        → cond x ((c ∷ []) ∷ log_lines (ended l [] ++ b)) (onto_first c (log_lines (ended l [] ++ b)))
        ≡ cond x ((c ∷ []) ∷ log_lines (ended l [])) (onto_first c (log_lines (ended l []))) ++ log_lines b
    by true i = ap (λ (ls : List (List ℕ)). (c ∷ []) ∷ ls) i
    by false i = ap (onto_first c) i ∙ onto-append c (log_lines b) (ended_some l)

pub lines-append : {a : List ℕ} (b : List ℕ) → EndsInLine a → log_lines (a ++ b) ≡ log_lines a ++ log_lines b
lines-append b nothing = refl
lines-append b (behind l) = lines-behind l b

-- a byte that ends no line
no_end : (c : ℕ) (l : List ℕ) → Lacks line_end (c ∷ l) → eqb c 10 ≡ false
no_end c l h = not-true (eqb c 10) (both (except 10 c) (all (except 10) l) h).0

pub one_line : (l : List ℕ) → Lacks line_end l → log_lines (ended l []) ≡ ended l [] ∷ []
one_line [] h = refl
one_line (c ∷ l) h =
    ap (λ (x : Bool). cond x ((c ∷ []) ∷ log_lines (ended l [])) (onto_first c (log_lines (ended l [])))) (no_end c l h)
    ∙ ap (onto_first c) (one_line l (both (except 10 c) (all (except 10) l) h).1)

pub rest-line : (c : ℕ) (l : List ℕ) → Lacks line_end (c ∷ l) → log_lines (c ∷ l) ≡ (c ∷ l) ∷ []
rest-line c [] h = ap (λ (x : Bool). cond x ((c ∷ []) ∷ []) ((c ∷ []) ∷ [])) (no_end c [] h)
rest-line c (d ∷ l) h =
    ap (λ (x : Bool). cond x ((c ∷ []) ∷ log_lines (d ∷ l)) (onto_first c (log_lines (d ∷ l)))) (no_end c (d ∷ l) h)
    ∙ ap (onto_first c) (rest-line d l (both (except 10 c) (all (except 10) (d ∷ l)) h).1)

-- ---- lines that are the lines of their bytes, and so are those behind the first
pub lines_rest : (s l : List ℕ) (ls : List (List ℕ)) → log_lines s ≡ l ∷ ls → log_lines (joined ls) ≡ ls
lines_rest [] l ls e = let z : ◌≡◌ {A = ℕ} 0 1 = cc in absurd (omega arith)
lines_rest (c ∷ s) l ls e = by (ends_line c s) e (λ m ms h. lines_rest s m ms h)
  where
    onto : (x : List (List ℕ)) → log_lines s ≡ x → onto_first c x ≡ l ∷ ls
        → ((m : List ℕ) (ms : List (List ℕ)) → log_lines s ≡ m ∷ ms → log_lines (joined ms) ≡ ms) → log_lines (joined ls) ≡ ls
    onto [] q h ih = let n : [] ≡ ls = cc in subst (λ (y : List (List ℕ)). log_lines (joined y) ≡ y) n refl
    onto (m ∷ ms) q h ih = let n : ms ≡ ls = cc in subst (λ (y : List (List ℕ)). log_lines (joined y) ≡ y) n (ih m ms q)

    by : (x : Bool) → cond x ((c ∷ []) ∷ log_lines s) (onto_first c (log_lines s)) ≡ l ∷ ls
        → ((m : List ℕ) (ms : List (List ℕ)) → log_lines s ≡ m ∷ ms → log_lines (joined ms) ≡ ms) → log_lines (joined ls) ≡ ls
    by true h ih = let n : log_lines s ≡ ls = cc in subst (λ (y : List (List ℕ)). log_lines (joined y) ≡ y) n (ap log_lines (cut-joined ends_line s))
    by false h ih = onto (log_lines s) refl h ih

-- no line is empty
pub line-some : (s l : List ℕ) (ls : List (List ℕ)) → log_lines s ≡ l ∷ ls → 0 < length l
line-some [] l ls e = let z : ◌≡◌ {A = ℕ} 0 1 = cc in absurd (omega arith)
line-some (c ∷ s) l ls e = by (ends_line c s) e
  where
    onto : (x : List (List ℕ)) → onto_first c x ≡ l ∷ ls → 0 < length l
    onto [] h = let n : c ∷ [] ≡ l = cc in omega (arith, ap length n)
    onto (m ∷ ms) h = let n : c ∷ m ≡ l = cc in omega (arith, ap length n)

    by : (x : Bool) → cond x ((c ∷ []) ∷ log_lines s) (onto_first c (log_lines s)) ≡ l ∷ ls → 0 < length l
    by true h = let n : c ∷ [] ≡ l = cc in omega (arith, ap length n)
    by false h = onto (log_lines s) h

-- a line without its end is bad
reaches_end : (l : List ℕ) → Lacks line_end l → to_end l ≡ length l
reaches_end [] h = refl
reaches_end (c ∷ l) h =
    let b = both (except 10 c) (all (except 10) l) h in
    ap (λ (x : Bool). cond x (suc (to_end l)) 0) b.0 ∙ ap suc (reaches_end l b.1)

pub unended-bad : (l : List ℕ) → Lacks line_end l → log_entry_of l ≡ bad
unfolding log_entry_of
unended-bad l h =
    ap (λ (x : Bool). ended_entry (cond x (field (take (to_end l) l) (drop (suc (to_end l)) l)) wrong))
    (le-ltb (to_end l) (length l) (omega (arith, reaches_end l h)))
