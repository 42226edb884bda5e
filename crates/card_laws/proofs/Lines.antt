-- What reading a line means: the bytes before the first line end, and those behind it, are determined. Assumes nothing.
use mathlib.Core.Path.{◌≡◌, refl, sym, ap, subst, ◌∙◌}
use mathlib.Core.Bool.{Bool, true, false, ◌&&◌, not, cond}
use mathlib.Core.List.{List, [], ◌∷◌, ◌++◌}
use Prim.Native.Nat.{ℕ, zero, suc, ◌+◌, ◌≤◌, ◌<◌}
use native.Mathlib.Omega.{arith}
use lib.Dec.{eqb, ltb}
use lib.ListN.{length, take, drop, get_or, take-append-drop, length-append}
use lib.Seq.{drop-cons, take-append_seam, drop-append_seam, drop-append-add}
use borrow.Author.Tests.{eqb-true, eq-eqb, ne_eqb, lt-ltb, ltb-true, not-true, not-false}
use Rattle.tokens.specs.Bytes.{run_len, all}
use Rattle.tokens.specs.Symbols.{equal_bytes}
use Rattle.tokens.specs.Theorems.{Stops, other}
use Rattle.tokens.proofs.Tests.{both}
use Rattle.tokens.proofs.Runs.{all_append, run-every, run-stops, run_length}
use Rattle.tokens.proofs.Same.{equal as same_bytes}
use Rattle.lines.specs.Lines.{except}
use Rattle.card_laws.specs.Lines.{ended, Lacks, begins, Field, field, wrong, to_end, rest_of_line, field_of}

-- ---- bytes without one
pub lacks-append : (b : ℕ) (s t : List ℕ) → Lacks b s → Lacks b t → Lacks b (s ++ t)
lacks-append b s t h k = all_append (except b) s t h k

pub lacks-left : (b : ℕ) (s t : List ℕ) → Lacks b (s ++ t) → Lacks b s
lacks-left b [] t h = refl
lacks-left b (c ∷ s) t h = let k = both (except b c) (all (except b) (s ++ t)) h in rw k.0 (lacks-left b s t k.1)

pub lacks-right : (b : ℕ) (s t : List ℕ) → Lacks b (s ++ t) → Lacks b t
lacks-right b [] t h = h
lacks-right b (c ∷ s) t h = lacks-right b s t (both (except b c) (all (except b) (s ++ t)) h).1

pub lacks-tail : (b c : ℕ) (s : List ℕ) → Lacks b (c ∷ s) → Lacks b s
lacks-tail b c s h = (both (except b c) (all (except b) s) h).1

pub lacks-cons : (b c : ℕ) (s : List ℕ) → (c ≡ b → ⊥) → Lacks b s → Lacks b (c ∷ s)
lacks-cons b c s n h = rw (ne_eqb c b n) h

is-except : (b c : ℕ) → except b c ≡ false → c ≡ b
is-except b c e = eqb-true c b (not-false (eqb c b) e)

-- ---- equal bytes
pub same-itself : (s : List ℕ) → equal_bytes s s ≡ true
same-itself [] = refl
same-itself (c ∷ s) = rw (eq-eqb c c refl) (same-itself s)

-- ---- a line's end
pub line-length : (l r : List ℕ) → Lacks 10 l → to_end (ended l r) ≡ length l
line-length l r h = run_length (except 10) l (10 ∷ r) h (other refl)

pub record Lined (s l r : List ℕ) : Type 0 where
  pub is : s ≡ ended l r
  pub lacks-end : Lacks 10 l

head-stop : {p : ℕ → Bool} {c : ℕ} {s : List ℕ} → Stops p (c ∷ s) → p c ≡ false
head-stop (other e) = e

pub rest-lined : (s v r : List ℕ) → rest_of_line s ≡ field v r → Lined s v r
rest-lined s v r e = go (ltb (to_end s) (length s)) refl e
  where
    go : (t : Bool) → ltb (to_end s) (length s) ≡ t → cond t (field (take (to_end s) s) (drop (suc (to_end s)) s)) wrong ≡ field v r → Lined s v r
    go false q w = let z : ◌≡◌ {A = ℕ} 0 1 = cc in absurd (omega arith)
    go true q w =
        let cons : drop (to_end s) s ≡ get_or s (to_end s) 0 ∷ drop (suc (to_end s)) s = drop-cons s (to_end s) 0 (ltb-true (to_end s) (length s) q) in
        let ten : get_or s (to_end s) 0 ≡ 10 = is-except 10 (get_or s (to_end s) 0) (head-stop (subst (Stops (except 10)) cons (run-stops (except 10) s))) in
        let ev : take (to_end s) s ≡ v = cc in
        let er : drop (suc (to_end s)) s ≡ r = cc in
        let rest : drop (to_end s) s ≡ 10 ∷ r = cons ∙ ap (λ (c : ℕ). c ∷ drop (suc (to_end s)) s) ten ∙ ap (λ (l : List ℕ). 10 ∷ l) er in
        record {
          is = sym (take-append-drop (to_end s) s) ∙ ap (λ (l : List ℕ). l ++ drop (to_end s) s) ev ∙ ap (λ (l : List ℕ). v ++ l) rest;
          lacks-end = subst (Lacks 10) ev (run-every (except 10) s);
        }

pub rest-there : (v r : List ℕ) → Lacks 10 v → rest_of_line (ended v r) ≡ field v r
rest-there v r h =
    let n : to_end (ended v r) ≡ length v = line-length v r h in
    let t : ltb (length v) (length (ended v r)) ≡ true = lt-ltb (length v) (length (ended v r)) (omega (arith, length-append v (10 ∷ r))) in
    let d : drop (suc (length v)) (ended v r) ≡ r = ap (λ (k : ℕ). drop k (ended v r)) one ∙ drop-append-add v (10 ∷ r) 1 in
    ap (λ (k : ℕ). cond (ltb k (length (ended v r))) (field (take k (ended v r)) (drop (suc k) (ended v r))) wrong) n
    ∙ rw (t, d, take-append_seam v (10 ∷ r))
  where
    one : suc (length v) ≡ length v + 1
    one = omega arith

-- ---- a key
pub begins-is : (key s : List ℕ) → begins key s ≡ true → s ≡ key ++ drop (length key) s
begins-is key s e =
    sym (take-append-drop (length key) s) ∙ ap (λ (l : List ℕ). l ++ drop (length key) s) (sym (same_bytes key (take (length key) s) e))

pub begins-there : (key s : List ℕ) → begins key (key ++ s) ≡ true
begins-there key s = ap (equal_bytes key) (take-append_seam key s) ∙ same-itself key

-- ---- a field
pub field_is : (key s v r : List ℕ) → field_of key s ≡ field v r → (s ≡ key ++ ended v r) × Lacks 10 v
field_is key s v r e = go (begins key s) refl e
  where
    go : (t : Bool) → begins key s ≡ t → cond t (rest_of_line (drop (length key) s)) wrong ≡ field v r → (s ≡ key ++ ended v r) × Lacks 10 v
    go false q w = let z : ◌≡◌ {A = ℕ} 0 1 = cc in absurd (omega arith)
    go true q w =
        let h : Lined (drop (length key) s) v r = rest-lined (drop (length key) s) v r w in
        (begins-is key s q ∙ ap (λ (l : List ℕ). key ++ l) h.is, h.lacks-end)

pub field-there : (key v r : List ℕ) → Lacks 10 v → field_of key (key ++ ended v r) ≡ field v r
field-there key v r h =
    ap (λ (t : Bool). cond t (rest_of_line (drop (length key) (key ++ ended v r))) wrong) (begins-there key (ended v r))
    ∙ ap rest_of_line (drop-append_seam key (ended v r))
    ∙ rest-there v r h

-- ---- two files whose first lines are known are equal line by line
pub record SameLine (a b r s : List ℕ) : Type 0 where
  pub line : a ≡ b
  pub rest : r ≡ s

pub same_line : (a b r s : List ℕ) → Lacks 10 a → Lacks 10 b → ended a r ≡ ended b s → SameLine a b r s
same_line a b r s f g e =
    let n : length a ≡ length b = sym (line-length a r f) ∙ ap to_end e ∙ line-length b s g in
    let l : a ≡ b = sym (take-append_seam a (10 ∷ r)) ∙ ap (take (length a)) e ∙ ap (λ (k : ℕ). take k (ended b s)) n ∙ take-append_seam b (10 ∷ s) in
    let t : 10 ∷ r ≡ 10 ∷ s = sym (drop-append_seam a (10 ∷ r)) ∙ ap (drop (length a)) e ∙ ap (λ (k : ℕ). drop k (ended b s)) n ∙ drop-append_seam b (10 ∷ s) in
    record { line = l; rest = cc }
