-- A text has one outcome: the tokens are one list, reading them stops at one place, and for one reason.
use mathlib.Core.Path.{◌≡◌, refl, sym, subst, ◌∙◌}
use mathlib.Core.Bool.{true, cond}
use mathlib.Core.List.{List, [], ◌∷◌, ◌++◌, append_assoc, append-nil}
use Prim.Native.Nat.{ℕ, suc, ◌-◌, ◌<◌}
use native.Mathlib.Omega.{arith}
use lib.ListN.{length}
use Rattle.tokens.specs.Scan.{Tok, wrong, scan}
use Rattle.grammar.specs.Tree.{Tree, clear, at, diagnostic_of}
use Rattle.grammar.specs.Grammar.{Formula, Viable}
use Rattle.grammar.specs.Parse.{most_open}
use Rattle.grammar.specs.Theorems.{is_opener, is_closer, open_after, Shallow, done, opens, goes_on}
use Rattle.grammar.proofs.Theorems.{grammar-theorems}
use Rattle.text.specs.Judge.{Judgement, accepted, refused}
use Rattle.text.specs.Theorems.{Sized, ScansTo, HasJudgementFrom, wrong_size, wrong_token, wrong_end, wrong_next, too_deep, diagnosed, formula}

-- ---- what holds of tokens holds of those that they begin with
viable-front : (p v : List Tok) → Viable (p ++ v) → Viable p
viable-front p v (z, t, a) = (v ++ z, t, rw append_assoc at a)

shallow-front : (d : ℕ) (p v : List Tok) → Shallow d (p ++ v) → Shallow d p
shallow-front d [] v h = done
shallow-front d (x ∷ p) v (opens e lt h) = opens e lt (shallow-front (suc d) p v h)
shallow-front d (x ∷ p) v (goes_on e h) = goes_on e (shallow-front _ p v h)

-- an opener of a shallow text is met with fewer than eight open
room : (d : ℕ) (p : List Tok) (x : Tok) (ys : List Tok) → Shallow d (p ++ x ∷ ys) → is_opener x ≡ true → open_after d p < most_open
room d [] x ys (opens e lt h) o = lt
room d [] x ys (goes_on e h) o = let z : ◌≡◌ {A = ℕ} 0 1 = cc in absurd (omega arith)
room d (y ∷ p) x ys (opens e lt h) o = rw e (room (suc d) p x ys h o)
room d (y ∷ p) x ys (goes_on e h) o = rw e (room (cond (is_closer y) (d - 1) d) p x ys h o)

-- ---- one place
-- a list that is split twice: at one place, or at two
data Compared (p r q u : List Tok) : Type 0 where
  equal : p ≡ q → r ≡ u → Compared p r q u
  shorter : (x : Tok) (ys : List Tok) → q ≡ p ++ x ∷ ys → r ≡ x ∷ (ys ++ u) → Compared p r q u
  longer : (x : Tok) (ys : List Tok) → p ≡ q ++ x ∷ ys → u ≡ x ∷ (ys ++ r) → Compared p r q u

compared : (p r q u : List Tok) → p ++ r ≡ q ++ u → Compared p r q u
compared [] r [] u e = equal refl e
compared [] r (y ∷ q) u e = shorter y q refl e
compared (x ∷ p) r [] u e = longer x p refl (sym e)
compared (x ∷ p) r (y ∷ q) u e = let same : x ≡ y = cc in let t : p ++ r ≡ q ++ u = cc in go same (compared p r q u t)
  where
    go : x ≡ y → Compared p r q u → Compared (x ∷ p) r (y ∷ q) u
    go i (equal a b) = equal (cc) b
    go i (shorter z zs a b) = shorter z zs (cc) b
    go i (longer z zs a b) = longer z zs (cc) b

-- the reading of w stops behind p: with the next token no formula begins so, or it is nested too deep
record Stop (d : ℕ) (w p r : List Tok) : Type 0 where
  splits : w ≡ p ++ r
  viable : Viable p
  shallow : Shallow d p
  blocked : (x : Tok) (ys : List Tok) → r ≡ x ∷ ys → Viable (p ++ x ∷ []) → Shallow d (p ++ x ∷ []) → ⊥

passed : {d : ℕ} {w p r q u : List Tok} → Stop d w p r → Stop d w q u → (x : Tok) (ys zs : List Tok) → q ≡ p ++ x ∷ ys → r ≡ x ∷ zs → ⊥
passed {d} {p = p} s t x ys zs e f =
    let i = e ∙ sym (append_assoc p (x ∷ []) ys) in
    s.blocked x zs f (viable-front (p ++ x ∷ []) ys (subst Viable i t.viable)) (shallow-front d (p ++ x ∷ []) ys (subst (Shallow d) i t.shallow))

one-stop : {d : ℕ} {w p r q u : List Tok} → Stop d w p r → Stop d w q u → (p ≡ q) × (r ≡ u)
one-stop {p = p} {r = r} {q = q} {u = u} s t = go (compared p r q u (sym s.splits ∙ t.splits))
  where
    go : Compared p r q u → (p ≡ q) × (r ≡ u)
    go (equal a b) = (a, b)
    go (shorter x ys a b) = absurd (passed s t x ys (ys ++ u) a b)
    go (longer x ys a b) = absurd (passed t s x ys (ys ++ r) a b)

-- ---- one reason
data Reason (s : List ℕ) (p : List Tok) : List Tok → Judgement → Type 0 where
  unfinished : ((t : Tree) → Formula p t → ⊥) → Reason s p [] (refused 7 (length s))
  surplus : {x : Tok} {ys : List Tok} → (Viable (p ++ x ∷ []) → ⊥) → Reason s p (x ∷ ys) (refused 7 x.place)
  deep : {x : Tok} {ys : List Tok} → Viable (p ++ x ∷ []) → Reason s p (x ∷ ys) (refused 8 x.place)
  shown : {q a : ℕ} (t : Tree) → Formula p t → diagnostic_of t ≡ at q a → Reason s p [] (refused a q)
  none : (t : Tree) → Formula p t → diagnostic_of t ≡ clear → Reason s p [] (accepted t)

one-reason : {s : List ℕ} {p r : List Tok} {j k : Judgement} → Reason s p r j → Reason s p r k → j ≡ k
one-reason (unfinished n) (unfinished m) = refl
one-reason (unfinished n) (shown t a e) = absurd (n t a)
one-reason (unfinished n) (none t a e) = absurd (n t a)
one-reason (surplus n) (surplus m) = refl
one-reason (surplus n) (deep v) = absurd (n v)
one-reason (deep v) (surplus n) = absurd (n v)
one-reason (deep v) (deep w) = refl
one-reason (shown t a e) (unfinished n) = absurd (n t a)
one-reason {p = p} (shown t a e) (shown u b f) = let i = grammar-theorems.unambiguous p t u a b in cc
one-reason {p = p} (shown t a e) (none u b f) =
    let i = grammar-theorems.unambiguous p t u a b in
    let z : ◌≡◌ {A = ℕ} 0 1 = cc in
    absurd (omega arith)
one-reason (none t a e) (unfinished n) = absurd (n t a)
one-reason {p = p} (none t a e) (shown u b f) =
    let i = grammar-theorems.unambiguous p t u a b in
    let z : ◌≡◌ {A = ℕ} 0 1 = cc in
    absurd (omega arith)
one-reason {p = p} (none t a e) (none u b f) = let i = grammar-theorems.unambiguous p t u a b in cc

-- ---- one outcome
data Sorted (d : ℕ) (s : List ℕ) : Judgement → Type 0 where
  size : (Sized s → ⊥) → Sorted d s (refused 3 0)
  token : {a p : ℕ} → Sized s → scan s ≡ wrong a p → Sorted d s (refused a p)
  read : {j : Judgement} (w p r : List Tok) → ScansTo s w → Stop d w p r → Reason s p r j → Sorted d s j

whole : {d : ℕ} (w : List Tok) → Viable w → Shallow d w → Stop d w w []
whole w v sh = record { splits = sym (append-nil w); viable = v; shallow = sh; blocked = λ x ys e. let z : ◌≡◌ {A = ℕ} 0 1 = cc in absurd (omega arith) }

at-token : {d : ℕ} (p : List Tok) (x : Tok) (ys : List Tok) → Viable p → Shallow d p
    → (Viable (p ++ x ∷ []) → Shallow d (p ++ x ∷ []) → ⊥) → Stop d (p ++ x ∷ ys) p (x ∷ ys)
at-token {d} p x ys v sh n =
    record {
      splits = refl;
      viable = v;
      shallow = sh;
      blocked = λ y zs e. let i : x ≡ y = cc in subst (λ (z : Tok). Viable (p ++ z ∷ []) → Shallow d (p ++ z ∷ []) → ⊥) i n;
    }

formula-viable : {w : List Tok} {t : Tree} → Formula w t → Viable w
formula-viable {w} {t} a = ([], t, rw append-nil a)

sorted : {d : ℕ} {s : List ℕ} {j : Judgement} → HasJudgementFrom d s j → Sorted d s j
sorted (wrong_size n) = size n
sorted (wrong_token h e) = token h e
sorted (wrong_end w h v n sh) = read w w [] h (whole w v sh) (unfinished n)
sorted (wrong_next p x ys h v n sh) = read (p ++ x ∷ ys) p (x ∷ ys) h (at-token p x ys v sh (λ u k. n u)) (surplus n)
sorted {d} (too_deep p x ys h v sh o le) =
    read (p ++ x ∷ ys) p (x ∷ ys) h (at-token p x ys (viable-front p (x ∷ []) v) sh (λ u k. let r = room d p x [] k o in omega arith)) (deep v)
sorted (diagnosed w t h a sh e) = read w w [] h (whole w (formula-viable a) sh) (shown t a e)
sorted (formula {t = t} h) = read h.toks h.toks [] h.reads (whole h.toks (formula-viable h.formula) h.shallow)
    (none t h.formula h.faultless)

pub one-outcome : {d : ℕ} {s : List ℕ} {j k : Judgement} → HasJudgementFrom d s j → HasJudgementFrom d s k → j ≡ k
one-outcome {d} {s} h i = go (sorted h) (sorted i)
  where
    same_read : {w v p r q u : List Tok} {j k : Judgement} → w ≡ v → Stop d w p r → Reason s p r j → Stop d v q u → Reason s q u k → j ≡ k
    same_read {w} {v} {p} {r} {q} {u} {j} {k} e a m b n =
        let i = one-stop a (subst (λ (x : List Tok). Stop d x q u) (sym e) b) in
        one-reason m (subst (λ (x : List Tok). Reason s x r k) (sym i.0) (subst (λ (x : List Tok). Reason s q x k) (sym i.1) n))

    go : {j k : Judgement} → Sorted d s j → Sorted d s k → j ≡ k
    go (size n) (size m) = refl
    go (size n) (token z e) = absurd (n z)
    go (size n) (read w p r z st m) = absurd (n z.sized)
    go (token z e) (size n) = absurd (n z)
    go (token z e) (token y f) = cc
    go (token z e) (read w p r y st m) = let f = y.scanned in let x : ◌≡◌ {A = ℕ} 0 1 = cc in absurd (omega arith)
    go (read w p r z st m) (size n) = absurd (n z.sized)
    go (read w p r y st m) (token z e) = let f = y.scanned in let x : ◌≡◌ {A = ℕ} 0 1 = cc in absurd (omega arith)
    go (read w p r y st m) (read v q u z su n) =
        let e = y.scanned in
        let f = z.scanned in
        let i : w ≡ v = cc in
        same_read i st m su n
