-- Bytes that go into a list one by one, from the first on or from the last on, and texts that are put one behind the other. Assumes nothing.
use mathlib.Core.Path.{◌≡◌, refl, sym, ap, subst, ◌∙◌}
use mathlib.Core.List.{List, [], ◌∷◌, ◌++◌, append-nil}
use Prim.Native.Nat.{ℕ, suc, ◌+◌, ◌≤◌}
use native.Mathlib.Nat.{add-zero}
use native.Mathlib.Numerals.{add-one}
use native.Mathlib.Omega.{arith}
use lib.ListN.{length, set, length-set, length-append}
use lib.Seq.{sets, set_comm, length-sets}
use Rattle.lines.specs.private.Steps.{Puts}

sets_last : (l : List ℕ) (i : ℕ) (vs : List ℕ) (a : ℕ) → sets l i (vs ++ (a ∷ [])) ≡ sets (set l (i + length vs) a) i vs
sets_last l i [] a = rw (add-zero i)
sets_last l i (v ∷ vs) a =
    let e : suc i + length vs ≡ i + suc (length vs) = omega arith in
    sets_last (set l i v) (suc i) vs a ∙ rw (e, set_comm l i (i + suc (length vs)) v a (λ x. omega arith))

sets-append : (l : List ℕ) (i : ℕ) (s t : List ℕ) → sets (sets l i s) (i + length s) t ≡ sets l i (s ++ t)
sets-append l i [] t = rw (add-zero i)
sets-append l i (a ∷ s) t =
    let e : i + suc (length s) ≡ suc i + length s = omega arith in
    rw e (sets-append (set l i a) (suc i) s t)

-- ---- the bytes bs are left to go to a place, and then m is the goal
pub record Left (goal m : List ℕ) (at : ℕ) (bs : List ℕ) : Type 0 where
  pub room : at + length bs ≤ length m
  pub rest : sets m at bs ≡ goal

pub start : (m : List ℕ) (at : ℕ) (bs : List ℕ) → at + length bs ≤ length m → Left (sets m at bs) m at bs
start m at bs h = record { room = h; rest = refl }

module _ {goal m : List ℕ} {at : ℕ} where
  pub first : (b : ℕ) (bs : List ℕ) → Left goal m at (b ∷ bs) → Left goal (set m at b) (at + 1) bs
  first b bs l = record { room = rw length-set (omega (arith, l.room)); rest = rw add-one l.rest }

  pub last : (bs : List ℕ) (b : ℕ) → Left goal m at (bs ++ (b ∷ [])) → Left goal (set m (at + length bs) b) at bs
  last bs b l =
      record {
        room = rw length-set (omega (arith, simp length-append at l.room));
        rest = sym (sets_last m at bs b) ∙ l.rest;
      }

  pub long : {bs : List ℕ} → Left goal m at bs → length m ≡ length goal
  long {bs} l = sym (length-sets m at bs) ∙ ap length l.rest

  pub done : Left goal m at [] → m ≡ goal
  done l = l.rest

-- ---- one text behind another, and a text under another name
pub then : {l m n : List ℕ} {at b c : ℕ} {s t : List ℕ} → Puts l at m b s → Puts m b n c t → Puts l at n c (s ++ t)
then {l} {m} {n} {at} {b} {c} {s} {t} p q =
    record {
      bytes = q.bytes ∙ rw (p.bytes, p.end) (sets-append l at s t);
      end = rw length-append (omega (arith, p.end, q.end));
    }

pub as-text : {l m : List ℕ} {at b : ℕ} {s t : List ℕ} → s ≡ t → Puts l at m b s → Puts l at m b t
as-text {l} {m} {at} {b} e p = subst (λ (x : List ℕ). Puts l at m b x) e p

-- nothing is put, and nothing behind a text
pub none-put : (l : List ℕ) (at : ℕ) → Puts l at l at []
none-put l at = record { bytes = refl; end = sym (add-zero at) }

pub behind-none : {l m : List ℕ} {at b : ℕ} {s : List ℕ} → Puts l at m b s → Puts l at m b (s ++ [])
behind-none {s = s} p = as-text (sym (append-nil s)) p
