-- From a step with reals to one without: an instruction that reads R is not known there, and one that leaves a real cannot act.
use mathlib.Core.Path.{◌≡◌, refl, sym, ap, ◌∙◌}
use mathlib.Core.Bool.{Bool, true, false, not, ◌&&◌, cond, false≢true}
use mathlib.Core.List.{List, [], ◌∷◌}
use Prim.Native.Nat.{ℕ, zero, suc, ◌≤◌}
use native.Mathlib.Omega.{arith}
use lib.Dec.{ltb}
use borrow.Author.Tests.{le-ltb}
use Rattle.values.specs.declared.Kind.{Kind}
use Rattle.values.specs.declared.Kind.TheVariants.{Real}
use Rattle.operators.specs.Kinds.{is_int}
use Rattle.code.specs.declared.Instr.{Instr}
use Rattle.code.specs.Reals.{reads_real}
use Rattle.verifier.specs.Typing.{Shape, Move, ill_typed, next, has_room, move_of, well_formed}
use Rattle.verifier.specs.Accepts.{MovesTo, instr_at}
use Rattle.verifier.specs.Profile.{all_int, held_after, move_in, well_formed_in, ReachedIn, start, onward}
use Rattle.verifier.specs.private.Shapes.{State, rejected, number_kind, kind_limit, leaving_under, leaving, push_under, push_number}
use Rattle.verifier.specs.private.Pass.{Steps, stuck, strays, goes, leaps, forks, leap_clash, fork_clash, admits, all_admitted, admitted_move}
use Rattle.verifier.proofs.Moves.{able, held, known_in}

-- ---- moves

module _ (i : Instr) (s : Shape) {m : Move} (e : move_of i s ≡ m) where
  pub stays : all_int (held_after m) ≡ true → move_in false i s ≡ m
  stays a = rw (e, a)

  kept : all_int (held_after (move_of i s)) ≡ true → move_in false i s ≡ m
  kept h = stays (ap (λ m. all_int (held_after m)) (sym e) ∙ h)

  stops : all_int (held_after m) ≡ false → move_in false i s ≡ ill_typed
  stops a = rw (e, a)

-- what is reached without reals is integers
ints-moved : (i : Instr) (s : Shape) {p q : ℕ} {r : Shape} → MovesTo p (move_in false i s) q r → all_int r ≡ true
ints-moved i s {p} {q} {r} = by (all_int (held_after (move_of i s))) refl
  where
    by : (b : Bool) → all_int (held_after (move_of i s)) ≡ b → MovesTo p (cond b (move_of i s) ill_typed) q r → all_int r ≡ true
    by true e w = ap all_int (sym (held w)) ∙ e
    by false e w = absurd (able w refl)

pub ints-reached : {c : List Instr} {p : ℕ} {s : Shape} → ReachedIn false c p s → all_int s ≡ true
ints-reached start = refl
ints-reached {c} (onward {p} {s = s} d l w) = ints-moved (instr_at c p) s w

pub reached-admitted : (reals : Bool) {c : List Instr} {p : ℕ} {s : Shape} → ReachedIn reals c p s → all_admitted reals s ≡ true
reached-admitted true d = refl
reached-admitted false d = ints-reached d

-- ---- tests

pub both : (a b : Bool) → (not a && b) ≡ true → (a ≡ false) × (b ≡ true)
both true b e = absurd (false≢true e)
both false b e = (refl, e)

second : (a b : Bool) → (a && b) ≡ true → b ≡ true
second true b e = e
second false b e = absurd (false≢true e)

pub below-admitted : (reals : Bool) (k : Kind) (s : Shape) → all_admitted reals (k ∷ s) ≡ true → all_admitted reals s ≡ true
below-admitted true k s e = refl
below-admitted false k s e = second (is_int k) (all_int s) e

stray : (k : ℕ) (i : Instr) → reads_real i ≡ true → well_formed_in false k i ≡ false
stray k i e = rw e (no (well_formed k i))
  where
    no : (b : Bool) → (b && false) ≡ false
    no true = refl
    no false = refl

-- ---- a step

module _ {i : Instr} {k p : ℕ} {s : Shape} {before : ℕ → State} where
  pub barred-move : {m : Move} → move_of i s ≡ m → admits false i (held_after m) ≡ false → Steps false i k p s before rejected before
  barred-move {m} e = by (reads_real i) refl
    where
      by : (b : Bool) → reads_real i ≡ b → (not b && all_int (held_after m)) ≡ false → Steps false i k p s before rejected before
      by true j a = strays (stray k i j)
      by false j a = stuck (stops i s e a)

  -- a jump that leaves integers
  pub jumping : (reals : Bool) {o : State} {after : ℕ → State} → (reals ≡ false → all_int (held_after (move_of i s)) ≡ true) → reads_real i ≡ false
      → Steps true i k p s before o after → Steps reals i k p s before o after
  jumping true h j t = t
  jumping false h j (stuck e) = stuck (rw e)
  jumping false h j (strays e) = strays (rw e)
  jumping false h j (goes t e) = goes (known_in i k t j) (kept i s e (h refl))
  jumping false h j (leaps q t e b) = leaps q (known_in i k t j) (kept i s e (h refl)) b
  jumping false h j (forks t e b) = forks (known_in i k t j) (kept i s e (h refl)) b
  jumping false h j (leap_clash e b) = leap_clash (kept i s e (h refl)) b
  jumping false h j (fork_clash e b) = fork_clash (kept i s e (h refl)) b

-- ---- what an instruction leaves, by its number

-- without reals, what leaves an integer does not read R
abbrev pub Silent : Bool → ℕ → Instr → Type 0
Silent reals n i = reals ≡ false → n ≡ 0 → reads_real i ≡ false

flat : (b : Bool) → cond b ill_typed ill_typed ≡ ill_typed
flat true = refl
flat false = refl

none_left : (b : Bool) (m : Move) → cond (b && false) m ill_typed ≡ ill_typed
none_left true m = refl
none_left false m = refl

-- a number that is no kind's
over : (l n : ℕ) (m : Move) → l ≤ n → cond (ltb n l) m ill_typed ≡ ill_typed
over l n m h = ap (λ b. cond b m ill_typed) (le-ltb n l h)

pub none-admitted : (reals : Bool) (i : Instr) (s : Shape) → move_of i s ≡ ill_typed → admitted_move reals i s ≡ ill_typed
none-admitted reals i s e = rw e (flat (admits reals i []))

-- with room for it, or not
leaves : (reals : Bool) (i : Instr) (s : Shape) (b : Bool) (n : ℕ) (t : Shape)
    → move_of i s ≡ cond (ltb n 2) (cond b (next (number_kind n ∷ t)) ill_typed) ill_typed → all_admitted reals t ≡ true → Silent reals n i
    → admitted_move reals i s ≡ cond (ltb n (kind_limit reals)) (cond b (next (number_kind n ∷ t)) ill_typed) ill_typed
leaves true i s b n t e a f = e
leaves false i s false n t e a f = none-admitted false i s (e ∙ flat (ltb n 2)) ∙ sym (flat (ltb n 1))
leaves false i s true zero t e a f = rw (e, f refl refl, a)
leaves false i s true (suc zero) t e a f = rw e (none_left (not (reads_real i)) (next (Real ∷ t)))
leaves false i s true (suc (suc n)) t e a f =
    none-admitted false i s (e ∙ over 2 (suc (suc n)) _ (omega arith)) ∙ sym (over 1 (suc (suc n)) _ (omega arith))

module _ (reals : Bool) (i : Instr) (s : Shape) (n : ℕ) where
  pub leaves-replaced : (t : Shape) → move_of i s ≡ leaving n t → all_admitted reals t ≡ true → Silent reals n i
      → admitted_move reals i s ≡ leaving_under (kind_limit reals) n t
  leaves-replaced t = leaves reals i s true n t

  pub leaves-pushed : move_of i s ≡ push_number n s → all_admitted reals s ≡ true → Silent reals n i
      → admitted_move reals i s ≡ push_under (kind_limit reals) n s
  leaves-pushed = leaves reals i s (has_room s) n s
