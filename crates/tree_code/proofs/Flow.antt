-- Code whose places have lists of kinds that its instructions keep is accepted.
use mathlib.Core.Path.{◌≡◌, refl, sym, subst}
use mathlib.Core.Bool.{Bool, true, false}
use mathlib.Core.List.{List, [], ◌∷◌, ◌++◌}
use Prim.Native.Nat.{ℕ, zero, suc, ◌+◌, ◌-◌, ◌≤◌, ◌<◌}
use native.Mathlib.Omega.{arith}
use lib.Dec.{ltb}
use lib.ListN.{length, drop}
use borrow.Author.Tests.{le-leb, ltb-true, ltb-false}
use Rattle.values.specs.declared.Kind.{Kind}
use Rattle.code.specs.declared.Instr.{Instr}
use Rattle.code.specs.declared.Instr.TheVariants.{PushInt, PushReal, Load, LoadIndexed, Unary, Binary, Jump, JumpIf, Tick, Since, Total, Match, Unknown}
use Rattle.verifier.specs.Typing.{Shape, Move, ill_typed, next, jump, fork, move_of, well_formed}
use Rattle.verifier.specs.Accepts.{MovesTo, next_place, jump_target, not_taken, taken, instr_at, Reached, start, onward, Accepts}
use Rattle.verifier.proofs.Moves.{forward}

-- the kinds r stand at the place n of the list
pub data At : List Shape → ℕ → Shape → Type 0 where
  here : {r : Shape} {l : List Shape} → At (r ∷ l) 0 r
  there : {x r : Shape} {l : List Shape} {n : ℕ} → At l n r → At (x ∷ l) (suc n) r

-- where a move leads, among the places after it, its kinds stand
pub data Fits : Move → List Shape → Type 0 where
  fits_next : {r : Shape} {l : List Shape} → At l 0 r → Fits (next r) l
  fits-leap : {d : ℕ} {r : Shape} {l : List Shape} → At l d r → Fits (jump d r) l
  fits-fork : {d : ℕ} {r : Shape} {l : List Shape} → At l 0 r → At l d r → Fits (fork d r) l

-- code, with the kinds at its places and at all places after it, and at those after it alone
pub data Flow : List Instr → List Shape → List Shape → Type 0 where
  none : {l : List Shape} → Flow [] l l
  some : {i : Instr} {c : List Instr} {s : Shape} {ss l : List Shape} → Fits (move_of i s) ss → Flow c ss l → Flow (i ∷ c) (s ∷ ss) l

-- ---- places
at_same : {l : List Shape} {m n : ℕ} {r : Shape} → m ≡ n → At l m r → At l n r
at_same {l} {m} {n} {r} e a = subst (λ (k : ℕ). At l k r) e a

at_one : {l : List Shape} {n : ℕ} {r s : Shape} → At l n r → At l n s → r ≡ s
at_one here here = refl
at_one (there a) (there b) = at_one a b

at_less : {l : List Shape} {n : ℕ} {r : Shape} → At l n r → n < length l
at_less here = omega arith
at_less (there a) = omega (arith, at_less a)

at_after : {l : List Shape} {n d : ℕ} {r s : Shape} → At l n s → At (drop (suc n) l) d r → At l (suc n + d) r
at_after here a = at_same (omega arith) (there a)
at_after (there h) a = at_same (omega arith) (there (at_after h a))

-- ---- pieces
pub flow-append : {a b : List Instr} {ss l k : List Shape} → Flow a ss l → Flow b l k → Flow (a ++ b) ss k
flow-append none g = g
flow-append (some f h) g = some f (flow-append h g)

pub at-past : {a : List Instr} {ss l : List Shape} {n : ℕ} {r : Shape} → Flow a ss l → At l n r → At ss (length a + n) r
at-past none h = at_same (omega arith) h
at-past (some f g) h = at_same (omega arith) (there (at-past g h))

flow-length : {c : List Instr} {ss l : List Shape} → Flow c ss l → length ss ≡ length c + length l
flow-length none = omega arith
flow-length (some f g) = omega (arith, flow-length g)

fits-at : {c : List Instr} {ss l : List Shape} {p : ℕ} {s : Shape} → Flow c ss l → At ss p s → p < length c → Fits (move_of (instr_at c p) s) (drop (suc p) ss)
fits-at none a h = absurd (omega arith)
fits-at (some f g) here h = f
fits-at (some f g) (there a) h = fits-at g a (omega arith)

-- ---- moves
not-refused : {m : Move} {l : List Shape} → Fits m l → m ≡ ill_typed → ⊥
not-refused (fits_next a) e = let z : ◌≡◌ {A = ℕ} 0 1 = cc in omega arith
not-refused (fits-leap a) e = let z : ◌≡◌ {A = ℕ} 0 1 = cc in omega arith
not-refused (fits-fork a b) e = let z : ◌≡◌ {A = ℕ} 0 1 = cc in omega arith

-- q is the place d after the next of p, and the kinds r stand there
record Led (l : List Shape) (p q : ℕ) (r : Shape) : Type 0 where
  d : ℕ
  place : q ≡ suc p + d
  kinds : At l d r

led : {m : Move} {l : List Shape} {p q : ℕ} {r : Shape} → Fits m l → MovesTo p m q r → Led l p q r
led (fits_next a) next_place = record { d = 0; place = omega arith; kinds = a }
led (fits-leap {d = d} a) jump_target = record { d = d; place = refl; kinds = a }
led (fits-fork a b) not_taken = record { d = 0; place = omega arith; kinds = a }
led (fits-fork {d = d} a b) taken = record { d = d; place = refl; kinds = b }

leaves : {m : Move} {l : List Shape} (p : ℕ) → Fits m l → (q : ℕ) × (r : Shape) × MovesTo p m q r
leaves p (fits_next {r = r} a) = (suc p, r, next_place)
leaves p (fits-leap {d = d} {r = r} a) = (suc p + d, r, jump_target)
leaves p (fits-fork {r = r} a b) = (suc p, r, not_taken)

-- a jump that fits stays within the code or goes to its end
leap-inside : {d : ℕ} {r : Shape} {l : List Shape} → Fits (jump d r) l → d < length l
leap-inside (fits-leap a) = at_less a

fork-inside : {d : ℕ} {r : Shape} {l : List Shape} → Fits (fork d r) l → d < length l
fork-inside (fits-fork a b) = at_less b

fits-stands : (i : Instr) (s : Shape) (l : List Shape) (n : ℕ) → length l ≡ suc n → Fits (move_of i s) l → well_formed n i ≡ true
unfolding move_of
fits-stands (PushInt z) s l n e f = refl
fits-stands (PushReal x) s l n e f = refl
fits-stands (Load b i) s l n e f = refl
fits-stands (LoadIndexed b) s l n e f = refl
fits-stands (Unary o) s l n e f = refl
fits-stands (Binary o) s l n e f = refl
fits-stands (Jump d) s l n e f = le-leb d n (omega (arith, leap-inside f))
fits-stands (JumpIf t d) [] l n e f = absurd (not-refused f refl)
fits-stands (JumpIf t d) (k ∷ s) l n e f = le-leb d n (omega (arith, fork-inside f))
fits-stands Tick s l n e f = refl
fits-stands Since s l n e f = refl
fits-stands (Total o b i m) s l n e f = refl
fits-stands (Match o b i m) s l n e f = refl
fits-stands Unknown s l n e f = absurd (not-refused f refl)

all-stand : {c : List Instr} {ss l : List Shape} → Flow c ss l → length l ≡ 1 → (p : ℕ) → p < length c → well_formed (length c - suc p) (instr_at c p) ≡ true
all-stand none e p h = absurd (omega arith)
all-stand (some {i = i} {c = c} {s = s} {ss = ss} f g) e zero h = fits-stands i s ss (suc (length c) - 1) (omega (arith, flow-length g)) f
all-stand (some {c = c} f g) e (suc p) h = let q : suc (length c) - suc (suc p) ≡ length c - suc p = omega arith in rw q (all-stand g e p (omega arith))

-- ---- the whole code, from no kinds to one
module _ {c : List Instr} {l : List Shape} {k : Kind} (f : Flow c ([] ∷ l) ((k ∷ []) ∷ [])) where
  reached-at : {p : ℕ} {s : Shape} → Reached c p s → At ([] ∷ l) p s
  reached-at start = here
  reached-at (onward d h w) =
      let a = reached-at d in
      let x = led (fits-at f a h) w in
      at_same (sym x.place) (at_after a x.kinds)

  inside : {p : ℕ} {s : Shape} → Reached c p s → p ≤ length c
  inside d = omega (arith, at_less (reached-at d), flow-length f)

  -- from a place that is reached, the end is
  finally : (n p : ℕ) (s : Shape) → length c ≤ p + n → Reached c p s → (r : Shape) × Reached c (length c) r
  finally zero p s h d = (s, subst (λ (x : ℕ). Reached c x s) (omega (arith, inside d)) d)
  finally (suc n) p s h d = go (ltb p (length c)) refl (finally n)
    where
      go : (b : Bool) → ltb p (length c) ≡ b → ((p : ℕ) (s : Shape) → length c ≤ p + n → Reached c p s → (r : Shape) × Reached c (length c) r)
          → (r : Shape) × Reached c (length c) r
      go true e ih =
          let lt = ltb-true p (length c) e in
          let x = leaves p (fits-at f (reached-at d) lt) in
          ih x.0 x.1 (omega (arith, forward x.2)) (onward d lt x.2)
      go false e ih = (s, subst (λ (x : ℕ). Reached c x s) (omega (arith, inside d, ltb-false p (length c) e)) d)

  ended : Reached c (length c) (k ∷ [])
  ended =
      let x = finally (length c) 0 [] (omega arith) start in
      subst (λ (r : Shape). Reached c (length c) r) (at_one (reached-at x.1) (at_same (omega arith) (at-past f here))) x.1

  pub accepts : 0 < length c → length c ≤ 2048 → Accepts c k
  accepts h g = record {
    some = h;
    few = g;
    each = all-stand f refl;
    acts = λ p s d h e. not-refused (fits-at f (reached-at d) h) e;
    one = λ p s r d e. at_one (reached-at d) (reached-at e);
    ended = ended;
  }
