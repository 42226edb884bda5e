-- From sizes to singles: what is shown of any format's sizes is, at `binary32`, what specs/ states of singles.
use mathlib.Core.Path.{◌≡◌, refl, sym, ap, ◌∙◌, subst, subst₂}
use mathlib.Core.Logic.{◌↔◌}
use mathlib.Core.Bool.{Bool, false}
use Prim.Native.Nat.{ℕ, ◌*◌, ◌≤◌, ◌<◌}
use native.Mathlib.Nat.{le_refl, le_antisymm, not-le_of_lt}
use lib.Dec.{T}
use lib.Ieee.{Float, nan, inf, fin, binary32, fits}
use lib.Ieee.Scale.{finite}
use Rattle.reals.specs.Singles.{Single, negative, unit_count, Has, Size}
use Rattle.reals.specs.Rounding.{Fraction, distance, Closest, Rounds, near, over, overflow_units}
use Rattle.reals.proofs.Near as Near
use Rattle.reals.proofs.Near.{Held, Nearest, units_of, Is, Rounded, to}
use Rattle.reals.proofs.Rising.{nearest-rising}
use Rattle.reals.proofs.Values.{own, known, all_held}
use Rattle.reals.proofs.Pattern.{value-unique}
use Rattle.reals.proofs.Evens.{even→last, last→even, last_bit}
use Rattle.reals.proofs.Ops.{Claim, Law}

-- ---- a single's sign and size
real_of : (x : Float) (s : Bool) (n : ℕ) → Is binary32 x s n → T (finite x)
real_of nan s n h = h
real_of (inf t) s n h = h
real_of (fin t m e) s n h = tt

-- by cases, since two functions on a variable are not compared by their clauses
same_units : (x : Float) → units_of binary32 x ≡ unit_count x
same_units nan = refl
same_units (inf s) = refl
same_units (fin s m e) = refl

pub is : (x : Float) → Single x → Is binary32 x (negative x) (unit_count x)
is x S = rw (← (same_units x)) (own binary32 x S.fit S.real).0

pub held : (x : Float) → Single x → Held binary32 (unit_count x)
held x S = rw (← (same_units x)) (own binary32 x S.fit S.real).1

pub has : (s : Bool) (n : ℕ) (x : Float) → T (fits binary32 x) → Is binary32 x s n → Has s n x
has s n x t h =
    let k = known binary32 x s n h in
    record { single = record { fit = t; real = real_of x s n h }; sign = k.0; size = sym (same_units x) ∙ k.1 }

has-is : (s : Bool) (n : ℕ) (x : Float) → Has s n x → Is binary32 x s n
has-is s n x h = subst₂ (Is binary32 x) h.sign h.size (is x h.single)

-- a law of two values' signs and sizes, of two singles
pub of-singles : {P : Claim} → Law binary32 P → (x y : Float) → Single x → Single y → P (negative x) (unit_count x) (negative y) (unit_count y) x y
of-singles law x y S R = law x y (negative x) (unit_count x) (negative y) (unit_count y) (is x S) (is y R)

-- ---- the singles: one for each sign and size
pub size : (x : Float) → Single x → Size (unit_count x)
size x S = let H = held x S in record { digits = H.digits; place = H.place; few = H.few; is = H.is; below = H.below }

pub each : (s : Bool) (n : ℕ) → Held binary32 n → (x : Float) × Has s n x
each s n H = let v = all_held binary32 s n H in (v.value, has s n v.value v.fit v.has)

pub only : (s : Bool) (n : ℕ) (x y : Float) → Has s n x → Has s n y → x ≡ y
only s n x y h k = value-unique binary32 x y s n h.single.fit k.single.fit (has-is s n x h) (has-is s n y k)

-- ---- closest among the singles is nearest among the sizes, and back
nearest : (a b : ℕ) (x : Float) → Single x → Closest a b x → Nearest binary32 a b (unit_count x)
nearest a b x S C = record {
  held = held x S;
  least = λ o H. let v = each false o H in subst (λ (n : ℕ). distance (unit_count x * b) a ≤ distance (n * b) a) v.1.size (C.least v.0 v.1.single);
  even = λ o H d t.
      let v = each false o H in
      last→even binary32 (unit_count x) (held x S) (sym (last_bit binary32 x (negative x) (unit_count x) (is x S))
      ∙ C.even v.0 v.1.single (λ (e : unit_count v.0 ≡ unit_count x). d (sym v.1.size ∙ e)) (ap (λ (n : ℕ). distance (n * b) a) v.1.size ∙ t));
}

closest : (a b : ℕ) (x : Float) → Single x → Nearest binary32 a b (unit_count x) → Closest a b x
closest a b x S N = record {
  least = λ y R. N.least (unit_count y) (held y R);
  even = λ y R d t. last_bit binary32 x (negative x) (unit_count x) (is x S) ∙ even→last binary32 (unit_count x) (N.even (unit_count y) (held y R) d t);
}

pub rising : (a c b : ℕ) (x y : Float) → 0 < b → a ≤ c → Single x → Single y → Closest a b x → Closest c b y → unit_count x ≤ unit_count y
rising a c b x y B h S R C D = nearest-rising binary32 a c b (unit_count x) (unit_count y) B h (nearest a b x S C) (nearest c b y R D)

-- ---- rounding
pub rounds : {q : Fraction} {x : Float} → T (fits binary32 x) → Rounded binary32 q.sign q.num q.den x → Rounds q x
rounds t (Near.over h e) = over h e
rounds {q} {x} t (to n l h N) =
    let v = has q.sign n x t h in
    near l v.single v.sign (closest q.num q.den x v.single (rw v.size N))

pub one : (q : Fraction) (x y : Float) → 0 < q.den → Rounds q x → Rounds q y → x ≡ y
one q x y B (over h e) (over k g) = e ∙ sym g
one q x y B (over h e) (near k S g N) = absurd (not-le_of_lt k h)
one q x y B (near h S e M) (over k g) = absurd (not-le_of_lt h k)
one q x y B (near h S e M) (near k R g N) =
    let rises = rising q.num q.num q.den in
    let d : unit_count y ≡ unit_count x = le_antisymm (rises y x B (le_refl q.num) R S N M) (rises x y B (le_refl q.num) S R M N) in
    only q.sign (unit_count x) x y (record { single = S; sign = e; size = refl }) (record { single = R; sign = g; size = d })

pub infinite : (q : Fraction) (x : Float) → Rounds q x → (x ≡ inf q.sign) ↔ (overflow_units * q.den ≤ q.num)
infinite q x (near l S e C) = (λ g. absurd (subst (λ (y : Float). T (finite y)) g S.real), λ g. absurd (not-le_of_lt l g))
infinite q x (over l e) = (λ g. l, λ g. e)

-- a result below the end of the range is a single, of that sign
pub record Close (q : Fraction) (x : Float) : Type 0 where
  pub single : Single x
  pub sign : negative x ≡ q.sign
  pub closest : Closest q.num q.den x

pub within : {q : Fraction} {x : Float} → q.num < overflow_units * q.den → Rounds q x → Close q x
within h (near l S e C) = record { single = S; sign = e; closest = C }
within h (over l e) = absurd (not-le_of_lt h l)

-- a single is its own rounding
pub itself : {s : Bool} {n : ℕ} {x : Float} → Has s n x → Rounds (record { sign = s; num = n; den = 1 }) x
itself {s} {n} {x} h =
    let v = all_held binary32 s n (subst (Held binary32) h.size (held x h.single)) in
    subst (Rounds (record { sign = s; num = n; den = 1 })) (only s n v.value x (has s n v.value v.fit v.has) h) (rounds v.fit v.rounds)
