-- The loop of `check`: what holds at each of its turns, and why its answer is right.
use Rattle.std.specs.Prelude.{Option, Some, None}
use mathlib.Core.Path.{◌≡◌, refl, sym, ap, ◌∙◌, subst}
use mathlib.Core.Bool.{Bool, true, false, cond, true≢false}
use mathlib.Core.List.{List, []}
use Prim.Native.Nat.{ℕ, zero, suc, ◌+◌, ◌-◌, ◌/◌, ◌≤◌, ◌<◌}
use native.Mathlib.Nat.{zero-add, add-zero, add-suc}
use native.Mathlib.Numerals.{add-one}
use native.Mathlib.Omega.{arith}
use lib.Dec.{ltb}
use lib.ListN.{length, get_or, replicate, length-replicate}
use borrow.Author.Tests.{ltb-true, ltb-false}
use Rattle.values.specs.declared.Kind.{Kind}
use Rattle.code.specs.declared.Instr.{Instr}
use Rattle.code.specs.declared.Instr.TheVariants.{Unknown}
use Rattle.code.specs.Instructions.{decode_at, instructions}
use Rattle.code.proofs.Parts.{decode-length, decode-at, decode-beyond}
use Rattle.verifier.specs.declared.packing.Held.{Held}
use Rattle.verifier.specs.Typing.{Shape}
use Rattle.verifier.specs.Accepts.{instr_at}
use Rattle.verifier.specs.Profile.{well_formed_in, AcceptsIn, CorrectVerdictIn}
use Rattle.verifier.specs.declared.places.Brought.{Brought}
use Rattle.verifier.specs.private.Shapes.{State, rejected, unreached, holds, kinds_of, brought_to, ArrayHolds, Blank}
use Rattle.verifier.specs.private.Pass.{verdict_of, Joins, takes, Steps, Skips, all_admitted}
use Rattle.verifier.proofs.Pass.{unheld, unfailed, unarrived, Comes, Knows, Or, passes, refusal, passage, begins, joined, verdict-sound}
use Rattle.verifier.proofs.Pass.{verdict-complete}
use Rattle.verifier.proofs.Onward.{stepped, passed}
use Rattle.verifier.proofs.Admitted.{reached-admitted}
use Rattle.verifier.proofs.Bits.{holds-none}

-- tables of m places, filled with 0
zeros : (m q : ℕ) → ◌≡◌ {A = ℕ} (get_or (replicate m 0) q 0) 0
zeros zero q = refl
zeros (suc m) zero = refl
zeros (suc m) (suc q) = zeros m q

pub blank : (m n : ℕ) → n < m → Blank n (replicate m 0) (replicate m 0)
blank m n l = record { room = omega (arith, length-replicate {A = ℕ} m 0); sizes = refl; no-tops = zeros m; no-bits = zeros m }

-- what is no instruction is not known
none-known : (reals : Bool) (k : ℕ) → well_formed_in reals k Unknown ≡ false
none-known true k = refl
none-known false k = refl

module _ (reals : Bool) (code : List ℕ) (n : ℕ) where
  size : length (instructions code n) ≡ n
  size = decode-length code 0 n

  at : {p : ℕ} → p < n → instr_at (instructions code n) p ≡ decode_at code p
  at {p} l = decode-at code 0 n p l ∙ ap (decode_at code) (zero-add p)

  refused : ((k : Kind) → AcceptsIn reals (instructions code n) k → ⊥) → CorrectVerdictIn reals code n None
  refused f = record { sound = λ k e. absurd (no k e); complete = λ k a. absurd (f k a) }
    where
      no : (k : Kind) → None ≡ Some k → ⊥
      no k e = cc

  -- an instruction that does not stand
  pub unknown : {p : ℕ} → p < n → well_formed_in reals (n - suc p) (decode_at code p) ≡ false → CorrectVerdictIn reals code n None
  unknown {p} l e = refused (λ k a. true≢false (sym (a.each p (omega (arith, size))) ∙ rw (size, at l) e))

  -- ---- the number of instructions

  pub too_few : n ≡ 0 → CorrectVerdictIn reals code n None
  too_few e = refused (λ k a. none a.some)
    where
      none : 0 < length (instructions code n) → ⊥
      none l = omega (arith, size)

  pub too_many : 2048 < n → CorrectVerdictIn reals code n None
  too_many e = refused (λ k a. none a.few)
    where
      none : length (instructions code n) ≤ 2048 → ⊥
      none l = omega (arith, size)

  pub too_short : length code / 8 < n → CorrectVerdictIn reals code n None
  too_short l = unknown l (rw (decode-beyond code (length code / 8) (omega arith)) (none-known reals (n - suc (length code / 8))))

  -- ---- what is known

  -- at the place p: what is reached there, which is held
  pub record Passing (p : ℕ) (kinds : List ℕ) (brought : Brought) (held : Held) : Type 0 where
    pub within : p ≤ n
    pub array : ArrayHolds kinds held
    pub end : brought.end ≡ n
    pub knows : Knows reals (instructions code n) p (brought_to brought) (holds (kinds_of held))

  pub held-admitted : {p : ℕ} {brought : ℕ → State} {s : Shape} → Knows reals (instructions code n) p brought (holds s) → all_admitted reals s ≡ true
  held-admitted {s = s} k = reached-admitted reals (k.comes.flow s refl)

  pub first : {kinds : List ℕ} {brought : Brought} {held : Held} → length kinds ≡ 128 → brought.end ≡ n
      → ((q : ℕ) → brought_to brought q ≡ unreached) → kinds_of held ≡ [] → Passing 0 kinds brought held
  first w e empty h = record { within = omega arith; array = holds-none w h; end = e; knows = rw h (begins reals (instructions code n) _ empty) }

  -- from the place before p: what comes to p, or that the code is not accepted
  abbrev pub Came : ℕ → (ℕ → State) → State → Type 0
  Came p brought o = Or reals (instructions code n) (Comes reals (instructions code n) p brought) o

  module _ {p : ℕ} {i : Instr} {s : Shape} {before : ℕ → State} (l : p < n) (is : decode_at code p ≡ i)
      (k : Knows reals (instructions code n) p before (holds s)) where
    pub turn : {after : ℕ → State} {o : State} {m : ℕ} → m ≡ n → Steps reals i (m - (p + 1)) (p + 1) s before o after → Came (p + 1) after o
    turn {after} {o} {m} e t =
        let here : i ≡ instr_at (instructions code n) p = sym (at l ∙ is) in
        let left : m - suc p ≡ length (instructions code n) - suc p = ap (λ m. m - suc p) (e ∙ sym size) in
        let t' : Steps reals (instr_at (instructions code n) p) (length (instructions code n) - suc p) (suc p) s before o after =
        rw (add-one p, here, left) at t in
        rw (add-one p) (stepped reals (instructions code n) p before (omega (arith, size)) k t')

  pub fails : {p : ℕ} {brought : ℕ → State} {o : State} → Came p brought o → o ≡ rejected → CorrectVerdictIn reals code n None
  fails w e = refused (refusal w e)

  -- what flows into p agrees with what jumps brought there, or not
  module _ {p : ℕ} {brought : ℕ → State} {o : State} {s : Shape} (b : Bool) (w : Came p brought o) (e : o ≡ holds s)
      (j : Joins (holds s) (brought p) (cond b (holds s) rejected)) where
    met : {x : State} → cond b (holds s) rejected ≡ x → Or reals (instructions code n) (Knows reals (instructions code n) p brought) x
    met q = subst (Or reals (instructions code n) (Knows reals (instructions code n) p brought)) q
        (joined refl (subst (Or reals (instructions code n) (Comes reals (instructions code n) p brought)) e w) j)

    pub agreed : b ≡ true → Knows reals (instructions code n) p brought (holds s)
    agreed y = passage (met (ap (λ b. cond b (holds s) rejected) y)) (λ f. unfailed f)

    pub disagreed : b ≡ false → CorrectVerdictIn reals code n None
    disagreed y = refused (refusal (met (ap (λ b. cond b (holds s) rejected) y)) refl)

  -- ---- the end, with what is known there

  ends_by : {brought : ℕ → State} {o : State} {v : (Option Kind)} → 0 < n → n ≤ 2048
      → Or reals (instructions code n) (Knows reals (instructions code n) (length (instructions code n)) brought) o
      → v ≡ verdict_of o → CorrectVerdictIn reals code n v
  ends_by some few w is = record {
    sound = λ k f. verdict-sound (omega (arith, size)) (omega (arith, size)) w k (sym is ∙ f);
    complete = λ k a. is ∙ verdict-complete w k a;
  }

  pub ends : {p : ℕ} {brought : ℕ → State} {s : Shape} {v : (Option Kind)} → 0 < n → n ≤ 2048 → p ≡ n → Knows reals (instructions code n) p brought (holds s)
      → v ≡ verdict_of (holds s) → CorrectVerdictIn reals code n v
  ends {p} {brought} {s} some few e k is = ends_by some few (passes (λ f. unfailed f) (rw (e ∙ sym size) at k)) is

  -- ---- nothing flows into p, and r is the next place that jumps come to, or one that they do not

  pub to-end : {m p r : ℕ} {brought : ℕ → State} → m ≡ n → Skips reals code m brought p r → Skips reals code n brought p r
  to-end {p = p} {r} {brought} e = subst (λ m. Skips reals code m brought p r) e

  module _ {p r : ℕ} {brought : ℕ → State} {o : State} (w : Came p brought o) (e : o ≡ unreached) (k : Skips reals code n brought p r) where
    over : (m : ℕ) → p + m ≤ r → Comes reals (instructions code n) (p + m) brought unreached
    over zero l = rw (add-zero p) (passage (subst (Or reals (instructions code n) (Comes reals (instructions code n) p brought)) e w) unarrived)
    over (suc m) l =
        let q : p + m < n = omega (arith, k.way.within) in
        let known : well_formed_in reals (length (instructions code n) - suc (p + m)) (instr_at (instructions code n) (p + m)) ≡ true =
        rw (size, at q) (k.way.each (p + m) (omega arith) (omega arith)) in
        rw (add-suc p m) (passed reals (instructions code n) (p + m) brought known (k.way.none (p + m) (omega arith) (omega arith)) (over m (omega arith)))

    skipped : Comes reals (instructions code n) r brought unreached
    skipped =
        let q : p + (r - p) ≡ r = omega (arith, k.way.onward) in
        subst (λ r. Comes reals (instructions code n) r brought unreached) q (over (r - p) (omega (arith, k.way.onward)))

    pub landed : {s : Shape} → holds s ≡ brought r → Knows reals (instructions code n) r brought (holds s)
    landed f = passage (joined (sym f) (passes unarrived skipped) takes) (λ g. unfailed g)

    pub lost : 0 < n → n ≤ 2048 → brought r ≡ unreached → CorrectVerdictIn reals code n None
    lost some few z = go (ltb r n) refl
      where
        go : (b : Bool) → ltb r n ≡ b → CorrectVerdictIn reals code n None
        go true l = unknown (ltb-true r n l) (k.last z (ltb-true r n l))
        go false l =
            let q : r ≡ length (instructions code n) = omega (arith, size, k.way.within, ltb-false r n l) in
            let f : Knows reals (instructions code n) r brought unreached = record { comes = skipped; joined = λ s g. unheld (sym z ∙ g) } in
            ends_by some few (passes unarrived (subst (λ r. Knows reals (instructions code n) r brought unreached) q f)) refl
