-- What one pass over the code knows at each place that it comes to: exactly what is reached there. Its beginning, its joins and its verdict.
use Rattle.std.specs.Prelude.{Some}
use mathlib.Core.Path.{◌≡◌, refl, sym, ap, ◌∙◌, subst}
use mathlib.Core.Bool.{Bool, true}
use mathlib.Core.List.{List, [], ◌∷◌}
use Prim.Native.Nat.{ℕ, suc, ◌-◌, ◌≤◌, ◌<◌}
use native.Mathlib.Omega.{arith}
use lib.ListN.{length}
use Rattle.values.specs.declared.Kind.{Kind}
use Rattle.code.specs.declared.Instr.{Instr}
use Rattle.verifier.specs.Typing.{Shape, ill_typed}
use Rattle.verifier.specs.Accepts.{MovesTo, instr_at}
use Rattle.verifier.specs.Profile.{move_in, well_formed_in, ReachedIn, start, onward, AcceptsIn}
use Rattle.verifier.specs.private.Shapes.{State, rejected, unreached, holds}
use Rattle.verifier.specs.private.Pass.{verdict_of, Joins, alone, takes, agrees, differs}
use Rattle.verifier.proofs.Moves.{upto, forward, within}

-- ---- states

pub holds_same : {s r : Shape} → holds s ≡ holds r → s ≡ r
holds_same e = cc

pub unheld : {X : Type 0} {s : Shape} → unreached ≡ holds s → X
unheld e = cc

pub unfailed : {s : Shape} → holds s ≡ rejected → ⊥
unfailed e = cc

pub unarrived : unreached ≡ rejected → ⊥
unarrived e = cc

-- ---- what is known

-- the place q is the first, or is led to from a place before p
pub data Arrives (reals : Bool) (c : List Instr) (p : ℕ) : ℕ → Shape → Type 0 where
  first : Arrives reals c p 0 []
  from : {o q : ℕ} {s r : Shape} → o < p → ReachedIn reals c o s → MovesTo o (move_in reals (instr_at c o) s) q r → Arrives reals c p q r

-- the pass, at p with the state o, has the place q with the kinds r
pub data In (p : ℕ) (brought : ℕ → State) (o : State) (q : ℕ) (r : Shape) : Type 0 where
  flows : q ≡ p → o ≡ holds r → In p brought o q r
  jumped : brought q ≡ holds r → In p brought o q r

-- the pass has come to p, and o is what flows in: all before p is as `Accepts` asks, what is known is reached, and what arrives is known
pub record Comes (reals : Bool) (c : List Instr) (p : ℕ) (brought : ℕ → State) (o : State) : Type 0 where
  pub each : (q : ℕ) → q < p → well_formed_in reals (length c - suc q) (instr_at c q) ≡ true
  pub acts : (q : ℕ) (s : Shape) → q < p → ReachedIn reals c q s → move_in reals (instr_at c q) s ≡ ill_typed → ⊥
  pub one : (q : ℕ) (s r : Shape) → q < p → ReachedIn reals c q s → ReachedIn reals c q r → s ≡ r
  pub flow : (s : Shape) → o ≡ holds s → ReachedIn reals c p s
  pub table : (q : ℕ) (s : Shape) → brought q ≡ holds s → ReachedIn reals c q s
  pub arrived : (q : ℕ) (r : Shape) → p ≤ q → Arrives reals c p q r → In p brought o q r

-- and what jumps brought to p is joined
pub record Knows (reals : Bool) (c : List Instr) (p : ℕ) (brought : ℕ → State) (o : State) : Type 0 where
  pub comes : Comes reals c p brought o
  pub joined : (s : Shape) → brought p ≡ holds s → o ≡ holds s

-- or the code is not accepted
pub data Or (reals : Bool) (c : List Instr) (P : State → Type 0) : State → Type 0 where
  refuses : ((k : Kind) → AcceptsIn reals c k → ⊥) → Or reals c P rejected
  passes : {o : State} → (o ≡ rejected → ⊥) → P o → Or reals c P o

pub refusal : {reals : Bool} {c : List Instr} {P : State → Type 0} {o : State} → Or reals c P o → o ≡ rejected → (k : Kind) → AcceptsIn reals c k → ⊥
refusal (refuses f) e = f
refusal (passes n x) e = absurd (n e)

pub passage : {reals : Bool} {c : List Instr} {P : State → Type 0} {o : State} → Or reals c P o → (o ≡ rejected → ⊥) → P o
passage (refuses f) n = absurd (n refl)
passage (passes n x) _ = x

-- so what is reached at p is what is known there
pub arrives : {reals : Bool} {c : List Instr} {q : ℕ} {s : Shape} → ReachedIn reals c q s → Arrives reals c q q s
arrives start = first
arrives (onward d l w) = from (forward w) d w

pub exact : {reals : Bool} {c : List Instr} {p : ℕ} {brought : ℕ → State} {o : State} → Knows reals c p brought o → (s : Shape)
    → ReachedIn reals c p s → o ≡ holds s
exact {reals} {c} {p} {brought} {o} k s d = go (k.comes.arrived p s (omega arith) (arrives d))
  where
    go : In p brought o p s → o ≡ holds s
    go (flows e f) = f
    go (jumped e) = k.joined s e

pub unique : {reals : Bool} {c : List Instr} {p : ℕ} {brought : ℕ → State} {o : State} → Knows reals c p brought o → (s r : Shape)
    → ReachedIn reals c p s → ReachedIn reals c p r → s ≡ r
unique k s r d f = holds_same (sym (exact k s d) ∙ exact k r f)

-- ---- at the first place

pub begins : (reals : Bool) (c : List Instr) (brought : ℕ → State) → ((q : ℕ) → brought q ≡ unreached) → Knows reals c 0 brought (holds [])
begins reals c brought e = record {
  comes = record {
    each = λ q l. absurd (none q l);
    acts = λ q s l d. absurd (none q l);
    one = λ q s r l d f. absurd (none q l);
    flow = λ s f. subst (ReachedIn reals c 0) (holds_same f) start;
    table = λ q s f. unheld (sym (e q) ∙ f);
    arrived = λ q r l a. here q r a;
  };
  joined = λ s f. unheld (sym (e 0) ∙ f);
}
  where
    none : (q : ℕ) → q < 0 → ⊥
    none q l = omega arith

    here : (q : ℕ) (r : Shape) → Arrives reals c 0 q r → In 0 brought (holds []) q r
    here _ _ first = flows refl refl
    here _ _ (from {o = o} l d w) = absurd (none o l)

-- ---- what jumps brought to p is joined

pub joined : {reals : Bool} {c : List Instr} {p : ℕ} {brought : ℕ → State} {o x o' : State} → brought p ≡ x
    → Or reals c (Comes reals c p brought) o → Joins o x o'
    → Or reals c (Knows reals c p brought) o'
joined e (refuses f) alone = refuses f
joined e (passes n k) alone = passes n (record { comes = k; joined = λ s f. unheld (sym e ∙ f) })
joined {reals} {c} {p} {brought} e (passes n k) (takes {s = s}) = passes (λ e. unfailed e) (record {
  comes = record {
    each = k.each;
    acts = k.acts;
    one = k.one;
    flow = λ r f. k.table p r (e ∙ f);
    table = k.table;
    arrived = λ q r l a. still q r (k.arrived q r l a);
  };
  joined = λ r f. sym e ∙ f;
})
  where
    still : (q : ℕ) (r : Shape) → In p brought unreached q r → In p brought (holds s) q r
    still q r (flows f g) = unheld g
    still q r (jumped f) = jumped f
joined e (passes n k) agrees = passes n (record { comes = k; joined = λ r f. sym e ∙ f })
joined {reals} {c} {p} e (passes n k) (differs {s = s} {r = r} f) = refuses (λ j a. f (a.one p s r (k.flow s refl) (k.table p r e)))

-- ---- at the end

-- no place beyond it is reached
pub ahead : {reals : Bool} {c : List Instr} → ((q : ℕ) → q < length c → well_formed_in reals (length c - suc q) (instr_at c q) ≡ true)
    → {p : ℕ} {s : Shape} → ReachedIn reals c p s
    → p ≤ length c
ahead f start = omega arith
ahead {reals} {c} f (onward {p = p} {s = s} d l w) = within reals (instr_at c p) s l (f p l) w

accepted : {reals : Bool} {c : List Instr} {brought : ℕ → State} {k : Kind} → 0 < length c → length c ≤ 2048
    → Knows reals c (length c) brought (holds (k ∷ [])) → AcceptsIn reals c k
accepted {reals} {c} {brought} {k} some few w = record {
  some = some;
  few = few;
  each = w.comes.each;
  acts = λ p s d l. w.comes.acts p s l d;
  one = λ p s r d f. upto (λ p. ReachedIn reals c p s → ReachedIn reals c p r → s ≡ r) (length c) (λ p l. w.comes.one p s r l)
      (unique w s r) p (omega (arith, ahead w.comes.each d)) d f;
  ended = w.comes.flow (k ∷ []) refl;
}

one-held : (o : State) (k : Kind) → verdict_of o ≡ Some k → o ≡ holds (k ∷ [])
one-held rejected k e = cc
one-held unreached k e = cc
one-held (holds []) k e = cc
one-held (holds (j ∷ [])) k e = cc
one-held (holds (j ∷ (i ∷ s))) k e = cc

-- the verdict is right
pub verdict-sound : {reals : Bool} {c : List Instr} {brought : ℕ → State} {o : State} → 0 < length c → length c ≤ 2048
    → Or reals c (Knows reals c (length c) brought) o
    → (k : Kind) → verdict_of o ≡ Some k → AcceptsIn reals c k
verdict-sound {reals} {c} {brought} {o} some few w k e =
    let q : o ≡ holds (k ∷ []) = one-held o k e in
    accepted some few (subst (Knows reals c (length c) brought) q (passage w (λ r. unfailed (sym q ∙ r))))

pub verdict-complete : {reals : Bool} {c : List Instr} {brought : ℕ → State} {o : State} → Or reals c (Knows reals c (length c) brought) o
    → (k : Kind) → AcceptsIn reals c k
    → verdict_of o ≡ Some k
verdict-complete (refuses f) k a = absurd (f k a)
verdict-complete (passes n w) k a = ap verdict_of (exact w (k ∷ []) a.ended)
