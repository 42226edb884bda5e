-- From one place to the next: where the pass knows what is reached at p, a step of it leaves the pass with what comes to the next place; and so does a
-- place that nothing comes to.
use mathlib.Core.Path.{◌≡◌, refl, sym, ap, ◌∙◌, subst}
use mathlib.Core.Logic.{◌⊎◌, inl, inr}
use mathlib.Core.Bool.{Bool, true, false, true≢false}
use mathlib.Core.List.{List}
use Prim.Native.Nat.{ℕ, suc, ◌+◌, ◌-◌, ◌≤◌, ◌<◌}
use native.Mathlib.Omega.{arith}
use lib.ListN.{length}
use Rattle.values.specs.declared.Kind.{Kind}
use Rattle.code.specs.declared.Instr.{Instr}
use Rattle.verifier.specs.Typing.{Shape, Move, ill_typed, next, jump, fork}
use Rattle.verifier.specs.Accepts.{MovesTo, next_place, jump_target, not_taken, taken, instr_at}
use Rattle.verifier.specs.Profile.{move_in, well_formed_in, ReachedIn, onward, AcceptsIn}
use Rattle.verifier.specs.private.Shapes.{State, unreached, holds}
use Rattle.verifier.specs.private.Pass.{Merges, adds, has, clashes, Steps, stuck, strays, goes, leaps, forks, leap_clash, fork_clash}
use Rattle.verifier.proofs.Moves.{compare, upto, able}
use Rattle.verifier.proofs.Pass.{holds_same, unheld, unfailed, unarrived, Arrives, first, from, In, flows, jumped, Comes, Knows, Or, refuses}
use Rattle.verifier.proofs.Pass.{passes, exact, unique}

-- ---- what is asked of a step, whatever the instruction

module _ (reals : Bool) (c : List Instr) (p : ℕ) (before : ℕ → State) (o : State) (k : Knows reals c p before o)
    (known : well_formed_in reals (length c - suc p) (instr_at c p) ≡ true) where
  -- the instruction at p acts, where it leads is known after it, and all that is new is reached
  pub record Onward (after : ℕ → State) (o' : State) : Type 0 where
    pub acts : (s : Shape) → ReachedIn reals c p s → move_in reals (instr_at c p) s ≡ ill_typed → ⊥
    pub led : (s : Shape) (q : ℕ) (r : Shape) → ReachedIn reals c p s → MovesTo p (move_in reals (instr_at c p) s) q r → In (suc p) after o' q r
    pub kept : (q : ℕ) (r : Shape) → before q ≡ holds r → after q ≡ holds r
    pub flow : (r : Shape) → o' ≡ holds r → ReachedIn reals c (suc p) r
    pub table : (q : ℕ) (r : Shape) → after q ≡ holds r → ReachedIn reals c q r

  advance : {after : ℕ → State} {o' : State} → Onward after o' → Comes reals c (suc p) after o'
  advance {after} {o'} w = record {
    each = upto (λ q. well_formed_in reals (length c - suc q) (instr_at c q) ≡ true) p k.comes.each known;
    acts = λ q s l. upto (λ q. ReachedIn reals c q s → move_in reals (instr_at c q) s ≡ ill_typed → ⊥) p (λ q l. k.comes.acts q s l) (w.acts s) q l;
    one = λ q s r l. upto (λ q. ReachedIn reals c q s → ReachedIn reals c q r → s ≡ r) p (λ q l. k.comes.one q s r l) (unique k s r) q l;
    flow = w.flow;
    table = w.table;
    arrived = there;
  }
    where
      here : (q : ℕ) → q ≡ p → suc p ≤ q → ⊥
      here q e l = omega arith

      old : (q : ℕ) (r : Shape) → suc p ≤ q → In p before o q r → In (suc p) after o' q r
      old q r l (flows e f) = absurd (here q e l)
      old q r l (jumped e) = jumped (w.kept q r e)

      there : (q : ℕ) (r : Shape) → suc p ≤ q → Arrives reals c (suc p) q r → In (suc p) after o' q r
      there _ _ l first = absurd (omega arith)
      there q r l (from {o = q₀} {s = s} m d x) =
          upto (λ q₀. ReachedIn reals c q₀ s → MovesTo q₀ (move_in reals (instr_at c q₀) s) q r → In (suc p) after o' q r) p
          (λ q₀ m d x. old q r l (k.comes.arrived q r (omega arith) (from m d x))) (w.led s q r) q₀ m d x

-- ---- a jump that is merged: what was brought stays, and the jump is all that is new

module _ {before : ℕ → State} {r : Shape} {t : ℕ} where
  there : {after : ℕ → State} → Merges r t before true after → after t ≡ holds r
  there (adds e f o) = f
  there (has e) = e

  keeps : {after : ℕ → State} → Merges r t before true after → (q : ℕ) (x : Shape) → before q ≡ holds x → after q ≡ holds x
  keeps (adds e f o) q x g = compare q t (λ i. unheld (sym e ∙ sym (ap before i) ∙ g)) (λ n. o q n ∙ g)
  keeps (has e) q x g = g

  grows : {after : ℕ → State} {p : ℕ} {m : Move} → Merges r t before true after → MovesTo p m t r → (q : ℕ) (x : Shape) → after q ≡ holds x
      → (before q ≡ holds x) ⊎ MovesTo p m q x
  grows {after} {p} {m} (adds e f o) w q x g = compare q t
      (λ i. inr (subst (λ q. MovesTo p m q x) (sym i) (subst (MovesTo p m t) (holds_same (sym f ∙ ap after (sym i) ∙ g)) w)))
      (λ n. inl (sym (o q n) ∙ g))
  grows (has e) w q x g = inl g

-- ---- each instruction

module _ (reals : Bool) (c : List Instr) (p : ℕ) (before : ℕ → State) (inside : p < length c) where
  abbrev Stands : Type 0
  Stands = well_formed_in reals (length c - suc p) (instr_at c p) ≡ true

  -- with the kinds s, which are those that p is reached with, the instruction's move is m
  module _ {s : Shape} (k : Knows reals c p before (holds s)) {m : Move} (e : move_in reals (instr_at c p) s ≡ m) where
    to : {q : ℕ} {r : Shape} → MovesTo p m q r → ReachedIn reals c q r
    to {q} {r} w = onward (k.comes.flow s refl) inside (subst (λ m. MovesTo p m q r) (sym e) w)

    clash : {r : Shape} {t : ℕ} {after : ℕ → State} → MovesTo p m t r → Merges r t before false after → (j : Kind) → AcceptsIn reals c j → ⊥
    clash {r} {t} w (clashes {x = x} f n) j a = n (a.one t r x (to w) (k.comes.table t x f))

    moved : {after : ℕ → State} {o : State} {t : ℕ} {x : Shape} → Stands → MovesTo p m t x
        → ((q : ℕ) (r : Shape) → MovesTo p m q r → In (suc p) after o q r)
        → ((q : ℕ) (r : Shape) → before q ≡ holds r → after q ≡ holds r)
        → ((r : Shape) → o ≡ holds r → MovesTo p m (suc p) r)
        → ((q : ℕ) (r : Shape) → after q ≡ holds r → (before q ≡ holds r) ⊎ MovesTo p m q r)
        → Comes reals c (suc p) after o
    moved known a led kept flow table = advance reals c p before (holds s) k known (record {
      acts = λ x d f. able a (sym e ∙ ap (move_in reals (instr_at c p)) (only d) ∙ f);
      led = λ x q r d w. led q r (subst (λ m. MovesTo p m q r) (ap (move_in reals (instr_at c p)) (sym (only d)) ∙ e) w);
      kept = kept;
      flow = λ r f. to (flow r f);
      table = λ q r f. new q r (table q r f);
    })
      where
        only : {x : Shape} → ReachedIn reals c p x → s ≡ x
        only {x} d = holds_same (exact k x d)

        new : (q : ℕ) (r : Shape) → (before q ≡ holds r) ⊎ MovesTo p m q r → ReachedIn reals c q r
        new q r (inl f) = k.comes.table q r f
        new q r (inr w) = to w

  module _ {s r : Shape} (k : Knows reals c p before (holds s)) where
    goes_on : Stands → move_in reals (instr_at c p) s ≡ next r → Comes reals c (suc p) before (holds r)
    goes_on known e = moved k e known next_place led (λ q x f. f)
        (λ x f. subst (MovesTo p (next r) (suc p)) (holds_same f) next_place) (λ q x f. inl f)
      where
        led : (q : ℕ) (x : Shape) → MovesTo p (next r) q x → In (suc p) before (holds r) q x
        led _ _ next_place = flows refl refl

    leaps-on : {d : ℕ} {after : ℕ → State} → Stands → move_in reals (instr_at c p) s ≡ jump d r → Merges r (suc p + d) before true after
        → Comes reals c (suc p) after unreached
    leaps-on {d} {after} known e b = moved k e known jump_target led (keeps b) (λ x f. unheld f) (grows b jump_target)
      where
        led : (q : ℕ) (x : Shape) → MovesTo p (jump d r) q x → In (suc p) after unreached q x
        led _ _ jump_target = jumped (there b)

    forks-on : {d : ℕ} {after : ℕ → State} → Stands → move_in reals (instr_at c p) s ≡ fork d r → Merges r (suc p + d) before true after
        → Comes reals c (suc p) after (holds r)
    forks-on {d} {after} known e b = moved k e known not_taken led (keeps b) (λ x f. subst (MovesTo p (fork d r) (suc p)) (holds_same f) not_taken)
        (grows b taken)
      where
        led : (q : ℕ) (x : Shape) → MovesTo p (fork d r) q x → In (suc p) after (holds r) q x
        led _ _ not_taken = flows refl refl
        led _ _ taken = jumped (there b)

  pub stepped : {s : Shape} {o : State} {after : ℕ → State} → Knows reals c p before (holds s)
      → Steps reals (instr_at c p) (length c - suc p) (suc p) s before o after
      → Or reals c (Comes reals c (suc p) after) o
  stepped {s} k (stuck e) = refuses (λ h a. a.acts p s (k.comes.flow s refl) inside e)
  stepped k (strays e) = refuses (λ h a. true≢false (sym (a.each p inside) ∙ e))
  stepped k (goes t e) = passes (λ e. unfailed e) (goes_on k t e)
  stepped k (leaps i t e b) = passes unarrived (leaps-on k t e b)
  stepped k (forks t e b) = passes (λ e. unfailed e) (forks-on k t e b)
  stepped k (leap_clash {d = d} e b) = refuses (clash k e (jump_target {d = d}) b)
  stepped k (fork_clash {d = d} e b) = refuses (clash k e (taken {d = d}) b)

-- ---- a place that nothing comes to is passed over

pub passed : (reals : Bool) (c : List Instr) (p : ℕ) (before : ℕ → State) → well_formed_in reals (length c - suc p) (instr_at c p) ≡ true
    → before p ≡ unreached → Comes reals c p before unreached → Comes reals c (suc p) before unreached
passed reals c p before known e k = advance reals c p before unreached w known (record {
  acts = λ s d. unheld (exact w s d);
  led = λ s q r d. unheld (exact w s d);
  kept = λ q r f. f;
  flow = λ r f. unheld f;
  table = k.table;
})
  where
    w : Knows reals c p before unreached
    w = record { comes = k; joined = λ s f. unheld (sym e ∙ f) }
