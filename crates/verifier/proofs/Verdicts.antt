-- The check as a function is right: what the pass knows of each place is what comes to it from the places before. `VerdictLaws`.
use Rattle.std.specs.Prelude.{Option, Some, None}
use mathlib.Core.Path.{◌≡◌, refl, sym, ap, ◌∙◌, subst}
use mathlib.Core.Logic.{◌⊎◌, inl, inr}
use mathlib.Core.Bool.{Bool, true, false, cond, true≢false, false≢true}
use mathlib.Core.List.{List, [], ◌∷◌}
use Prim.Native.Nat.{ℕ, suc, ◌+◌, ◌-◌, ◌≤◌, ◌<◌}
use native.Mathlib.Omega.{arith}
use lib.Dec.{eqb, leb}
use lib.ListN.{length, drop, length-drop}
use borrow.Author.Tests.{leb-true, le-leb, eqb-true, eq-eqb}
use Rattle.values.specs.declared.Kind.{Kind}
use Rattle.values.specs.declared.Kind.TheVariants.{Int, Real}
use Rattle.code.specs.declared.Instr.{Instr}
use Rattle.code.specs.Instructions.{instructions}
use Rattle.verifier.specs.Typing.{Shape, Move, ill_typed, next, jump, fork}
use Rattle.verifier.specs.Accepts.{MovesTo, next_place, jump_target, not_taken, taken, instr_at, CorrectVerdict}
use Rattle.verifier.specs.Verdicts.{State, rejected, unreached, holds, States, same_shape, join_state, join_at, propagate, entry_states}
use Rattle.verifier.specs.Verdicts.{verdict_of, VerdictLaws}
use Rattle.verifier.specs.Profile.{move_in, well_formed_in, ReachedIn, start, onward, AcceptsIn, CorrectVerdictIn, transfer_in, dataflow_in, verdict_in}
use Rattle.verifier.specs.private.Pass.{Agrees}
use Rattle.verifier.proofs.Moves.{upto, Split, split}
use Rattle.verifier.proofs.Full.{full-accepts, accepts-full, full_verdict}
use Rattle.verifier.proofs.Pass as Pass
use Rattle.verifier.proofs.Pass.{holds_same, unheld, unfailed, unarrived, Arrives, first, from, arrives, flows, Knows, Or, passes, ahead}
use Rattle.verifier.proofs.Pass.{verdict-sound, verdict-complete}

-- ---- lists of kinds

shape-agrees : (s r : Shape) → Agrees (same_shape s r) s r
unfolding same_shape
shape-agrees [] [] = record { yes = λ e. refl; no = λ e f. true≢false e }
shape-agrees [] (k ∷ r) = record { yes = λ e. absurd (false≢true e); no = λ e f. cc }
shape-agrees (j ∷ s) [] = record { yes = λ e. absurd (false≢true e); no = λ e f. cc }
shape-agrees (Int ∷ s) (Int ∷ r) = record { yes = λ e. ap (λ s. Int ∷ s) ((shape-agrees s r).yes e); no = λ e f. (shape-agrees s r).no e (cc) }
shape-agrees (Int ∷ s) (Real ∷ r) = record { yes = λ e. absurd (false≢true e); no = λ e f. cc }
shape-agrees (Real ∷ s) (Int ∷ r) = record { yes = λ e. absurd (false≢true e); no = λ e f. cc }
shape-agrees (Real ∷ s) (Real ∷ r) = record { yes = λ e. ap (λ s. Real ∷ s) ((shape-agrees s r).yes e); no = λ e f. (shape-agrees s r).no e (cc) }

-- ---- what is known of a place that comes to have the kinds s

data Found (s : Shape) : State → Type 0 where
  has : Found s (holds s)
  lost : Found s rejected

found_some : {X : Type 0} {s : Shape} {x : State} → Found s x → x ≡ unreached → X
found_some has e = unheld (sym e)
found_some lost e = absurd (unarrived (sym e))

found-only : {s r : Shape} {x : State} → Found s x → x ≡ holds r → s ≡ r
found-only has e = holds_same e
found-only lost e = absurd (unfailed (sym e))

found-held : {s : Shape} {x : State} → Found s x → (x ≡ rejected → ⊥) → x ≡ holds s
found-held has n = refl
found-held lost n = absurd (n refl)

-- ---- places and the kinds that come to them

-- two lists of kinds come to the place q
record Clash (S : ℕ → Shape → Type 0) (q : ℕ) : Type 0 where
  one : Shape
  other : Shape
  comes : S q one
  also : S q other
  differ : one ≡ other → ⊥

-- what is known of each place is what comes to it
record Represents (f : States) (S : ℕ → Shape → Type 0) : Type 0 where
  known : (q : ℕ) (s : Shape) → f q ≡ holds s → S q s
  clash : (q : ℕ) → f q ≡ rejected → Clash S q
  found : (q : ℕ) (s : Shape) → S q s → Found s (f q)

clash-into : {S S' : ℕ → Shape → Type 0} {q : ℕ} → ((s : Shape) → S q s → S' q s) → Clash S q → Clash S' q
clash-into i c = record { one = c.one; other = c.other; comes = i c.one c.comes; also = i c.other c.also; differ = c.differ }

likewise : {f : States} {S S' : ℕ → Shape → Type 0} → Represents f S
    → ((q : ℕ) (s : Shape) → S q s → S' q s) → ((q : ℕ) (s : Shape) → S' q s → S q s) → Represents f S'
likewise w i o = record {
  known = λ q s e. i q s (w.known q s e);
  clash = λ q e. clash-into (i q) (w.clash q e);
  found = λ q s m. w.found q s (o q s m);
}

-- the kinds r come to the place t as well
data Added (S : ℕ → Shape → Type 0) (r : Shape) (t : ℕ) : ℕ → Shape → Type 0 where
  old : {q : ℕ} {s : Shape} → S q s → Added S r t q s
  new : Added S r t t r

module _ {f : States} {S : ℕ → Shape → Type 0} (w : Represents f S) (r : Shape) (t : ℕ) where
  at_new : {q : ℕ} → q ≡ t → Added S r t q r
  at_new e = subst (λ q. Added S r t q r) (sym e) new

  joined-known : (q : ℕ) (s : Shape) (b : Bool) → eqb q t ≡ b → (x : State) → f q ≡ x → cond b (join_state r x) x ≡ holds s → Added S r t q s
  joined-known q s false e x i h = old (w.known q s (i ∙ h))
  joined-known q s true e rejected i h = absurd (unfailed (sym h))
  joined-known q s true e unreached i h = subst (Added S r t q) (holds_same h) (at_new (eqb-true q t e))
  joined-known q s true e (holds u) i h = go (same_shape r u) h
    where
      go : (b : Bool) → cond b (holds u) rejected ≡ holds s → Added S r t q s
      go true h = old (w.known q s (i ∙ h))
      go false h = absurd (unfailed (sym h))

  joined-clash : (q : ℕ) (b : Bool) → eqb q t ≡ b → (x : State) → f q ≡ x → cond b (join_state r x) x ≡ rejected → Clash (Added S r t) q
  joined-clash q false e x i h = clash-into (λ s m. old m) (w.clash q (i ∙ h))
  joined-clash q true e rejected i h = clash-into (λ s m. old m) (w.clash q i)
  joined-clash q true e unreached i h = absurd (unfailed h)
  joined-clash q true e (holds u) i h = go (same_shape r u) (shape-agrees r u) h
    where
      go : (b : Bool) → Agrees b r u → cond b (holds u) rejected ≡ rejected → Clash (Added S r t) q
      go true a h = absurd (unfailed h)
      go false a h = record { one = r; other = u; comes = at_new (eqb-true q t e); also = old (w.known q u i); differ = a.no refl }

  held-or : (b : Bool) (s : Shape) → Found s (cond b (holds s) rejected)
  held-or true s = has
  held-or false s = lost

  joined-old : (b : Bool) {x : State} {s : Shape} → Found s x → Found s (cond b (join_state r x) x)
  joined-old false m = m
  joined-old true {s = s} has = held-or (same_shape r s) s
  joined-old true lost = lost

  joined-new : (x : State) → Found r (join_state r x)
  joined-new rejected = lost
  joined-new unreached = has
  joined-new (holds u) = go (same_shape r u) (shape-agrees r u)
    where
      go : (b : Bool) → Agrees b r u → Found r (cond b (holds u) rejected)
      go true a = subst (λ u. Found r (holds u)) (a.yes refl) has
      go false a = lost

  joined-found : (q : ℕ) (s : Shape) → Added S r t q s → Found s (join_at r t f q)
  joined-found q s (old m) = joined-old (eqb q t) (w.found q s m)
  joined-found _ _ new = rw (eq-eqb t t refl) (joined-new (f t))

  joined : Represents (join_at r t f) (Added S r t)
  joined = record {
    known = λ q s h. joined-known q s (eqb q t) refl (f q) refl h;
    clash = λ q h. joined-clash q (eqb q t) refl (f q) refl h;
    found = joined-found;
  }

-- and what an instruction at p leads to
led : (p : ℕ) (m : Move) {f : States} {S : ℕ → Shape → Type 0} → Represents f S → (m ≡ ill_typed → ⊥)
    → Represents (propagate p m f) (λ q s. S q s ⊎ MovesTo p m q s)
led p ill_typed w n = absurd (n refl)
led p (next r) {S = S} w n = likewise (joined w r (suc p)) into out
  where
    into : (q : ℕ) (s : Shape) → Added S r (suc p) q s → S q s ⊎ MovesTo p (next r) q s
    into q s (old m) = inl m
    into _ _ new = inr next_place

    out : (q : ℕ) (s : Shape) → S q s ⊎ MovesTo p (next r) q s → Added S r (suc p) q s
    out q s (inl m) = old m
    out _ _ (inr next_place) = new
led p (jump d r) {S = S} w n = likewise (joined w r (suc p + d)) into out
  where
    into : (q : ℕ) (s : Shape) → Added S r (suc p + d) q s → S q s ⊎ MovesTo p (jump d r) q s
    into q s (old m) = inl m
    into _ _ new = inr jump_target

    out : (q : ℕ) (s : Shape) → S q s ⊎ MovesTo p (jump d r) q s → Added S r (suc p + d) q s
    out q s (inl m) = old m
    out _ _ (inr jump_target) = new
led p (fork d r) {S = S} w n = likewise (joined (joined w r (suc p + d)) r (suc p)) into out
  where
    into : (q : ℕ) (s : Shape) → Added (Added S r (suc p + d)) r (suc p) q s → S q s ⊎ MovesTo p (fork d r) q s
    into q s (old (old m)) = inl m
    into _ _ (old new) = inr taken
    into _ _ new = inr not_taken

    out : (q : ℕ) (s : Shape) → S q s ⊎ MovesTo p (fork d r) q s → Added (Added S r (suc p + d)) r (suc p) q s
    out q s (inl m) = old (old m)
    out _ _ (inr taken) = old new
    out _ _ (inr not_taken) = new

refusing : (m : Move) → (m ≡ ill_typed) ⊎ (m ≡ ill_typed → ⊥)
refusing ill_typed = inl refl
refusing (next r) = inr (λ e. cc)
refusing (jump d r) = inr (λ e. cc)
refusing (fork d r) = inr (λ e. cc)

-- ---- the pass

module _ (reals : Bool) (c : List Instr) where
  abbrev NotAccepted : Type 0
  NotAccepted = (k : Kind) → AcceptsIn reals c k → ⊥

  -- all before p is as `Accepts` asks
  record Before (p : ℕ) : Type 0 where
    each : (q : ℕ) → q < p → well_formed_in reals (length c - suc q) (instr_at c q) ≡ true
    acts : (q : ℕ) (s : Shape) → q < p → ReachedIn reals c q s → move_in reals (instr_at c q) s ≡ ill_typed → ⊥
    one : (q : ℕ) (s r : Shape) → q < p → ReachedIn reals c q s → ReachedIn reals c q r → s ≡ r

  -- what is known when the pass comes to p
  data Known (p : ℕ) (f : States) : Type 0 where
    refuses : NotAccepted → ((q : ℕ) → f q ≡ rejected) → Known p f
    knows : Before p → Represents f (Arrives reals c p) → Known p f

  reached : {p q : ℕ} {s : Shape} → p ≤ length c → Arrives reals c p q s → ReachedIn reals c q s
  reached l first = start
  reached l (from m d w) = onward d (omega arith) w

  clashes : {p q : ℕ} {f : States} → p ≤ length c → Represents f (Arrives reals c p) → f q ≡ rejected → NotAccepted
  clashes {p} {q} l w e k a =
      let b = w.clash q e in
      b.differ (a.one q b.one b.other (reached l b.comes) (reached l b.also))

  module _ {p : ℕ} {f : States} (inside : p < length c) (stood : well_formed_in reals (length c - suc p) (instr_at c p) ≡ true) (a : Before p)
      (w : Represents f (Arrives reals c p)) where
    finds : {s : Shape} → ReachedIn reals c p s → Found s (f p)
    finds {s} d = w.found p s (arrives d)

    -- the instruction at p leads to L, and to nothing else
    further : {g : States} {L : ℕ → Shape → Type 0} → ((q : ℕ) (r : Shape) → L q r → Arrives reals c (suc p) q r)
        → ((x : Shape) (q : ℕ) (r : Shape) → ReachedIn reals c p x → MovesTo p (move_in reals (instr_at c p) x) q r → L q r)
        → Represents g (λ q r. Arrives reals c p q r ⊎ L q r) → Represents g (Arrives reals c (suc p))
    further {L = L} i o v = likewise v into out
      where
        into : (q : ℕ) (r : Shape) → Arrives reals c p q r ⊎ L q r → Arrives reals c (suc p) q r
        into _ _ (inl first) = first
        into _ _ (inl (from {o = n} m d u)) = from {o = n} (omega arith) d u
        into q r (inr m) = i q r m

        out : (q : ℕ) (r : Shape) → Arrives reals c (suc p) q r → Arrives reals c p q r ⊎ L q r
        out _ _ first = inl first
        out q r (from {o = n} {s = x} m d u) =
            upto (λ n. ReachedIn reals c n x → MovesTo n (move_in reals (instr_at c n) x) q r → Arrives reals c p q r ⊎ L q r) p
            (λ n m d u. inl (from m d u)) (λ d u. inr (o x q r d u)) n m d u

    before-next : ((s : Shape) → ReachedIn reals c p s → move_in reals (instr_at c p) s ≡ ill_typed → ⊥)
        → ((s r : Shape) → ReachedIn reals c p s → ReachedIn reals c p r → s ≡ r) → Before (suc p)
    before-next f g = record {
      each = upto (λ q. well_formed_in reals (length c - suc q) (instr_at c q) ≡ true) p a.each stood;
      acts = λ q s l. upto (λ q. ReachedIn reals c q s → move_in reals (instr_at c q) s ≡ ill_typed → ⊥) p (λ q l. a.acts q s l) (f s) q l;
      one = λ q s r l. upto (λ q. ReachedIn reals c q s → ReachedIn reals c q r → s ≡ r) p (λ q l. a.one q s r l) (g s r) q l;
    }

    -- nothing comes to p
    over-it : f p ≡ unreached → Known (suc p) f
    over-it e = knows
        (before-next (λ s d. found_some (finds d) e) (λ s r d. found_some (finds d) e))
        (further {L = λ q r. ⊥} (λ q r m. absurd m) (λ x q r d u. found_some (finds d) e) (likewise w (λ q s m. inl m) out))
      where
        out : (q : ℕ) (s : Shape) → Arrives reals c p q s ⊎ ⊥ → Arrives reals c p q s
        out q s (inl m) = m
        out q s (inr m) = absurd m

    -- the kinds s come to p
    module _ {s : Shape} (e : f p ≡ holds s) where
      here : ReachedIn reals c p s
      here = reached (omega arith) (w.known p s e)

      only : {x : Shape} → ReachedIn reals c p x → x ≡ s
      only d = found-only (finds d) e

      moved : (move_in reals (instr_at c p) s ≡ ill_typed) ⊎ (move_in reals (instr_at c p) s ≡ ill_typed → ⊥)
          → Known (suc p) (propagate p (move_in reals (instr_at c p) s) f)
      moved (inl i) = refuses (λ k a. a.acts p s here inside i) (λ q. ap (λ m. propagate p m f q) i)
      moved (inr n) = knows
          (before-next (λ x d. subst (λ x. move_in reals (instr_at c p) x ≡ ill_typed → ⊥) (sym (only d)) n) (λ x r d u. only d ∙ sym (only u)))
          (further (λ q r u. from (omega arith) here u) (λ x q r d u. subst (λ x. MovesTo p (move_in reals (instr_at c p) x) q r) (only d) u)
          (led p (move_in reals (instr_at c p) s) w n))

    stepped : (x : State) → f p ≡ x → Known (suc p) (transfer_in reals p (instr_at c p) x f)
    stepped rejected e = refuses (clashes (omega arith) w e) (λ q. refl)
    stepped unreached e = over-it e
    stepped (holds s) e = moved e (refusing (move_in reals (instr_at c p) s))

  onto : {p : ℕ} {f : States} → p < length c → well_formed_in reals (length c - suc p) (instr_at c p) ≡ true → Known p f
      → Known (suc p) (transfer_in reals p (instr_at c p) (f p) f)
  onto {p} {f} l t (refuses n z) = rw (z p) (refuses n (λ q. refl))
  onto {p} {f} l t (knows a w) = stepped l t a w (f p) refl

  -- ---- the end

  abbrev Judged : State → Type 0
  Judged = Or reals c (Knows reals c (length c) (λ q. unreached))

  final : {f : States} → Before (length c) → Represents f (Arrives reals c (length c)) → (x : State) → f (length c) ≡ x → (x ≡ rejected → ⊥)
      → Knows reals c (length c) (λ q. unreached) x
  final {f} a w x e n = record {
    comes = record {
      each = a.each;
      acts = a.acts;
      one = a.one;
      flow = λ s i. reached (omega arith) (w.known (length c) s (e ∙ i));
      table = λ q s i. unheld i;
      arrived = λ q r l m. flows (last q r l m) (found-held (subst (Found r) (ap f (last q r l m) ∙ e) (w.found q r m)) n);
    };
    joined = λ s i. unheld i;
  }
    where
      last : (q : ℕ) (r : Shape) → length c ≤ q → Arrives reals c (length c) q r → q ≡ length c
      last q r l m = omega (arith, ahead a.each (reached (omega arith) m))

  ended : {f : States} → Known (length c) f → Judged (f (length c))
  ended (refuses n z) = rw (z (length c)) (Pass.refuses n)
  ended {f} (knows a w) = go (f (length c)) refl
    where
      go : (x : State) → f (length c) ≡ x → Judged x
      go rejected e = Pass.refuses (clashes (omega arith) w e)
      go unreached e = passes unarrived (final a w unreached e unarrived)
      go (holds s) e = passes (λ e. unfailed e) (final a w (holds s) e (λ e. unfailed e))

  -- ---- from the first instruction to the last

  turn : {i : Instr} {left : List Instr} {p : ℕ} {f : States} → Split i left c p → Known p f
      → (Known (suc p) (transfer_in reals p i (f p) f) → Judged (dataflow_in reals left (suc p) (transfer_in reals p i (f p) f)))
      → (b : Bool) → well_formed_in reals (length left) i ≡ b → Judged (cond b (dataflow_in reals left (suc p) (transfer_in reals p i (f p) f)) rejected)
  turn {i} {left} {p} {f} s k ih b e =
      let n : length left ≡ length c - suc p = omega (arith, ap length s.rest, length-drop (suc p) c, s.inside) in
      go b (ap (λ n. well_formed_in reals n (instr_at c p)) (sym n) ∙ ap (well_formed_in reals (length left)) (sym s.first) ∙ e)
    where
      go : (b : Bool) → well_formed_in reals (length c - suc p) (instr_at c p) ≡ b
          → Judged (cond b (dataflow_in reals left (suc p) (transfer_in reals p i (f p) f)) rejected)
      go true t = ih (subst (λ i. Known (suc p) (transfer_in reals p i (f p) f)) (sym s.first) (onto s.inside t k))
      go false t = Pass.refuses (λ k a. true≢false (sym (a.each p s.inside) ∙ t))

  passed : (left : List Instr) (p : ℕ) (f : States) → left ≡ drop p c → p ≤ length c → Known p f → Judged (dataflow_in reals left p f)
  unfolding dataflow_in
  passed [] p f e l k =
      let n : p ≡ length c = omega (arith, ap length e, length-drop p c) in
      rw n (ended (rw n at k))
  passed (i ∷ left) p f e l k =
      let s = split i left c p e in
      turn s k (passed left (suc p) (transfer_in reals p i (f p) f) s.rest s.inside) (well_formed_in reals (length left) i) refl

  begun : Known 0 entry_states
  begun = knows before-none (likewise (joined none [] 0) into out)
    where
      before-none : Before 0
      before-none = record { each = λ q l. absurd (omega arith); acts = λ q s l. absurd (omega arith); one = λ q s r l. absurd (omega arith) }

      none : Represents (λ q. unreached) (λ q s. ⊥)
      none = record { known = λ q s e. unheld e; clash = λ q e. absurd (unarrived e); found = λ q s m. absurd m }

      into : (q : ℕ) (s : Shape) → Added (λ q s. ⊥) [] 0 q s → Arrives reals c 0 q s
      into q s (old m) = absurd m
      into _ _ new = first

      out : (q : ℕ) (s : Shape) → Arrives reals c 0 q s → Added (λ q s. ⊥) [] 0 q s
      out _ _ first = new
      out _ _ (from m d u) = absurd (omega arith)

  judged : Judged (dataflow_in reals c 0 entry_states)
  judged = passed c 0 entry_states refl (omega arith) begun

-- ---- the laws

unaccepted : {X : Type 0} {k : Kind} → None ≡ Some k → X
unaccepted e = cc

pub sound : (reals : Bool) (c : List Instr) (k : Kind) → verdict_in reals c ≡ Some k → AcceptsIn reals c k
unfolding dataflow_in
sound reals [] k e = unaccepted e
sound reals (i ∷ left) k e = go (leb (length (i ∷ left)) 2048) refl e
  where
    go : (b : Bool) → leb (length (i ∷ left)) 2048 ≡ b → cond b (verdict_of (dataflow_in reals (i ∷ left) 0 entry_states)) None ≡ Some k
        → AcceptsIn reals (i ∷ left) k
    go true l e = verdict-sound (omega arith) (leb-true (length (i ∷ left)) 2048 l) (judged reals (i ∷ left)) k e
    go false l e = unaccepted e

pub complete : (reals : Bool) (c : List Instr) (k : Kind) → AcceptsIn reals c k → verdict_in reals c ≡ Some k
complete reals c k a = rw (le-leb (length c) 2048 a.few) (verdict-complete (judged reals c) k a)

pub determined : (reals : Bool) (code : List ℕ) (n : ℕ) (v : Option Kind) → CorrectVerdictIn reals code n v → v ≡ verdict_in reals (instructions code n)
determined reals code n (Some k) r = sym (complete reals (instructions code n) k (r.sound k refl))
determined reals code n None r = go (verdict_in reals (instructions code n)) refl
  where
    go : (v : Option Kind) → verdict_in reals (instructions code n) ≡ v → None ≡ verdict_in reals (instructions code n)
    go (Some k) e = r.complete k (sound reals (instructions code n) k e) ∙ sym e
    go None e = sym e

-- ---- with reals

pub correct : (code : List ℕ) (n : ℕ) (v : Option Kind) → v ≡ verdict_in true (instructions code n) → CorrectVerdict code n v
correct code n v e = record {
  sound = λ k f. full-accepts (instructions code n) k (sound true (instructions code n) k (sym e ∙ f));
  complete = λ k a. e ∙ complete true (instructions code n) k (accepts-full (instructions code n) k a);
}

pub verdict-laws : VerdictLaws
verdict-laws = record {
  exact = λ c k. (λ e. full-accepts c k (sound true c k (full_verdict c ∙ e)), λ a. sym (full_verdict c) ∙ complete true c k (accepts-full c k a));
  unique = λ c j k a b. let e : j ∷ [] ≡ k ∷ [] = a.one (length c) (j ∷ []) (k ∷ []) a.ended b.ended in cc;
  determined = λ code n v r. determined true code n v (in-full r) ∙ full_verdict (instructions code n);
}
  where
    in-full : {code : List ℕ} {n : ℕ} {v : (Option Kind)} → CorrectVerdict code n v → CorrectVerdictIn true code n v
    in-full {code} {n} r = record {
      sound = λ k e. accepts-full (instructions code n) k (r.sound k e);
      complete = λ k a. r.complete k (full-accepts (instructions code n) k a);
    }
