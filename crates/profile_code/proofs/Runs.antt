-- On code that the profile's check accepts, the machine without reals does what the full one does.
use mathlib.Core.Path.{◌≡◌, refl, sym, ap, ◌∙◌, subst}
use mathlib.Core.Bool.{Bool, true, false, cond}
use mathlib.Core.List.{List, [], ◌∷◌, map}
use Prim.Native.Nat.{ℕ, zero, suc}
use lib.ListN.{length}
use Rattle.values.specs.declared.Kind.{Kind}
use Rattle.values.specs.declared.Kind.TheVariants.{Real}
use Rattle.values.specs.declared.Value.{Value}
use Rattle.values.specs.Values.{kind_of}
use Rattle.operators.specs.declared.UnaryOp.{UnaryOp}
use Rattle.operators.specs.declared.UnaryOp.TheVariants as U
use Rattle.operators.specs.Kinds.{is_int}
use Rattle.memory.specs.declared.Bank.{Bank}
use Rattle.memory.specs.Environment.{Environment}
use Rattle.totals.specs.declared.TotalOp.{TotalOp}
use Rattle.totals.specs.declared.TotalOp.TheVariants as T'
use Rattle.code.specs.declared.Instr.{Instr}
use Rattle.code.specs.declared.Instr.TheVariants.{PushInt, PushReal, Load, LoadIndexed, Unary, Binary, Jump, JumpIf, Tick, Since, Total, Match, Unknown}
use Rattle.machine.specs.declared.Ended.TheVariants.{Stuck}
use Rattle.machine.specs.declared.Ran.{Ran}
use Rattle.machine.specs.Machine.{Next, goes, halts, act, cost, counting, exec}
use Rattle.machine.specs.Configurations.{Configuration, skip, step}
use Rattle.machine.proofs.Laws.{onward as after}
use Rattle.verifier.specs.Typing.{Shape, ill_typed, next, has_room, move_of}
use Rattle.verifier.specs.Accepts.{instr_at}
use Rattle.verifier.specs.Safety.{Kinded}
use Rattle.verifier.proofs.Safe.{here, there, place}
use Rattle.profile.specs.Parts.{real_bank}
use Rattle.code.specs.Reals.{reads_real}
use Rattle.verifier.specs.Profile.{all_int, held_after, move_in, AcceptsIn}
use Rattle.machine.specs.Profile.{real_among, barred, exec_in}
use Rattle.profile.proofs.Tests.{both}
use Rattle.profile_code.proofs.Checked.{integers, no_reader, acts-in, accepted}

-- ---- an instruction that the profile lets through is barred by nothing

one_int : (v : Value) (st : List Value) → all_int (map kind_of (v ∷ st)) ≡ true → real_among 1 (v ∷ st) ≡ false
one_int v st e = rw (both (is_int (kind_of v)) (all_int (map kind_of st)) e).0 refl

two-int : (w v : Value) (st : List Value) → all_int (map kind_of (w ∷ (v ∷ st))) ≡ true → real_among 2 (w ∷ (v ∷ st)) ≡ false
two-int w v st e =
    let h = both (is_int (kind_of w)) (all_int (map kind_of (v ∷ st))) e in
    rw (h.0, (both (is_int (kind_of v)) (all_int (map kind_of st)) h.1).0) refl

-- a real would be held
no-real : (b : Bool) (s : Shape) → cond (all_int (held_after (cond b (next (Real ∷ s)) ill_typed))) (cond b (next (Real ∷ s)) ill_typed) ill_typed ≡ ill_typed
no-real true s = refl
no-real false s = refl

unbarred-unary : (o : UnaryOp) (v : Value) (st : List Value) → (move_in false (Unary o) (map kind_of (v ∷ st)) ≡ ill_typed → ⊥)
    → all_int (map kind_of (v ∷ st)) ≡ true → barred (Unary o) (v ∷ st) ≡ false
unfolding move_of
unbarred-unary U.Neg v st n a = one_int v st a
unbarred-unary U.Complement v st n a = one_int v st a
unbarred-unary U.Not v st n a = one_int v st a
unbarred-unary U.Abs v st n a = one_int v st a
unbarred-unary U.ToReal v st n a = absurd (n refl)
unbarred-unary U.Trunc v st n a = one_int v st a
unbarred-unary U.Round v st n a = one_int v st a
unbarred-unary U.Frac v st n a = absurd (n refl)

unbarred-total : (o : TotalOp) (b : Bank) (i m : ℕ) (st : List Value) → real_bank b ≡ false → (move_in false (Total o b i m) (map kind_of st) ≡ ill_typed → ⊥)
    → barred (Total o b i m) st ≡ false
unfolding move_of
unbarred-total T'.Sum b i m st e n = rw e refl
unbarred-total T'.Average b i m st e n = absurd (n (no-real (has_room (map kind_of st)) (map kind_of st)))
unbarred-total (T'.Choice o) b i m st e n = rw e refl

unbarred : (i : Instr) (st : List Value) → reads_real i ≡ false → (move_in false i (map kind_of st) ≡ ill_typed → ⊥) → all_int (map kind_of st) ≡ true
    → barred i st ≡ false
unfolding move_of
unbarred (PushInt z) st e n a = refl
unbarred (PushReal x) st e n a = absurd (n (no-real (has_room (map kind_of st)) (map kind_of st)))
unbarred (Load b i) st e n a = let t : real_bank b ≡ false = e in rw t refl
unbarred (LoadIndexed b) [] e n a = absurd (n refl)
unbarred (LoadIndexed b) (v ∷ st) e n a = let t : real_bank b ≡ false = e in rw t (one_int v st a)
unbarred (Unary o) [] e n a = absurd (n refl)
unbarred (Unary o) (v ∷ st) e n a = unbarred-unary o v st n a
unbarred (Binary o) [] e n a = absurd (n refl)
unbarred (Binary o) (w ∷ []) e n a = absurd (n refl)
unbarred (Binary o) (w ∷ (v ∷ st)) e n a = two-int w v st a
unbarred (Jump d) st e n a = refl
unbarred (JumpIf t d) [] e n a = absurd (n refl)
unbarred (JumpIf t d) (v ∷ st) e n a = one_int v st a
unbarred Tick st e n a = refl
unbarred Since [] e n a = absurd (n refl)
unbarred Since (v ∷ st) e n a = one_int v st a
unbarred (Total o b i m) st e n a = unbarred-total o b i m st e n
unbarred (Match o b i m) [] e n a = absurd (n refl)
unbarred (Match o b i m) (v ∷ st) e n a = let t : real_bank b ≡ false = e in rw t (one_int v st a)
unbarred Unknown st e n a = refl

-- ---- a run

among-all : (st : List Value) → all_int (map kind_of st) ≡ true → real_among (length st) st ≡ false
among-all [] e = refl
among-all (v ∷ st) e = let h = both (is_int (kind_of v)) (all_int (map kind_of st)) e in rw h.0 (among-all st h.1)

module _ (E : Environment) (K : Kinded E) (c : List Instr) (k : Kind) (acc : AcceptsIn false c k) where
  pub held-ints : {left : List Instr} {d : ℕ} {st : List Value} → Configuration E c left d st → real_among (length st) st ≡ false
  held-ints {st = st} C = among-all st (integers c k acc _ _ (place E K c k (accepted c k acc) C).1.reached)

  let_through : {i : Instr} {left : List Instr} {st : List Value} → Configuration E c (i ∷ left) 0 st → barred i st ≡ false
  let_through {i} {left} {st} C =
      let a = place E K c k (accepted c k acc) C in
      let p = a.0 in
      let b = here E K c k (accepted c k acc) a.1 in
      let r = there E K c k (accepted c k acc) a.1 in
      subst (λ (j : Instr). barred j st ≡ false) (sym b.first)
      (unbarred (instr_at c p) st (no_reader c k acc p b.inside) (acts-in c k acc p (map kind_of st) r b.inside) (integers c k acc p (map kind_of st) r))

  -- what follows an instruction is the same in both machines
  same_after : {i : Instr} {left : List Instr} {st : List Value} → Configuration E c (i ∷ left) 0 st
      → ((d : ℕ) (st' : List Value) → Configuration E c left d st' → exec_in false E left d st' ≡ exec E left d st')
      → (n : ℕ) (x : Next) → act E i st ≡ x
      → elim x as (λ x. Ran) [ goes d st' ↦ counting n (exec_in false E left d st') | halts e ↦ record { end = e; count = n } ] ≡ after E n left x
  same_after C ih n (goes d st') e = ap (counting n) (ih d st' (step C e))
  same_after C ih n (halts x) e = refl

  pub same_run : (left : List Instr) (d : ℕ) (st : List Value) → Configuration E c left d st → exec_in false E left d st ≡ exec E left d st
  unfolding exec exec_in
  same_run [] zero st C = refl
  same_run [] (suc d) st C = refl
  same_run (i ∷ left) (suc d) st C = same_run left d st (skip C)
  same_run (i ∷ left) zero st C =
      ap (λ (b : Bool). elim (cond b (halts Stuck) (act E i st)) as (λ x. Ran) [
        | goes d st' ↦ counting (cond b 1 (cost E i st)) (exec_in false E left d st')
        | halts e ↦ record { end = e; count = cond b 1 (cost E i st) }
      ]) (let_through C)
      ∙ same_after C (same_run left) (cost E i st) (act E i st) refl
