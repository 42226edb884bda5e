-- Accepted code, whatever it reads of the right kinds, reaches its end or a fault, and holds what each instruction takes: `Safe`, and that a
-- memory's reads are of the right kinds.
use mathlib.Core.Path.{◌≡◌, refl, sym, ap, subst}
use mathlib.Core.Bool.{Bool, true, false, cond, beq}
use mathlib.Core.List.{List, [], ◌∷◌, map}
use Prim.Native.Nat.{ℕ, zero, suc, ◌+◌, ◌≤◌, ◌<◌}
use native.Mathlib.Nat.{add-zero, le_trans}
use native.Mathlib.Omega.{arith}
use lib.Dec.{T}
use lib.ListN.{length, drop, length-drop, length-map}
use borrow.Author.Tests.{lt-ltb}
use Rattle.values.specs.declared.Kind.{Kind}
use Rattle.values.specs.declared.Value.{Value}
use Rattle.values.specs.declared.Fault.{Fault}
use Rattle.values.specs.declared.Outcome.{Outcome}
use Rattle.values.specs.Values.{kind_of}
use Rattle.operators.specs.Operators.{truth_rule}
use Rattle.operators.specs.Kinds.{is_int, unary_takes, binary_takes}
use Rattle.operators.specs.Laws.{OfKind, done, stopped}
use Rattle.operators.proofs.Laws.{rule-laws}
use Rattle.memory.specs.declared.Bank.{Bank}
use Rattle.memory.specs.Cells.{bank_kind, position_rule}
use Rattle.memory.specs.Environment.{Environment, indexed_cell, memory_of}
use Rattle.memory.proofs.Laws.{memory-laws}
use Rattle.memory.proofs.Positions.{position-has}
use Rattle.totals.proofs.Laws.{total-laws}
use Rattle.code.specs.declared.Instr.{Instr}
use Rattle.code.specs.declared.Instr.TheVariants.{PushInt, PushReal, Load, LoadIndexed, Unary, Binary, Jump, JumpIf, Tick, Since, Total, Match, Unknown}
use Rattle.code.specs.Instructions.{instructions}
use Rattle.machine.specs.declared.Ended.TheVariants.{Stopped}
use Rattle.machine.specs.Machine.{max_height, Next, goes, halts, push_value, push_outcome, act, cost, finish, exec}
use Rattle.machine.specs.Configurations.{Configuration, first, skip, step, Finishes}
use Rattle.machine.proofs.Laws.{onward as after, count_most}
use Rattle.machine.proofs.Bounds.{bound-code}
use Rattle.verifier.specs.Typing.{Shape, Move, ill_typed, next, fork, push_kind, move_of}
use Rattle.verifier.specs.Accepts.{MovesTo, next_place, jump_target, not_taken, taken, instr_at, Reached, start, onward, Accepts}
use Rattle.verifier.specs.Stack.{HasOperands, push-int, push-real, load, load-indexed, unary, binary, jump_always, jump-if, push-tick, since}
use Rattle.verifier.specs.Stack.{total, matching, StackSafe}
use Rattle.verifier.specs.Safety.{Kinded, EndsWell, value, fault, Safe}
use Rattle.verifier.proofs.Moves.{allowed, has_room_lem, Split, split, within}

-- ---- what is read

pub indexed-kind : {E : Environment} → Kinded E → (b : Bank) (v : Value) → OfKind (bank_kind b) (indexed_cell E b v)
indexed-kind {E} K b v = position-has (OfKind (bank_kind b)) (E.cell b) (K.cell b) (λ f. stopped f) (position_rule b v)

-- ---- one instruction

-- what an instruction leads to, at p, is a fault or what the check says, the move m
data Follows (p : ℕ) (m : Move) : Next → Type 0 where
  ends : (f : Fault) → Follows p m (halts (Stopped f))
  leads : {d : ℕ} {st : List Value} → MovesTo p m (suc p + d) (map kind_of st) → length st ≤ max_height → Follows p m (goes d st)

on-next : (p : ℕ) (r : Shape) → MovesTo p (next r) (suc p + 0) r
on-next p r = subst (λ n. MovesTo p (next r) n r) (sym (add-zero (suc p))) next_place

stay-next : (p d : ℕ) (r : Shape) → MovesTo p (fork d r) (suc p + 0) r
stay-next p d r = subst (λ n. MovesTo p (fork d r) n r) (sym (add-zero (suc p))) not_taken

module _ (p : ℕ) (st : List Value) where
  pushes : (v : Value) (k : Kind) → kind_of v ≡ k → length st < max_height → Follows p (next (k ∷ map kind_of st)) (push_value v st)
  pushes v k e h = rw (lt-ltb (length st) max_height h) (leads (subst (λ k. MovesTo p (next (k ∷ map kind_of st)) (suc p + 0) (map kind_of (v ∷ st))) e
      (on-next p _)) h)

  gives : {o : Outcome} {k : Kind} → OfKind k o → length st < max_height → Follows p (next (k ∷ map kind_of st)) (push_outcome o st)
  gives {k = k} (done v e) h = pushes v k e h
  gives (stopped f) h = ends f

  -- a push, where there is room for it
  fits : {o : Outcome} {k : Kind} → OfKind k o → (push_kind k (map kind_of st) ≡ ill_typed → ⊥) → Follows p (push_kind k (map kind_of st)) (push_outcome o st)
  fits {o} {k} w n =
      let l : length (map kind_of st) < max_height = has_room_lem k (map kind_of st) n in
      rw (lt-ltb (length (map kind_of st)) max_height l) (gives w (omega (arith, length-map st kind_of)))

  -- an operator, where it takes the kinds
  takes : (b : Bool) {o : Outcome} {k : Kind} → (T b → OfKind k o) → length st < max_height → (cond b (next (k ∷ map kind_of st)) ill_typed ≡ ill_typed → ⊥)
      → Follows p (cond b (next (k ∷ map kind_of st)) ill_typed) (push_outcome o st)
  takes true w h n = gives (w tt) h
  takes false w h n = absurd (n refl)

  jumps : (d : ℕ) (b : Bool) → length st ≤ max_height → Follows p (fork d (map kind_of st)) (cond b (goes d st) (goes 0 st))
  jumps d true h = leads taken h
  jumps d false h = leads (stay-next p d (map kind_of st)) h

module _ (E : Environment) (K : Kinded E) where
  follows : (p : ℕ) (i : Instr) (st : List Value) → length st ≤ max_height → (move_of i (map kind_of st) ≡ ill_typed → ⊥)
      → Follows p (move_of i (map kind_of st)) (act E i st)
  unfolding move_of act
  follows p (PushInt z) st h n = fits p st (done _ refl) n
  follows p (PushReal x) st h n = fits p st (done _ refl) n
  follows p (Load b i) st h n = fits p st (K.cell b i) n
  follows p (LoadIndexed b) [] h n = absurd (n refl)
  follows p (LoadIndexed b) (v ∷ st) h n = gives p st (indexed-kind K b v) h
  follows p (Unary o) [] h n = absurd (n refl)
  follows p (Unary o) (v ∷ st) h n = takes p st (unary_takes o (kind_of v)) (rule-laws.unary-kind o v) h n
  follows p (Binary o) [] h n = absurd (n refl)
  follows p (Binary o) (w ∷ []) h n = absurd (n refl)
  follows p (Binary o) (w ∷ (v ∷ st)) h n = takes p st (binary_takes o (kind_of v) (kind_of w)) (rule-laws.binary-kind o v w) (omega arith) n
  follows p (Jump d) st h n = leads jump_target h
  follows p (JumpIf t d) [] h n = absurd (n refl)
  follows p (JumpIf t d) (v ∷ st) h n = jumps p st d (beq (truth_rule v) t) (omega arith)
  follows p Tick st h n = fits p st (done _ refl) n
  follows p Since [] h n = absurd (n refl)
  follows p Since (v ∷ st) h n = takes p st (is_int (kind_of v)) (rule-laws.since-kind E.tick v) h n
  follows p (Total o b i n') st h n = fits p st (total-laws.total-kind E o b i n' (K.cell b)) n
  follows p (Match o b i n') [] h n = absurd (n refl)
  follows p (Match o b i n') (v ∷ st) h n = gives p st (total-laws.match-kind E o v b i n' (K.cell b)) h
  follows p Unknown st h n = absurd (n refl)

-- ---- what an instruction takes

operands : (i : Instr) (s : Shape) → (move_of i s ≡ ill_typed → ⊥) → HasOperands i s
unfolding move_of
operands (PushInt z) s n = push-int
operands (PushReal x) s n = push-real
operands (Load b i) s n = load
operands (LoadIndexed b) [] n = absurd (n refl)
operands (LoadIndexed b) (k ∷ s) n = load-indexed
operands (Unary o) [] n = absurd (n refl)
operands (Unary o) (k ∷ s) n = unary (allowed (unary_takes o k) _ n)
operands (Binary o) [] n = absurd (n refl)
operands (Binary o) (k ∷ []) n = absurd (n refl)
operands (Binary o) (k ∷ (j ∷ s)) n = binary (allowed (binary_takes o j k) _ n)
operands (Jump d) s n = jump_always
operands (JumpIf t d) [] n = absurd (n refl)
operands (JumpIf t d) (k ∷ s) n = jump-if
operands Tick s n = push-tick
operands Since [] n = absurd (n refl)
operands Since (k ∷ s) n = since (allowed (is_int k) _ n)
operands (Total o b i m) s n = total
operands (Match o b i m) [] n = absurd (n refl)
operands (Match o b i m) (k ∷ s) n = matching
operands Unknown s n = absurd (n refl)

-- ---- a run

last : (st : List Value) (k : Kind) → map kind_of st ≡ k ∷ [] → EndsWell k (finish st)
last [] k e = cc
last (v ∷ []) k e = value v (cc)
last (v ∷ (w ∷ st)) k e = cc

-- where it goes on, and how it ends
led : {p d : ℕ} {m : Move} {st : List Value} → Follows p m (goes d st) → MovesTo p m (suc p + d) (map kind_of st) × (length st ≤ max_height)
led (leads w h) = (w, h)

module _ (E : Environment) (K : Kinded E) (c : List Instr) (k : Kind) (acc : Accepts c k) where
  -- a configuration of accepted code: the instructions left begin at the place p, and the one d further on is reached with the kinds of the values held
  pub record At (left : List Instr) (d : ℕ) (st : List Value) (p : ℕ) : Type 0 where
    pub rest : left ≡ drop p c
    pub reached : Reached c (p + d) (map kind_of st)
    pub room : length st ≤ max_height
    pub in_code : p + d ≤ length c

  -- what the instruction at p leads to
  module _ {i : Instr} {left : List Instr} {st : List Value} {p : ℕ} (a : At (i ∷ left) 0 st p) where
    pub here : Split i left c p
    here = split i left c p a.rest

    pub there : Reached c p (map kind_of st)
    there = subst (λ n. Reached c n (map kind_of st)) (add-zero p) a.reached

    able : move_of i (map kind_of st) ≡ ill_typed → ⊥
    able = subst (λ i. move_of i (map kind_of st) ≡ ill_typed → ⊥) (sym here.first) (acc.acts p (map kind_of st) there here.inside)

    after-it : {x : Next} → act E i st ≡ x → Follows p (move_of (instr_at c p) (map kind_of st)) x
    after-it {x} e = subst (λ i. Follows p (move_of i (map kind_of st)) x) here.first
        (subst (Follows p (move_of i (map kind_of st))) e (follows E K p i st a.room able))

    steps : {d : ℕ} {st' : List Value} → act E i st ≡ goes d st' → At left d st' (suc p)
    steps e =
        let w = led (after-it e) in
        record {
          rest = here.rest;
          reached = onward there here.inside w.0;
          room = w.1;
          in_code = within true (instr_at c p) (map kind_of st) here.inside (acc.each p here.inside) w.0;
        }

  skips : {i : Instr} {left : List Instr} {d : ℕ} {st : List Value} {p : ℕ} → At (i ∷ left) (suc d) st p → At left d st (suc p)
  skips {i} {left} {d} {st} {p} a =
      let n : p + suc d ≡ suc p + d = omega arith in
      record {
        rest = (split i left c p a.rest).rest;
        reached = subst (λ n. Reached c n (map kind_of st)) n a.reached;
        room = a.room;
        in_code = omega (arith, a.in_code);
      }

  pub place : {left : List Instr} {d : ℕ} {st : List Value} → Configuration E c left d st → (p : ℕ) × At left d st p
  place first = (0, record { rest = refl; reached = start; room = omega arith; in_code = omega arith })
  place (skip C) = let a = place C in (suc a.0, skips a.1)
  place (step C e) = let a = place C in (suc a.0, steps a.1 e)

  -- ---- what is held

  result : {st : List Value} → Finishes E c st → map kind_of st ≡ k ∷ []
  result {st} C =
      let a = place C in
      let q : a.0 + 0 ≡ length c = omega (arith, ap length a.1.rest, length-drop a.0 c, a.1.in_code) in
      acc.one (length c) (map kind_of st) (k ∷ []) (subst (λ n. Reached c n (map kind_of st)) q a.1.reached) acc.ended

  stack : StackSafe E c k
  stack = record {
    height = λ C. (place C).1.room;
    operands = λ {i} {st} b. operands i (map kind_of st) (able (place b.1).1);
    result = result;
  }

  -- ---- how it ends

  goes_on : {i : Instr} {left : List Instr} {st : List Value} → Configuration E c (i ∷ left) 0 st
      → ((d : ℕ) (st' : List Value) → Configuration E c left d st' → EndsWell k (exec E left d st').end)
      → (n : ℕ) (x : Next) → act E i st ≡ x → {p : ℕ} {m : Move} → Follows p m x → EndsWell k (after E n left x).end
  goes_on C ih n (halts _) e (ends f) = fault f
  goes_on C ih n (goes d st') e (leads w h) = ih d st' (step C e)

  runs : (left : List Instr) (d : ℕ) (st : List Value) → Configuration E c left d st → EndsWell k (exec E left d st).end
  unfolding exec
  runs [] zero st C = last st k (result C)
  runs [] (suc d) st C =
      let a = place C in
      absurd (omega (arith, ap length a.1.rest, length-drop a.0 c, a.1.in_code))
  runs (i ∷ left) (suc d) st C = runs left d st (skip C)
  runs (i ∷ left) zero st C = goes_on C (runs left) (cost E i st) (act E i st) refl (after-it (place C).1 refl)

pub safe : Safe
safe = record {
  ends = λ E c k K acc. runs E K c k acc c 0 [] first;
  counts = λ E c. count_most E c 0 [];
  counts_code = λ E code n. le_trans (count_most E (instructions code n) 0 []) (bound-code code n);
  stack = λ E c k K acc. stack E K c k acc;
}

-- ---- an actual memory

pub memory-kinded : (s : List ℕ) → Kinded (memory_of s)
memory-kinded s = record { cell = memory-laws.read-kind s }
