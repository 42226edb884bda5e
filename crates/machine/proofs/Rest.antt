-- What is left to run from a place gives what the whole run gives: where the loop begins, after one instruction, and at the end of the code.
use mathlib.Core.Path.{◌≡◌, refl, ap}
use mathlib.Core.Bool.{Bool, true, false, cond}
use mathlib.Core.List.{List, [], ◌∷◌}
use Prim.Native.Nat.{ℕ, zero, suc, ◌+◌, ◌-◌, ◌/◌, ◌≤◌, ◌<◌}
use native.Mathlib.Nat.{add-zero, zero-add, sub-zero, suc-sub-suc}
use native.Mathlib.Numerals.{add-one}
use native.Mathlib.Omega.{arith}
use lib.Dec.{ltb}
use lib.ListN.{length}
use borrow.Author.Tests.{ltb-true, ltb-false}
use Rattle.values.specs.declared.Value.{Value}
use Rattle.memory.specs.Environment.{Environment}
use Rattle.code.specs.declared.Instr.TheVariants.{Unknown}
use Rattle.code.specs.Instructions.{decode_at, decode_from}
use Rattle.code.proofs.Parts.{decode-beyond}
use Rattle.machine.specs.declared.Ended.{Ended}
use Rattle.machine.specs.declared.Ended.TheVariants.{Stuck}
use Rattle.machine.specs.declared.Ran.{Ran}
use Rattle.machine.specs.Machine.{Next, goes, halts, act, finish, counting}
use Rattle.machine.specs.Profile.{act_in, cost_in, exec_in}
use Rattle.machine.specs.private.Steps.{minimum, ended_at, stuck_at, finish_of, finished_at}
use Rattle.machine.proofs.Barred.{cost-in}
use Rattle.machine.proofs.Profile.{onward-in, next-in}

-- k counted before
abbrev pub adding : ℕ → Ran → Ran
adding k r = ended_at (k + r.count) r.end

adding-none : (r : Ran) → adding 0 r ≡ r
adding-none r = ap (λ (x : ℕ). ended_at x r.end) (zero-add r.count)

adding-more : (k n : ℕ) (r : Ran) → adding (k + n) r ≡ adding k (counting n r)
adding-more k n r =
    let e : k + n + r.count ≡ k + (n + r.count) = omega arith in
    ap (λ (x : ℕ). ended_at x r.end) e

decode-next : (code : List ℕ) (p q : ℕ) → decode_from code p (suc q) ≡ decode_at code p ∷ decode_from code (suc p) q
unfolding decode_from
decode-next code p q = refl

module _ (reals : Bool) (E : Environment) (code : List ℕ) where
  -- q instructions from the place p on, the first d of them skipped
  skip : (d p q : ℕ) (st : List Value) → d ≤ q
      → exec_in reals E (decode_from code p q) d st ≡ exec_in reals E (decode_from code (p + d) (q - d)) 0 st
  unfolding exec_in decode_from
  skip zero p q st h = rw (add-zero, sub-zero)
  skip (suc d) p zero st h = absurd (omega arith)
  skip (suc d) p (suc q) st h =
      let a : p + suc d ≡ suc p + d = omega arith in
      rw (a, suc-sub-suc q d) (skip d (suc p) q st (omega arith))

  lost : (d p q : ℕ) (st : List Value) → q < d → exec_in reals E (decode_from code p q) d st ≡ stuck_at 0
  unfolding exec_in decode_from
  lost zero p q st h = absurd (omega arith)
  lost (suc d) p zero st h = refl
  lost (suc d) p (suc q) st h = lost d (suc p) q st (omega arith)

  abbrev pub whole_run : ℕ → Ran
  whole_run n = exec_in reals E (decode_from code 0 n) 0 []

  -- from the place p on, with the values st held and k counted
  pub record Left (n p : ℕ) (st : List Value) (k : ℕ) : Type 0 where
    pub same : adding k (exec_in reals E (decode_from code p (n - p)) 0 st) ≡ whole_run n

  pub begin : (n : ℕ) → Left n 0 [] 0
  begin n = record { same = rw sub-zero (adding-none (whole_run n)) }

module _ {reals : Bool} {E : Environment} {code : List ℕ} {n p : ℕ} {st : List Value} {k : ℕ} where
  -- an instruction that adds m
  module _ (h : p < n) (L : Left reals E code n p st k) (m : ℕ) (z : cost_in reals E (decode_at code p) st ≡ m) where
    stepped : {x : Next} → act_in reals E (decode_at code p) st ≡ x
        → adding k (onward-in reals E m (decode_from code (p + 1) (n - (p + 1))) x) ≡ whole_run reals E code n
    stepped a =
        let u : n - p ≡ suc (n - (p + 1)) = omega arith in
        rw (← a, ← z, ← next-in) (rw (u, decode-next, ← (add-one p)) at L.same)

    pub goes_on : {d : ℕ} {st' : List Value} → act_in reals E (decode_at code p) st ≡ goes d st' → d ≤ n - (p + 1)
        → Left reals E code n (p + 1 + d) st' (k + m)
    goes_on {d} {st'} a l =
        let q : n - (p + 1 + d) ≡ n - (p + 1) - d = omega arith in
        record { same = rw (q, adding-more, ← (skip reals E code d (p + 1) (n - (p + 1)) st' l)) (stepped a) }

    pub stops : {e : Ended} → act_in reals E (decode_at code p) st ≡ halts e → ended_at (k + m) e ≡ whole_run reals E code n
    stops a = stepped a

    -- a jump past the end
    pub strays : {d : ℕ} {st' : List Value} → act_in reals E (decode_at code p) st ≡ goes d st' → n - (p + 1) < d
        → stuck_at (k + m) ≡ whole_run reals E code n
    strays {d} {st'} a l = rw (lost reals E code d (p + 1) (n - (p + 1)) st' l, add-zero) at (stepped a)

  pub ends : {e : Ended} → n ≤ p → Left reals E code n p st k → finish st ≡ e → ended_at k e ≡ whole_run reals E code n
  unfolding exec_in decode_from
  ends h L f =
      let u : n - p ≡ 0 = omega arith in
      rw (u, add-zero, f) at L.same

unknown-stuck : (reals : Bool) (E : Environment) (st : List Value) → act_in reals E Unknown st ≡ halts Stuck
unfolding act
unknown-stuck true E st = refl
unknown-stuck false E st = refl

unknown-cost : (reals : Bool) (E : Environment) (st : List Value) → cost_in reals E Unknown st ≡ 1
unknown-cost true E st = cost-in true E Unknown st
unknown-cost false E st = cost-in false E Unknown st

pub minimum-left : (a b : ℕ) → minimum a b ≤ a
minimum-left a b = by (ltb a b) refl
  where
    by : (t : Bool) → ltb a b ≡ t → cond t a b ≤ a
    by true e = omega arith
    by false e = ltb-false a b e

pub minimum-right : (a b : ℕ) → minimum a b ≤ b
minimum-right a b = by (ltb a b) refl
  where
    by : (t : Bool) → ltb a b ≡ t → cond t a b ≤ b
    by true e = omega (arith, ltb-true a b e)
    by false e = omega arith

-- below n, it is the code that ends
no_more : (n m p : ℕ) → p < n → minimum n m ≤ p → m ≤ p
no_more n m p h q = by (ltb n m) q
  where
    by : (t : Bool) → cond t n m ≤ p → m ≤ p
    by true r = absurd (omega arith)
    by false r = r

-- at the place p, which a jump may have left beyond the end
pub record Stands (reals : Bool) (E : Environment) (code : List ℕ) (n p : ℕ) (st : List Value) (k : ℕ) : Type 0 where
  pub within : p ≤ n → Left reals E code n p st k
  pub beyond : n < p → stuck_at k ≡ whole_run reals E code n

pub starts : (reals : Bool) (E : Environment) (code : List ℕ) (n : ℕ) → Stands reals E code n 0 [] 0
starts reals E code n = record { within = λ q. begin reals E code n; beyond = λ q. absurd (omega arith) }

module _ {reals : Bool} {E : Environment} {code : List ℕ} {n p : ℕ} {st : List Value} {k : ℕ} where
  pub advances : p < n → Left reals E code n p st k → (m : ℕ) → cost_in reals E (decode_at code p) st ≡ m → {d : ℕ} {st' : List Value}
      → act_in reals E (decode_at code p) st ≡ goes d st' → Stands reals E code n (p + (1 + d)) st' (k + m)
  advances h L m z {d} a =
      let next : p + (1 + d) ≡ p + 1 + d = omega arith in
      record {
        within = λ q. rw next (goes_on h L m z a (omega arith));
        beyond = λ q. strays h L m z a (omega arith);
      }

  -- where the code has no instruction
  pub finishes : (h : ℕ) (v : Value) → Stands reals E code n p st k → minimum n (length code / 8) ≤ p → finish st ≡ finish_of h v
      → finished_at n p h v k ≡ whole_run reals E code n
  finishes h v S q f = over (ltb n p) refl
    where
      beneath : (t : Bool) → ltb p n ≡ t → p ≤ n → cond t (stuck_at (k + 1)) (ended_at k (finish_of h v)) ≡ whole_run reals E code n
      beneath true e r =
          let more : p < n = ltb-true p n e in
          let none : decode_at code p ≡ Unknown = decode-beyond code p (no_more n (length code / 8) p more q) in
          let one : cost_in reals E (decode_at code p) st ≡ 1 = rw none (unknown-cost reals E st) in
          stops more (S.within r) 1 one (rw none (unknown-stuck reals E st))
      beneath false e r = ends (ltb-false p n e) (S.within r) f

      over : (t : Bool) → ltb n p ≡ t → cond t (stuck_at k) (cond (ltb p n) (stuck_at (k + 1)) (ended_at k (finish_of h v))) ≡ whole_run reals E code n
      over true e = S.beyond (ltb-true n p e)
      over false e = beneath (ltb p n) refl (ltb-false n p e)
