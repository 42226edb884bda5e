-- One turn of the loop on the array of values: where each kind of step leads.
use mathlib.Core.Path.{◌≡◌, refl, sym, ap, ◌∙◌, subst}
use mathlib.Core.Logic.{◌⊎◌, ⊎_elim}
use mathlib.Core.Bool.{Bool}
use mathlib.Core.List.{List}
use Prim.Native.Nat.{ℕ, suc, ◌+◌, ◌-◌, ◌≤◌, ◌<◌}
use native.Mathlib.Nat.{add-zero}
use native.Mathlib.Omega.{arith}
use lib.Dec.{T}
use lib.ListN.{length, get_or, set}
use Rattle.values.specs.declared.Value.{Value}
use Rattle.memory.specs.Environment.{Environment}
use Rattle.totals.specs.declared.Visited.{Visited}
use Rattle.totals.specs.Numbers.{total_of, match_of}
use Rattle.code.specs.Instructions.{decode_at, fetched, instruction_of, opcode_of, word_of}
use Rattle.code.specs.declared.Class.{Class}
use Rattle.code.specs.private.Classes.{class_of, number_of, instr_in}
use Rattle.code.proofs.Page.{number-class}
use Rattle.code.proofs.Parts.{decode-fetched}
use Rattle.machine.specs.declared.How.{How}
use Rattle.machine.specs.declared.Step.{Step}
use Rattle.machine.specs.Machine.{max_height, Next, max_cells}
use Rattle.machine.specs.Profile.{act_in, cost_in}
use Rattle.machine.specs.private.Steps.{outcome_step, step_in, total_visit, match_visit, on_last, failed_at}
use Rattle.machine.proofs.Held.{none, held, held-push}
use Rattle.machine.proofs.Acts.{Leads, push, skip, stop, stick}
use Rattle.machine.proofs.Barred.{begun_in, cost-in, begun-in-most, leads-in, regardless}
use Rattle.machine.proofs.Bounds.{is_plain, plain-none, decode-cells}
use Rattle.machine.proofs.Visits.{total-step, total_cells, match-step, match_cells, on-last}
use Rattle.machine.proofs.Rest.{whole_run, Left, stops, Stands, advances}

-- at the place p, with h values of the array s held and k counted: the instruction leads to y, makes the step x, and k' are counted after it
pub record Turn (reals : Bool) (E : Environment) (code : List ℕ) (n p h : ℕ) (s : List Value) (k k' : ℕ) (x : Step) : Type 0 where
  pub in_code : p < n
  pub rest : Left reals E code n p (held h s) k
  pub made : Leads s h (act_in reals E (decode_at code p) (held h s)) x
  pub counted : k' ≡ k + cost_in reals E (decode_at code p) (held h s)

-- the instruction of the number w was performed, and k' are counted after k
pub record Performed (reals : Bool) (E : Environment) (h : ℕ) (s : List Value) (w k k' : ℕ) (x : Step) : Type 0 where
  pub step : x ≡ step_in reals E (instruction_of w) h (get_or s (h - 2) none) (get_or s (h - 1) none)
  pub count : k' ≡ k + cost_in reals E (instruction_of w) (held h s)

-- c is the class of the number w, told to be d, and l and r are the places of the two values at the top, if they are there
by-class : (reals : Bool) (E : Environment) (h : ℕ) (s : List Value) (w : ℕ) {l r : ℕ} {c d : Class} {x : Step} → c ≡ class_of (opcode_of w) → c ≡ d
    → (2 ≤ h → l ≡ h - 2) → (1 ≤ h → r ≡ h - 1)
    → x ≡ step_in reals E (instr_in d w) h (get_or s l none) (get_or s r none) → x ≡ step_in reals E (instruction_of w) h (get_or s (h - 2) none) (get_or s (h - 1) none)
by-class reals E h s w {d = d} f g u v e =
    rw (number-class w, ← f, g) (e ∙ regardless reals E (instr_in d w) h (λ q. ap (λ (j : ℕ). get_or s j none) (u q)) (λ q. ap (λ (j : ℕ). get_or s j none) (v q)))

-- an instruction that begins b cells
counts : (reals : Bool) (E : Environment) (st : List Value) (w k : ℕ) {c d : Class} {b k' : ℕ} → c ≡ class_of (opcode_of w) → c ≡ d
    → b ≡ begun_in reals E (instr_in d w) st → k' ≡ k + 1 + b → k' ≡ k + cost_in reals E (instruction_of w) st
counts reals E st w k {b = b} f g e q =
    let sum : k + 1 + b ≡ k + suc b = omega arith in
    q ∙ sum ∙ ap (λ (m : ℕ). k + suc m) e ∙ rw (number-class w, ← f, g) (ap (λ (m : ℕ). k + m) (sym (cost-in reals E _ st)))

-- a plain one begins none
pub performed : (reals : Bool) (E : Environment) (h : ℕ) (s : List Value) (w : ℕ) {l r : ℕ} {c d : Class} {x : Step} {k k' : ℕ} → c ≡ class_of (opcode_of w)
    → c ≡ d → T (is_plain d) → (2 ≤ h → l ≡ h - 2) → (1 ≤ h → r ≡ h - 1)
    → x ≡ step_in reals E (instr_in d w) h (get_or s l none) (get_or s r none) → k' ≡ k + 1 → Performed reals E h s w k k' x
performed reals E h s w {d = d} {k = k} f g t u v e q =
    let none-begun : 0 ≡ begun_in reals E (instr_in d w) (held h s) =
    omega (arith, begun-in-most reals E (instr_in d w) (held h s), plain-none d (number_of w) (word_of w) t) in
    record { step = by-class reals E h s w f g u v e; count = counts reals E (held h s) w k f g none-begun (q ∙ sym (add-zero (k + 1))) }

-- one over a range, which came to v
module _ (reals : Bool) (E : Environment) (h : ℕ) (s : List Value) (w : ℕ) {c : Class} {x : Step} {v : Visited} {k k' : ℕ} (f : c ≡ class_of (opcode_of w)) where
  pub totalled : c ≡ Class.Total → v ≡ total_visit reals E (total_of (number_of w)) (word_of w) → x ≡ outcome_step h v.result → k' ≡ k + 1 + v.cells
      → Performed reals E h s w k k' x
  totalled g e y q =
      let u = total_of (number_of w) in
      record {
        step = by-class reals E h s w f g (λ p. refl) (λ p. refl) (y ∙ rw e (total-step reals E h (get_or s (h - 2) none) (get_or s (h - 1) none) u (word_of w)));
        count = counts reals E (held h s) w k f g (rw e (total_cells reals E (held h s) u (word_of w))) q;
      }

  pub matched : {r j : ℕ} → c ≡ Class.Match → (1 ≤ h → r ≡ h - 1) → v ≡ on_last h (match_visit reals E (match_of (number_of w)) (get_or s r none) (word_of w))
      → j ≡ h - 1 → x ≡ outcome_step j v.result → k' ≡ k + 1 + v.cells → Performed reals E h s w k k' x
  matched g i e j y q =
      let u = match_of (number_of w) in
      let is : v ≡ on_last h (match_visit reals E u (get_or s (h - 1) none) (word_of w)) =
      e ∙ on-last h (λ a. match_visit reals E u a (word_of w)) (λ p. ap (λ (m : ℕ). get_or s m none) (i p)) in
      record {
        step =
            by-class reals E h s w f g (λ p. refl) (λ p. refl)
            (y ∙ rw (j, is) (match-step reals E (word_of w) h (get_or s (h - 2) none) (get_or s (h - 1) none) u));
        count = counts reals E (held h s) w k f g (rw is (match_cells reals E (word_of w) s h u)) q;
      }

-- w is the number of the instruction
pub turn :
    {reals : Bool} {E : Environment} {code : List ℕ} {n p k k' w : ℕ} {x : Step} (h : ℕ) (s : List Value) → p < n
    → Stands reals E code n p (held h s) k → w ≡ fetched code p → Performed reals E h s w k k' x → Turn reals E code n p h s k k' x
turn {reals} {E} {code} {p = p} {w = w} h s c S d e =
    let is : decode_at code p ≡ instruction_of w = rw d (decode-fetched code p) in
    record {
      in_code = c;
      rest = S.within (omega arith);
      made = rw (e.step, ← is) (leads-in E s reals (decode_at code p) h);
      counted = rw is e.count;
    }

module _ {s : List Value} {h : ℕ} where
  low : {y : Next} {x : Step} → Leads s h y x → x.height ≤ h
  low (push k v p q) = p
  low (skip k d p) = p
  low (stop f) = omega arith
  low stick = omega arith

module _ (reals : Bool) (E : Environment) (code : List ℕ) (n p : ℕ) (s : List Value) (k' : ℕ) (x : Step) where
  -- what follows from how a step goes on
  abbrev pub Onward : How → Type 0
  Onward How.Push = (x.height < max_height) × (length s ≡ max_height → Stands reals E code n (p + 1) (held (x.height + 1) (set s x.height x.value)) k')
  Onward How.Skip = Stands reals E code n (p + (1 + x.skip)) (held x.height s) k'
  Onward How.Stop = failed_at How.Stop x.fault k' ≡ whole_run reals E code n
  Onward How.Stuck = failed_at How.Stuck x.fault k' ≡ whole_run reals E code n

module _ {reals : Bool} {E : Environment} {code : List ℕ} {n p h : ℕ} {s : List Value} {k : ℕ} where
  leads-on : {y : Next} {x : Step} → p < n → Left reals E code n p (held h s) k → act_in reals E (decode_at code p) (held h s) ≡ y → Leads s h y x
      → Onward reals E code n p s (k + cost_in reals E (decode_at code p) (held h s)) x x.how
  leads-on c L a (push m v q r) = (r, λ l. rw (held-push m s v (omega arith)) (advances c L _ refl a))
  leads-on c L a (skip m d q) = advances c L _ refl a
  leads-on c L a (stop f) = stops c L _ refl a
  leads-on c L a stick = stops c L _ refl a

  module _ {k' : ℕ} {x : Step} (t : Turn reals E code n p h s k k' x) where
    pub onward : {w : How} → x.how ≡ w → Onward reals E code n p s k' x w
    onward {w} e =
        subst (λ j. Onward reals E code n p s j x w) (sym t.counted)
        (subst (Onward reals E code n p s (k + cost_in reals E (decode_at code p) (held h s)) x) e (leads-on t.in_code t.rest refl t.made))

    -- a step that ends the run
    pub fails : (x.how ≡ How.Stop) ⊎ (x.how ≡ How.Stuck) → failed_at x.how x.fault k' ≡ whole_run reals E code n
    fails o = ⊎_elim (λ e. rw e (onward e)) (λ e. rw e (onward e)) o

    -- one for the instruction, and no more than 256 for its cells
    pub few : k' ≤ k + (1 + max_cells)
    few =
        let i = decode_at code p in
        omega (arith, t.counted, cost-in reals E i (held h s), begun-in-most reals E i (held h s), decode-cells code p)

    pub lower : x.height ≤ h
    lower = low t.made
