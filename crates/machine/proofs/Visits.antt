-- What an instruction over a range comes to, as the code works it out: the step of its outcome, and the cells that it began. Any other begins none.
use mathlib.Core.Path.{◌≡◌, refl, sym, ap, ◌∙◌}
use mathlib.Core.Bool.{Bool, true, false, not, ◌||◌, cond}
use mathlib.Core.List.{List, [], ◌∷◌}
use Prim.Native.Nat.{ℕ, zero, suc, ◌-◌, ◌≤◌}
use native.Mathlib.Omega.{arith}
use lib.Dec.{T}
use lib.ListN.{get_or}
use Rattle.std.specs.Prelude.{Option, Some, None, MatchOption}
use borrow.Author.Tests.{le-ltb}
use Rattle.values.specs.declared.Value.{Value}
use Rattle.operators.specs.Reals.{real_value}
use Rattle.memory.specs.declared.Bank.{Bank}
use Rattle.memory.specs.Numbers.{bank_numbered}
use Rattle.memory.specs.Cells.{real_bank}
use Rattle.memory.specs.Environment.{Environment}
use Rattle.totals.specs.declared.Visited.{Visited}
use Rattle.totals.specs.declared.ranges.Cells.{Cells}
use Rattle.totals.specs.declared.TotalOp.{TotalOp}
use Rattle.totals.specs.declared.MatchOp.{MatchOp}
use Rattle.totals.specs.Totals.{total_over, match_over, real_total, good_range}
use Rattle.totals.specs.private.Admitted.{no_visit, total_in, match_in}
use Rattle.code.specs.declared.Instr.{Instr}
use Rattle.code.specs.declared.Instr.TheVariants.{Total, Match, Unknown}
use Rattle.code.specs.Instructions.{range_bank, range_first, range_count, over_range}
use Rattle.code.specs.private.Classes.{of_total, of_match}
use Rattle.machine.specs.declared.Step.{Step}
use Rattle.machine.specs.Profile.{barred}
use Rattle.machine.specs.private.Steps.{stuck_step, outcome_step, step_of, step_in, bank_visit, word_visit, total_visit, match_visit, on_last}
use Rattle.machine.specs.private.Steps.{IsRange, NoRange}
use Rattle.machine.proofs.Held.{none, held}
use Rattle.machine.proofs.Barred.{or-false, begun_in}
use Rattle.machine.proofs.Performs.{stuck-in, none_made}

-- ---- the range of a word, of which its bank may lack some cells
pub ranged : (w : ℕ) {b : Bank} {i n : ℕ} (r : Option Cells) → bank_numbered (range_bank w) ≡ Some b → i ≡ range_first w → n ≡ range_count w
    → MatchOption r (good_range b i n ≡ false) (λ c. (c.bank ≡ b) × (c.first ≡ i) × (c.count ≡ n))
    → MatchOption r (NoRange w) (λ c. IsRange w c.bank c.first c.count)
ranged w None e p q g = λ f. rw (e, ← p, ← q, g)
ranged w (Some c) e p q g = record { bank = e ∙ ap Some (sym g.0); first = g.1 ∙ p; count = g.2 ∙ q }

pub unranged : (w : ℕ) → bank_numbered (range_bank w) ≡ None → NoRange w
unranged w e = λ f. rw e

-- going over it
pub over : {w : ℕ} (c : Cells) → IsRange w c.bank c.first c.count → (f : Bank → ℕ → ℕ → Visited) → f c.bank c.first c.count ≡ word_visit f w
over c r f = let g = true-of (good_range c.bank c.first c.count) c.good in rw (r.bank, ← r.first, ← r.count, g)
  where
    true-of : (t : Bool) → T t → t ≡ true
    true-of true h = refl
    true-of false h = absurd h

-- ---- what is admitted, with or without reals
visit-step : (t : Bool) (k : ℕ) (v : Visited) {x : Step} → outcome_step k v.result ≡ x → outcome_step k (cond t v no_visit).result ≡ cond t x stuck_step
visit-step true k v e = e
visit-step false k v e = refl

visit-cells : (t : Bool) (v : Visited) → (cond t v no_visit).cells ≡ cond t v.cells 0
visit-cells true v = refl
visit-cells false v = refl

zero-anyway : (t : Bool) → ◌≡◌ {A = ℕ} 0 (cond t 0 0)
zero-anyway true = refl
zero-anyway false = refl

-- ---- its step and its cells, for any value of the bank and the test
module _ (reals : Bool) (E : Environment) (h : ℕ) (l r : Value) where
  range-step : (f : Bank → ℕ → ℕ → Instr) (g : Bank → ℕ → ℕ → Visited) (k : ℕ)
      → ((b : Bank) (i n : ℕ) → outcome_step k (g b i n).result ≡ step_in reals E (f b i n) h l r)
      → (x : (Option Bank)) (i n : ℕ) → outcome_step k (bank_visit g x i n).result ≡ step_in reals E (over_range f x i n) h l r
  range-step f g k e (Some b) i n = by (good_range b i n)
    where
      by : (t : Bool) → outcome_step k (cond t (g b i n) no_visit).result ≡ step_in reals E (cond t (f b i n) Unknown) h l r
      by true = e b i n
      by false = none_made reals E h l r
  range-step f g k e None i n = none_made reals E h l r

  admitted-step : (o : TotalOp) (b : Bank) (i n : ℕ) → outcome_step h (total_in reals E o b i n).result ≡ step_in reals E (Total o b i n) h l r
  admitted-step o b i n =
      visit-step (reals || not (real_bank b || real_total o)) h (total_over E o b i n) refl
      ∙ ap (λ (t : Bool). cond (reals || not (real_bank b || t)) (step_of E (Total o b i n) h l r) stuck_step) (sym (or-false (real_total o)))

  pub total-step : (u : (Option TotalOp)) (w : ℕ) → outcome_step h (total_visit reals E u w).result ≡ step_in reals E (of_total u w) h l r
  total-step (Some o) w = range-step (Total o) (total_in reals E o) h (admitted-step o) (bank_numbered (range_bank w)) (range_first w) (range_count w)
  total-step None w = none_made reals E h l r

  held-step : 1 ≤ h → (u : (Option MatchOp)) (w : ℕ) → outcome_step (h - 1) (match_visit reals E u r w).result ≡ step_in reals E (of_match u w) h l r
  held-step p (Some o) w =
      range-step (Match o) (match_in reals E o r) (h - 1)
      (λ b i n. visit-step (reals || not (real_bank b || real_value r)) (h - 1) (match_over E o r b i n) (rw (le-ltb h 1 p)))
      (bank_numbered (range_bank w)) (range_first w) (range_count w)
  held-step p None w = none_made reals E h l r

module _ (reals : Bool) (E : Environment) (st : List Value) where
  range_cells : (f : Bank → ℕ → ℕ → Instr) (g : Bank → ℕ → ℕ → Visited) → ((b : Bank) (i n : ℕ) → (g b i n).cells ≡ begun_in reals E (f b i n) st)
      → (x : (Option Bank)) (i n : ℕ) → (bank_visit g x i n).cells ≡ begun_in reals E (over_range f x i n) st
  range_cells f g e (Some b) i n = by (good_range b i n)
    where
      by : (t : Bool) → (cond t (g b i n) no_visit).cells ≡ begun_in reals E (cond t (f b i n) Unknown) st
      by true = e b i n
      by false = zero-anyway (reals || true)
  range_cells f g e None i n = zero-anyway (reals || true)

  admitted-cells : (o : TotalOp) (b : Bank) (i n : ℕ) → (total_in reals E o b i n).cells ≡ begun_in reals E (Total o b i n) st
  admitted-cells o b i n =
      visit-cells (reals || not (real_bank b || real_total o)) (total_over E o b i n)
      ∙ ap (λ (t : Bool). cond (reals || not (real_bank b || t)) (total_over E o b i n).cells 0) (sym (or-false (real_total o)))

  pub total_cells : (u : (Option TotalOp)) (w : ℕ) → (total_visit reals E u w).cells ≡ begun_in reals E (of_total u w) st
  total_cells (Some o) w = range_cells (Total o) (total_in reals E o) (admitted-cells o) (bank_numbered (range_bank w)) (range_first w) (range_count w)
  total_cells None w = zero-anyway (reals || true)

matched-cells : (reals : Bool) (E : Environment) (o : MatchOp) (v : Value) (st : List Value) (b : Bank) (i n : ℕ)
    → (match_in reals E o v b i n).cells ≡ begun_in reals E (Match o b i n) (v ∷ st)
matched-cells reals E o v st b i n =
    visit-cells (reals || not (real_bank b || real_value v)) (match_over E o v b i n)
    ∙ ap (λ (t : Bool). cond (reals || not (real_bank b || t)) (match_over E o v b i n).cells 0) (sym (or-false (real_value v)))

-- ---- short of a value
module _ (reals : Bool) (E : Environment) (w : ℕ) where
  short-step : (l r : Value) (u : Option MatchOp) → stuck_step ≡ step_in reals E (of_match u w) 0 l r
  short-step l r (Some o) = by (bank_numbered (range_bank w))
    where
      either : (t : Bool) (b : Bank) (i n : ℕ) → stuck_step ≡ step_in reals E (cond t (Match o b i n) Unknown) 0 l r
      either true b i n = stuck-in reals E 0 l r (Match o b i n) refl
      either false b i n = none_made reals E 0 l r

      by : (x : Option Bank) → stuck_step ≡ step_in reals E (over_range (Match o) x (range_first w) (range_count w)) 0 l r
      by (Some b) = either (good_range b (range_first w) (range_count w)) b (range_first w) (range_count w)
      by None = none_made reals E 0 l r
  short-step l r None = none_made reals E 0 l r

  short-cells : (u : Option MatchOp) → 0 ≡ begun_in reals E (of_match u w) []
  short-cells (Some o) = by (bank_numbered (range_bank w))
    where
      either : (t : Bool) (b : Bank) (i n : ℕ) → 0 ≡ begun_in reals E (cond t (Match o b i n) Unknown) []
      either true b i n = zero-anyway (reals || not (barred (Match o b i n) []))
      either false b i n = zero-anyway (reals || true)

      by : (x : Option Bank) → 0 ≡ begun_in reals E (over_range (Match o) x (range_first w) (range_count w)) []
      by (Some b) = either (good_range b (range_first w) (range_count w)) b (range_first w) (range_count w)
      by None = zero-anyway (reals || true)
  short-cells None = zero-anyway (reals || true)

  pub match-step : (h : ℕ) (l r : Value) (u : Option MatchOp) → outcome_step (h - 1) (on_last h (match_visit reals E u r w)).result ≡ step_in reals E (of_match u w) h l r
  match-step zero l r u = short-step l r u
  match-step (suc h) l r u =
      let some : 1 ≤ suc h = omega arith in
      rw (le-ltb (suc h) 1 some) (held-step reals E (suc h) l r some u w)

  pub match_cells : (s : List Value) (h : ℕ) (u : Option MatchOp)
      → (on_last h (match_visit reals E u (get_or s (h - 1) none) w)).cells ≡ begun_in reals E (of_match u w) (held h s)
  unfolding held
  match_cells s zero u = short-cells u
  match_cells s (suc h) u =
      let some : 1 ≤ suc h = omega arith in
      let last : suc h - 1 ≡ h = omega arith in
      rw (le-ltb (suc h) 1 some, last) (by u)
    where
      by : (u : Option MatchOp) → (match_visit reals E u (get_or s h none) w).cells ≡ begun_in reals E (of_match u w) (get_or s h none ∷ held h s)
      by (Some o) =
          range_cells reals E (get_or s h none ∷ held h s) (Match o) (match_in reals E o (get_or s h none)) (matched-cells reals E o (get_or s h none) (held h s))
          (bank_numbered (range_bank w)) (range_first w) (range_count w)
      by None = zero-anyway (reals || true)

-- without a value there is nothing to compare with
pub on-last : (h : ℕ) (f : Value → Visited) {a b : Value} → (1 ≤ h → a ≡ b) → on_last h (f a) ≡ on_last h (f b)
on-last zero f q = refl
on-last (suc h) f q = ap (λ (v : Value). on_last (suc h) (f v)) (q (omega arith))
