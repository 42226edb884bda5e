-- With reals, the check and what it accepts are those of the full box.
use Rattle.std.specs.Prelude.{None}
use mathlib.Core.Path.{◌≡◌, refl, ap, ◌∙◌}
use mathlib.Core.Bool.{true, cond}
use mathlib.Core.List.{List, [], ◌∷◌}
use Prim.Native.Nat.{ℕ, suc}
use lib.Dec.{leb}
use lib.ListN.{length}
use Rattle.values.specs.declared.Kind.{Kind}
use Rattle.code.specs.declared.Instr.{Instr}
use Rattle.verifier.specs.Typing.{Shape, well_formed}
use Rattle.verifier.specs.Accepts.{Reached, start, onward, Accepts}
use Rattle.verifier.specs.Verdicts.{State, rejected, unreached, holds, States, transfer, dataflow, verdict_of, entry_states, verdict}
use Rattle.verifier.specs.Profile as In
use Rattle.verifier.specs.Profile.{ReachedIn, AcceptsIn, transfer_in, dataflow_in, verdict_in}

module _ (c : List Instr) (k : Kind) where
  up : {p : ℕ} {s : Shape} → Reached c p s → ReachedIn true c p s
  up start = In.start
  up (onward d h w) = In.onward (up d) h w

  down : {p : ℕ} {s : Shape} → ReachedIn true c p s → Reached c p s
  down In.start = start
  down (In.onward d h w) = onward (down d) h w

  pub full-accepts : AcceptsIn true c k → Accepts c k
  full-accepts a = record {
    some = a.some;
    few = a.few;
    each = a.each;
    acts = λ p s d. a.acts p s (up d);
    one = λ p s r d e. a.one p s r (up d) (up e);
    ended = down a.ended;
  }

  pub accepts-full : Accepts c k → AcceptsIn true c k
  accepts-full a = record {
    some = a.some;
    few = a.few;
    each = a.each;
    acts = λ p s d. a.acts p s (down d);
    one = λ p s r d e. a.one p s r (down d) (down e);
    ended = up a.ended;
  }

full-transfer : (p : ℕ) (i : Instr) (x : State) (f : States) → transfer_in true p i x f ≡ transfer p i x f
full-transfer p i rejected f = refl
full-transfer p i unreached f = refl
full-transfer p i (holds s) f = refl

full-dataflow : (left : List Instr) (p : ℕ) (f : States) → dataflow_in true left p f ≡ dataflow left p f
unfolding dataflow_in dataflow
full-dataflow [] p f = refl
full-dataflow (i ∷ left) p f =
    ap (λ (x : State). cond (well_formed (length left) i) x rejected)
    (full-dataflow left (suc p) (transfer_in true p i (f p) f) ∙ ap (λ (g : States). dataflow left (suc p) g) (full-transfer p i (f p) f))

pub full_verdict : (c : List Instr) → verdict_in true c ≡ verdict c
full_verdict c = ap (λ (x : State). cond (leb (length c) 2048) (verdict_of x) None) (full-dataflow c 0 entry_states)
