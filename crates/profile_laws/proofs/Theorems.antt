-- `ProfileTheorems`, from its parts.
use Rattle.std.specs.Prelude.{Option}
use mathlib.Core.Path.{◌≡◌, sym, ap, ◌∙◌}
use mathlib.Core.Bool.{false, cond}
use mathlib.Core.List.{List}
use Prim.Native.Nat.{ℕ}
use lib.Dec.{eqb}
use lib.ListN.{length}
use Rattle.values.specs.declared.Kind.TheVariants as K
use Rattle.memory.specs.Layout.{image_size}
use Rattle.code.specs.Instructions.{instructions}
use Rattle.machine.specs.declared.Ran.{Ran}
use Rattle.machine.specs.Machine.{runs_at}
use Rattle.verifier.proofs.Verdicts.{verdict-laws}
use Rattle.compiler.specs.Compile.{coded_bytes}
use Rattle.delivery.specs.declared.Answer.TheVariants.{Refused}
use Rattle.operations.specs.Operations.{value_answer, compile_answer, evaluate_answer}
use Rattle.operations.proofs.Full.{full_evaluate}
use Rattle.verifier.specs.Profile.{verdict_in}
use Rattle.verifier.proofs.Profile.{profile-verdicts}
use Rattle.profile_code.proofs.Theorems.{profile-code}
use Rattle.profile_trees.proofs.Theorems.{profile-trees}
use Rattle.operations.specs.Profile.{evaluate_answer_for}
use Rattle.profile_laws.specs.Theorems.{IntegerCode, ProfileTheorems}
use Rattle.profile_laws.proofs.Verdicts.{same_runs, checks-only, checks-all, checks_else}
use Rattle.profile_laws.proofs.Goals.{run-goals, store-goals, ran-alike, gave-alike, run-goes, store_goes, both-alike}
use Rattle.profile_laws.proofs.Asked.{same-compiling, same_target, same-target-answer, same-target-code, same-request}
use Rattle.profile_laws.proofs.Results.{performs, full, either, either_evaluate, keeps, never_19, never_19_evaluate}
use Rattle.profile_laws.proofs.Integers.{integers, integers_evaluate}
use Rattle.profile_laws.proofs.Faithful.{compiles, compiles_index, faithful, faithful_index, safe}
use Rattle.profile_laws.proofs.Taken.{taken_run, store_real}
use Rattle.values.specs.declared.Kind.{Kind}

-- ---- evaluate

same_evaluate : (code m : List ℕ) (n tick : ℕ) → IntegerCode code n → evaluate_answer_for false tick code n m ≡ evaluate_answer tick code n m
same_evaluate code m n tick a =
    let c = instructions code n in
    ap (λ (x : Ran). cond (eqb (length m) image_size) (value_answer x (verdict_in false c)) (Refused 1 0)) (same_runs tick code n m a)
    ∙ ap (λ (v : (Option Kind)). cond (eqb (length m) image_size) (value_answer (runs_at tick code n m) v) (Refused 1 0))
    ((profile-verdicts.exact false c K.Int).1 a ∙ sym ((verdict-laws.exact c K.Int).1 ((profile-code.checked c K.Int).0 a).0))

-- ---- all of it

pub profile-theorems : ProfileTheorems
profile-theorems =
    record {
      full = full;
      full_evaluate = full_evaluate;
      compiled = profile-trees.compiled;
      compiles = compiles;
      compiles_index = compiles_index;
      faithful = faithful;
      faithful_index = faithful_index;
      safe = safe;
      taken_run = taken_run;
      store_real = store_real;
      same = λ text t target m code index e n. same-request text m code index target t e n;
      same_result = λ text t target m code index tick e n.
          ap (performs tick m code index) (same-request text m code index target t e n);
      same_run = λ code target index m n k tick a i h.
          both-alike (run-goes target index m k i h code n a) (ran-alike tick index m code n (run-goals index code target m n k));
      same_evaluate = same_evaluate;
      same_store = λ z target index m k tick i h. both-alike (store_goes target index m k i h) (gave-alike tick index m z (store-goals index target m k));
      same_compile = λ text t code e. (ap compile_answer (same-compiling (length code) text t e), ap (coded_bytes code) (same-compiling (length code) text t e));
      same_target = λ target index n. (same-target-answer index target (same_target target n), same-target-code index target (same_target target n));
      checks = λ reals code n. (checks-only reals code n, λ h. checks-all reals code n h.0 h.1);
      checks_else = checks_else;
      either = either;
      either_evaluate = either_evaluate;
      keeps = keeps;
      integers = integers;
      integers_evaluate = integers_evaluate;
      never_19 = never_19;
      never_19_evaluate = never_19_evaluate;
    }
