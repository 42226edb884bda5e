-- `ProfileCode`, from its parts.
use mathlib.Core.Path.{◌≡◌}
use mathlib.Core.Bool.{true, false}
use mathlib.Core.List.{List, [], ◌∷◌}
use lib.ListN.{length}
use Rattle.values.specs.declared.Kind.{Kind}
use Rattle.values.specs.declared.Kind.TheVariants.{Int}
use Rattle.operators.specs.Kinds.{is_int}
use Rattle.code.specs.declared.Instr.{Instr}
use Rattle.machine.specs.Configurations.{first}
use Rattle.verifier.specs.Profile.{AcceptsIn}
use Rattle.profile_code.specs.Theorems.{ProfileCode}
use Rattle.profile.proofs.Tests.{both}
use Rattle.profile.proofs.Integers.{int-kind}
use Rattle.profile_code.proofs.Checked.{integers, no_reader, accepted, in-profile}
use Rattle.profile_code.proofs.Readers.{reads_integers}
use Rattle.profile_code.proofs.Runs.{held-ints, same_run}
use Rattle.profile_code.proofs.Held.{held}

-- the kind at the end is held there
ends-int : (c : List Instr) (k : Kind) → AcceptsIn false c k → k ≡ Int
ends-int c k a = int-kind k (both (is_int k) true (integers c k a (length c) (k ∷ []) (accepted c k a).ended)).0

pub profile-code : ProfileCode
profile-code =
    record {
      checked = λ c k. (λ a. (accepted c k a, (integers c k a, no_reader c k a)), λ h. in-profile c k h.0 h.1.0 h.1.1);
      reads_integers = reads_integers;
      ran = λ E c k K a. (ends-int c k a, same_run E K c k a c 0 [] first);
      integers_held = λ E c k K a C. held-ints E K c k a C;
      held = held;
    }
