-- `ProfileVerdicts`, from its parts.
use Rattle.verifier.specs.Profile.{ProfileVerdicts}
use Rattle.verifier.proofs.Full.{full-accepts, accepts-full, full_verdict}
use Rattle.verifier.proofs.Verdicts.{sound, complete, determined}

pub profile-verdicts : ProfileVerdicts
profile-verdicts = record {
  full = λ c k. (full-accepts c k, accepts-full c k);
  full_verdict = full_verdict;
  exact = λ reals c k. (sound reals c k, complete reals c k);
  determined = determined;
}
