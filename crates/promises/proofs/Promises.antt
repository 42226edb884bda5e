-- The promises, each by the law that keeps it.
use Rattle.images.proofs.Theorems.{image-theorems}
use Rattle.text.proofs.Theorems.{text-theorems}
use Rattle.targets.proofs.Theorems.{target-theorems}
use Rattle.operations.proofs.Verdicts.{accepted-by, passes}
use Rattle.promises.specs.Promises.{Promises}
use Rattle.promises.proofs.Keeping.{kept, runs_to, given_to, stores_to}
use Rattle.promises.proofs.Order.{wrong_memory, small_buffer, small_index, bad_target, bad_run_target, wrong_code, wrong_index}
use Rattle.promises.proofs.Texts.{compiles, performs, answers, same_code, same_index, same_refusal}
use Rattle.promises.proofs.Codes.{only_code, only_index, faithful, faithful_index, ends}
use Rattle.promises.proofs.Running.{runs_code, desk_and_box}
use Rattle.promises.proofs.Plain.{plain_run, plain_request}
use Rattle.promises.proofs.Finite.{finite, finite_code}

pub promises : Promises
promises = record {
  keeps = kept;
  covered = image-theorems.covered;
  runs_to = runs_to;
  given_to = given_to;
  stores_to = stores_to;
  only_code = only_code;
  only_index = only_index;
  wrong_memory = wrong_memory;
  small_buffer = λ text code index target m tick l. small_buffer text code index target m 0 0 tick l;
  small_index = λ text code index target m tick l. small_index text code index target m 0 0 tick l;
  bad_target = λ text code index target m tick l e. bad_target text code index target m 0 0 tick l e;
  bad_run_target = λ code index target m n k tick h e. bad_run_target code code index target m n k tick h e;
  wrong_code = λ code index n k tick ready h. wrong_code code index n k tick ready h;
  wrong_index = λ code index n k j tick ready c h. wrong_index code index n k tick j ready c h;
  compiles = compiles;
  performs = λ text code index tick ready room more. performs tick ready text code index room more;
  judged = text-theorems.outcome;
  index_accepted = target-theorems.index_accepted;
  judged_only = text-theorems.only;
  places = λ text a p e. (text-theorems.place_inside text a p e, text-theorems.place_small text a p e);
  answers = λ code index tick ready more a e. answers tick ready code index more a e;
  finite = λ tick m a h. finite tick m a h;
  finite_code = finite_code;
  faithful = λ code a e. faithful code a e;
  faithful_index = faithful_index;
  desk_and_box = λ text desk box di bi tick ready room rd rb e. desk_and_box tick ready text desk box di bi room rd rb e;
  same_refusal = λ text desk box index tick ready here there more e. same_refusal tick ready text desk box index here there more e;
  same_code = λ text code index tick ready room more. same_code tick ready text code index room more;
  same_index = λ code index tick ready room more a. same_index tick ready code index room more a;
  checks = λ code n. (accepted-by code n, λ x. passes code n x.1);
  safe = ends;
  runs_code = λ code index n k tick ready c p. runs_code k tick ready index p code n c;
  plain_run = λ code index n k tick plain c. plain_run plain code index n k tick c;
  plain_request = λ code index tick plain more a c. plain_request plain code index tick more a c;
}
