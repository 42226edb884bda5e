-- The samples, by computing each.
use mathlib.Core.Path.{refl}
use Rattle.verifier.specs.Typing.{move_of}
use Rattle.verifier.specs.Verdicts.{same_shape}
use Rattle.verifier.specs.Profile.{dataflow_in}
use Rattle.profile_code.specs.Shown.{AllShown, shown}

all_shown : AllShown shown
unfolding move_of same_shape dataflow_in
all_shown = (refl, (refl, (refl, (refl, (refl, (refl, (refl, (refl, (refl, (refl, (refl, (refl, tt))))))))))))
