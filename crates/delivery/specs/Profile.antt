-- Where a value goes in the full box (reals true) and in the profile without reals (false; paper 02, Ask 12): the definitions of Delivery.antt over `runs_in`
-- and `verdict_in`.
use Rattle.std.specs.Prelude.{Bool, true, false, List, ℕ}
use Rattle.values.specs.declared.Value.{Value}
use Rattle.memory.specs.declared.Bank.{Bank}
use Rattle.profile.specs.Parts.{real_value}
use Rattle.code.specs.Instructions.{instructions}
use Rattle.machine.specs.Profile.{runs_in}
use Rattle.verifier.specs.Verdicts.{is_accepted}
use Rattle.verifier.specs.Profile.{verdict_in}
use Rattle.targets.specs.declared.Element.{Element}
use Rattle.targets.specs.declared.Element.TheVariants.{Is, By}
use Rattle.delivery.specs.Delivery.{cell, reached, Arrival}

abbrev pub arrival_for : Bool → ℕ → List ℕ → List ℕ → Bank → Element → Arrival
arrival_for reals tick index m b (Is i) = record { destination = cell b i; count = 0 }
arrival_for reals tick index m b (By k) = record { destination = reached b (runs_in reals tick index k m).end; count = (runs_in reals tick index k m).count }

abbrev pub index_passes_for : Bool → List ℕ → Element → Bool
index_passes_for reals index (Is i) = true
index_passes_for reals index (By k) = is_accepted (verdict_in reals (instructions index k))

-- a value that the profile does not store
abbrev pub unstorable : Bool → Value → Bool
unstorable true v = false
unstorable false v = real_value v
