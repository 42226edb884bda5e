-- `ListTheorems`, from its parts.
use Prim.Native.Nat.{ℕ}
use Rattle.list_laws.specs.Theorems.{ListTheorems}
use Rattle.list_laws.proofs.Joining as Joining
use Rattle.list_laws.proofs.Effects.{by_lists}
use Rattle.list_laws.proofs.Requests.{asked}
use Rattle.list_laws.proofs.Commuting as Commuting
use Rattle.list_laws.proofs.Moving.{moved}

pub list-theorems : (tick : ℕ) → ListTheorems tick
list-theorems tick =
    record {
      commute = Commuting.commute tick;
      moved = moved tick;
      each = Joining.each tick;
      forty = Joining.forty tick;
      swapped = Commuting.swapped tick;
      joined = Joining.joined tick;
      lists = Joining.lists tick;
      tables = Joining.tables;
      by_lists = by_lists;
      asked = asked;
      same_lengths = Commuting.same_lengths tick;
      independent = Commuting.independent;
    }
