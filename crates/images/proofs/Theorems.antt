-- `ImageTheorems`, gathered.
use mathlib.Core.Path.{◌≡◌, sym}
use mathlib.Core.Logic.{◌≢◌, inr}
use mathlib.Core.List.{List}
use Prim.Native.Nat.{ℕ, ◌<◌}
use lib.ListN.{length}
use Rattle.words.specs.Laws.{Bytes}
use Rattle.memory.specs.declared.Bank.TheVariants.{C}
use Rattle.memory.specs.Layout.{image_size, packed}
use Rattle.memory.proofs.Laws.{packed-laws}
use Rattle.images.specs.Conversions.{packed_of, unpacked_of}
use Rattle.images.specs.Theorems.{ImageTheorems}
use Rattle.images.proofs.Old.{bytewise-laws}
use Rattle.images.proofs.Environments.{environment}
use Rattle.images.proofs.Writes.{put, flagged, stored, answered}
use Rattle.images.proofs.Packing.{packs, unpacks}
use Rattle.images.proofs.Covered.{covered, only, only_old, unpacked-bytes}

neighbours : (n : List ℕ) (i j d : ℕ) → length n ≡ image_size → i < 64 → j < 64 → i ≢ j → d < 2 → packed.get (packed.put n C i d) C j ≡ packed.get n C j
neighbours n i j d e h g q l = packed-laws.get_other n C i d C j e h g (record { bit = λ w. l }) (inr q)

back : (n : List ℕ) → length n ≡ image_size → Bytes n → packed_of (unpacked_of n) ≡ n
back n e b = sym (only (unpacked_of n) n (unpacks n e).0 (unpacked-bytes n e b) b)

pub image-theorems : ImageTheorems
image-theorems =
    record {
      old_laws = bytewise-laws;
      environment = λ tick m n c. environment m n c tick;
      put = λ m n b i p c h g. put m n c b i p h g;
      stored = λ m n b i v c. (answered m n c b i v, stored m n c b i v);
      flagged = λ m n f c. flagged m n c f;
      packs = packs;
      unpacks = unpacks;
      only = only;
      only_old = only_old;
      back = back;
      neighbours = neighbours;
      covered = covered;
    }
