-- The packed image obeys `LayoutLaws`, and so `MemoryLaws`; and `ByteLaws`.
use Rattle.std.specs.Prelude.{Ok}
use mathlib.Core.Path.{◌≡◌, refl}
use mathlib.Core.Logic.{◌≢◌}
use mathlib.Core.Bool.{Bool, true, false, cond}
use mathlib.Core.List.{List}
use Prim.Native.Nat.{ℕ}
use lib.Dec.{T, eqb}
use lib.Ieee.Bits.{is_true}
use lib.ListN.{length, get_or, set}
use lib.Seq.{get_or-set_other}
use Rattle.values.specs.declared.Value.{Value}
use Rattle.values.specs.declared.Fault.{Fault}
use Rattle.memory.specs.declared.Bank.{Bank}
use Rattle.memory.specs.Layout.{image_size, flag_at, packed, has_cell}
use Rattle.memory.specs.Store.{encode_cell, with_flag, store_image}
use Rattle.memory.specs.Laws.{MemoryLaws, InBlock, ByteLaws}
use Rattle.memory.proofs.Blocks.{no_flag, shared}
use Rattle.memory.proofs.Packed.{byte-kept}
use Rattle.memory.proofs.Rules.{memory-laws-of}
pub use Rattle.memory.proofs.Packed.{packed-laws}

pub memory-laws : MemoryLaws packed
memory-laws = memory-laws-of packed packed-laws

others_kept : (s : List ℕ) (b : Bank) (i : ℕ) (v : Value) (p k : ℕ) → encode_cell b v ≡ Ok p → T (has_cell s b i)
    → (InBlock b i k → ⊥) → get_or (store_image s b i v) k 0 ≡ get_or s k 0
others_kept s b i v p k e h w = rw (is_true (has_cell s b i) h, e) (byte-kept s b i p k w)

flag-kept : (s : List ℕ) (f : Fault) (k : ℕ) → k ≢ flag_at f → get_or (with_flag s f) k 0 ≡ get_or s k 0
flag-kept s f k h = by (eqb (length s) image_size)
  where
    by : (t : Bool) → get_or (cond t (set s (flag_at f) 1) s) k 0 ≡ get_or s k 0
    by true = get_or-set_other s (flag_at f) k 1 0 h
    by false = refl

pub byte_laws : ByteLaws
byte_laws = record { shared = shared; no_flag = no_flag; others_kept = others_kept; flag_rest = flag-kept }
