-- A value that a bank holds as it is has a pattern there that reads as the value.
use Rattle.std.specs.Prelude.{Ok}
use mathlib.Core.Path.{◌≡◌, refl, ap, subst, ◌∙◌}
use mathlib.Core.Bool.{true}
use Prim.Native.Nat.{ℕ}
use native.Mathlib.Nat.{mod-eq_of_lt}
use native.Mathlib.Omega.{arith}
use lib.Dec.{T, lit<, lit≤}
use lib.IntN.{ℤ, pos}
use lib.Ieee.{binary32, to_bits}
use lib.Ieee.Bits.{is_true}
use lib.Ieee.Scale.{finite}
use Rattle.reals.proofs.Laws.{real-laws}
use Rattle.values.specs.declared.Value.{Value}
use Rattle.values.specs.declared.Value.TheVariants.{Int}
use Rattle.values.specs.declared.Outcome.TheVariants.{Done}
use Rattle.values.specs.Integers.{in_range}
use Rattle.values.specs.Patterns.{low_bits}
use Rattle.values.specs.Laws.{in_bits}
use Rattle.values.proofs.Laws.{pattern-laws}
use Rattle.values.proofs.Ranges.{sfits-range}
use Rattle.operators.specs.Laws.{Proper}
use Rattle.memory.specs.declared.Bank.{Bank}
use Rattle.memory.specs.Cells.{finite_or_fault, cell_value}
use Rattle.memory.specs.Store.{encode_cell}
use Rattle.memory.specs.Laws.{Representable, off, on, unsigned, signed, integer, real}
use Rattle.memory.proofs.cells.Singles.{finite-read}
use Rattle.memory.proofs.cells.Signs.{signed_range}

pub record Represents (b : Bank) (v : Value) : Type 0 where
  pub proper : Proper v
  pub pattern : ℕ
  pub written : encode_cell b v ≡ Ok pattern
  pub read : cell_value b pattern ≡ Done v

proper-int : (z : ℤ) → in_range z ≡ true → Proper (Int z)
proper-int z e = Proper.int z (rw e tt)

-- 16 bits lie within 32
wide : (z : ℤ) → T (in_bits 16 z) → in_range z ≡ true
wide z h =
    subst (λ (y : ℤ). in_range y ≡ true) (pattern-laws.signed_low 16 z (lit< tt) h)
    (signed_range 16 (low_bits 16 z) (lit< tt) (lit≤ tt) (pattern-laws.low_below 16 z))

pub represents : {b : Bank} {v : Value} → Representable b v → Represents b v
represents off = record { proper = proper-int (pos 0) refl; pattern = 0; written = refl; read = refl }
represents on = record { proper = proper-int (pos 1) refl; pattern = 1; written = refl; read = refl }
represents (unsigned n h) =
    record {
      proper = proper-int (pos n) (sfits-range (pos n) (record { sfits = omega arith }));
      pattern = n;
      written = ap Ok (mod-eq_of_lt h);
      read = refl;
    }
represents (signed z h) =
    record {
      proper = proper-int z (wide z h);
      pattern = low_bits 16 z;
      written = refl;
      read = ap (λ (y : ℤ). Done (Int y)) (pattern-laws.signed_low 16 z (lit< tt) h);
    }
represents (integer z h) =
    record { proper = Proper.int z h; pattern = low_bits 32 z; written = refl; read = ap (λ (y : ℤ). Done (Int y)) (pattern-laws.signed_low 32 z (lit< tt) h) }
represents (real x S) =
    record {
      proper = Proper.real x S;
      pattern = to_bits binary32 x;
      written = rw (is_true (finite x) S.real);
      read = ap finite_or_fault (real-laws.decode_encode x S) ∙ finite-read x (is_true (finite x) S.real);
    }
