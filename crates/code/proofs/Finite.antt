-- Which patterns may be pushed: those of finite singles.
use mathlib.Core.Path.{◌≡◌, refl}
use mathlib.Core.Bool.{true, false, true≢false}
use Prim.Native.Nat.{ℕ}
use lib.Dec.{T}
use lib.Ieee.{Float, nan, inf, fin, binary32, of_bits}
use lib.Ieee.Scale.{finite}
use Rattle.code.specs.declared.Instr.TheVariants.{PushReal, Unknown}
use Rattle.code.specs.Instructions.{finite_only, push_real}

pub finite-kept : (x : Float) → T (finite x) → finite_only x ≡ PushReal x
finite-kept nan t = absurd t
finite-kept (inf s) t = absurd t
finite-kept (fin s m e) t = refl

special-dropped : (x : Float) → finite x ≡ false → finite_only x ≡ Unknown
special-dropped nan h = refl
special-dropped (inf s) h = refl
special-dropped (fin s m e) h = absurd (true≢false h)

pub finite-pushed : (n : ℕ) → finite (of_bits binary32 n) ≡ true → push_real n ≡ PushReal (of_bits binary32 n)
finite-pushed n h = finite-kept (of_bits binary32 n) (rw h tt)

pub special-unknown : (n : ℕ) → finite (of_bits binary32 n) ≡ false → push_real n ≡ Unknown
special-unknown n h = special-dropped (of_bits binary32 n) h
