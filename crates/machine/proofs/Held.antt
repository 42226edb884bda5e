-- The values held: the first h of the array, the last first.
use mathlib.Core.Path.{◌≡◌, refl, ap}
use mathlib.Core.List.{List, [], ◌∷◌}
use Prim.Native.Nat.{ℕ, zero, suc, ◌+◌, ◌≤◌, ◌<◌}
use native.Mathlib.Numerals.{add-one}
use native.Mathlib.Omega.{arith}
use lib.IntN.{pos}
use lib.ListN.{length, get_or, set}
use lib.Seq.{get_or-set_other, get_or-set_same}
use borrow.Author.Tests.{ne_eqb}
use Rattle.values.specs.declared.Value.{Value}
use Rattle.values.specs.declared.Value.TheVariants.{Int}
use Rattle.machine.specs.Machine.{finish}
use Rattle.machine.specs.private.Steps.{finish_of}

-- what is read past the end
abbrev pub none : Value
none = Int (pos 0)

unfoldable pub held : ℕ → List Value → List Value
held zero s = []
held (suc h) s = get_or s h none ∷ held h s

pub length-held : (h : ℕ) (s : List Value) → length (held h s) ≡ h
unfolding held
length-held zero s = refl
length-held (suc h) s = ap suc (length-held h s)

held-set : (h : ℕ) (s : List Value) (i : ℕ) (v : Value) → h ≤ i → held h (set s i v) ≡ held h s
unfolding held
held-set zero s i v p = refl
held-set (suc h) s i v p = rw (get_or-set_other s i h v none (λ e. omega arith), held-set h s i v (omega arith))

pub held-push : (h : ℕ) (s : List Value) (v : Value) → h < length s → held (h + 1) (set s h v) ≡ v ∷ held h s
unfolding held
held-push h s v p = rw (add-one h, get_or-set_same s h v none, held-set h s h v (omega arith))

pub held-finish : (h : ℕ) (s : List Value) → finish (held h s) ≡ finish_of h (get_or s 0 none)
unfolding held
held-finish zero s = refl
held-finish (suc zero) s = refl
held-finish (suc (suc h)) s = rw (ne_eqb (suc (suc h)) 1 (λ e. omega arith))
