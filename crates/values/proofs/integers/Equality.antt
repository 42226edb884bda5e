-- Two integers are equal as the rules test it, by two comparisons, exactly where the machine finds their bits equal.
use Rattle.std.proofs.Common.{◌≡◌, ℕ, Bool, true, false, ◌&&◌, eqb, leb, ℤ, pos, negsuc, sym, refl, ap, ◌∙◌, le_refl, le_antisymm, w32, SFits, to_z, of_z, eq-eqb, eqb-true, le-leb, leb-true}
use mathlib.Core.Bool.{false≢true}
use mir.Syntax.{Width}
use mir.ValLaws.{to_z-of_z}
use Rattle.values.specs.Integers.{equal_z}

-- bits tell integers apart
pub bits-same : (w : Width) (a b : ℤ) → SFits w a → SFits w b → of_z w a ≡ of_z w b → a ≡ b
bits-same w a b F G e = sym (to_z-of_z w a F) ∙ ap (to_z w) e ∙ to_z-of_z w b G

antisym : (a b : ℕ) → (leb a b && leb b a) ≡ true → a ≡ b
antisym a b = go (leb a b) (leb b a) refl refl
  where
    go : (t u : Bool) → leb a b ≡ t → leb b a ≡ u → (t && u) ≡ true → a ≡ b
    go true true p q e = le_antisymm (leb-true a b p) (leb-true b a q)
    go true false p q e = absurd (false≢true e)
    go false u p q e = absurd (false≢true e)

same : (a : ℤ) → equal_z a a ≡ true
same (pos n) = rw (le-leb n n (le_refl n))
same (negsuc n) = rw (le-leb n n (le_refl n))

equal : (a b : ℤ) → equal_z a b ≡ true → a ≡ b
equal (pos a) (pos b) e = ap pos (antisym a b e)
equal (pos a) (negsuc b) e = absurd (false≢true e)
equal (negsuc a) (pos b) e = absurd (false≢true e)
equal (negsuc a) (negsuc b) e = sym (ap negsuc (antisym b a e))

alike : (t u : Bool) → (t ≡ true → u ≡ true) → (u ≡ true → t ≡ true) → t ≡ u
alike true u f g = sym (f refl)
alike false true f g = g refl
alike false false f g = refl

pub equal-bits : (a b : ℤ) → SFits w32 a → SFits w32 b → eqb (of_z w32 a) (of_z w32 b) ≡ equal_z a b
equal-bits a b F G =
    alike (eqb (of_z w32 a) (of_z w32 b)) (equal_z a b)
    (λ e. rw (bits-same w32 a b F G (eqb-true (of_z w32 a) (of_z w32 b) e)) (same b))
    (λ e. eq-eqb (of_z w32 a) (of_z w32 b) (ap (of_z w32) (equal a b e)))
