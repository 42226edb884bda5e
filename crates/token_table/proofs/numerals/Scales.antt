-- The scale of a literal as a machine word, and the word of a literal.
use mathlib.Core.Path.{◌≡◌}
use mathlib.Core.Bool.{Bool, true, false, and-false}
use Prim.Native.Nat.{ℕ, zero, suc, ◌^◌, ◌≤◌, ◌<◌}
use native.Mathlib.Omega.{arith}
use lib.Dec.{leb, lit<}
use lib.IntN.{ℤ, pos, negsuc, ◌-ℤ◌}
use borrow.Author.Tests.{le-leb, lt-leb, leb-true, lt-ltb}
use mir.Syntax.{w32}
use mir.Val.{SFits, to_z, of_z}
use mir.Facts.{to_z_pos}
use mir.ValLaws.{to_z-of_z}
use Rattle.literals.specs.Literals.{is_scale, literal_pattern}
use Rattle.tokens.specs.Numerals.{scale_of, literal_of}
use Rattle.tokens.proofs.numerals.Values.{scale-range}
use Rattle.tokens.proofs.Tests.{both}
use Rattle.token_table.specs.private.Table.{pack_fields}
use Rattle.token_table.specs.private.Lexing.{scanned_word}

-- ---- the scale
scale-fits : (z : ℤ) → is_scale z ≡ true → SFits w32 z
scale-fits (pos n) e = record { sfits = omega (arith, leb-true n 20 e) }
scale-fits (negsuc n) e = record { sfits = omega (arith, leb-true n 27 (both (leb n 27) true e).0) }

module _ (e : ℕ) (h : e ≤ 20) where
  pub read : to_z w32 e ≡ pos e
  read = let l : e < 2 ^ 31 = omega arith in to_z_pos w32 l

  minus-fits : SFits w32 (pos 0 -ℤ pos e)
  minus-fits = by e h
    where
      by : (k : ℕ) → k ≤ 20 → SFits w32 (pos 0 -ℤ pos k)
      by zero l = record { sfits = lit< tt }
      by (suc k) l = rw (lt-ltb 0 (suc k) (omega arith)) (record { sfits = omega arith })

  pub negated_fits : SFits w32 (pos 0 -ℤ to_z w32 e)
  negated_fits = rw read minus-fits

  negated : to_z w32 (of_z w32 (pos 0 -ℤ to_z w32 e)) ≡ pos 0 -ℤ pos e
  negated = rw read (to_z-of_z w32 (pos 0 -ℤ pos e) minus-fits)

  module _ (k : ℕ) (l : k ≤ 8) where
    read-places : to_z w32 k ≡ pos k
    read-places = let m : k < 2 ^ 31 = omega arith in to_z_pos w32 m

    pub negative_fits : SFits w32 (to_z w32 (of_z w32 (pos 0 -ℤ to_z w32 e)) -ℤ to_z w32 k)
    negative_fits = rw (negated, read-places) (scale-fits (scale_of true e k) (scale-range true e k h l))

    pub negative-is : to_z w32 (of_z w32 (to_z w32 (of_z w32 (pos 0 -ℤ to_z w32 e)) -ℤ to_z w32 k)) ≡ scale_of true e k
    negative-is = rw (negated, read-places) (to_z-of_z w32 (scale_of true e k) (scale-fits (scale_of true e k) (scale-range true e k h l)))

    pub positive-fits : SFits w32 (to_z w32 e -ℤ to_z w32 k)
    positive-fits = rw (read, read-places) (scale-fits (scale_of false e k) (scale-range false e k h l))

    pub positive-is : to_z w32 (of_z w32 (to_z w32 e -ℤ to_z w32 k)) ≡ scale_of false e k
    positive-is = rw (read, read-places) (to_z-of_z w32 (scale_of false e k) (scale-fits (scale_of false e k) (scale-range false e k h l)))

    pub read-scale : (s : Bool) → to_z w32 (of_z w32 (scale_of s e k)) ≡ scale_of s e k
    read-scale s = to_z-of_z w32 (scale_of s e k) (scale-fits (scale_of s e k) (scale-range s e k h l))

-- ---- the word
module _ (n count k : ℕ) (s : Bool) (e : ℕ) where
  pub ten-digits : 9 < count → pack_fields 0 0 5 0 ≡ scanned_word (literal_of n count k s e)
  ten-digits h = rw (lt-leb count 9 h)

  pub large-exponent : 20 < e → pack_fields 0 0 5 0 ≡ scanned_word (literal_of n count k s e)
  large-exponent h = rw (lt-leb e 20 h, and-false)

  pub literal-word : {p : ℕ} → count ≤ 9 → e ≤ 20 → k < count → p ≡ literal_pattern n (scale_of s e k)
      → pack_fields 2 0 p 0 ≡ scanned_word (literal_of n count k s e)
  literal-word h l m q = rw (q, le-leb count 9 h, le-leb e 20 l, scale-range s e k l (omega arith))
