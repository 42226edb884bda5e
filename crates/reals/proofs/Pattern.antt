-- Bit patterns: a value's pattern is made from its sign and size alone, so there is one value of each; and what a pattern stands for.
use mathlib.Core.Path.{◌≡◌, sym, ap, ◌∙◌, subst}
use mathlib.Core.Bool.{Bool, true, false, not, cond}
use Prim.Native.Nat.{ℕ, zero, suc, ◌+◌, ◌-◌, ◌*◌, ◌/◌, ◌%◌, ◌^◌, ◌<◌}
use native.Mathlib.Nat.{mul-one, lt_irrefl}
use native.Mathlib.Numerals.{sub-one}
use native.Mathlib.Omega.{arith}
use lib.Dec.{T, leb, eqb, eqb→eq, eqb-suc-zero}
use lib.Ieee.{Float, nan, inf, fin, Format, prec, low, up, down, size, fits, hid, ones, top, odd, is_nan, of_fields, of_bits, to_bits}
use lib.Ieee.Bits.{of_bits-to_bits, to_bits-of_bits}
use lib.Ieee.Exact.{odd_sign}
use lib.Ieee.Scale.{finite}
use borrow.Author.Tests.{eq-eqb}
use Rattle.reals.proofs.Near.{Is}
use Rattle.reals.proofs.Values.{known}

-- ---- the pattern of a finite value, from its sign and size
unfoldable pub pattern : Format → Bool → ℕ → ℕ
pattern f s n = let k = size n - prec f in cond s (top f) 0 + k * hid f + n / 2 ^ k

pub pattern-of : (f : Format) (x : Float) (s : Bool) (n : ℕ) → Is f x s n → to_bits f x ≡ pattern f s n
unfolding to_bits pattern
pattern-of f nan s n h = absurd h
pattern-of f (inf t) s n h = absurd h
pattern-of f (fin t m e) s n h = ap (λ (z : Bool). pattern f z (m * up e * 2 ^ low f / down e)) h.0 ∙ ap (pattern f s) (known f (fin t m e) s n h).1

pub value-unique : (f : Format) (x y : Float) (s : Bool) (n : ℕ) → T (fits f x) → T (fits f y) → Is f x s n → Is f y s n → x ≡ y
value-unique f x y s n p q h k = sym (of_bits-to_bits f x p) ∙ ap (of_bits f) (pattern-of f x s n h ∙ sym (pattern-of f y s n k)) ∙ of_bits-to_bits f y q

-- ---- the sign and size that a pattern stands for, from the fields x and t of its exponent and its digits
abbrev pub field_units : Format → ℕ → ℕ → ℕ
field_units f x t = cond (eqb x 0) t ((hid f + t) * 2 ^ (x - 1))

fields-is : (f : Format) (s : Bool) (x t : ℕ) → x < ones f → Is f (of_fields f s x t) s (field_units f x t)
unfolding of_fields
fields-is f s zero t h = subst (λ (n : ℕ). Is f (odd (prec f) s t 0 (low f)) s n) (mul-one t) (odd_sign (prec f) s t 0 (low f))
fields-is f s (suc x) t h =
    rw (eqb-suc-zero x, sub-one (suc x)) (go (eqb (suc x) (ones f)) (eqb→eq (suc x) (ones f)))
  where
    go : (b : Bool) → (T b → suc x ≡ ones f) → Is f (cond b (cond (eqb t 0) (inf s) nan) (odd (prec f) s (hid f + t) x (low f))) s ((hid f + t) * 2 ^ x)
    go true e = absurd (lt_irrefl (ones f) (subst (λ (k : ℕ). k < ones f) (e tt) h))
    go false e = odd_sign (prec f) s (hid f + t) x (low f)

pub bits_is : (f : Format) (b : ℕ) → b % top f / hid f < ones f → Is f (of_bits f b) (leb (top f) b) (field_units f (b % top f / hid f) (b % hid f))
unfolding of_bits
bits_is f b h = fields-is f (leb (top f) b) (b % top f / hid f) (b % hid f) h

-- ---- a pattern and the value that it stands for
is_number : (f : Format) (x : Float) (s : Bool) (n : ℕ) → Is f x s n → T (not (is_nan x))
unfolding is_nan
is_number f nan s n h = absurd h
is_number f (inf t) s n h = absurd h
is_number f (fin t m e) s n h = tt

pub encode_decode : (f : Format) (b : ℕ) → b < 2 * top f → b % top f / hid f < ones f → to_bits f (of_bits f b) ≡ b
encode_decode f b l h = to_bits-of_bits f b l (is_number f (of_bits f b) _ _ (bits_is f b h))

-- the exponent's field all ones
special : (f : Format) (s : Bool) (x t : ℕ) → x ≡ ones f → T (finite (of_fields f s x t)) → ⊥
unfolding of_fields
special f s zero t e = absurd (omega arith)
special f s (suc x) t e = rw (eq-eqb (suc x) (ones f) e) (go (eqb t 0))
  where
    go : (b : Bool) → T (finite (cond b (inf s) nan)) → ⊥
    go true h = h
    go false h = h

pub decode_special : (f : Format) (b : ℕ) → b % top f / hid f ≡ ones f → T (finite (of_bits f b)) → ⊥
unfolding of_bits
decode_special f b e = special f (leb (top f) b) (b % top f / hid f) (b % hid f) e
