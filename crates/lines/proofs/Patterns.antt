-- Eight hexadecimal digits of a pattern are read back as the pattern. Assumes nothing.
use Rattle.std.specs.Prelude.{Some}
use mathlib.Core.Path.{◌≡◌, refl, ◌∙◌}
use mathlib.Core.Bool.{Bool, true, false, cond, and-false}
use mathlib.Core.List.{List, [], ◌∷◌, ◌++◌}
use Prim.Native.Nat.{ℕ, zero, suc, ◌+◌, ◌*◌, ◌/◌, ◌%◌, ◌^◌, ◌<◌}
use native.Mathlib.Nat.{pow-suc}
use native.Mathlib.Omega.{arith}
use lib.Dec.{ltb}
use lib.ListN.{length}
use borrow.Author.Tests.{ltb-true, ltb-false, le-leb, lt-leb}
use Rattle.words.proofs.Tests.{both}
use Rattle.tokens.specs.Bytes.{all, is_hex}
use Rattle.tokens.specs.Numerals.{hex_digit, hex_from}
use Rattle.lines.specs.Forms.{hex_form}
use Rattle.lines.specs.Printing.{numeral_byte, low_digits}
use Rattle.lines.proofs.printing.Digits.{digits_last, length_digits}

-- a digit's byte is one of the digits, and stands for it
byte : (d : ℕ) → d < 16 → (is_hex (numeral_byte d) ≡ true) × (hex_digit (numeral_byte d) ≡ d)
byte d h = by (ltb d 10) refl
  where
    by : (t : Bool) → ltb d 10 ≡ t → (is_hex (cond t (48 + d) (55 + d)) ≡ true) × (hex_digit (cond t (48 + d) (55 + d)) ≡ d)
    by true e =
        let s = ltb-true d 10 e in
        (rw (le-leb 48 (48 + d) (omega arith), le-leb (48 + d) 57 (omega arith)), rw (le-leb (48 + d) 57 (omega arith)) (omega arith))
    by false e =
        let s = ltb-false d 10 e in (
          rw (lt-leb (55 + d) 57 (omega arith), le-leb 65 (55 + d) (omega arith), le-leb (55 + d) 70 (omega arith), and-false),
          rw (lt-leb (55 + d) 57 (omega arith), le-leb (55 + d) 70 (omega arith)) (omega arith),
        )

all-last : (s : List ℕ) (c : ℕ) → all is_hex s ≡ true → is_hex c ≡ true → all is_hex (s ++ (c ∷ [])) ≡ true
all-last [] c e d = rw d
all-last (b ∷ s) c e d =
    let h = both (is_hex b) (all is_hex s) e in rw h.0 (all-last s c h.1 d)

from_last : (n : ℕ) (s : List ℕ) (c : ℕ) → hex_from n (s ++ (c ∷ [])) ≡ hex_from n s * 16 + hex_digit c
from_last n [] c = refl
from_last n (b ∷ s) c = from_last (n * 16 + hex_digit b) s c

digits : (k n : ℕ) → n < 16 ^ k → (all is_hex (low_digits 16 k n) ≡ true) × (hex_from 0 (low_digits 16 k n) ≡ n)
digits zero n h = (refl, omega arith)
digits (suc k) n h =
    let small : n < 16 ^ k * 16 = rw (pow-suc 16 k) at h in
    let rest = digits k (n / 16) (omega arith) in
    let b = byte (n % 16) (omega arith) in
    let whole : n / 16 * 16 + n % 16 ≡ n = omega arith in (
      rw (digits_last 16 k n) (all-last (low_digits 16 k (n / 16)) (numeral_byte (n % 16)) rest.0 b.0),
      rw (digits_last 16 k n) (from_last 0 (low_digits 16 k (n / 16)) (numeral_byte (n % 16)) ∙ rw (rest.1, b.1) whole),
    )

eight : (cs : List ℕ) (n : ℕ) → length cs ≡ 8 → all is_hex cs ≡ true → hex_from 0 cs ≡ n → hex_form (48 ∷ 120 ∷ cs) ≡ Some n
eight cs n l d e = rw (l, d, e)

pub pattern-back : (n : ℕ) → n < 4294967296 → hex_form (48 ∷ 120 ∷ low_digits 16 8 n) ≡ Some n
pattern-back n h =
    let d = digits 8 n h in eight (low_digits 16 8 n) n (length_digits 16 8 n) d.0 d.1
