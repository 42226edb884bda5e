-- A number in decimal and its digits: each is found from the other. Assumes nothing.
use mathlib.Core.Path.{◌≡◌, refl, sym, subst, ◌∙◌}
use mathlib.Core.Logic.{⊎_elim}
use mathlib.Core.Bool.{true, false, cond}
use mathlib.Core.List.{List, [], ◌∷◌, ◌++◌, append-nil, append_assoc}
use Prim.Native.Nat.{ℕ, zero, suc, ◌+◌, ◌-◌, ◌*◌, ◌/◌, ◌%◌, ◌≤◌, ◌<◌}
use native.Mathlib.Omega.{arith}
use lib.Dec.{eqb}
use borrow.Author.Tests.{lt-ltb, le-leb, eq-eqb, ne_eqb}
use Rattle.words.proofs.Tests.{both, false-true}
use Rattle.memory.specs.Names.{is_digit, all_digits, no_leading_zero, decimal_from, decimal_value}
use Rattle.memory.proofs.names.Decimals.{digit-range}
use Rattle.lines.specs.Printing.{width_of, decimal_text}
use Rattle.lines.proofs.printing.Widths.{one, more, few-or-many}
use Rattle.lines.proofs.printing.Digits.{digits_last}

-- ---- one digit, and one digit more
single : (d : ℕ) → d < 10 → decimal_text d ≡ (48 + d) ∷ []
single d h =
    let e : d % 10 ≡ d = omega arith in
    rw (one d h, e, lt-ltb d 10 h)

longer : (n d : ℕ) → 0 < n → d < 10 → decimal_text (n * 10 + d) ≡ decimal_text n ++ ((48 + d) ∷ [])
longer n d p h =
    let rest : (n * 10 + d) / 10 ≡ n = omega arith in
    let last : (n * 10 + d) % 10 ≡ d = omega arith in
    rw (more (n * 10 + d) (omega arith), digits_last 10 (width_of ((n * 10 + d) / 10)) (n * 10 + d), rest, last, lt-ltb d 10 h)

-- ---- digits are the text of their number
byte-of : (c : ℕ) → is_digit c ≡ true → (c - 48 < 10) × (48 + (c - 48) ≡ c)
byte-of c e = let r = digit-range c e in (omega (arith, r), omega (arith, r))

extend : (n : ℕ) (p s : List ℕ) → 0 < n → decimal_text n ≡ p → all_digits s ≡ true → decimal_text (decimal_from n s) ≡ p ++ s
extend n p [] z e d = e ∙ sym (append-nil p)
extend n p (c ∷ s) z e d =
    let h = both (is_digit c) (all_digits s) d in
    let b = byte-of c h.0 in
    let next : decimal_text (n * 10 + (c - 48)) ≡ p ++ (c ∷ []) = rw (longer n (c - 48) z b.0, e, b.1) in
    extend (n * 10 + (c - 48)) (p ++ (c ∷ [])) s (omega arith) next h.1 ∙ append_assoc p (c ∷ []) s

not-zero : (c : ℕ) → cond (eqb c 48) false true ≡ true → c ≡ 48 → ⊥
not-zero c e z = false-true (rw (eq-eqb c 48 z) at e)

first : (c : ℕ) → is_digit c ≡ true → decimal_text (0 * 10 + (c - 48)) ≡ c ∷ []
first c e =
    let b = byte-of c e in
    let n : 0 * 10 + (c - 48) ≡ c - 48 = omega arith in
    rw n (single (c - 48) b.0 ∙ rw b.1)

pub text_of : (cs : List ℕ) → no_leading_zero cs ≡ true → all_digits cs ≡ true → decimal_text (decimal_value cs) ≡ cs
text_of [] p d = false-true p
text_of (c ∷ []) p d = first c (both (is_digit c) true d).0
text_of (c ∷ e ∷ s) p d =
    let h = both (is_digit c) (all_digits (e ∷ s)) d in
    extend (0 * 10 + (c - 48)) (c ∷ []) (e ∷ s) (omega (arith, digit-range c h.0, not-zero c p)) (first c h.0) h.1

-- ---- and a number is that of its text
all-last : (s : List ℕ) (c : ℕ) → all_digits s ≡ true → is_digit c ≡ true → all_digits (s ++ (c ∷ [])) ≡ true
all-last [] c e d = rw d
all-last (b ∷ s) c e d =
    let h = both (is_digit b) (all_digits s) e in rw h.0 (all-last s c h.1 d)

from_last : (n : ℕ) (s : List ℕ) (c : ℕ) → decimal_from n (s ++ (c ∷ [])) ≡ decimal_from n s * 10 + (c - 48)
from_last n [] c = refl
from_last n (b ∷ s) c = from_last (n * 10 + (b - 48)) s c

plain-last : (s : List ℕ) (c : ℕ) → no_leading_zero s ≡ true → 0 < decimal_value s → no_leading_zero (s ++ (c ∷ [])) ≡ true
plain-last [] c p z = false-true p
plain-last (b ∷ []) c p z = rw (ne_eqb b 48 (λ e. omega arith))
plain-last (b ∷ d ∷ s) c p z = p

is_digit_lem : (d : ℕ) → d < 10 → is_digit (48 + d) ≡ true
is_digit_lem d h = rw (le-leb 48 (48 + d) (omega arith), le-leb (48 + d) 57 (omega arith))

-- the text is plain digits, and they make the number
pub record Text (n : ℕ) : Type 0 where
  pub plainly : no_leading_zero (decimal_text n) ≡ true
  pub digits : all_digits (decimal_text n) ≡ true
  pub value : decimal_value (decimal_text n) ≡ n

short : (d : ℕ) → d < 10 → Text d
short d h =
    let v : 0 * 10 + (48 + d - 48) ≡ d = omega arith in
    record {
      plainly = rw (single d h);
      digits = rw (single d h, is_digit_lem d h);
      value = rw (single d h) v;
    }

grown : (n d : ℕ) → 0 < n → d < 10 → Text n → Text (n * 10 + d)
grown n d p h t =
    let last = longer n d p h in
    let byte : 48 + d - 48 ≡ d = omega arith in
    record {
      plainly = rw last (plain-last (decimal_text n) (48 + d) t.plainly (omega (arith, t.value)));
      digits = rw last (all-last (decimal_text n) (48 + d) t.digits (is_digit_lem d h));
      value = rw last (from_last 0 (decimal_text n) (48 + d) ∙ rw (t.value, byte));
    }

split : (n : ℕ) → 10 ≤ n → Text (n / 10) → Text n
split n m t =
    let whole : n / 10 * 10 + n % 10 ≡ n = omega arith in
    subst Text whole (grown (n / 10) (n % 10) (omega arith) (omega arith) t)

texts : (f n : ℕ) → n ≤ f → Text n
texts zero n h = short n (omega arith)
texts (suc f) n h = ⊎_elim (λ few. short n few) (λ many. split n many (texts f (n / 10) (omega arith))) (few-or-many n)

pub text : (n : ℕ) → Text n
text n = texts n n (omega arith)
