-- A text that is too long to be a number, a cell's name or a cell's value. Assumes nothing.
use Rattle.std.specs.Prelude.{Option, Some, None}
use mathlib.Core.Path.{◌≡◌, refl, sym, ap, ◌∙◌}
use mathlib.Core.Bool.{Bool, true, false, ◌&&◌, cond}
use mathlib.Core.List.{List, [], ◌∷◌}
use Prim.Native.Nat.{ℕ, suc, ◌^◌, ◌≤◌, ◌<◌}
use native.Mathlib.Omega.{arith}
use lib.Dec.{eqb, ltb}
use lib.ListN.{length, drop}
use borrow.Author.Tests.{ltb-true, ltb-false, ne_eqb}
use Rattle.words.proofs.Tests.{both}
use Rattle.memory.specs.declared.Bank.{Bank}
use Rattle.memory.specs.declared.Bank.TheVariants.{X, C, «V», N, D, R}
use Rattle.memory.specs.Layout.{layout_of}
use Rattle.memory.specs.Names.{letter_bank, no_leading_zero, all_digits, decimal_value, number_below, cell_after_letter, named_rule, target_rule}
use Rattle.tokens.specs.Bytes.{all, is_hex}
use Rattle.tokens.specs.Numerals.{hex_from, is_hex_run}
use Rattle.lines.specs.Forms.{natural_form, signed_form, hex_form, cell_pattern}
use Rattle.lines.specs.Printing.{width_of}
use Rattle.lines.proofs.Decimals.{text_of}
use Rattle.lines.proofs.printing.Digits.{length_digits}
use Rattle.lines.proofs.printing.Widths.{at_most}

-- ---- a number below 10 ^ k has at most k digits
digits : (k n : ℕ) (cs : List ℕ) → n ≤ 10 ^ suc k → number_below n cs ≡ true → length cs ≤ suc k
digits k n cs h t =
    let b = both (no_leading_zero cs && all_digits cs) (ltb (decimal_value cs) n) t in
    let p = both (no_leading_zero cs) (all_digits cs) b.0 in
    let width : length cs ≡ width_of (decimal_value cs) = sym (ap length (text_of cs p.0 p.1))
    ∙ length_digits 10 (width_of (decimal_value cs)) (decimal_value cs) in
    omega (arith, at_most k (decimal_value cs) (omega (arith, ltb-true (decimal_value cs) n b.1)), width)

pub no_number : (k n : ℕ) (cs : List ℕ) → n ≤ 10 ^ suc k → suc k < length cs → number_below n cs ≡ false
no_number k n cs h l = by (number_below n cs) refl
  where
    by : (t : Bool) → number_below n cs ≡ t → t ≡ false
    by true e = absurd (omega (arith, digits k n cs h e))
    by false e = refl

-- ---- a name has at most four bytes
pub few : (b : Bank) → (layout_of b).elements ≤ 1000
few X = omega arith
few C = omega arith
few «V» = omega arith
few N = omega arith
few D = omega arith
few R = omega arith

no_element : (cs : List ℕ) (l : Option Bank) → 3 < length cs → cell_after_letter cs l ≡ None
no_element cs (Some b) h = rw (no_number 2 (layout_of b).elements cs (few b) h)
no_element cs None h = refl

pub no_name : (w : List ℕ) → 4 < length w → named_rule w ≡ None
unfolding named_rule
no_name [] h = absurd (omega arith)
no_name (c ∷ cs) h = no_element cs (letter_bank c) (omega arith)

pub short-name : (w : List ℕ) {b : Bank} {i : ℕ} → named_rule w ≡ Some (b, i) → length w ≤ 4
short-name w {b} {i} e = by (ltb 4 (length w)) refl
  where
    by : (t : Bool) → ltb 4 (length w) ≡ t → length w ≤ 4
    by true f = absurd (let o : named_rule w ≡ None = no_name w (ltb-true 4 (length w) f) in let z : ◌≡◌ {A = ℕ} 0 1 = cc in omega arith)
    by false f = ltb-false 4 (length w) f

pub no_target_lem : (w : List ℕ) → 4 < length w → target_rule w ≡ None
no_target_lem w h = rw (no_name w h)

-- ---- a value has at most eleven
natural : (n : ℕ) (cs : List ℕ) → n ≤ 10000000000 → 10 < length cs → natural_form n cs ≡ None
natural n cs h l = rw (no_number 9 n cs h l)

signed : (half : ℕ) (cs : List ℕ) → suc half ≤ 10000000000 → 11 < length cs → signed_form half cs ≡ None
signed half [] h l = refl
signed half (c ∷ cs) h l = rw (no_number 9 (suc half) cs h (omega arith), no_number 9 half (c ∷ cs) (omega arith) (omega arith)) (by (eqb c 45))
  where
    by : (t : Bool) → cond {A = Option ℕ} t None None ≡ None
    by true = refl
    by false = refl

hexadecimal : (cs : List ℕ) → 11 < length cs → hex_form cs ≡ None
hexadecimal cs l = rw (ne_eqb (length cs) 10 (λ e. omega arith)) (by (is_hex_run cs))
  where
    by : (t : Bool) → cond ((t && false) && all is_hex (drop 2 cs)) (Some (hex_from 0 (drop 2 cs))) None ≡ None
    by true = refl
    by false = refl

pub no_value : (b : Bank) (cs : List ℕ) → 11 < length cs → cell_pattern b cs ≡ None
no_value X cs l = natural 2 cs (omega arith) (omega arith)
no_value C cs l = natural 2 cs (omega arith) (omega arith)
no_value «V» cs l = natural 65536 cs (omega arith) (omega arith)
no_value N cs l = signed 32768 cs (omega arith) l
no_value D cs l = signed 2147483648 cs (omega arith) l
no_value R cs l = hexadecimal cs l
