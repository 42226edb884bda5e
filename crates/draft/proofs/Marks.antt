-- The low half of a token's word: which symbol it is, and of which group. Assumes nothing.
use mathlib.Core.Path.{◌≡◌, refl, sym, ap, ◌∙◌}
use mathlib.Core.Bool.{false, cond}
use Prim.Native.Nat.{ℕ, ◌+◌, ◌-◌, ◌*◌, ◌%◌, ◌≤◌, ◌<◌}
use native.Mathlib.Omega.{arith}
use lib.Dec.{eqb, ltb, lit<}
use lib.ListN.{get_or}
use lib.Seq.{get_or-drop}
use borrow.Author.Tests.{eqb-true, eqb-false, eq-eqb, ne_eqb, ltb-true, ltb-false}
use Rattle.words.proofs.Lists.{zeros}
use Rattle.memory.specs.Numbers.{bank_number}
use Rattle.tokens.specs.declared.Token.{Token}
use Rattle.tokens.proofs.Tests.{by-test}
use Rattle.grammar.specs.Symbols.{groups, group_number, group, is_symbol}
use Rattle.token_table.specs.private.Table.{function_number, word_class, word_operand, Sound}
use Rattle.token_table.proofs.Laws.{token_class, token_operand}

pub low_half : (w : ℕ) → w % 65536 ≡ word_class w + 256 * word_operand w
low_half w = omega arith

same-mark : (m n : ℕ) → eqb (6 + 256 * m) (6 + 256 * n) ≡ eqb m n
same-mark m n = by-test (eqb m n) (λ e. eq-eqb _ _ (ap (λ (i : ℕ). 6 + 256 * i) (eqb-true m n e)) ∙ sym e)
    (λ e. ne_eqb (6 + 256 * m) (6 + 256 * n) (λ (q : 6 + 256 * m ≡ 6 + 256 * n). eqb-false m n e (omega arith)) ∙ sym e)

other-mark : (c x n : ℕ) → c < 256 → (c ≡ 6 → ⊥) → eqb (c + 256 * x) (6 + 256 * n) ≡ false
other-mark c x n h k = ne_eqb (c + 256 * x) (6 + 256 * n) (λ e. k (omega arith))

pub mark-sound : {t : Token} → Sound t → (n : ℕ) → eqb (token_class t + 256 * token_operand t) (6 + 256 * n) ≡ is_symbol n t
mark-sound (Sound.int z h) n = other-mark 1 0 n (lit< tt) (λ e. omega arith)
mark-sound (Sound.real x h) n = other-mark 2 0 n (lit< tt) (λ e. omega arith)
mark-sound (Sound.cell b i h) n = other-mark 3 (bank_number b) n (lit< tt) (λ e. omega arith)
mark-sound (Sound.letter b) n = other-mark 4 (bank_number b) n (lit< tt) (λ e. omega arith)
mark-sound (Sound.name f) n = other-mark 5 (function_number f) n (lit< tt) (λ e. omega arith)
mark-sound (Sound.symbol m h) n = same-mark m n

pub group-sound : {t : Token} → Sound t → cond (eqb (token_class t) 6) (group_number (token_operand t)) 0 ≡ group t
group-sound (Sound.int z h) = refl
group-sound (Sound.real x h) = refl
group-sound (Sound.cell b i h) = refl
group-sound (Sound.letter b) = refl
group-sound (Sound.name f) = refl
group-sound (Sound.symbol m h) = refl

-- a symbol that has a group is one of the first 20
pub few-groups : (n : ℕ) → (group_number n ≡ 0 → ⊥) → n < 20
unfolding group_number
few-groups n z = by-test (ltb n 20) (λ e. ltb-true n 20 e) (λ e. absurd (z (late (ltb-false n 20 e))))
  where
    late : 20 ≤ n → get_or groups n 0 ≡ 0
    late l = let e : 20 + (n - 20) ≡ n = omega arith in ap (λ (i : ℕ). get_or groups i 0) (sym e) ∙ sym (get_or-drop 20 groups (n - 20) 0) ∙ zeros 7 (n - 20)
