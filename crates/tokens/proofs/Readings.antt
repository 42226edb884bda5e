-- A number read from its digits, first to last, at any base: how it goes on by one digit, that it never falls, and how large it becomes.
use mathlib.Core.Path.{◌≡◌, refl, sym, ◌∙◌}
use mathlib.Core.Bool.{Bool, true}
use mathlib.Core.List.{List, [], ◌∷◌, ◌++◌}
use Prim.Native.Nat.{ℕ, suc, ◌+◌, ◌-◌, ◌*◌, ◌^◌, ◌≤◌, ◌<◌}
use native.Mathlib.Nat.{le_trans, lt_of_lt_of_le, mul_assoc, mul-one, one-mul, add-mul, pow-zero, pow-succ', mul-le-mul_right, pow-le-pow_right}
use native.Mathlib.Numerals.{add-one}
use native.Mathlib.Omega.{arith}
use lib.ListN.{length, get_or, drop, drop_of_length-le}
use lib.Seq.{drop-cons}
use Rattle.memory.specs.Names.{decimal_from}
use Rattle.tokens.specs.Bytes.{all}
use Rattle.tokens.specs.Numerals.{hex_digit, hex_from}
use Rattle.tokens.proofs.Tests.{both}

-- `number n s` is what the digits s make after those that make n
pub record Reading (number : ℕ → List ℕ → ℕ) (base : ℕ) (digit_of : ℕ → ℕ) : Type 0 where
  pub none : (n : ℕ) → number n [] ≡ n
  pub one : (n c : ℕ) (cs : List ℕ) → number n (c ∷ cs) ≡ number (n * base + digit_of c) cs
  pub rises : (n c : ℕ) → n ≤ n * base + digit_of c

pub decimals : Reading decimal_from 10 (λ c. c - 48)
decimals = record { none = λ n. refl; one = λ n c cs. refl; rises = λ n c. omega arith }

pub hexes : Reading hex_from 16 hex_digit
hexes = record { none = λ n. refl; one = λ n c cs. refl; rises = λ n c. omega arith }

-- the number of s is total, and the digits before i make n of it
pub record Makes (number : ℕ → List ℕ → ℕ) (s : List ℕ) (total i n : ℕ) : Type 0 where
  pub within : i ≤ length s
  pub rest : number n (drop i s) ≡ total

module _ {number : ℕ → List ℕ → ℕ} {base : ℕ} {digit_of : ℕ → ℕ} (R : Reading number base digit_of) where
  pub grows : (n : ℕ) (s : List ℕ) → n ≤ number n s
  grows n [] = rw (R.none n) (omega arith)
  grows n (c ∷ cs) = rw (R.one n c cs) (le_trans (R.rises n c) (grows (n * base + digit_of c) cs))

  pub from : (n : ℕ) (s : List ℕ) → Makes number s (number n s) 0 n
  from n s = record { within = omega arith; rest = refl }

  module _ {s : List ℕ} {total i n : ℕ} (m : Makes number s total i n) where
    -- one more digit, which is d
    pub more : {d : ℕ} → d ≡ digit_of (get_or s i 0) → i < length s → Makes number s total (i + 1) (n * base + d)
    more e h = record { within = omega arith; rest = rw (e, add-one, ← R.one n (get_or s i 0) (drop (suc i) s), ← drop-cons s i 0 h) m.rest }

    pub at_most : n ≤ total
    at_most = rw m.rest at (grows n (drop i s))

    pub end : length s ≤ i → n ≡ total
    end h = sym (R.none n) ∙ (rw (drop_of_length-le s h) at m.rest)

  pub append : (n : ℕ) (s t : List ℕ) → number n (s ++ t) ≡ number (number n s) t
  append n [] t = rw (R.none n)
  append n (c ∷ cs) t = rw (R.one n c (cs ++ t), R.one n c cs) (append (n * base + digit_of c) cs t)

  -- digits that pass a test, each below the base
  module _ {p : ℕ → Bool} (small : (c : ℕ) → p c ≡ true → digit_of c < base) where
    pub bound : (n : ℕ) (s : List ℕ) → all p s ≡ true → number n s < (n + 1) * base ^ length s
    bound n [] e = rw (R.none n, pow-zero, mul-one) (omega arith)
    bound n (c ∷ cs) e =
        let h = both (p c) (all p cs) e in
        let d : n * base + digit_of c + 1 ≤ (n + 1) * base = rw (add-mul, one-mul) (omega (arith, small c h.0)) in
        rw (R.one n c cs, pow-succ', ← mul_assoc)
        (lt_of_lt_of_le (bound (n * base + digit_of c) cs h.1) (mul-le-mul_right (base ^ length cs) d))

    -- at most k digits
    pub below : (k : ℕ) (s : List ℕ) → 0 < base → all p s ≡ true → length s ≤ k → number 0 s < base ^ k
    below k s b e h = lt_of_lt_of_le (rw one-mul at (bound 0 s e)) (pow-le-pow_right b h)
