-- The digits at a position, and the longest run of a wider class that begins with them.
use mathlib.Core.Path.{◌≡◌, refl, sym, ap, ◌∙◌}
use mathlib.Core.Bool.{Bool, true, false, or-true}
use mathlib.Core.List.{List, [], ◌∷◌}
use Prim.Native.Nat.{ℕ, zero, suc, ◌+◌, ◌<◌}
use native.Mathlib.Omega.{arith}
use lib.ListN.{length, get_or, take, drop}
use lib.Seq.{get_or-drop}
use Rattle.memory.specs.Names.{is_digit, all_digits, digits_of}
use Rattle.tokens.specs.Bytes.{is_word, is_run, run_len}
use Rattle.tokens.proofs.Tests.{by-test, no}

pub digit-word : (c : ℕ) → is_digit c ≡ true → is_word c ≡ true
digit-word c d = rw (d, or-true)

pub digit-run : (c : ℕ) → is_digit c ≡ true → is_run c ≡ true
digit-run c d = rw (digit-word c d)

-- a byte that is not 0 stands in the text
pub inside : (s : List ℕ) (i c : ℕ) → c ≡ get_or s i 0 → 0 < c → i < length s
inside [] zero c e h = absurd (omega arith)
inside [] (suc i) c e h = absurd (omega arith)
inside (d ∷ ds) zero c e h = omega arith
inside (d ∷ ds) (suc i) c e h = let k = inside ds i c e h in omega arith

-- the byte behind the digits
pub behind : (s : List ℕ) (at : ℕ) {e x : ℕ} → e ≡ at + length (digits_of (drop at s)) → x ≡ get_or s e 0
    → x ≡ get_or (drop at s) (length (digits_of (drop at s))) 0
behind s at ends is = is ∙ ap (λ (k : ℕ). get_or s k 0) ends ∙ sym (get_or-drop at s (length (digits_of (drop at s))) 0)

-- digits alone are their own digits
pub digits-again : (cs : List ℕ) → digits_of (digits_of cs) ≡ digits_of cs
digits-again [] = refl
digits-again (c ∷ cs) = by-test (is_digit c) (λ e. rw (e, e, digits-again cs)) (λ e. rw e)

module _ (p : ℕ → Bool) (wider : (c : ℕ) → is_digit c ≡ true → p c ≡ true) where
  -- the run is the digits, if the byte behind them is not of the class
  pub run-digits : (cs : List ℕ) → p (get_or cs (length (digits_of cs)) 0) ≡ false → take (run_len p cs) cs ≡ digits_of cs
  run-digits [] f = refl
  run-digits (c ∷ cs) f = by-test (is_digit c) (λ e. rw (e, wider c e, run-digits cs (rw e at f))) (λ e. rw (e, rw e at f))

  -- otherwise it is more
  pub run_more : (cs : List ℕ) → p 0 ≡ false → p (get_or cs (length (digits_of cs)) 0) ≡ true → all_digits (take (run_len p cs) cs) ≡ false
  run_more [] z t = no (sym z ∙ t)
  run_more (c ∷ cs) z t = by-test (is_digit c) (λ e. rw (wider c e, e, run_more cs z (rw e at t))) (λ e. rw (rw e at t, e))

-- the second byte of a part from a position on
second-of : (n : ℕ) (cs : List ℕ) → is_digit (get_or cs 1 0) ≡ false → is_digit (get_or (take n cs) 1 0) ≡ false
second-of zero cs f = refl
second-of (suc n) [] f = refl
second-of (suc zero) (c ∷ cs) f = refl
second-of (suc (suc n)) (c ∷ []) f = refl
second-of (suc (suc n)) (c ∷ d ∷ cs) f = f

pub no_second : (n at : ℕ) (s : List ℕ) → is_digit (get_or s (at + 1) 0) ≡ false → is_digit (get_or (take n (drop at s)) 1 0) ≡ false
no_second n at s f = second-of n (drop at s) (rw (get_or-drop at s 1 0) f)
