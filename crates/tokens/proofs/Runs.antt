-- Runs of bytes that pass a test, for any test: how a run goes on by one byte and where it ends, and tests of every byte as a run.
use mathlib.Core.Path.{◌≡◌, refl, ap, ◌∙◌}
use mathlib.Core.Bool.{Bool, true, false, ◌&&◌, cond}
use mathlib.Core.List.{List, [], ◌∷◌, ◌++◌}
use Prim.Native.Nat.{ℕ, zero, suc, ◌+◌, ◌-◌, ◌≤◌, ◌<◌}
use native.Mathlib.Omega.{arith}
use lib.Dec.{eqb}
use lib.ListN.{length, get_or, take, drop, length-drop}
use lib.Seq.{take_all}
use Rattle.std.specs.List.{prefix_len, list_all}
use Rattle.tokens.specs.Bytes.{run_len, all}
use Rattle.tokens.specs.Numerals.{non_empty}
use Rattle.tokens.specs.Theorems.{Stops, nothing, other}
use Rattle.tokens.proofs.Tests.{by-test, both}

pub run-most : (p : ℕ → Bool) (s : List ℕ) → run_len p s ≤ length s
run-most p [] = omega arith
run-most p (c ∷ cs) = by-test (p c) (λ e. rw e (omega (arith, run-most p cs))) (λ e. rw e (omega arith))

-- the library's words for a run and for a test of every byte
pub all-list : (p : ℕ → Bool) (s : List ℕ) → list_all p s ≡ all p s
all-list p [] = refl
all-list p (c ∷ cs) = ap (λ (t : Bool). p c && t) (all-list p cs)

pub passed : (p : ℕ → Bool) (s : List ℕ) → prefix_len p s ≡ run_len p s
passed p [] = refl
passed p (c ∷ cs) = go (p c) (passed p cs)
  where
    go : (t : Bool) {m n : ℕ} → m ≡ n → cond t (1 + m) 0 ≡ cond t (suc n) 0
    go true e = omega (arith, e)
    go false e = refl

-- the bytes from a position on that pass
pub passed-from : (p : ℕ → Bool) (s : List ℕ) (at n : ℕ) → at ≤ length s → n ≡ prefix_len p (take (length s - at) (drop at s))
    → (at + n ≡ at + run_len p (drop at s)) × (at + n ≤ length s)
passed-from p s at n h e =
    let f : n ≡ run_len p (drop at s) =
    e ∙ ap (prefix_len p) (take_all (length s - at) (drop at s) (rw length-drop (omega arith))) ∙ passed p (drop at s) in
    (ap (λ (k : ℕ). at + k) f, omega (arith, f, run-most p (drop at s), length-drop at s))

-- there is a byte, and every one passes
pub some-byte : (p : ℕ → Bool) (s : List ℕ) → eqb (length s) 0 ≡ false → all p s ≡ true → (non_empty s && all p s) ≡ true
some-byte p [] h e = absurd (let z : ◌≡◌ {A = ℕ} 0 1 = cc in omega arith)
some-byte p (c ∷ cs) h e = e

-- a test of every byte, at one of them and on two lists
module _ (p : ℕ → Bool) where
  at : (s : List ℕ) (i : ℕ) → all p s ≡ true → i < length s → p (get_or s i 0) ≡ true
  at [] i e h = absurd (omega arith)
  at (c ∷ cs) zero e h = (both (p c) (all p cs) e).0
  at (c ∷ cs) (suc i) e h = at cs i (both (p c) (all p cs) e).1 (omega arith)

  pub all-at : (s : List ℕ) (i : ℕ) → (non_empty s && all p s) ≡ true → i < length s → p (get_or s i 0) ≡ true
  all-at s i e h = at s i (both (non_empty s) (all p s) e).1 h

  pub all_append : (s t : List ℕ) → all p s ≡ true → all p t ≡ true → all p (s ++ t) ≡ true
  all_append [] t e f = f
  all_append (c ∷ cs) t e f =
      let h = both (p c) (all p cs) e in rw h.0 (all_append cs t h.1 f)

-- ---- a run is the longest: every byte of it passes, and the next one does not
module _ (p : ℕ → Bool) where
  pub run-every : (s : List ℕ) → all p (take (run_len p s) s) ≡ true
  run-every [] = refl
  run-every (c ∷ cs) = go (p c) refl (run-every cs)
    where
      go : (t : Bool) → p c ≡ t → all p (take (run_len p cs) cs) ≡ true → all p (take (cond t (suc (run_len p cs)) 0) (c ∷ cs)) ≡ true
      go true e h = rw e h
      go false e h = refl

  pub run-stops : (s : List ℕ) → Stops p (drop (run_len p s) s)
  run-stops [] = nothing
  run-stops (c ∷ cs) = go (p c) refl (run-stops cs)
    where
      go : (t : Bool) → p c ≡ t → Stops p (drop (run_len p cs) cs) → Stops p (drop (cond t (suc (run_len p cs)) 0) (c ∷ cs))
      go true e h = h
      go false e h = other e

  run_none : (t : List ℕ) → Stops p t → run_len p t ≡ 0
  run_none [] nothing = refl
  run_none (c ∷ cs) (other e) = rw e

  pub run_length : (s t : List ℕ) → all p s ≡ true → Stops p t → run_len p (s ++ t) ≡ length s
  run_length [] t e h = run_none t h
  run_length (c ∷ cs) t e h = let b = both (p c) (all p cs) e in rw b.0 (ap suc (run_length cs t b.1 h))
