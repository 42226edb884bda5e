-- A test that holds at every number below m, by computing it at each.
use mathlib.Core.Path.{◌≡◌, refl}
use mathlib.Core.Bool.{Bool, true, false, ◌&&◌}
use Prim.Native.Nat.{ℕ, zero, suc, ◌<◌}
use native.Mathlib.Omega.{arith}
use lib.Dec.{ltb}
use borrow.Author.Tests.{ltb-true, ltb-false}
use Rattle.tokens.proofs.Tests.{both}

unfoldable pub below : ℕ → (ℕ → Bool) → Bool
below zero test = true
below (suc m) test = test m && below m test

pub below_at : (test : ℕ → Bool) (m n : ℕ) → below m test ≡ true → n < m → test n ≡ true
unfolding below
below_at test zero n e h = absurd (omega arith)
below_at test (suc m) n e h = let b = both (test m) _ e in go (ltb n m) refl b.0 (λ l. below_at test m n b.1 l)
  where
    go : (x : Bool) → ltb n m ≡ x → test m ≡ true → (n < m → test n ≡ true) → test n ≡ true
    go true q a k = k (ltb-true n m q)
    go false q a k = let z : m ≡ n = omega (arith, ltb-false n m q) in rw (← z) a
