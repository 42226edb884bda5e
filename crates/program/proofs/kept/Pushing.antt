-- One byte more in a text that is kept. Assumes nothing.
use mathlib.Core.Path.{◌≡◌, sym, ◌∙◌}
use mathlib.Core.List.{List, [], ◌∷◌, ◌++◌}
use Prim.Native.Nat.{ℕ, ◌+◌, ◌≤◌, ◌<◌}
use native.Mathlib.Numerals.{add-one}
use native.Mathlib.Omega.{arith}
use lib.ListN.{length, take, set, length-append}
use lib.Seq.{take_all, take-append-le, take-suc-set, length-take-le}
use Rattle.program.specs.Stream.{kept_bytes}

module _ (l : List ℕ) (n b : ℕ) (z : length l ≡ kept_bytes) where
  pub grown : n < kept_bytes → take (n + 1) (set l n b) ≡ take kept_bytes (take n l ++ (b ∷ []))
  grown h =
      let all : length (take n l) ≡ n = length-take-le n l (omega arith) in
      let more : take (n + 1) (set l n b) ≡ take n l ++ (b ∷ []) = rw add-one (take-suc-set l n b (omega arith)) in
      let fits : length (take n l ++ (b ∷ [])) ≤ kept_bytes = rw length-append (omega (arith, all)) in
      more ∙ sym (take_all kept_bytes (take n l ++ (b ∷ [])) fits)

  pub full : kept_bytes ≤ n → n ≤ kept_bytes → take n l ≡ take kept_bytes (take n l ++ (b ∷ []))
  full h m =
      let all : length (take n l) ≡ n = length-take-le n l (omega arith) in
      sym (take-append-le kept_bytes (take n l) (b ∷ []) (omega arith) ∙ take_all kept_bytes (take n l) (omega arith))
