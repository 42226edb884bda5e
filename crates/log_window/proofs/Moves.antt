-- Bytes that go to the front of the list in which they stand. Assumes nothing.
use mathlib.Core.Path.{◌≡◌, sym, ap, ◌∙◌}
use mathlib.Core.List.{List, ◌++◌}
use Prim.Native.Nat.{ℕ, ◌+◌, ◌-◌, ◌≤◌}
use native.Mathlib.Omega.{arith}
use lib.ListN.{length, take, drop, length-drop}
use lib.Seq.{sets, sets-eq, length-take-le}
use Rattle.std.specs.List.{copy_within}
use Rattle.std.proofs.lemmas.List.{drop-take, take-append-drop}
use Rattle.std.proofs.lemmas.List.Edits.{take-paste, drop-paste}

module _ (old : List ℕ) (from end : ℕ) (h : from ≤ end) (l : end ≤ length old) where
  -- the bytes that move
  abbrev moved : List ℕ
  moved = drop from (take end old)

  size : length moved ≡ end - from
  size = length-drop from (take end old) ∙ ap (λ (n : ℕ). n - from) (length-take-le end old l)

  pub count : end - from ≡ 0 + length moved
  count = omega (arith, size)

  moved-are : moved ≡ take (end - from) (drop from old)
  moved-are =
      let e : end ≡ from + (end - from) = omega arith in
      ap (λ (n : ℕ). drop from (take n old)) e ∙ drop-take from (end - from) old

  pub copied : copy_within old from end 0 ≡ sets old 0 moved
  copied =
      let n : ℕ = end - from in
      let new : List ℕ = copy_within old from end 0 in
      let room : n ≤ length (drop from old) = omega (arith, length-drop from old) in
      let front : take (0 + n) new ≡ take 0 old ++ take n (drop from old) = take-paste old 0 (drop from old) n (omega arith) room in
      let back : drop (0 + n) new ≡ drop (0 + n) old = drop-paste old 0 (drop from old) n (omega arith) room in
      let z : 0 + n ≡ 0 + length moved = omega (arith, size) in
      sym (take-append-drop (0 + n) new)
      ∙ ap (λ (s : List ℕ). s ++ drop (0 + n) new) (front ∙ sym moved-are)
      ∙ ap (λ (s : List ℕ). moved ++ s) (back ∙ ap (λ (k : ℕ). drop k old) z)
      ∙ sym (sets-eq moved old 0 (omega (arith, size)))
