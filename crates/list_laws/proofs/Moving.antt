-- Two formulas exchanged in a list that the operation runs: both lists have one length, and the unused places stand behind.
use mathlib.Core.Path.{◌≡◌, refl, sym, ap, ◌∙◌}
use mathlib.Core.Bool.{Bool, true, false}
use mathlib.Core.List.{List, [], ◌∷◌, ◌++◌}
use Prim.Native.Nat.{ℕ, zero, suc, ◌-◌, ◌<◌}
use native.Mathlib.Omega.{arith}
use lib.Dec.{ltb}
use lib.ListN.{length, replicate, length-append}
use Rattle.list_laws.specs.Running.{Listed, Buffers, request_of, answers_of, most_listed, ran_list}
use Rattle.list_laws.specs.Independence.{Independent}
use Rattle.list_laws.specs.Theorems.{exchanged}
use Rattle.list_laws.proofs.Joining.{answers-length}
use Rattle.list_laws.proofs.Commuting.{swapped}

-- ---- answers exchanged
exchanged-zeros : (n k : ℕ) → exchanged n (replicate k 0) ≡ replicate k 0
exchanged-zeros zero zero = refl
exchanged-zeros zero (suc zero) = refl
exchanged-zeros zero (suc (suc k)) = refl
exchanged-zeros (suc n) zero = refl
exchanged-zeros (suc n) (suc k) = ap (λ (l : List ℕ). 0 ∷ l) (exchanged-zeros n k)

exchanged-front : (n : ℕ) (l r : List ℕ) → suc n < length l → exchanged n (l ++ r) ≡ exchanged n l ++ r
exchanged-front n [] r h = absurd (omega arith)
exchanged-front zero (a ∷ []) r h = absurd (omega arith)
exchanged-front zero (a ∷ b ∷ l) r h = refl
exchanged-front (suc n) (a ∷ l) r h = ap (λ (k : List ℕ). a ∷ k) (exchanged-front n l r (omega arith))

-- ---- the two lists
same_size : (xs ys : List Listed) (e f : Listed) → length (xs ++ f ∷ e ∷ ys) ≡ length (xs ++ e ∷ f ∷ ys)
same_size [] ys e f = refl
same_size (x ∷ xs) ys e f = ap suc (same_size xs ys e f)

module _ (tick : ℕ) where
  pub moved : (xs ys : List Listed) (e f : Listed) (s : Buffers) → Independent (request_of e s) (request_of f s)
      → ((ran_list tick (xs ++ e ∷ f ∷ ys) s).buffers.memory ≡ (ran_list tick (xs ++ f ∷ e ∷ ys) s).buffers.memory)
      × ((ran_list tick (xs ++ f ∷ e ∷ ys) s).answers ≡ exchanged (length xs) (ran_list tick (xs ++ e ∷ f ∷ ys) s).answers)
  moved xs ys e f s n = by (ltb most_listed (length (xs ++ e ∷ f ∷ ys))) refl
    where
      size : length (xs ++ f ∷ e ∷ ys) ≡ length (xs ++ e ∷ f ∷ ys)
      size = same_size xs ys e f

      both : (after_one : List ℕ) (zeros : List ℕ) → after_one ≡ exchanged (length xs) (answers_of tick (xs ++ e ∷ f ∷ ys) s)
          → after_one ++ zeros ≡ exchanged (length xs) (answers_of tick (xs ++ e ∷ f ∷ ys) s ++ zeros)
      both l zeros p =
          ap (λ (k : List ℕ). k ++ zeros) p
          ∙ sym (exchanged-front (length xs) (answers_of tick (xs ++ e ∷ f ∷ ys) s) zeros
          (omega (arith, answers-length tick (xs ++ e ∷ f ∷ ys) s, length-append xs (e ∷ f ∷ ys))))

      by : (t : Bool) → ltb most_listed (length (xs ++ e ∷ f ∷ ys)) ≡ t
          → ((ran_list tick (xs ++ e ∷ f ∷ ys) s).buffers.memory ≡ (ran_list tick (xs ++ f ∷ e ∷ ys) s).buffers.memory)
          × ((ran_list tick (xs ++ f ∷ e ∷ ys) s).answers ≡ exchanged (length xs) (ran_list tick (xs ++ e ∷ f ∷ ys) s).answers)
      by true q =
          let q' : ltb most_listed (length (xs ++ f ∷ e ∷ ys)) ≡ true = ap (ltb most_listed) size ∙ q in
          rw (q, q') (refl, sym (exchanged-zeros (length xs) most_listed))
      by false q =
          let q' : ltb most_listed (length (xs ++ f ∷ e ∷ ys)) ≡ false = ap (ltb most_listed) size ∙ q in
          let two = swapped tick xs ys e f s n in
          let zeros : List ℕ = replicate (most_listed - length (xs ++ e ∷ f ∷ ys)) 0 in
          let unused : replicate (most_listed - length (xs ++ f ∷ e ∷ ys)) 0 ≡ zeros = ap (λ (k : ℕ). replicate (most_listed - k) 0) size in
          rw (q, q') (two.0, ap (λ (l : List ℕ). answers_of tick (xs ++ f ∷ e ∷ ys) s ++ l) unused ∙ both (answers_of tick (xs ++ f ∷ e ∷ ys) s) zeros two.1)
