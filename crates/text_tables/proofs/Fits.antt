-- Of a text that is put at the front of a list, only the bytes that the list has room for matter. Assumes nothing.
use mathlib.Core.Path.{◌≡◌, refl, sym, ap, ◌∙◌}
use mathlib.Core.Bool.{Bool, true, false}
use mathlib.Core.List.{List, [], ◌∷◌}
use Prim.Native.Nat.{ℕ, zero, suc, ◌+◌, ◌≤◌, min}
use native.Mathlib.Omega.{arith}
use lib.ListN.{length, take, set, length-set}
use lib.Seq.{sets, set_out, take-nil, take_all}
use lib.Dec.{ltb}
use borrow.Author.Tests.{ltb-true, ltb-false}

sets-beyond : (l : List ℕ) (i : ℕ) (vs : List ℕ) → length l ≤ i → sets l i vs ≡ l
sets-beyond l i [] h = refl
sets-beyond l i (v ∷ vs) h = rw (set_out l i v h) (sets-beyond l (suc i) vs (omega arith))

sets-room : (m : ℕ) (vs l : List ℕ) (i : ℕ) → length l ≡ i + m → sets l i (take m vs) ≡ sets l i vs
sets-room m [] l i e = rw (take-nil {A = ℕ} m)
sets-room zero (v ∷ vs) l i e = sym (sets-beyond l i (v ∷ vs) (omega arith))
sets-room (suc m) (v ∷ vs) l i e = sets-room m vs (set l i v) (suc i) (length-set l i v ∙ omega arith)

pub sets-front : (vs l : List ℕ) → sets l 0 (take (length l) vs) ≡ sets l 0 vs
sets-front vs l = sets-room (length l) vs l 0 (omega arith)

pub fitting : (vs l : List ℕ) (n : ℕ) → n ≡ min (length vs) (length l) → sets l 0 (take n vs) ≡ sets l 0 vs
fitting vs l n e = by (ltb (length vs) (length l)) refl
  where
    by : (t : Bool) → ltb (length vs) (length l) ≡ t → sets l 0 (take n vs) ≡ sets l 0 vs
    by true q = let h = ltb-true (length vs) (length l) q in ap (sets l 0) (take_all n vs (omega arith))
    by false q =
        let h = ltb-false (length vs) (length l) q in
        let k : n ≡ length l = omega arith in
        ap (λ (m : ℕ). sets l 0 (take m vs)) k ∙ sets-front vs l
