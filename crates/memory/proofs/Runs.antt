-- A run of bytes of the image: read back where it was written, unchanged where it was not. Assumes nothing.
use mathlib.Core.Path.{◌≡◌, refl, ap, ◌∙◌}
use mathlib.Core.Logic.{◌⊎◌, inl, inr, ⊎_elim}
use mathlib.Core.List.{List, [], ◌∷◌, ◌++◌, append_assoc}
use Prim.Native.Nat.{ℕ, zero, suc, ◌+◌, ◌≤◌, ◌<◌, min}
use native.Mathlib.Omega.{arith}
use lib.Dec.{lit<}
use lib.ListN.{length, get_or, take, drop, set, length-take, length-drop}
use lib.Seq.{drop-cons, sets, sets-eq, take-append_seam, drop_at, length-take-le, get_or-set_other, set-set, set_comm, get_or-take, get_or-drop, ext_get_or}
use Rattle.words.specs.Laws.{Bytes}

pub run-written : (s : List ℕ) (at : ℕ) (bs : List ℕ) → at + length bs ≤ length s → take (length bs) (drop at (sets s at bs)) ≡ bs
run-written s at bs h =
    let rest = drop (at + length bs) s in
    let from = drop_at (take at s) (bs ++ rest) at (length-take-le at s (omega arith)) in
    rw (sets-eq bs s at h, append_assoc (take at s) bs rest, from) (take-append_seam bs rest)

pub other-kept : (s : List ℕ) (at : ℕ) (bs : List ℕ) (k : ℕ) → (k < at) ⊎ (at + length bs ≤ k) → get_or (sets s at bs) k 0 ≡ get_or s k 0
other-kept s at [] k h = refl
other-kept s at (b ∷ bs) k h =
    other-kept (set s at b) (suc at) bs k (⊎_elim (λ l. inl (omega arith)) (λ l. inr (omega arith)) h)
    ∙ get_or-set_other s at k b 0 (λ e. ⊎_elim (λ l. omega arith) (λ l. omega arith) h)

-- ---- what is written to distinct places commutes
pub set-sets : (s : List ℕ) (at : ℕ) (bs : List ℕ) (k b : ℕ) → (k < at) ⊎ (at + length bs ≤ k) → set (sets s at bs) k b ≡ sets (set s k b) at bs
set-sets s at [] k b h = refl
set-sets s at (a ∷ rest) k b h =
    set-sets (set s at a) (suc at) rest k b (⊎_elim (λ l. inl (omega arith)) (λ l. inr (omega arith)) h)
    ∙ ap (λ (r : List ℕ). sets r (suc at) rest) (set_comm s at k a b (λ e. ⊎_elim (λ l. omega arith) (λ l. omega arith) h))

pub sets-sets : (s : List ℕ) (at : ℕ) (rest : List ℕ) (to : ℕ) (bs : List ℕ) → ((k : ℕ) → to ≤ k → k < to + length bs → (k < at) ⊎ (at + length rest ≤ k))
    → sets (sets s at rest) to bs ≡ sets (sets s to bs) at rest
sets-sets s at rest to [] h = refl
sets-sets s at rest to (b ∷ bs) h =
    ap (λ (r : List ℕ). sets r (suc to) bs) (set-sets s at rest to b (h to (omega arith) (omega arith)))
    ∙ sets-sets (set s to b) at rest (suc to) bs (λ k l u. h k (omega arith) (omega arith))

-- what is written over is gone
pub sets-again : (s : List ℕ) (at : ℕ) (old new : List ℕ) → length old ≡ length new → sets (sets s at old) at new ≡ sets s at new
sets-again s at [] new e = refl
sets-again s at (a ∷ old) [] e = absurd (omega (arith, e))
sets-again s at (a ∷ old) (b ∷ new) e =
    ap (λ (r : List ℕ). sets r (suc at) new) (set-sets (set s at a) (suc at) old at b (inl (omega arith)))
    ∙ sets-again (set (set s at a) at b) (suc at) old new (omega (arith, e))
    ∙ ap (λ (r : List ℕ). sets r (suc at) new) (set-set s at a b)

pub run_length : (s : List ℕ) (at n : ℕ) → at + n ≤ length s → length (take n (drop at s)) ≡ n
run_length s at n h = simp (length-take, length-drop) (omega arith)

-- a run is known by its bytes
pub run-kept : (s t : List ℕ) (at n : ℕ) → length t ≡ length s → ((k : ℕ) → at ≤ k → k < at + n → get_or t k 0 ≡ get_or s k 0)
    → take n (drop at t) ≡ take n (drop at s)
run-kept s t at n l h =
    ext_get_or 0 (take n (drop at t)) (take n (drop at s)) (simp (length-take, length-drop, l)) step
  where
    step : (k : ℕ) → k < length (take n (drop at t)) → get_or (take n (drop at t)) k 0 ≡ get_or (take n (drop at s)) k 0
    step k g =
        let below : k < min n (length (drop at t)) = rw length-take at g in
        rw (get_or-take n (drop at t) k 0 (omega arith), get_or-take n (drop at s) k 0 (omega arith), get_or-drop at t k 0, get_or-drop at s k 0)
        (h (at + k) (omega arith) (omega arith))

-- ---- a run, byte by byte
abbrev pub from : List ℕ → ℕ → ℕ → List ℕ
from s at zero = []
from s at (suc n) = get_or s at 0 ∷ from s (suc at) n

pub run_is : (s : List ℕ) (at n : ℕ) → at + n ≤ length s → take n (drop at s) ≡ from s at n
run_is s at zero h = refl
run_is s at (suc n) h =
    rw (drop-cons s at 0 (omega arith)) (ap (λ (l : List ℕ). get_or s at 0 ∷ l) (run_is s (suc at) n (omega arith)))

-- ---- a run of bytes is one of bytes
first-bytes : (n : ℕ) (s : List ℕ) → Bytes s → Bytes (take n s)
first-bytes zero s h k = lit< tt
first-bytes (suc n) [] h k = lit< tt
first-bytes (suc n) (b ∷ s) h zero = h 0
first-bytes (suc n) (b ∷ s) h (suc k) = first-bytes n s (λ j. h (suc j)) k

pub run-bytes : (s : List ℕ) (at n : ℕ) → Bytes s → Bytes (take n (drop at s))
run-bytes s at n h = first-bytes n (drop at s) (λ k. rw (get_or-drop at s k 0) (h (at + k)))
