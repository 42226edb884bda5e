-- Lines put one behind the other.
use mathlib.Core.Path.{◌≡◌, refl, sym, ap, ◌∙◌}
use mathlib.Core.List.{List, [], ◌∷◌, ◌++◌, append-nil, append_assoc}
use Prim.Native.Nat.{ℕ, ◌+◌, ◌*◌, ◌≤◌, ◌<◌}
use native.Mathlib.Numerals.{add-one}
use native.Mathlib.Omega.{arith}
use lib.ListN.{length, get_or, take}
use lib.Seq.{take-suc, take_all, length-sets}
use Rattle.lines.specs.private.Steps.{Puts}
use Rattle.lines.proofs.Stores.{then, as-text}
use Rattle.read_reply.specs.private.Numbers.{number_text, number_lines}

-- the lines of the first k numbers stand in the buffer
pub record Putting (old list now : List ℕ) (at k : ℕ) : Type 0 where
  pub inside : k ≤ length list
  pub short : at ≤ 5 * k
  pub put : Puts old 0 now at (number_lines (take k list))

pub start : (old list : List ℕ) → Putting old list old 0 0
unfolding number_lines
start old list = record { inside = omega arith; short = omega arith; put = record { bytes = refl; end = refl } }

append-lines : (a b : List ℕ) → number_lines (a ++ b) ≡ number_lines a ++ number_lines b
unfolding number_lines
append-lines [] b = refl
append-lines (n ∷ a) b = ap (λ (s : List ℕ). number_text n ++ s) (append-lines a b) ∙ sym (append_assoc (number_text n) (number_lines a) (number_lines b))

one_line : (n : ℕ) → number_lines (n ∷ []) ≡ number_text n
unfolding number_lines
one_line n = append-nil (number_text n)

one_more : (list : List ℕ) (k : ℕ) → k < length list → number_lines (take k list) ++ number_text (get_or list k 0) ≡ number_lines (take (k + 1) list)
one_more list k h =
    let e : take (k + 1) list ≡ take k list ++ (get_or list k 0 ∷ []) = rw (add-one k) (take-suc list k 0 h) in
    sym (ap number_lines e ∙ append-lines (take k list) (get_or list k 0 ∷ [])
    ∙ ap (λ (s : List ℕ). number_lines (take k list) ++ s) (one_line (get_or list k 0)))

module _ {old list now : List ℕ} {at k : ℕ} (p : Putting old list now at k) where
  pub long : length now ≡ length old
  long = ap length p.put.bytes ∙ length-sets old 0 (number_lines (take k list))

  pub next : {new : List ℕ} {at' n : ℕ} → k < length list → n ≡ get_or list k 0 → Puts now at new at' (number_text n) → at' ≤ at + 5
      → Putting old list new at' (k + 1)
  next h e q r =
      record {
        inside = omega arith;
        short = omega (arith, p.short);
        put = as-text (ap (λ (x : ℕ). number_lines (take k list) ++ number_text x) e ∙ one_more list k h) (then p.put q);
      }

  pub end : length list ≤ k → Puts old 0 now at (number_lines list) × (at ≤ 5 * length list)
  end h = (as-text (ap number_lines (take_all k list h)) p.put, omega (arith, p.short, p.inside))
