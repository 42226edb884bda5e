-- The last line end, looked for from behind, and what is played up to it. Assumes nothing.
use mathlib.Core.Path.{◌≡◌, sym, ap, ◌∙◌}
use mathlib.Core.Bool.{Bool, true, false, cond}
use mathlib.Core.List.{List, [], ◌∷◌, ◌++◌}
use Prim.Native.Nat.{ℕ, suc, ◌+◌, ◌-◌, ◌≤◌, ◌<◌}
use native.Mathlib.Omega.{arith}
use lib.ListN.{length, take, get_or}
use lib.Seq.{take-length, take-suc, length-take-le}
use borrow.Author.Tests.{lt-ltb, le-ltb, ne_eqb}
use Rattle.card_laws.specs.Lines.{line_end}
use Rattle.log_laws.specs.Window.{one_before, through_last_end, playable_of, playable}
use Rattle.log_laws.proofs.Windows.{through-more}

one-behind : (s : List ℕ) (c : ℕ) → (c ≡ line_end → ⊥) → through_last_end (s ++ (c ∷ [])) ≡ through_last_end s
one-behind [] c h = ap (λ (x : Bool). cond x 1 0) (ne_eqb c 10 h)
one-behind (d ∷ s) c h = ap (one_before d) (one-behind s c h)

-- no line end stands behind the first n bytes
pub record Before (s : List ℕ) (n : ℕ) : Type 0 where
  pub inside : n ≤ length s
  pub same : through_last_end s ≡ through_last_end (take n s)

pub start : (s : List ℕ) → Before s (length s)
start s = record { inside = omega arith; same = ap through_last_end (sym (take-length s)) }

module _ {s : List ℕ} {n : ℕ} (b : Before s n) where
  split : 0 < n → take n s ≡ take (n - 1) s ++ (get_or s (n - 1) 0 ∷ [])
  split h =
      let e : n ≡ suc (n - 1) = omega arith in
      ap (λ (k : ℕ). take k s) e ∙ take-suc s (n - 1) 0 (omega (arith, b.inside))

  pub found : 0 < n → get_or s (n - 1) 0 ≡ line_end → n ≡ through_last_end s
  found h e =
      let t : through_last_end s ≡ suc (length (take (n - 1) s) + 0) =
      b.same ∙ ap through_last_end (split h) ∙ ap (λ (c : ℕ). through_last_end (take (n - 1) s ++ (c ∷ []))) e ∙ through-more (take (n - 1) s) [] in
      omega (arith, t, length-take-le (n - 1) s (omega (arith, b.inside)))

  pub further : 0 < n → (get_or s (n - 1) 0 ≡ line_end → ⊥) → Before s (n - 1)
  further h e =
      record {
        inside = omega (arith, b.inside);
        same = b.same ∙ ap through_last_end (split h) ∙ one-behind (take (n - 1) s) (get_or s (n - 1) 0) e;
      }

  pub none : n ≤ 0 → 0 ≡ through_last_end s
  none h = let e : n ≡ 0 = omega arith in sym (b.same ∙ ap (λ (k : ℕ). through_last_end (take k s)) e)

-- ---- what is played
module _ (size : ℕ) (last : Bool) (held : List ℕ) where
  pub all-of-it : last ≡ true → length held ≡ playable size last held
  all-of-it e = ap (λ (x : Bool). cond x (length held) (playable_of size (length held) (through_last_end held))) (sym e)

  module _ (e : last ≡ false) {n : ℕ} (t : n ≡ through_last_end held) where
    so-many : playable_of size (length held) n ≡ playable size last held
    so-many =
        ap (playable_of size (length held)) t
        ∙ ap (λ (x : Bool). cond x (length held) (playable_of size (length held) (through_last_end held))) (sym e)

    pub whole-lines : 0 < n → n ≡ playable size last held
    whole-lines h =
        let s : n ≡ suc (n - 1) = omega arith in
        s ∙ ap (playable_of size (length held)) (sym s) ∙ so-many

    pub too_short : n ≤ 0 → length held < size → 0 ≡ playable size last held
    too_short z h =
        let s : 0 ≡ n = omega arith in
        ap (λ (x : Bool). cond x 0 (length held)) (sym (lt-ltb (length held) size h)) ∙ ap (playable_of size (length held)) s ∙ so-many

    pub too_long : n ≤ 0 → size ≤ length held → length held ≡ playable size last held
    too_long z h =
        let s : 0 ≡ n = omega arith in
        ap (λ (x : Bool). cond x 0 (length held)) (sym (le-ltb (length held) size h)) ∙ ap (playable_of size (length held)) s ∙ so-many
