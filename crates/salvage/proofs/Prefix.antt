-- What a salvage has written stands at the front of its buffers. Assumes nothing.
use mathlib.Core.Path.{◌≡◌, refl, sym, ap, subst, ◌∙◌}
use mathlib.Core.Bool.{Bool, true, false, cond}
use mathlib.Core.List.{List}
use Prim.Native.Nat.{ℕ, ◌≤◌}
use native.Mathlib.Omega.{arith}
use lib.Dec.{leb}
use lib.ListN.{length, take}
use lib.Seq.{length-take-le, length-sets}
use borrow.Author.Tests.{leb-true}
use Rattle.tokens.proofs.Tests.{both}
use Rattle.card_laws.specs.Formulas.{formula_answer}
use Rattle.salvage_laws.specs.Salvage.{kept_bytes, named_bytes, salvaged, fits, Salvage, rescued, unfit, salvage}
use Rattle.card_salvage.specs.declared.Salvaged.{Salvaged}
use Rattle.card_salvage.specs.Outputs.{salvaged_in, kept_after, named_after}

module _ (file kept named : List ℕ) where
  abbrev Whole : Salvage
  Whole = salvage formula_answer (length kept) (length named) file

  sizes : (r : Salvaged) → r ≡ salvaged_in Whole → (r.kept ≤ length kept) × (r.named ≤ length named)
  sizes r e = by (fits (length kept) (length named) (salvaged formula_answer file)) refl e
    where
      k : List ℕ
      k = kept_bytes (salvaged formula_answer file)

      n : List ℕ
      n = named_bytes (salvaged formula_answer file)

      by : (t : Bool) → fits (length kept) (length named) (salvaged formula_answer file) ≡ t → r ≡ salvaged_in (cond t (rescued k n) unfit)
          → (r.kept ≤ length kept) × (r.named ≤ length named)
      by true q w =
          let h = both (leb (length k) (length kept)) (leb (length n) (length named)) q in (
            omega (arith, leb-true (length k) (length kept) h.0, ap (λ (s : Salvaged). s.kept) w),
            omega (arith, leb-true (length n) (length named) h.1, ap (λ (s : Salvaged). s.named) w),
          )
      by false q w = (omega (arith, ap (λ (s : Salvaged). s.kept) w), omega (arith, ap (λ (s : Salvaged). s.named) w))

  kept-long : (x : Salvage) → length (kept_after kept x) ≡ length kept
  kept-long (rescued k n) = length-sets kept 0 k
  kept-long unfit = refl

  named-long : (x : Salvage) → length (named_after named x) ≡ length named
  named-long (rescued k n) = length-sets named 0 n
  named-long unfit = refl

  pub kept-size : (r : Salvaged) → r ≡ salvaged_in Whole → r.kept ≤ length kept
  kept-size r e = (sizes r e).0

  pub named-size : (r : Salvaged) → r ≡ salvaged_in Whole → r.named ≤ length named
  named-size r e = (sizes r e).1

  pub kept-prefix : (r : Salvaged) → r ≡ salvaged_in Whole → {out : List ℕ} → out ≡ kept_after kept Whole → r.kept ≡ length (take r.kept out)
  kept-prefix r e {out} q = sym (length-take-le r.kept out (omega (arith, (sizes r e).0, ap length q, kept-long Whole)))

  pub named-prefix : (r : Salvaged) → r ≡ salvaged_in Whole → {out : List ℕ} → out ≡ named_after named Whole → r.named ≡ length (take r.named out)
  named-prefix r e {out} q = sym (length-take-le r.named out (omega (arith, (sizes r e).1, ap length q, named-long Whole)))
