-- What a salvage returns and leaves in both buffers: unfit, or written. Assumes nothing.
use mathlib.Core.Path.{◌≡◌, sym, ap, ◌∙◌}
use mathlib.Core.Bool.{Bool, true, false, cond}
use mathlib.Core.List.{List}
use Prim.Native.Nat.{ℕ, ◌≤◌}
use native.Mathlib.Omega.{arith}
use lib.Dec.{leb}
use lib.ListN.{length}
use borrow.Author.Tests.{leb-true}
use Rattle.tokens.proofs.Tests.{both}
use Rattle.lines.specs.private.Steps.{Puts}
use Rattle.card_laws.specs.Formulas.{formula_answer}
use Rattle.salvage_laws.specs.Salvage.{kept_bytes, named_bytes, salvaged, fits, Salvage, rescued, unfit, salvage}
use Rattle.card_salvage.specs.declared.Salvaged.{Salvaged}
use Rattle.card_salvage.specs.Outputs.{salvaged_in, kept_after, named_after}

module _ (file kept named : List ℕ) where
  abbrev K : List ℕ
  K = kept_bytes (salvaged formula_answer file)

  abbrev N : List ℕ
  N = named_bytes (salvaged formula_answer file)

  abbrev Whole : Salvage
  Whole = salvage formula_answer (length kept) (length named) file

  abbrev Result : Salvaged → List ℕ → List ℕ → Type 0
  Result r k n = (r ≡ salvaged_in Whole) × ((k ≡ kept_after kept Whole) × (n ≡ named_after named Whole))

  pub too_long : false ≡ fits (length kept) (length named) (salvaged formula_answer file) → Result (record { answer = 10; kept = 0; named = 0 }) kept named
  too_long e =
      let w : Whole ≡ unfit = ap (λ (t : Bool). cond t (rescued K N) unfit) (sym e) in
      (sym (ap salvaged_in w), (sym (ap (kept_after kept) w), sym (ap (named_after named) w)))

  module _ (e : true ≡ fits (length kept) (length named) (salvaged formula_answer file)) where
    pub rooms : (length K ≤ length kept) × (length N ≤ length named)
    rooms =
        let h = both (leb (length K) (length kept)) (leb (length N) (length named)) (sym e) in
        (leb-true (length K) (length kept) h.0, leb-true (length N) (length named) h.1)

    pub written : (r : Salvaged) {k n : List ℕ} → (r.answer ≡ 0) × (Puts kept 0 k r.kept K × Puts named 0 n r.named N) → Result r k n
    written r h =
        let w : Whole ≡ rescued K N = ap (λ (t : Bool). cond t (rescued K N) unfit) (sym e) in
        let x : r.kept ≡ length K = omega (arith, h.1.0.end) in
        let y : r.named ≡ length N = omega (arith, h.1.1.end) in
        let i : r ≡ record { answer = 0; kept = length K; named = length N } =
        ap (λ (a : ℕ). record { answer = a; kept = r.kept; named = r.named }) h.0 ∙ ap (λ (m : ℕ). record { answer = 0; kept = m; named = r.named }) x
        ∙ ap (λ (m : ℕ). record { answer = 0; kept = length K; named = m }) y in
        (i ∙ sym (ap salvaged_in w), (h.1.0.bytes ∙ sym (ap (kept_after kept) w), h.1.1.bytes ∙ sym (ap (named_after named) w)))
