-- The run of bytes before the first byte b ends at the place of that byte, or takes all. Assumes nothing.
use mathlib.Core.Path.{◌≡◌, refl, ap, ◌∙◌}
use mathlib.Core.Bool.{Bool, true, false, cond}
use mathlib.Core.List.{List}
use Prim.Native.Nat.{ℕ, ◌≤◌}
use native.Mathlib.Omega.{arith}
use lib.Dec.{eqb, ltb}
use lib.ListN.{length}
use borrow.Author.Tests.{ltb-false}
use Rattle.std.proofs.Common.{Option, Some, None, unwrap_or}
use Rattle.std.specs.List.{position, position_or_len}
use Rattle.std.proofs.lemmas.List.Sums.{prefix_len-le-length}
use Rattle.tokens.specs.Bytes.{run_len}
use Rattle.tokens.proofs.Runs.{passed, run-most}
use Rattle.lines.specs.Lines.{except}

module _ (b : ℕ) (s : List ℕ) where
  or-end : (t : Bool) → ltb (position_or_len (λ c. eqb c b) s) (length s) ≡ t
      → unwrap_or (cond t (Some (position_or_len (λ c. eqb c b) s)) None) (length s) ≡ position_or_len (λ c. eqb c b) s
  or-end true e = refl
  or-end false e = omega (arith, ltb-false _ _ e, prefix_len-le-length (except b) s)

  pub found : {n : ℕ} {o : Option ℕ} → n ≡ unwrap_or o (length s) → o ≡ position (λ c. eqb c b) s → (n ≡ run_len (except b) s) × (n ≤ length s)
  found e f =
      let g = e ∙ ap (λ (o : Option ℕ). unwrap_or o (length s)) f ∙ or-end (ltb (position_or_len (λ c. eqb c b) s) (length s)) refl ∙ passed (except b) s in
      (g, omega (arith, g, run-most (except b) s))
