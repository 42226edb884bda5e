-- `values::patterns::complement` meets its contract: the largest pattern less a's is a's with every digit turned over.
use Rattle.std.proofs.Common.{ℕ, ◌-◌, sym, ap, ◌∙◌, w32, of_z}
use mir.ValLaws.{of_z_fits}
use Rattle.values.specs.Patterns.{signed_of, digit, from_digits}
use Rattle.values.proofs.patterns.Digits.{complement-number}
use Rattle.values.proofs.patterns.Readings.{low-of_z, signed-to_z}
use Rattle.values.proofs.patterns.complement.Goals as goal

pub returns : goal.returns
returns c =
    let a = c.args.a in
    let F = c.ranges.a in
    sym (signed-to_z w32 (4294967295 - of_z w32 a))
    ∙ ap (signed_of 32) (sym (complement-number (of_z w32 a) 32 (of_z_fits w32 a F).fits))
    ∙ sym (ap (λ (n : ℕ). signed_of 32 (from_digits 32 (λ i. 1 - digit n i))) (low-of_z w32 a F))
