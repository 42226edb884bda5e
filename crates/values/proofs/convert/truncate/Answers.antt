-- `convert::truncate` meets its contract: within the tests the cast cuts, and past them the whole part is outside 32 bits.
use Rattle.std.proofs.Common.{ap, ◌∙◌, inl, inr, w64, SFits, rules}
use lib.Ieee.{of_bits, neg}
use mir.ValLaws.{to_z-of_z}
use Rattle.values.specs.Convert.{cut}
use Rattle.values.proofs.convert.Limits.{not-less}
use Rattle.values.proofs.convert.Cuts.{truncated-is, truncated-outside}
use Rattle.values.proofs.convert.truncate.Goals as goal

pub truncating_f32_to_i64-requires : goal.truncating_f32_to_i64-requires
unfolding of_bits neg
truncating_f32_to_i64-requires c = record { lower_bound = rw c.if-x.true tt; upper_bound = rw c.if-x-2.true tt }

pub returns-then-x-2 : goal.returns-then-x-2
unfolding of_bits neg
returns-then-x-2 c =
    let F : SFits w64 c.truncating_f32_to_i64.result = search rules in
    let e = to_z-of_z w64 _ F ∙ c.truncating_f32_to_i64.ensures in
    c.whole.ensures ∙ ap cut e ∙ truncated-is _ c.if-x.true c.if-x-2.true

pub returns-else-x-2 : goal.returns-else-x-2
unfolding of_bits neg
returns-else-x-2 c = truncated-outside _ (inr c.if-x-2.false)

pub returns-else-x : goal.returns-else-x
unfolding of_bits neg
returns-else-x c = truncated-outside _ (inl (not-less _ _ c.if-x.false))
