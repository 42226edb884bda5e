-- `convert::round` meets its contract: within the tests twice x is cut and halved, and past them x is outside 32 bits.
use Rattle.std.proofs.Common.{◌≡◌, true, T, ℤ, ap, ◌∙◌, inl, inr, w64, SFits, rules}
use lib.Ieee.{Float, lt, of_bits, neg, fits, binary32}
use mir.ValLaws.{to_z-of_z}
use Rattle.values.specs.Convert.{cut}
use Rattle.values.proofs.convert.Cuts.{cast-asks}
use Rattle.values.proofs.convert.Halves.{half}
use Rattle.values.proofs.convert.Rounding.{Doubled, doubled, rounded-outside}
use Rattle.values.proofs.convert.round.Goals as goal

twice : (x : Float) → T (fits binary32 x) → lt (neg (of_bits binary32 1585446912)) x ≡ true → lt x (of_bits binary32 1585446912) ≡ true → Doubled x
unfolding of_bits neg
twice x F a b = doubled x F a b

pub truncating_f32_to_i64-requires : goal.truncating_f32_to_i64-requires
truncating_f32_to_i64-requires c =
    let F : T (fits binary32 c.args.x) = search rules in
    let a = cast-asks _ _ (twice c.args.x F c.if-x.true c.if-x-2.true).found in
    record { lower_bound = a.0; upper_bound = a.1 }

pub returns-then-x-2 : goal.returns-then-x-2
returns-then-x-2 c =
    let F : T (fits binary32 c.args.x) = search rules in
    let t = twice c.args.x F c.if-x.true c.if-x-2.true in
    let G : SFits w64 c.truncating_f32_to_i64.result = search rules in
    let e = to_z-of_z w64 _ G ∙ c.truncating_f32_to_i64.ensures ∙ t.found.is in
    c.halved.ensures ∙ ap (λ (z : ℤ). cut (half z)) e ∙ t.nearest

pub returns-else-x-2 : goal.returns-else-x-2
unfolding of_bits neg
returns-else-x-2 c = rounded-outside _ (inr c.if-x-2.false)

pub returns-else-x : goal.returns-else-x
unfolding of_bits neg
returns-else-x c = rounded-outside _ (inl c.if-x.false)
