-- `values::singles::settled` meets its contract: a finite result, a NaN or an infinity.
use Rattle.std.proofs.Common.{sym, ◌∙◌}
use Rattle.values.proofs.singles.Finite.{settle-infinite, settle-nan}
use Rattle.values.proofs.singles.settled.Goals as goal

pub returns-then-is_nan : goal.returns-then-is_nan
returns-then-is_nan c = settle-nan c.args.x (sym c.is_nan.ensures.value ∙ c.if-is_nan.true)

pub returns-else-is_nan : goal.returns-else-is_nan
returns-else-is_nan c =
    settle-infinite c.args.x (sym c.is_finite.ensures ∙ c.if-is_finite.false) (sym c.is_nan.ensures.value ∙ c.if-is_nan.false)
