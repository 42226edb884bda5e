-- `Mixed::times` meets its contract: the carries fit, and make the product.
use mathlib.Core.Path.{refl}
use Rattle.literals.proofs.MixedNumbers.{times-low, times-high, times-is}
use Rattle.literals.proofs.mixed.Mixed.times.Goals as goal

pub returns : goal.returns
returns c =
    let x = c.args.self in
    let f = c.args.f in
    record {
      b-is = refl;
      a-is = refl;
      low = times-low x.whole x.high x.low x.b x.a f x.low_below x.high_below;
      high = times-high x.whole x.high x.low x.b x.a f x.low_below x.high_below;
      is = times-is x.whole x.high x.low x.b x.a f x.low_below x.high_below;
    }
