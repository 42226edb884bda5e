-- `to_element` meets its contract: the index, on the memory before the store.
use mathlib.Core.Path.{refl}
use Prim.Native.Nat.{◌≤◌}
use native.Mathlib.Omega.{arith}
use Rattle.targets.specs.declared.Element.TheVariants.{By}
use Rattle.delivery.specs.private.Bounds.{most_begun}
use Rattle.delivery.proofs.Runs.{few-counted, storable-bank, storable-end}
use Rattle.delivery.proofs.Following.{to-element}
use borrow.Author.Rules.{rules}
use Rattle.delivery.proofs.to_element.Goals as goal

pub overflow_add-count : goal.overflow_add-count
overflow_add-count c =
    let s = c in
    let at-run-in = c.run_in-ran in
    let few : at-run-in.result.count ≤ most_begun =
    few-counted s.args.reals s.args.index.now s.args.k s.args.tick s.args.memory.now at-run-in.ensures s.requires.0 in
    omega (arith, few, s.requires.1)

pub arrived-requires : goal.arrived-requires
arrived-requires c =
    let s = c in
    let bank = storable-bank s.args.reals s.args.bank s.args.v s.requires.3 in (
      storable-end s.args.reals s.args.bank s.args.index.now s.args.k s.args.tick s.args.memory.now
          c.run_in-ran.ensures bank,
      s.requires.3,
    )
