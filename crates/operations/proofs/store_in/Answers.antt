-- `store_in` meets its contract: its refusals in their order, then the store or the index.
use mathlib.Core.Path.{sym, ap, subst⁻¹, ◌∙◌}
use native.Mathlib.Omega.{arith}
use Rattle.memory.specs.Store.{is_finite}
use Rattle.targets.specs.Found.{found_to_run}
use Rattle.operations.specs.Operations.{given_value}
use Rattle.delivery.specs.private.Bounds.{Storable}
use Rattle.delivery.proofs.Runs.{storable}
use Rattle.delivery.proofs.Following.{few-index, by_index}
use Rattle.operations.proofs.Runs.{few-checked, found-bank}
use Rattle.operations.proofs.Halves.{aims, follows}
use Rattle.operations.proofs.store_in.Goals as goal

pub to_element-requires : goal.to_element-requires
to_element-requires c =
    let s = c.args in
    let bank = c.in-Some.bank in
    let found = sym c.to_run_in.ensures ∙ c.in-Some.is in
    let kept = sym (c.is_unstorable.ensures s.bits) ∙ c.if-is_unstorable.false in (
      few-index (few-checked s.reals s.index.now _ (sym c.index_passes.ensures ∙ c.if-not-index_passes.false)) c.in-By.is,
      omega arith,
      ap is_finite c.given-v.ensures ∙ sym c.is_finite_given.ensures ∙ c.if-not-is_finite_given.false,
      subst⁻¹ (Storable s.reals bank) c.given-v.ensures
          (storable s.reals bank (given_value s.kind s.bits) (found-bank s.reals (found_to_run s.k s.target.now) found) kept),
    )

pub returns-in-By-clause-value : goal.returns-in-By-clause-value
returns-in-By-clause-value c =
    let s = c.args in
    let v = given_value s.kind s.bits in
    let found = sym c.to_run_in.ensures ∙ c.in-Some.is in
    let aim = aims s.reals s.tick v s.target.now s.index.now s.k s.memory.now (omega (arith, c.if-memory-ne-IMAGE_SIZE.false)) found
    (sym c.index_passes.ensures ∙ c.if-not-index_passes.false) in
    let kept = sym (c.is_unstorable.ensures s.bits) ∙ c.if-is_unstorable.false in
    let e = c.to_element.ensures in
    (follows s.reals s.tick v s.target.now s.index.now s.k s.memory.now aim kept c.given-v.ensures
    (by_index s.reals s.tick s.index.now s.memory.now c.in-Some.bank c.in-Some.element c.given-v.result 0 c.in-By.is (e.value, e.memory_after))).0
