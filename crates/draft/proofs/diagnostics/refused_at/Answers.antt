-- `diagnostics::refused_at` meets its contract: every place in a word is one of 16 bits.
use Prim.Native.Nat.{◌+◌, ◌*◌}
use native.Mathlib.Omega.{arith}
use Rattle.draft.proofs.diagnostics.Diagnostics.{word-diagnosed}
use Rattle.draft.proofs.diagnostics.refused_at.Goals as goal

pub overflow_mul-result : goal.overflow_mul-result
overflow_mul-result c = omega (arith, c.place_of.ensures)

pub overflow_add-result : goal.overflow_add-result
overflow_add-result c = omega (arith, c.place_of.ensures)

pub returns-else-well : goal.returns-else-well
returns-else-well c = record {
  result_value =
      rw c.if-well.false (word-diagnosed c.args.w c.args.answer c.requires (16 * c.place_of.result + c.args.answer) (omega (arith, c.place_of.ensures)));
  upper_bound = omega (arith, c.place_of.ensures);
}
