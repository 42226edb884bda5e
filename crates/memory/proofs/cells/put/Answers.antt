-- `memory::cells::put` meets its contract: in the arm of each bank the number goes into the element's block.
use Rattle.std.proofs.Common.{arith}
use Rattle.memory.specs.declared.Bank.TheVariants.{X, C}
use Rattle.memory.specs.Laws.{is_x, is_c}
use Rattle.memory.proofs.cells.Arms as Arms
use Rattle.memory.proofs.cells.put.Goals as goal

pub put_bit-requires : goal.put_bit-requires
put_bit-requires c =
    let a = c.args in (
      Arms.reach-bit a.image.now a.bank X a.element c.in-X.is c.requires.0 is_x c.place_of.ensures,
      omega arith,
      Arms.digit a.image.now a.bank X a.element c.in-X.is c.requires.0 is_x c.requires.1,
    )

pub put_bit-requires-in-C : goal.put_bit-requires-in-C
put_bit-requires-in-C c =
    let a = c.args in (
      Arms.reach-bit a.image.now a.bank C a.element c.in-C.is c.requires.0 is_c c.place_of-in-C.ensures,
      omega arith,
      Arms.digit a.image.now a.bank C a.element c.in-C.is c.requires.0 is_c c.requires.1,
    )
