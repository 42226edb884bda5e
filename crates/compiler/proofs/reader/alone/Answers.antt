-- `alone` meets its contract: a leaf with nothing tighter behind it is what `expression` reads.
use mathlib.Core.Path.{ap}
use native.Mathlib.Omega.{arith}
use Rattle.draft.specs.private.Results.{is_done}
use Rattle.compiler.proofs.reader.Sides.{alone-leaf, side-reads}
use Rattle.compiler.proofs.reader.alone.Goals as goal

pub leaf-requires : goal.leaf-requires
leaf-requires c =
    let f = c.requires.0 in
    let l = alone-leaf c.args.g c.args.table.now c.args.at f.tokens c.requires.1 c.word_at.ensures in
    (l.few, omega (arith, l.splits.within, f.small), omega (arith, f.room, f.small, f.within))

pub returns : goal.returns
returns c = record {
  by_index = λ d. side-reads c.args.g c.args.table.now c.args.at c.requires.0.tokens c.requires.1 d c.leaf.result c.requires.2 c.word_at.ensures
      c.leaf.ensures.result_value c.leaf.ensures.draft_after;
  result_value = ap is_done c.leaf.ensures.result_value;
}
