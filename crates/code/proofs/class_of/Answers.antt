-- `code::class_of` meets its contract: its tests are those of `class_of`.
use mathlib.Core.Path.{ap, ◌∙◌}
use Rattle.code.specs.private.Classes.{class_of}
use Rattle.code.proofs.Classes.{is-single, is-load, is-indexed, is-unary, is-binary, is-range}
use Rattle.code.proofs.class_of.Goals as goal

pub returns-then-o-lt-LOAD : goal.returns-then-o-lt-LOAD
returns-then-o-lt-LOAD c = c.single.ensures ∙ is-single _ c.if-o-lt-LOAD.true ∙ ap class_of c.opcode_of-o.ensures

pub returns-then-o-lt-TOTAL : goal.returns-then-o-lt-TOTAL
returns-then-o-lt-TOTAL c = is-binary _ c.if-o-ge-BINARY.true c.if-o-lt-TOTAL.true ∙ ap class_of c.opcode_of-o.ensures

pub returns-then-o-ge-BINARY : goal.returns-then-o-ge-BINARY
returns-then-o-ge-BINARY c = c.range_class.ensures ∙ is-range _ c.if-o-lt-TOTAL.false ∙ ap class_of c.opcode_of-o.ensures

pub returns-then-o-lt-LOAD_INDEXED : goal.returns-then-o-lt-LOAD_INDEXED
returns-then-o-lt-LOAD_INDEXED c = is-load _ c.if-o-lt-LOAD.false c.if-o-lt-LOAD_INDEXED.true ∙ ap class_of c.opcode_of-o.ensures

pub returns-then-o-lt-UNARY : goal.returns-then-o-lt-UNARY
returns-then-o-lt-UNARY c = is-indexed _ c.if-o-lt-LOAD_INDEXED.false c.if-o-lt-UNARY.true ∙ ap class_of c.opcode_of-o.ensures

pub returns : goal.returns
returns c = is-unary _ c.if-o-lt-UNARY.false c.if-o-ge-BINARY.false ∙ ap class_of c.opcode_of-o.ensures
