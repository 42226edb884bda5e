-- `walk::operand_end` meets its contract.
use Rattle.formatter.proofs.Pieces.{bare-operand}
use Rattle.formatter.proofs.walk.operand_end.Goals as goal

pub returns-then-top-eq0 : goal.returns-then-top-eq0
returns-then-top-eq0 c = record { counted = c.requires; by_index = λ o x b h. bare-operand c.if-top-eq0.true o x h }
