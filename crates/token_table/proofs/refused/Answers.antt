-- `token_table::refused` meets its contract.
use mathlib.Core.Path.{refl}
use Rattle.token_table.specs.private.Lexing.{wrong}
use Rattle.token_table.proofs.Lexemes.{lexes-as}
use Rattle.token_table.proofs.refused.Goals as goal

pub returns : goal.returns
returns c = λ p. lexes-as c.word.ensures refl (wrong _ p 0)
