-- `symbols::symbol` meets its contract.
use mathlib.Core.Path.{refl}
use native.Mathlib.Omega.{arith}
use Rattle.token_table.proofs.Lexemes.{lexes-as}
use Rattle.token_table.proofs.symbols.Cases.{a-symbol}
use Rattle.token_table.proofs.symbols.symbol.Goals as goal

pub overflow_add-result : goal.overflow_add-result
overflow_add-result c = omega arith

pub returns : goal.returns
returns c = lexes-as c.word.ensures refl (a-symbol _ _ _ c.requires.1)
