-- `walk::token` meets its contract.
use mathlib.Core.Path.{ap}
use mathlib.Core.List.{List, ◌++◌}
use Prim.Native.Nat.{ℕ}
use Rattle.formatter.proofs.Pieces.{held-as, token-bytes}
use Rattle.formatter.proofs.walk.token.Goals as goal

pub token_end-end-requires : goal.token_end-end-requires
token_end-end-requires c = rw (c.place_of-at.ensures, c.operand_of.ensures) c.requires.1

pub returns-clause-by_index : goal.returns-clause-by_index
returns-clause-by_index c =
    λ o h. held-as (ap (λ (u : List ℕ). o ++ u) (token-bytes c.args.text.now _ _ _ c.token_end-end.ensures.0 c.place_of-at.ensures
    c.operand_of.ensures c.requires.1)) (c.put_all.ensures.by_index o h)
