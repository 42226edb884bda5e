-- `draft::loaded` meets its contract.
use mathlib.Core.Path.{refl}
use Rattle.draft.proofs.Numbers.{bank-at}
use Rattle.draft.proofs.Typed.{bank-kind}
use borrow.Author.Rules.{rules}
use Rattle.draft.proofs.loaded.Goals as goal

pub added-requires : goal.added-requires
added-requires c = (search rules, (bank-kind c.args.bank c.requires.0 refl c.bank_kind.ensures).1, search rules)

pub returns : goal.returns
returns c =
    let k = bank-kind c.args.bank c.requires.0 refl c.bank_kind.ensures in
    record { result_value = cc k.0; draft_after = cc (bank-at c.args.bank c.requires.0) }
