-- The measure is the words left, then the rank of the function.
use Rattle.std.proofs.Common.{◌≡◌, ℕ, ◌+◌, ◌-◌, ◌*◌, false, List, length}
use Rattle.token_table.specs.private.Table.{word_at, tokens_from}
use Rattle.grammar.specs.Symbols.{loosest, close_paren}
use Rattle.draft.specs.private.Words.{is_mark}
use Rattle.formatter.specs.private.Walk.{Position, SaysExpression, SaysOperand, Formats}
use Rattle.formatter.proofs.Lists.{Listing}
use Rattle.formatter.proofs.Infixes.{Climbing}
use Rattle.formatter.proofs.walk.+walk.Given as goal

abbrev pub decreases-expression : goal.decreases-expression
decreases-expression l = (length l.table.now - l.at) * 8 + 3

abbrev pub decreases-list : goal.decreases-list
decreases-list l = (length l.table.now - l.at) * 8 + 4

abbrev pub decreases-operand : goal.decreases-operand
decreases-operand l = (length l.table.now - l.at) * 8 + 2

abbrev pub decreases-primary : goal.decreases-primary
decreases-primary l = (length l.table.now - l.at) * 8 + 1

abbrev pub invariant-expression-loop-left : goal.invariant-expression-loop-left
invariant-expression-loop-left l =
    (length l.out ≡ length l.initial.out)
    × ((buf : List ℕ) → length l.initial.out ≡ length buf → Formats (SaysOperand l.text (tokens_from l.table l.at)) l.text l.table l.at buf l.initial.out
    l.n l.initial.left.next l.initial.left.end l.initial.left.top
    → Climbing l.level l.text l.table l.at buf l.out l.n l.left.next l.left.end l.left.top)

abbrev pub decreases-expression-loop-left : goal.decreases-expression-loop-left
decreases-expression-loop-left l = length l.table - l.left.next

abbrev pub invariant-list-loop-out : goal.invariant-list-loop-out
invariant-list-loop-out l =
    (length l.out ≡ length l.initial.out)
    × ((buf : List ℕ) → length l.initial.out ≡ length buf → Formats (SaysExpression loosest l.text (tokens_from l.table l.at)) l.text l.table l.at buf
    l.initial.out l.n l.initial.item.next l.initial.item.end l.initial.item.top
    → is_mark close_paren (word_at l.table l.at) ≡ false → Position l.text l.table l.at
    → Listing l.text l.table l.at buf l.out l.n l.item.next l.item.end)

abbrev pub decreases-list-loop-out : goal.decreases-list-loop-out
decreases-list-loop-out l = length l.table - l.item.next
