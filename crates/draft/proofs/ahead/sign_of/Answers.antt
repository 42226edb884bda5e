-- `ahead::sign_of` meets its contract.
use Rattle.draft.proofs.ahead.sign_of.Goals as goal

pub returns-then-is_symbol : goal.returns-then-is_symbol
returns-then-is_symbol c = rw (← c.is_symbol.ensures, c.if-is_symbol.true)

pub returns-then-is_symbol-2 : goal.returns-then-is_symbol-2
returns-then-is_symbol-2 c = rw (← c.is_symbol.ensures, c.if-is_symbol.false, ← c.is_symbol-2.ensures, c.if-is_symbol-2.true)

pub returns-then-is_symbol-3 : goal.returns-then-is_symbol-3
returns-then-is_symbol-3 c = rw (
  ← c.is_symbol.ensures,
  c.if-is_symbol.false,
  ← c.is_symbol-2.ensures,
  c.if-is_symbol-2.false,
  ← c.is_symbol-3.ensures,
  c.if-is_symbol-3.true,
)

pub returns-else-is_symbol-3 : goal.returns-else-is_symbol-3
returns-else-is_symbol-3 c = rw (
  ← c.is_symbol.ensures,
  c.if-is_symbol.false,
  ← c.is_symbol-2.ensures,
  c.if-is_symbol-2.false,
  ← c.is_symbol-3.ensures,
  c.if-is_symbol-3.false,
)
