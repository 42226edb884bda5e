-- `code::fetch` meets its contract: below the end of the code both halves lie within it.
use mathlib.Core.Path.{sym, ◌∙◌}
use Rattle.code.proofs.Fetches.{fetch-beyond, fetch-halves}
use Rattle.code.proofs.fetch.Goals as goal

pub returns-then-code-place : goal.returns-then-code-place
returns-then-code-place c = sym (fetch-beyond c.args.code.now c.args.place c.if-code-place.true)

pub returns : goal.returns
returns c =
    let a = c.args in
    c.join.ensures ∙ rw (c.four.ensures, c.four-2.ensures)
    (fetch-halves a.code.now a.place c.if-code-place.false)
