-- `code::four` meets its contract: the number of four bytes of the code.
use mathlib.Core.Path.{◌≡◌, ◌∙◌}
use lib.ListN.{get_or}
use mathlib.Core.List.{◌∷◌}
use Rattle.std.specs.Int.{w32, from_le_bytes}
use Rattle.code.proofs.Fetches.{bytes_at, four-read}
use Rattle.code.proofs.four.Goals as goal

pub returns : goal.returns
returns c =
    let s = c.args.code.now in
    let at = c.args.at in
    let read : c.from_le_bytes.result ≡ from_le_bytes w32 (get_or s at 0 ∷ bytes_at at 1 3 s) = c.from_le_bytes.ensures in
    read ∙ four-read s at c.requires
