-- What is put at an input's end is what the program may print.
use mathlib.Core.Path.{◌≡◌, ap, ◌∙◌}
use mathlib.Core.List.{List}
use Prim.Native.Nat.{ℕ}
use Rattle.memory.specs.Layout.{image_size}
use Rattle.lines.specs.private.Steps.{Puts}
use Rattle.lines.proofs.Stores.{as-text}
use Rattle.program.specs.declared.case.Case.{Case}
use Rattle.program.specs.Cases.{zeros}
use Rattle.program.specs.Reply.{unread_line}
use Rattle.program.specs.Stream.{Received}
use Rattle.program.proofs.stream.Receiving.{asked}
use Rattle.read_reply.specs.Listing.{request_lines, listing, listing_of, cells, unread}
use Rattle.read_reply.specs.private.Prints.{Prints}

module _ {c : Case} (s : Received c) where
  whole : listing c.target c.text ≡ listing_of s.input
  unfolding listing listing_of
  whole = ap request_lines (asked s.input s.held (zeros image_size))

  pub prints : {t x : List ℕ} → t ≡ c.target → x ≡ c.text → {out new : List ℕ} {r : ℕ} → Puts out 0 new r (listing t x) → Prints out r new
  prints {t} {x} e f p =
      record { text = listing_of s.input; printed = cells s.input; put = as-text (ap (λ (y : List ℕ). listing y x) e ∙ ap (listing c.target) f ∙ whole) p }

pub reports : {out new : List ℕ} {r : ℕ} → Puts out 0 new r unread_line → Prints out r new
reports p = record { text = unread_line; printed = unread; put = p }
