-- Which texts are refused: those that are too long, and of the others those that are too deep.
use mathlib.Core.Path.{◌≡◌, refl}
use mathlib.Core.List.{List}
use Prim.Native.Nat.{ℕ, ◌≤◌, ◌<◌}
use lib.ListN.{length}
use borrow.Author.Tests.{lt-ltb, le-ltb}
use Rattle.grammar.specs.Parse.{most_open}
use Rattle.format_laws.specs.Formatted.{levels}
use Rattle.format_laws.specs.Format.{text_limit, gives, refuses, of_text}

pub long-text : (x : List ℕ) → text_limit < length x → of_text x ≡ refuses 3 0
long-text x h = rw (lt-ltb text_limit (length x) h) refl

pub deep-text : (x : List ℕ) → length x ≤ text_limit → most_open < levels x → of_text x ≡ refuses 8 0
deep-text x h l = rw (le-ltb text_limit (length x) h, lt-ltb most_open (levels x) l) refl

pub good-text : (x : List ℕ) → length x ≤ text_limit → levels x ≤ most_open → of_text x ≡ gives x
good-text x h l = rw (le-ltb text_limit (length x) h, le-ltb most_open (levels x) l) refl
