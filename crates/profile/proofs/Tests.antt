-- Tests that hold, taken apart and put together.
use mathlib.Core.Path.{◌≡◌, refl}
use mathlib.Core.Bool.{Bool, true, ◌&&◌}
pub use borrow.Author.Tests.{not-true}
pub use Rattle.words.proofs.Tests.{false-true, both}

pub and : (a b : Bool) → a ≡ true → b ≡ true → (a && b) ≡ true
and a b e f = rw (e, f) refl
