-- How a reply ends: with nothing more, with the target's line, or not at all where there is no room. Assumes nothing.
use mathlib.Core.Path.{◌≡◌, refl, sym, ap, ◌∙◌}
use mathlib.Core.List.{List, [], ◌++◌, append-nil}
use Prim.Native.Nat.{ℕ, ◌≤◌, ◌<◌}
use native.Mathlib.Nat.{add-zero, zero-add}
use native.Mathlib.Omega.{arith}
use lib.ListN.{length}
use lib.Seq.{length-sets, length-take-le}
use borrow.Author.Tests.{lt-ltb, le-ltb}
use Rattle.lines.specs.private.Steps.{Puts}
use Rattle.program.specs.Reply.{write_text, written_length, HasPrefix}
use Rattle.lines.proofs.Stores.{as-text}

-- nothing was put
pub nothing : (l : List ℕ) (at : ℕ) → Puts l at l at []
nothing l at = record { bytes = refl; end = sym (add-zero at) }

-- nothing was put behind a text
pub alone : {l m : List ℕ} {at b : ℕ} {s : List ℕ} → Puts l at m b s → Puts l at m b (s ++ [])
alone {l} {m} {at} {b} {s} p = as-text (sym (append-nil s)) p

module _ (out text : List ℕ) where
  pub no_room : length out < length text → (0 ≡ written_length out text) × ((out ≡ write_text out text) × HasPrefix 0 out)
  no_room h = rw (lt-ltb (length out) (length text) h) (refl, (refl, (omega arith, refl)))

  pub room : length text ≤ length out → {new : List ℕ} {next : ℕ} → Puts out 0 new next text
      → (next ≡ written_length out text) × ((new ≡ write_text out text) × HasPrefix next new)
  room h {new} {next} p =
      let n : next ≡ length text = p.end ∙ zero-add (length text) in
      let l : length new ≡ length out = ap length p.bytes ∙ length-sets out 0 text in
      rw (le-ltb (length out) (length text) h) (n, (p.bytes, (omega arith, sym (length-take-le next new (omega arith)))))
