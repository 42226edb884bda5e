-- An input that is taken piece by piece, the case that it leaves, and what is printed of that. Assumes nothing.
use mathlib.Core.Path.{◌≡◌, sym, ap, subst, ◌∙◌}
use mathlib.Core.List.{List, ◌++◌}
use Prim.Native.Nat.{ℕ, ◌≤◌}
use lib.ListN.{length}
use Rattle.operations.specs.Operations.{request}
use Rattle.program.specs.declared.case.Case.{Case}
use Rattle.program.specs.declared.stream.Progress.{Progress}
use Rattle.program.specs.Cases.{zeros, case_of}
use Rattle.program.specs.Reply.{reply_to, reply, write_text, written_length, HasPrefix, unread_line, answer, unread, Outputs}
use Rattle.program.specs.Stream.{no_progress, after_bytes, case_at_end, asked_for, Received, Replies}
use Rattle.program.proofs.stream.Pieces.{stream-laws}

-- ---- the pieces of an input
pub record Receiving (p : Progress) : Type 0 where
  pub input : List ℕ
  pub kept : p ≡ after_bytes no_progress input

module _ {p : Progress} (s : Receiving p) where
  pub more : (piece : List ℕ) {r : Progress} → r ≡ after_bytes p piece → Receiving r
  more piece e =
      record {
        input = s.input ++ piece;
        kept = e ∙ ap (λ (x : Progress). after_bytes x piece) s.kept ∙ sym (stream-laws.append no_progress s.input piece);
      }

  pub ended : {c : Case} → c ≡ case_at_end p → Received c
  ended e = record { input = s.input; held = e ∙ ap case_at_end s.kept }

-- ---- a whole case
module _ {c : Case} (input : List ℕ) (h : c ≡ case_at_end (after_bytes no_progress input)) where
  -- it asks for what the input asks for
  pub asked : (image : List ℕ) → request c.target c.text image (zeros 16384) (zeros 16384) ≡ asked_for (case_of input) image
  asked image = ap (λ (s : Case). asked_for s image) h ∙ stream-laws.asked input image

  -- and has its reply
  pub replies : {out new : List ℕ} {r : ℕ} → Replies c out r new
      → (r ≡ written_length out (reply input)) × ((new ≡ write_text out (reply input)) × ((length (reply input) ≤ 64) × HasPrefix r new))
  replies {out} g =
      let e : reply_to c ≡ reply input = ap reply_to h ∙ stream-laws.exact input in (
        g.count ∙ ap (written_length out) e,
        (g.bytes ∙ ap (write_text out) e, (subst (λ (z : List ℕ). length z ≤ 64) e g.short, g.there)),
      )

-- ---- what is printed
pub outputs : {c : Case} → Received c → {out new : List ℕ} {r : ℕ} → Replies c out r new → Outputs out r new
outputs s {out} g =
    let e = replies s.input s.held g in
    record { text = reply s.input; output = answer s.input; count = e.0; bytes = e.1.0 }

pub reports : {out new : List ℕ} {r : ℕ} → r ≡ written_length out unread_line → new ≡ write_text out unread_line → Outputs out r new
reports a b = record { text = unread_line; output = unread; count = a; bytes = b }
