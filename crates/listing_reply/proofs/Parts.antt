-- The parts of a reply, put one behind the other. Assumes nothing.
use mathlib.Core.Path.{◌≡◌, refl, sym, ap, ◌∙◌}
use mathlib.Core.List.{List, [], ◌∷◌, ◌++◌, append_assoc}
use Prim.Native.Nat.{ℕ, ◌≤◌}
use native.Mathlib.Nat.{add-zero}
use native.Mathlib.Omega.{arith}
use lib.ListN.{length, take}
use lib.Seq.{sets, sets-eq, take-append_seam, length-sets}
use borrow.Author.Tests.{eq-eqb, ne_eqb}
use Rattle.words.specs.Ascii.{ascii}
use Rattle.memory.specs.declared.Bank.{Bank}
use Rattle.memory.specs.declared.Bank.TheVariants.{X, C, «V», N, D, R}
use Rattle.memory.specs.Numbers.{bank_number}
use Rattle.lines.specs.Printing.{letter_byte}
use Rattle.lines.specs.private.Steps.{Puts}
use Rattle.text_tables.specs.Tables.{row_at}
use Rattle.answer_words.specs.Words.{words_of}
use Rattle.code.specs.Instructions.{instructions}
use Rattle.code_listing.specs.Listing.{listing_room, Listed, listed}
use Rattle.operations.specs.declared.Report.{Report}
use Rattle.program.specs.Reply.{report_text}
use Rattle.listing_reply.specs.Reply.{refusal_text}
use Rattle.listing_reply.specs.private.Parts.{code_text, index_part}

pub none-put : (l : List ℕ) (at : ℕ) → Puts l at l at []
none-put l at = record { bytes = refl; end = sym (add-zero at) }

-- ---- what stands at the front of a buffer
pub front : (l s : List ℕ) {n : ℕ} → n ≡ length s → n ≤ length l → take n (sets l 0 s) ≡ s
front l s {n} e h =
    ap (λ (m : ℕ). take m (sets l 0 s)) e ∙ ap (take (length s)) (sets-eq s l 0 (omega arith)) ∙ take-append_seam s _

-- of a listing in a buffer of its size
module _ (code : List ℕ) (n : ℕ) (old new : List ℕ) (z : 65536 ≡ length old) where
  same-room : listed (length old) (instructions code n) ≡ listed listing_room (instructions code n)
  same-room = ap (λ (k : ℕ). listed k (instructions code n)) (sym z)

  pub code-front : {m : ℕ} → m ≡ length (listed (length old) (instructions code n)).text → m ≤ length old
      → new ≡ sets old 0 (listed (length old) (instructions code n)).text → take m new ≡ code_text code n
  unfolding code_text
  code-front {m} e h q =
      ap (take m) q ∙ front old (listed (length old) (instructions code n)).text e h ∙ ap (λ (x : Listed). x.text) same-room

  pub code-long : {m : ℕ} → m ≤ length old → new ≡ sets old 0 (listed (length old) (instructions code n)).text → m ≤ length new
  code-long h q = omega (arith, ap length q ∙ length-sets old 0 (listed (length old) (instructions code n)).text)

-- ---- the letter of a bank
letter-row : (b : Bank) → row_at (bank_number b) (ascii "X\nC\nV\nN\nD\nR") ≡ letter_byte b ∷ []
unfolding row_at
letter-row X = refl
letter-row C = refl
letter-row «V» = refl
letter-row N = refl
letter-row D = refl
letter-row R = refl

-- ---- the index
module _ (index : List ℕ) {k : ℕ} (b : Bank) where
  pub no_index : k ≡ 0 → [] ≡ index_part index k b
  unfolding index_part
  no_index e = rw (eq-eqb k 0 e)

  pub with-index : (k ≡ 0 → ⊥) → {v : ℕ} → v ≡ bank_number b
      → ((ascii "index=" ++ row_at v (ascii "X\nC\nV\nN\nD\nR")) ++ (10 ∷ [])) ++ code_text index k ≡ index_part index k b
  unfolding index_part
  with-index e {v} q =
      ap (λ (s : List ℕ). ((ascii "index=" ++ s) ++ (10 ∷ [])) ++ code_text index k)
      (ap (λ (n : ℕ). row_at n (ascii "X\nC\nV\nN\nD\nR")) q ∙ letter-row b)
      ∙ sym (rw (ne_eqb k 0 e) refl)

-- ---- a refusal
pub refusal_is : (r : Report) {a : ℕ} → a ≡ r.answer → ((report_text r ++ ascii "words=") ++ words_of a) ++ (10 ∷ []) ≡ refusal_text r
refusal_is r {a} e =
    append_assoc (report_text r ++ ascii "words=") (words_of a) (10 ∷ []) ∙ append_assoc (report_text r) (ascii "words=") (words_of a ++ 10 ∷ [])
    ∙ ap (λ (n : ℕ). report_text r ++ (ascii "words=" ++ (words_of n ++ 10 ∷ []))) e
