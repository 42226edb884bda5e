-- The lines of a reply, put one behind the other. Assumes nothing.
use mathlib.Core.Path.{◌≡◌, sym, ◌∙◌}
use mathlib.Core.List.{List, [], ◌∷◌, ◌++◌, append-nil, append_assoc}
use Prim.Native.Nat.{ℕ, ◌+◌, ◌-◌, ◌<◌}
use native.Mathlib.Omega.{arith}
use lib.ListN.{length, take, drop, get_or, length-drop, drop_of_length-le}
use lib.Seq.{take_all}
use borrow.Author.Tests.{eq-eqb, ne_eqb}
use Rattle.words.specs.Ascii.{ascii}
use Rattle.lines.specs.Printing.{decimal_text}
use Rattle.answer_words.specs.Words.{words_of}
use Rattle.card_laws.specs.Cards.{card_key}
use Rattle.card_file.specs.Spans.{line_number}
use Rattle.card_reply.specs.Reply.{result_lines, card_text, refused_lines, reply_text}

-- ---- the lines
pub result-lines : (a p n : ℕ)
    → (((((ascii "answer=" ++ decimal_text a) ++ ascii "\nplace=") ++ decimal_text p) ++ ascii "\ncards=") ++ decimal_text n) ++ (10 ∷ []) ≡ result_lines a p n
result-lines a p n =
    let x : List ℕ = ascii "answer=" ++ decimal_text a in
    append_assoc ((((x ++ ascii "\nplace=") ++ decimal_text p) ++ ascii "\ncards=")) (decimal_text n) (10 ∷ [])
    ∙ append_assoc ((x ++ ascii "\nplace=") ++ decimal_text p) (ascii "\ncards=") (decimal_text n ++ 10 ∷ [])
    ∙ append_assoc (x ++ ascii "\nplace=") (decimal_text p) (ascii "\ncards=" ++ (decimal_text n ++ 10 ∷ []))
    ∙ append_assoc x (ascii "\nplace=") (decimal_text p ++ (ascii "\ncards=" ++ (decimal_text n ++ 10 ∷ [])))

pub no_number : (s : List ℕ) {n : ℕ} → n ≡ line_number s → n ≡ 0 → [] ≡ card_text s
no_number s e z = rw (eq-eqb (line_number s) 0 (sym e ∙ z))

pub number-line : (s : List ℕ) {n : ℕ} → n ≡ line_number s → (n ≡ 0 → ⊥) → (card_key ++ decimal_text n) ++ (10 ∷ []) ≡ card_text s
number-line s {n} e z = rw (ne_eqb (line_number s) 0 (λ q. z (e ∙ q)), e)

pub refused-lines : (s : List ℕ) (a : ℕ) → ((card_text s ++ ascii "words=") ++ words_of a) ++ (10 ∷ []) ≡ refused_lines s a
refused-lines s a = append_assoc (card_text s ++ ascii "words=") (words_of a) (10 ∷ []) ∙ append_assoc (card_text s) (ascii "words=") (words_of a ++ 10 ∷ [])

-- ---- the whole, of the words ws that reading left
module _ (file : List ℕ) {ws ws' : List ℕ} (e : ws ≡ ws') where
  pub good-reply : get_or ws 0 0 ≡ 0 → result_lines (get_or ws 0 0) (get_or ws 1 0) (get_or ws 2 0) ≡ reply_text file ws'
  good-reply z = rw (← e, eq-eqb (get_or ws 0 0) 0 z) (sym (append-nil (result_lines (get_or ws 0 0) (get_or ws 1 0) (get_or ws 2 0))))

  pub far-reply : (get_or ws 0 0 ≡ 0 → ⊥) → {p : ℕ} → p ≡ get_or ws 1 0 → length file < p
      → result_lines (get_or ws 0 0) (get_or ws 1 0) (get_or ws 2 0) ++ refused_lines [] (get_or ws 0 0) ≡ reply_text file ws'
  far-reply z q h = rw (← e, ne_eqb (get_or ws 0 0) 0 z, drop_of_length-le file {i = get_or ws 1 0} (omega arith))

  pub bad-reply : (get_or ws 0 0 ≡ 0 → ⊥) → {p : ℕ} → p ≡ get_or ws 1 0
      → result_lines (get_or ws 0 0) (get_or ws 1 0) (get_or ws 2 0) ++ refused_lines (take (length file - p) (drop p file)) (get_or ws 0 0)
      ≡ reply_text file ws'
  bad-reply z q = rw (
    ← e,
    q,
    ne_eqb (get_or ws 0 0) 0 z,
    take_all (length file - get_or ws 1 0) (drop (get_or ws 1 0) file)
        (omega (arith, length-drop (get_or ws 1 0) file)),
  )
