-- Pieces of an input one after the other, and their lines: what is kept gives the reply to the whole. Assumes nothing.
use mathlib.Core.Path.{◌≡◌, refl, ap}
use mathlib.Core.Bool.{Bool, true, false, cond}
use mathlib.Core.List.{List, [], ◌∷◌, ◌++◌, append-nil, append_assoc}
use Prim.Native.Nat.{ℕ, zero, suc}
use lib.Dec.{eqb}
use lib.ListN.{take}
use Rattle.memory.specs.Layout.{image_size}
use Rattle.lines.specs.Lines.{cons_line, lines}
use Rattle.program.specs.declared.case.Case.{Case}
use Rattle.program.specs.Cases.{after_line, after_lines, empty_case, zeros, case_of}
use Rattle.program.specs.Reply.{reply_to, reply}
use Rattle.program.specs.declared.stream.Progress.{Progress}
use Rattle.program.specs.Stream.{kept_bytes, no_progress, after_byte, after_bytes, case_at_end, StreamLaws}
use Rattle.program.proofs.stream.Cuts.{Agrees, itself, same-request, same-reply, kept_line}

in_parts : (p : Progress) (a b : List ℕ) → after_bytes p (a ++ b) ≡ after_bytes (after_bytes p a) b
in_parts p [] b = refl
in_parts p (c ∷ a) b = in_parts (after_byte p c) a b

-- ---- bytes before the first of the lines that follow them
joined : List ℕ → List (List ℕ) → List (List ℕ)
joined l [] = l ∷ []
joined l (x ∷ xs) = (l ++ x) ∷ xs

none-joined : (s : Case) (ls : List (List ℕ)) → after_lines s (joined [] ls) ≡ after_lines s ls
unfolding after_lines after_line joined
none-joined s [] = refl
none-joined s (x ∷ xs) = refl

one-joined : (l : List ℕ) (c : ℕ) (ls : List (List ℕ)) → joined (l ++ (c ∷ [])) ls ≡ joined l (cons_line c ls)
unfolding joined
one-joined l c [] = refl
one-joined l c (x ∷ xs) = ap (λ (y : List ℕ). y ∷ xs) (append_assoc l (c ∷ []) x)

-- ---- one more byte of the line in progress
take_more : (n : ℕ) (l : List ℕ) (c : ℕ) → take n (take n l ++ (c ∷ [])) ≡ take n (l ++ (c ∷ []))
take_more zero l c = refl
take_more (suc n) [] c = refl
take_more (suc n) (x ∷ l) c = ap (λ (y : List ℕ). x ∷ y) (take_more n l c)

-- the line in progress, of which l is read, and the bytes cs that are left
abbrev Ends : List ℕ → List ℕ → Case → Case → Type 0
Ends cs l s t = Agrees (case_at_end (after_bytes (record { case = s; line = take kept_bytes l }) cs)) (after_lines t (joined l (lines cs)))

rest : (cs l : List ℕ) (s t : Case) → Agrees s t → Ends cs l s t
unfolding after_lines joined
rest [] l s t a = kept_line s t a l
rest (c ∷ cs) l s t a =
    step (eqb c 10) (rest cs [] (after_line s (take kept_bytes l)) (after_line t l) (kept_line s t a l)) (rest cs (l ++ (c ∷ [])) s t a)
  where
    step : (b : Bool) → Ends cs [] (after_line s (take kept_bytes l)) (after_line t l) → Ends cs (l ++ (c ∷ [])) s t
        → Agrees
        (case_at_end (after_bytes (cond b (record { case = after_line s (take kept_bytes l); line = [] })
        (record { case = s; line = take kept_bytes (take kept_bytes l ++ (c ∷ [])) })) cs))
        (after_lines t (joined l (cond b ([] ∷ lines cs) (cons_line c (lines cs)))))
    step true e f = rw (append-nil l) (rw (none-joined (after_line t l) (lines cs)) at e)
    step false e f = rw (take_more kept_bytes l c, ← one-joined l c (lines cs)) f

-- what is kept, and the case of the whole input
ends : (input : List ℕ) → Agrees (case_at_end (after_bytes no_progress input)) (case_of input)
unfolding case_of
ends input =
    let start = empty_case (zeros image_size) in
    rw (none-joined start (lines input)) at (rest input [] start start (itself start))

exactly : (input : List ℕ) → reply_to (case_at_end (after_bytes no_progress input)) ≡ reply input
unfolding reply
exactly input = same-reply _ _ (ends input)

pub stream-laws : StreamLaws
stream-laws = record { append = in_parts; asked = λ input m. same-request m _ _ (ends input); exact = exactly }
