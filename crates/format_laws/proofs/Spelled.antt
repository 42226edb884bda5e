-- The text of a tree is made of the tree without its places and of the spellings alone.
use mathlib.Core.Path.{◌≡◌, refl, sym, ap, ◌∙◌}
use mathlib.Core.List.{List, [], ◌∷◌, ◌++◌, append_assoc, append-nil}
use Prim.Native.Nat.{ℕ}
use Rattle.words.specs.Ascii.{ascii}
use Rattle.tokens.specs.declared.Function.TheVariants.{TickMs, Total, Match}
use Rattle.tokens.specs.Words.{name_of}
use Rattle.grammar.specs.Tree.{Tree, literal, cell, indexed, unary, binary, logic, choice, tick, since, total, matching}
use Rattle.lines.specs.Printing.{letter_byte, cell_name}
use Rattle.format_laws.specs.Formatted.{lexeme, Notation, symbol, function, unary_notation, binary_notation, logic_symbol, top, infix_text}
use Rattle.format_laws.specs.Formatted.{call_text, unary_text, binary_text, formatted, without_places, named_before, spellings}
use Rattle.format_laws.proofs.Places.{top-placeless}

-- what is done with a text and the spellings left
abbrev Next : Type 0
Next = List ℕ → List (List ℕ) → List ℕ

-- the next spelling
taking : List (List ℕ) → Next → List ℕ
taking [] k = k [] []
taking (x ∷ xs) k = k x xs

-- that of a name, where there is one
named : Notation → List (List ℕ) → Next → List ℕ
named (symbol n) xs k = k [] xs
named function xs k = taking xs k

-- the text of a tree with the spellings that come first
written : Tree → List (List ℕ) → Next → List ℕ
written (literal p v) xs k = taking xs k
written (cell b i) xs k = k (cell_name b i) xs
written (indexed b t) xs k = written t xs (λ x r. k (letter_byte b ∷ (ascii "[" ++ (x ++ ascii "]"))) r)
written (unary p o t) xs k = named (unary_notation o) xs (λ name r. written t r (λ x q. k (unary_text (unary_notation o) name (top t) x) q))
written (binary p o t u) xs k =
    named (binary_notation o) xs (λ name r. written t r (λ x q. written u q (λ y z. k (binary_text (binary_notation o) name (top t) x (top u) y) z)))
written (logic p d t u) xs k = written t xs (λ x q. written u q (λ y z. k (infix_text (logic_symbol d) (top t) x (top u) y) z))
written (choice p c t u) xs k = taking xs (λ name r. written c r (λ x q. written t q (λ y z. written u z (λ w l. k (call_text name (x ∷ y ∷ w ∷ [])) l))))
written tick xs k = k (call_text (name_of TickMs) []) xs
written (since p t) xs k = taking xs (λ name r. written t r (λ x q. k (call_text name (x ∷ [])) q))
written (total p o b i n) xs k = taking xs (λ count r. k (call_text (name_of (Total o)) (cell_name b i ∷ count ∷ [])) r)
written (matching p o t b i n) xs k = written t xs (λ x r. taking r (λ count q. k (call_text (name_of (Match o)) (x ∷ cell_name b i ∷ count ∷ [])) q))

-- the spellings of a tree before others give its text and leave the others
abbrev Gives : List ℕ → Tree → Type 0
Gives s t = (rest : List (List ℕ)) (k : Next) → written (without_places t) (spellings s t ++ rest) k ≡ k (formatted s t) rest

-- two trees, one behind the other
both : (s : List ℕ) (t u : Tree) → Gives s t → Gives s u → (rest : List (List ℕ)) (k : List ℕ → Next)
    → written (without_places t) ((spellings s t ++ spellings s u) ++ rest) (λ x q. written (without_places u) q (k x)) ≡ k (formatted s t) (formatted s u) rest
both s t u g h rest k =
    ap (λ l. written (without_places t) l (λ x q. written (without_places u) q (k x))) (append_assoc (spellings s t) (spellings s u) rest)
    ∙ g (spellings s u ++ rest) (λ x q. written (without_places u) q (k x)) ∙ h rest (k (formatted s t))

of-unary : (s : List ℕ) (m : Notation) (name : List ℕ) (t : Tree) → Gives s t → (rest : List (List ℕ)) (k : Next)
    → named m (named_before m name (spellings s t) ++ rest) (λ x r. written (without_places t) r (λ y q. k (unary_text m x (top (without_places t)) y) q))
    ≡ k (unary_text m name (top t) (formatted s t)) rest
unfolding named taking
of-unary s (symbol n) name t g rest k =
    g rest (λ y q. k (unary_text (symbol n) [] (top (without_places t)) y) q) ∙ ap (λ i. k (unary_text (symbol n) name i (formatted s t)) rest) (top-placeless t)
of-unary s function name t g rest k = g rest (λ y q. k (unary_text function name (top (without_places t)) y) q)

of-binary : (s : List ℕ) (m : Notation) (name : List ℕ) (t u : Tree) → Gives s t → Gives s u → (rest : List (List ℕ)) (k : Next)
    → named m (named_before m name (spellings s t ++ spellings s u) ++ rest)
    (λ x r. written (without_places t) r (λ y q. written (without_places u) q (λ z l. k (binary_text m x (top (without_places t)) y (top (without_places u)) z) l)))
    ≡ k (binary_text m name (top t) (formatted s t) (top u) (formatted s u)) rest
unfolding named taking
of-binary s (symbol n) name t u g h rest k =
    both s t u g h rest (λ y z l. k (binary_text (symbol n) [] (top (without_places t)) y (top (without_places u)) z) l)
    ∙ ap (λ i. k (binary_text (symbol n) name i (formatted s t) (top (without_places u)) (formatted s u)) rest) (top-placeless t)
    ∙ ap (λ i. k (binary_text (symbol n) name (top t) (formatted s t) i (formatted s u)) rest) (top-placeless u)
of-binary s function name t u g h rest k = both s t u g h rest (λ y z l. k (binary_text function name (top (without_places t)) y (top (without_places u)) z) l)

gives : (s : List ℕ) (t : Tree) → Gives s t
unfolding written taking spellings formatted without_places
gives s (literal p v) rest k = refl
gives s (cell b i) rest k = refl
gives s (indexed b t) rest k = gives s t rest (λ x r. k (letter_byte b ∷ (ascii "[" ++ (x ++ ascii "]"))) r)
gives s (unary p o t) rest k = of-unary s (unary_notation o) (lexeme s p) t (gives s t) rest k
gives s (binary p o t u) rest k = of-binary s (binary_notation o) (lexeme s p) t u (gives s t) (gives s u) rest k
gives s (logic p d t u) rest k =
    both s t u (gives s t) (gives s u) rest (λ y z l. k (infix_text (logic_symbol d) (top (without_places t)) y (top (without_places u)) z) l)
    ∙ ap (λ i. k (infix_text (logic_symbol d) i (formatted s t) (top (without_places u)) (formatted s u)) rest) (top-placeless t)
    ∙ ap (λ i. k (infix_text (logic_symbol d) (top t) (formatted s t) i (formatted s u)) rest) (top-placeless u)
gives s (choice p c t u) rest k =
    let next : Next = λ x q. written (without_places t) q (λ y z. written (without_places u) z (λ w l. k (call_text (lexeme s p) (x ∷ y ∷ w ∷ [])) l)) in
    ap (λ l. written (without_places c) l next) (append_assoc (spellings s c) (spellings s t ++ spellings s u) rest)
    ∙ gives s c ((spellings s t ++ spellings s u) ++ rest) next
    ∙ both s t u (gives s t) (gives s u) rest (λ y w l. k (call_text (lexeme s p) (formatted s c ∷ y ∷ w ∷ [])) l)
gives s tick rest k = refl
gives s (since p t) rest k = gives s t rest (λ x q. k (call_text (lexeme s p) (x ∷ [])) q)
gives s (total p o b i n) rest k = refl
gives s (matching p o t b i n) rest k =
    let next : Next = λ x r. taking r (λ count q. k (call_text (name_of (Match o)) (x ∷ cell_name b i ∷ count ∷ [])) q) in
    ap (λ l. written (without_places t) l next) (append_assoc (spellings s t) (lexeme s p ∷ []) rest) ∙ gives s t (lexeme s p ∷ rest) next

text-is : (s : List ℕ) (t : Tree) → formatted s t ≡ written (without_places t) (spellings s t) (λ x r. x)
text-is s t = sym (gives s t [] (λ x r. x)) ∙ ap (λ l. written (without_places t) l (λ x r. x)) (append-nil (spellings s t))

pub of_tree : (s r : List ℕ) (t u : Tree) → without_places t ≡ without_places u → spellings s t ≡ spellings r u → formatted s t ≡ formatted r u
of_tree s r t u e f =
    text-is s t ∙ ap (λ x. written x (spellings s t) (λ y l. y)) e ∙ ap (λ xs. written (without_places u) xs (λ y l. y)) f ∙ sym (text-is r u)
