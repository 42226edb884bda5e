-- Read again: the tokens of a formatted text are a formula with the same tree, wherever the text stands.
use mathlib.Core.Path.{◌≡◌, refl, sym, ap, subst, ◌∙◌}
use mathlib.Core.Bool.{Bool, true, false, not, cond}
use mathlib.Core.List.{List, [], ◌∷◌, ◌++◌, append_assoc}
use Prim.Native.Nat.{ℕ, zero, suc, ◌+◌, ◌≤◌}
use native.Mathlib.Omega.{arith}
use lib.Dec.{eqb}
use lib.IntN.{ℤ}
use lib.ListN.{length}
use borrow.Author.Tests.{eqb-true}
use Rattle.words.specs.Ascii.{byte, ascii}
use Rattle.values.specs.declared.Value.{Value}
use Rattle.values.specs.declared.Value.TheVariants.{Int}
use Rattle.operators.specs.declared.UnaryOp.{UnaryOp}
use Rattle.operators.specs.declared.UnaryOp.TheVariants as U
use Rattle.memory.specs.declared.Bank.{Bank}
use Rattle.memory.specs.Names.{is_digit, all_digits}
use Rattle.totals.specs.declared.TotalOp.{TotalOp}
use Rattle.totals.specs.declared.MatchOp.{MatchOp}
use Rattle.tokens.specs.declared.Function.{Function}
use Rattle.tokens.specs.declared.Function.TheVariants.{Abs, ToReal, ToInt, Trunc, Round, Frac, Max, Min, If, TickMs, Since, Total, Match}
use Rattle.tokens.specs.declared.Token.{Token}
use Rattle.tokens.specs.declared.Token.TheVariants.{Number, Cell, Letter, Name, Symbol}
use Rattle.tokens.specs.Bytes.{is_letter}
use Rattle.tokens.specs.Symbols.{symbol_bytes}
use Rattle.tokens.specs.Numerals.{decimal_digits}
use Rattle.tokens.specs.Words.{name_of}
use Rattle.tokens.specs.Scan.{Tok}
use Rattle.tokens.specs.Theorems.{Starts, first, Stops, other, Mantissa, whole, dotted}
use Rattle.tokens.proofs.Tests.{no, both, by-test}
use Rattle.grammar.specs.Tree.{Tree, literal, cell, indexed, unary, choice, tick, since, total, matching}
use Rattle.grammar.specs.Symbols.{group_number, loosest, minus, tilde, bang, open_paren, close_paren, open_index, close_index, comma, prefix_symbol, is}
use Rattle.grammar.specs.Symbols.{none as empty, infix_tree, Arguments, one, more, argument, Callee, of_one, of_two, of_choice, of_since, plain, clock}
use Rattle.grammar.specs.Symbols.{ranged, matched, form_of, more_arguments, call_tree}
use Rattle.grammar.specs.Grammar.{tok, Range, range, Derives, number, name, index, parenthesis, call, clocked, totalled, tested, prefixed, infixed}
use Rattle.grammar.specs.Grammar.{DerivesArguments, last, next}
use Rattle.grammar.proofs.Levels.{lift}
use Rattle.lines.specs.Printing.{letter_byte, cell_name}
use Rattle.format_laws.specs.Formatted.{lexeme, top, parenthesized, separated, call_text, formatted, without_places, spellings}
use Rattle.format_laws.proofs.Nodes.{infix-law, infix-placeless, prefix-spelled, texts, all_spellings, later, call-law, top-most}
use Rattle.format_theorems.proofs.Words.{name-spelling}
use Rattle.format_theorems.proofs.Lexemes.{continues, Spells, as-word, as-run, as-signed, spelling}
use Rattle.format_theorems.proofs.Lexed.{kept_name}
use Rattle.format_theorems.proofs.Fragments.{Fragment, none, none-stops, joined, joined-silent, spelled_as, text-as, spelled, is_equals}
use Rattle.format_theorems.proofs.Fragments.{opening, closing, opening-index, closing-index, separator, prefixing, operating}
use Rattle.format_theorems.proofs.Standing.{rest}

-- ---- how a text begins: with no `=`, before which `!` would go on
abbrev pub is_first : ℕ → Bool
is_first c = not (is_equals c)

first_stops : (x r : List ℕ) → Starts is_first x → Stops is_equals (x ++ r)
first_stops [] r x'' = elim x'' [ ]
first_stops (c ∷ cs) r (first e) = go (is_equals c) refl e
  where
    go : (b : Bool) → is_equals c ≡ b → not b ≡ true → Stops is_equals ((c ∷ cs) ++ r)
    go true q e = no e
    go false q e = other q

longer : {P : ℕ → Bool} (x y : List ℕ) → Starts P x → Starts P (x ++ y)
longer {P = P} [] y x'' = elim x'' [ ]
longer (c ∷ cs) y (first e) = first e

not-equals : (P : ℕ → Bool) → P (byte "=") ≡ false → (w : List ℕ) → Starts P w → Starts is_first w
not-equals P f [] x' = elim x' [ ]
not-equals P f (c ∷ cs) (first e) =
    by-test (is_equals c) (λ t. no (sym f ∙ ap P (eqb-true (byte "=") c t) ∙ e)) (λ t. first (rw t))

digits-first : (ds : List ℕ) → decimal_digits ds ≡ true → Starts is_digit ds
digits-first [] e = no e
digits-first (c ∷ cs) e = first (both (is_digit c) (all_digits cs) e).0

mantissa-first : {m : List ℕ} → Mantissa m → Starts is_digit m
mantissa-first (whole ds e) = digits-first ds e
mantissa-first (dotted ds ps e f) = longer ds (byte "." ∷ ps) (digits-first ds e)

spelled-first : {x : Token} {w : List ℕ} → Spells x w → Starts is_first w
spelled-first (as-word {w = w} s a e) = not-equals is_letter refl w s
spelled-first (as-run {w = w} s a e) = not-equals is_digit refl w s
spelled-first (as-signed m c v h s a e) = longer m (byte "E" ∷ c ∷ v) (not-equals is_digit refl m (mantissa-first h))

-- ---- a text that is read as a tree of the group l
pub record Reads (s : List ℕ) (l : ℕ) (t : Tree) (x : List ℕ) (p : ℕ) : Type 0 where
  pub toks : List Tok
  pub tree : Tree
  pub derives : Derives l toks tree
  pub same : without_places tree ≡ without_places t
  pub lexes : Fragment continues p x toks (spellings s t)

pub record Again (s : List ℕ) (l : ℕ) (t : Tree) (x : List ℕ) : Type 0 where
  pub begins : Starts is_first x
  pub at : (p : ℕ) → Reads s l t x p

lifted : {s : List ℕ} {m l : ℕ} {t : Tree} {x : List ℕ} → m ≤ l → Again s m t x → Again s l t x
lifted {m = m} {l = l} h a =
    record {
      begins = a.begins;
      at = λ p. let r = a.at p in record { toks = r.toks; tree = r.tree; derives = lift m l h r.derives; same = r.same; lexes = r.lexes };
    }

-- in parentheses
in-parentheses : {s : List ℕ} {t : Tree} {x : List ℕ} → Again s loosest t x → Again s 0 t (ascii "(" ++ (x ++ ascii ")"))
in-parentheses {s} {t} {x} a =
    record {
      begins = first refl;
      at = λ p.
          let r = a.at (p + 1) in
          let q = p + 1 + length x in
          record {
            toks = tok (Symbol open_paren) p ∷ (r.toks ++ tok (Symbol close_paren) q ∷ []);
            tree = r.tree;
            derives = parenthesis q r.derives;
            same = r.same;
            lexes = joined (opening none p) (joined-silent r.lexes (closing continues q) (λ rest st. other refl)) (λ rest st. none-stops _);
          };
    }

-- an operand of the group m, enclosed unless it may stand where an expression of the group l does
pub operand : (c : Bool) {s : List ℕ} {m l : ℕ} {t : Tree} {x : List ℕ} → m ≤ loosest → Again s m t x → (c ≡ false → m ≤ l) → Again s l t (parenthesized c x)
operand true h a n = lifted (omega arith) (in-parentheses (lifted h a))
operand false h a n = lifted (n refl) a

-- ---- leaves
pub a-number : (s : List ℕ) (v : Value) (p : ℕ) → Spells (Number v) (lexeme s p) → Again s 0 (literal p v) (lexeme s p)
unfolding without_places spellings
a-number s v p e =
    record {
      begins = spelled-first e;
      at = λ q. record {
        toks = tok (Number v) q ∷ [];
        tree = literal q v;
        derives = number;
        same = refl;
        lexes = spelled q refl e;
      };
    }

pub a-cell : (s : List ℕ) (b : Bank) (i : ℕ) → Spells (Cell b i) (cell_name b i) → Again s 0 (cell b i) (cell_name b i)
unfolding spellings
a-cell s b i e =
    record {
      begins = spelled-first e;
      at = λ q. record {
        toks = tok (Cell b i) q ∷ [];
        tree = cell b i;
        derives = name;
        same = refl;
        lexes = spelled q refl e;
      };
    }

-- ---- an index
pub an-index : {s : List ℕ} {t : Tree} {x : List ℕ} (b : Bank) → Spells (Letter b) (letter_byte b ∷ []) → Again s loosest t x
    → Again s 0 (indexed b t) (letter_byte b ∷ (ascii "[" ++ (x ++ ascii "]")))
unfolding without_places spellings
an-index {s} {t} {x} b e a =
    record {
      begins = longer (letter_byte b ∷ []) (ascii "[" ++ (x ++ ascii "]")) (spelled-first e);
      at = λ p.
          let r = a.at (p + 1 + 1) in
          let q = p + 1 + 1 + length x in
          record {
            toks = tok (Letter b) p ∷ tok (Symbol open_index) (p + 1) ∷ (r.toks ++ tok (Symbol close_index) q ∷ []);
            tree = indexed b r.tree;
            derives = index q r.derives;
            same = ap (λ u. indexed b u) r.same;
            lexes =
                joined (spelled p refl e)
                (joined (opening-index none (p + 1)) (joined-silent r.lexes (closing-index continues q) (λ rest st. other refl)) (λ rest st. none-stops _))
                (λ rest st. other refl);
          };
    }

-- ---- a prefix
prefix-first : (n : ℕ) (o : UnaryOp) → prefix_symbol n ≡ is o → Starts is_first (symbol_bytes n)
prefix-first n o = go (eqb n minus) (eqb n tilde) (eqb n bang) refl refl refl
  where
    known : (m : ℕ) → eqb n m ≡ true → Starts is_first (symbol_bytes m) → Starts is_first (symbol_bytes n)
    known m q h = subst (λ (i : ℕ). Starts is_first (symbol_bytes i)) (sym (eqb-true n m q)) h

    go : (x y z : Bool) → eqb n minus ≡ x → eqb n tilde ≡ y → eqb n bang ≡ z
        → cond x (is U.Neg) (cond y (is U.Complement) (cond z (is U.Not) empty)) ≡ is o → Starts is_first (symbol_bytes n)
    go true y z p q r e = known minus p (first refl)
    go false true z p q r e = known tilde q (first refl)
    go false false true p q r e = known bang r (first refl)
    go false false false p q r e = let z : ◌≡◌ {A = ℕ} 0 1 = cc in absurd (omega arith)

pub a-prefix : {s : List ℕ} {t : Tree} {x : List ℕ} (n q : ℕ) (o : UnaryOp) → prefix_symbol n ≡ is o → Again s 0 t x
    → Again s 0 (unary q o t) (symbol_bytes n ++ x)
unfolding without_places
a-prefix {s} {t} {x} n q o e a =
    record {
      begins = longer (symbol_bytes n) x (prefix-first n o e);
      at = λ p.
          let r = a.at (p + length (symbol_bytes n)) in
          record {
            toks = tok (Symbol n) p ∷ r.toks;
            tree = unary p o r.tree;
            derives = prefixed e r.derives;
            same = ap (λ u. unary 0 o u) r.same;
            lexes = spelled_as (sym (prefix-spelled s n q o t e)) (joined (prefixing n p o e) r.lexes (λ rest st. first_stops x rest a.begins));
          };
    }

-- ---- an infix operator
same-infix : (n p q : ℕ) (t t' u u' : Tree) → without_places t ≡ without_places t' → without_places u ≡ without_places u'
    → without_places (infix_tree n p t u) ≡ without_places (infix_tree n q t' u')
same-infix n p q t t' u u' e f =
    infix-placeless n p t u ∙ ap (λ x. infix_tree n 0 x (without_places u)) e ∙ ap (λ x. infix_tree n 0 (without_places t') x) f ∙ sym (infix-placeless n q t' u')

pub an-infix : {s : List ℕ} {t u : Tree} {x y : List ℕ} (n l q : ℕ) → group_number n ≡ suc l → Again s (suc l) t x → Again s l u y
    → Again s (suc l) (infix_tree n q t u) (x ++ (ascii " " ++ (symbol_bytes n ++ (ascii " " ++ y))))
an-infix {s} {t} {u} {x} {y} n l q e a b =
    record {
      begins = longer x _ a.begins;
      at = λ p.
          let r = a.at p in
          let k = r.toks in
          let m = b.at (p + length x + length (ascii " " ++ (symbol_bytes n ++ ascii " "))) in
          record {
            toks = k ++ tok (Symbol n) (suc (p + length x)) ∷ m.toks;
            tree = infix_tree n (suc (p + length x)) r.tree m.tree;
            derives = infixed n (suc (p + length x)) e r.derives m.derives;
            same = same-infix n (suc (p + length x)) q r.tree t m.tree u r.same m.same;
            lexes =
                spelled_as (sym (infix-law s n l q t u e).spelled)
                (text-as (ap (λ z. x ++ (ascii " " ++ z)) (append_assoc (symbol_bytes n) (ascii " ") y))
                (joined r.lexes (joined (operating none n l (p + length x) e) m.lexes (λ rest st. none-stops _)) (λ rest st. other refl)));
          };
    }

-- ---- calls
placeless : Arguments → Arguments
placeless (one t) = one (without_places t)
placeless (more t ts) = more (without_places t) (placeless ts)

placeless-argument : (k : ℕ) (ts : Arguments) → argument k (placeless ts) ≡ without_places (argument k ts)
unfolding placeless
placeless-argument zero (one t) = refl
placeless-argument (suc k) (one t) = refl
placeless-argument zero (more t ts) = refl
placeless-argument (suc k) (more t ts) = placeless-argument k ts

call-placeless : (c : Callee) (p : ℕ) (ts : Arguments) → without_places (call_tree c p ts) ≡ call_tree c 0 (placeless ts)
unfolding without_places
call-placeless (of_one o) p ts = ap (λ t. unary 0 o t) (sym (placeless-argument 0 ts))
call-placeless (of_two o) p ts =
    ap (λ t. Tree.binary 0 o t (without_places (argument 1 ts))) (sym (placeless-argument 0 ts))
    ∙ ap (λ u. Tree.binary 0 o (argument 0 (placeless ts)) u) (sym (placeless-argument 1 ts))
call-placeless of_choice p ts =
    ap (λ c. choice 0 c (without_places (argument 1 ts)) (without_places (argument 2 ts))) (sym (placeless-argument 0 ts))
    ∙ ap (λ t. choice 0 (argument 0 (placeless ts)) t (without_places (argument 2 ts))) (sym (placeless-argument 1 ts))
    ∙ ap (λ u. choice 0 (argument 0 (placeless ts)) (argument 1 (placeless ts)) u) (sym (placeless-argument 2 ts))
call-placeless of_since p ts = ap (λ t. since 0 t) (sym (placeless-argument 0 ts))

same-call : (c : Callee) (p q : ℕ) (ts us : Arguments) → placeless ts ≡ placeless us → without_places (call_tree c p ts) ≡ without_places (call_tree c q us)
same-call c p q ts us e = call-placeless c p ts ∙ ap (call_tree c 0) e ∙ sym (call-placeless c q us)

pub record ReadsAll (s : List ℕ) (m : ℕ) (ts : Arguments) (x : List ℕ) (p : ℕ) : Type 0 where
  toks : List Tok
  trees : Arguments
  derives : DerivesArguments m toks trees
  same : placeless trees ≡ placeless ts
  lexes : Fragment continues p x toks (all_spellings s ts)

pub record AgainAll (s : List ℕ) (m : ℕ) (ts : Arguments) : Type 0 where
  pub count : later ts ≡ m
  pub at : (p : ℕ) → ReadsAll s m ts (separated (texts s ts) ++ ascii ")") p

pub anywhere : {s : List ℕ} {t : Tree} {x : List ℕ} → Again s (top t) t x → Again s loosest t x
anywhere {t = t} a = lifted (top-most t) a

pub the_last : {s : List ℕ} {t : Tree} → Again s (top t) t (formatted s t) → AgainAll s 0 (one t)
unfolding placeless
the_last {s} {t} a =
    record {
      count = refl;
      at = λ p.
          let r = (anywhere a).at p in
          let q = p + length (formatted s t) in
          record {
            toks = r.toks ++ tok (Symbol close_paren) q ∷ [];
            trees = one r.tree;
            derives = last q r.derives;
            same = ap one r.same;
            lexes = joined-silent r.lexes (closing continues q) (λ rest st. other refl);
          };
    }

separated-next : (s x : List ℕ) (ts : Arguments) → separated (x ∷ texts s ts) ≡ x ++ (ascii ", " ++ separated (texts s ts))
separated-next s x (one t) = refl
separated-next s x (more t ts) = refl

pub the-next : {s : List ℕ} {m : ℕ} {t : Tree} {ts : Arguments} → Again s (top t) t (formatted s t) → AgainAll s m ts → AgainAll s (suc m) (more t ts)
unfolding placeless
the-next {s} {m} {t} {ts} a b =
    let x = formatted s t in
    record {
      count = ap suc b.count;
      at = λ p.
          let r = (anywhere a).at p in
          let q = p + length x in
          let g = b.at (q + 2) in
          let text : x ++ (ascii ", " ++ (separated (texts s ts) ++ ascii ")")) ≡ separated (x ∷ texts s ts) ++ ascii ")" =
          sym (ap (λ z. z ++ ascii ")") (separated-next s x ts) ∙ append_assoc x (ascii ", " ++ separated (texts s ts)) (ascii ")")) in
          record {
            toks = r.toks ++ tok (Symbol comma) q ∷ g.toks;
            trees = more r.tree g.trees;
            derives = next q r.derives g.derives;
            same = ap (λ u. more u (placeless g.trees)) r.same ∙ ap (more (without_places t)) g.same;
            lexes = text-as text (joined r.lexes (joined (separator none q) g.lexes (λ rest st. none-stops _)) (λ rest st. other refl));
          };
    }

pub a_call : {s : List ℕ} {ts : Arguments} (f : Function) (c : Callee) (q : ℕ) → form_of f ≡ plain c → Spells (Name f) (lexeme s q)
    → AgainAll s (more_arguments c) ts
    → Again s 0 (call_tree c q ts) (call_text (lexeme s q) (texts s ts))
a_call {s} {ts} f c q e h a =
    let w = lexeme s q in
    record {
      begins = longer w _ (spelled-first h);
      at = λ p.
          let g = a.at (p + length w + 1) in
          record {
            toks = tok (Name f) p ∷ tok (Symbol open_paren) (p + length w) ∷ g.toks;
            tree = call_tree c p g.trees;
            derives = call e g.derives;
            same = same-call c p q g.trees ts g.same;
            lexes =
                spelled_as (sym (call-law s f c q ts e a.count).spelled)
                (joined (spelled_as (ap (λ i. kept_name i w) e) (spelled p refl h)) (joined (opening none (p + length w)) g.lexes (λ rest st. none-stops _))
                (λ rest st. other refl));
          };
    }

-- ---- the calls with a form of their own: each has one function
pub clock-function : (f : Function) → form_of f ≡ clock → f ≡ TickMs
clock-function Abs e = cc
clock-function ToReal e = cc
clock-function ToInt e = cc
clock-function Trunc e = cc
clock-function Round e = cc
clock-function Frac e = cc
clock-function Max e = cc
clock-function Min e = cc
clock-function If e = cc
clock-function TickMs e = refl
clock-function Since e = cc
clock-function (Total o) e = cc
clock-function (Match o) e = cc

pub total-function : (f : Function) (o : TotalOp) → form_of f ≡ ranged o → f ≡ Total o
total-function Abs o e = cc
total-function ToReal o e = cc
total-function ToInt o e = cc
total-function Trunc o e = cc
total-function Round o e = cc
total-function Frac o e = cc
total-function Max o e = cc
total-function Min o e = cc
total-function If o e = cc
total-function TickMs o e = cc
total-function Since o e = cc
total-function (Total i) o e = cc
total-function (Match i) o e = cc

pub match-function : (f : Function) (o : MatchOp) → form_of f ≡ matched o → f ≡ Match o
match-function Abs o e = cc
match-function ToReal o e = cc
match-function ToInt o e = cc
match-function Trunc o e = cc
match-function Round o e = cc
match-function Frac o e = cc
match-function Max o e = cc
match-function Min o e = cc
match-function If o e = cc
match-function TickMs o e = cc
match-function Since o e = cc
match-function (Total i) o e = cc
match-function (Match i) o e = cc

-- its one spelling
pub named : {f g : Function} {w : List ℕ} → f ≡ g → Spells (Name f) w → Spells (Name g) (name_of g)
named {f} {g} {w} e h = subst (Spells (Name g)) (name-spelling (spelling k)) k
  where
    k : Spells (Name g) w
    k = subst (λ i. Spells (Name i) w) e h

pub a-clock : (s : List ℕ) → Spells (Name TickMs) (name_of TickMs) → Again s 0 tick (call_text (name_of TickMs) [])
unfolding spellings
a-clock s h =
    let w = name_of TickMs in
    record {
      begins = spelled-first-longer;
      at = λ p.
          record {
            toks = tok (Name TickMs) p ∷ tok (Symbol open_paren) (p + length w) ∷ tok (Symbol close_paren) (p + length w + 1) ∷ [];
            tree = tick;
            derives = clocked (p + length w + 1) refl;
            same = refl;
            lexes =
                joined (spelled p refl h) (joined (opening none (p + length w)) (closing continues (p + length w + 1)) (λ rest st. none-stops _))
                (λ rest st. other refl);
          };
    }
  where
    spelled-first-longer : Starts is_first (call_text (name_of TickMs) [])
    spelled-first-longer = longer (name_of TickMs) (ascii "(" ++ ascii ")") (spelled-first h)

-- a first cell, a count and the closing parenthesis
record ReadsRange (b : Bank) (i : ℕ) (n : ℤ) (y : List ℕ) (p : ℕ) : Type 0 where
  toks : List Tok
  place : ℕ
  is-range : Range b i n place toks
  lexes : Fragment continues p ((cell_name b i ++ (ascii ", " ++ y)) ++ ascii ")") toks (y ∷ [])

a-range : (b : Bank) (i : ℕ) (n : ℤ) (y : List ℕ) (p : ℕ) → Spells (Cell b i) (cell_name b i) → Spells (Number (Int n)) y → ReadsRange b i n y p
a-range b i n y p h k =
    let o = p + length (cell_name b i) in
    let c = o + 2 in
    record {
      toks = tok (Cell b i) p ∷ tok (Symbol comma) o ∷ tok (Number (Int n)) c ∷ tok (Symbol close_paren) (c + length y) ∷ [];
      place = c;
      is-range = range p o c (c + length y);
      lexes =
          text-as (sym (append_assoc (cell_name b i) (ascii ", " ++ y) (ascii ")")))
          (joined (spelled p refl h)
          (joined (separator none o) (joined-silent (spelled c refl k) (closing continues (c + length y)) (λ rest st. other refl)) (λ rest st. none-stops _))
          (λ rest st. other refl));
    }

pub a-total : (s : List ℕ) (u : ℕ) (o : TotalOp) (b : Bank) (i : ℕ) (n : ℤ) → Spells (Name (Total o)) (name_of (Total o)) → Spells (Cell b i) (cell_name b i)
    → Spells (Number (Int n)) (lexeme s u)
    → Again s 0 (total u o b i n) (call_text (name_of (Total o)) (cell_name b i ∷ lexeme s u ∷ []))
unfolding spellings without_places
a-total s u o b i n h j k =
    let w = name_of (Total o) in
    record {
      begins = longer w _ (spelled-first h);
      at = λ p.
          let g = a-range b i n (lexeme s u) (p + length w + 1) j k in
          record {
            toks = tok (Name (Total o)) p ∷ tok (Symbol open_paren) (p + length w) ∷ g.toks;
            tree = total g.place o b i n;
            derives = totalled refl g.is-range;
            same = refl;
            lexes = joined (spelled p refl h) (joined (opening none (p + length w)) g.lexes (λ rest st. none-stops _)) (λ rest st. other refl);
          };
    }

pub a-match : {s : List ℕ} {t : Tree} (u : ℕ) (o : MatchOp) (b : Bank) (i : ℕ) (n : ℤ) → Spells (Name (Match o)) (name_of (Match o))
    → Spells (Cell b i) (cell_name b i) → Spells (Number (Int n)) (lexeme s u)
    → Again s loosest t (formatted s t) → Again s 0 (matching u o t b i n) (call_text (name_of (Match o)) (formatted s t ∷ cell_name b i ∷ lexeme s u ∷ []))
unfolding spellings without_places
a-match {s} {t} u o b i n h j k a =
    let w = name_of (Match o) in
    let x = formatted s t in
    let y = cell_name b i ++ (ascii ", " ++ lexeme s u) in
    record {
      begins = longer w _ (spelled-first h);
      at = λ p.
          let r = a.at (p + length w + 1) in
          let c = p + length w + 1 + length x in
          let g = a-range b i n (lexeme s u) (c + 2) j k in
          record {
            toks = tok (Name (Match o)) p ∷ tok (Symbol open_paren) (p + length w) ∷ (r.toks ++ tok (Symbol comma) c ∷ g.toks);
            tree = matching g.place o r.tree b i n;
            derives = tested c refl r.derives g.is-range;
            same = ap (λ z. matching 0 o z b i n) r.same;
            lexes =
                joined (spelled p refl h)
                (joined (opening none (p + length w))
                (text-as (sym (append_assoc x (ascii ", " ++ y) (ascii ")")))
                (joined r.lexes (joined (separator none c) g.lexes (λ rest st. none-stops _)) (λ rest st. other refl)))
                (λ rest st. none-stops _))
                (λ rest st. other refl);
          };
    }
