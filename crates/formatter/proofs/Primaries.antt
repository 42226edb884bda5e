-- What a primary says, by its first token: itself; a name or a bank letter with a list behind it; or what parentheses enclose.
use mathlib.Core.Path.{◌≡◌, refl, sym, ap, subst, ◌∙◌}
use mathlib.Core.List.{List, [], ◌∷◌, ◌++◌, append_assoc}
use Prim.Native.Nat.{ℕ, zero, suc, ◌<◌}
use native.Mathlib.Omega.{arith}
use lib.Dec.{lit<}
use lib.IntN.{ℤ}
use Rattle.words.specs.Ascii.{ascii}
use Rattle.values.specs.declared.Value.TheVariants.{Int, Real}
use Rattle.values.specs.declared.ChoiceOp.TheVariants as Choose
use Rattle.operators.specs.declared.UnaryOp.{UnaryOp}
use Rattle.operators.specs.declared.UnaryOp.TheVariants as U
use Rattle.operators.specs.declared.BinaryOp.{BinaryOp}
use Rattle.operators.specs.declared.BinaryOp.TheVariants as B
use Rattle.memory.specs.declared.Bank.{Bank}
use Rattle.totals.specs.declared.TotalOp.{TotalOp}
use Rattle.totals.specs.declared.MatchOp.{MatchOp}
use Rattle.tokens.specs.declared.Function.{Function}
use Rattle.tokens.specs.declared.Function.TheVariants.{Abs, ToReal, ToInt, Trunc, Round, Frac, Max, Min, If, TickMs, Since, Total, Match}
use Rattle.tokens.specs.declared.Token.{Token}
use Rattle.tokens.specs.declared.Token.TheVariants.{Number, Cell, Letter, Name, Symbol}
use Rattle.tokens.specs.Symbols.{symbol_bytes}
use Rattle.tokens.specs.Words.{name_of}
use Rattle.tokens.specs.Scan.{Tok}
use Rattle.token_table.proofs.Laws.{token_class}
use Rattle.lines.specs.Printing.{cell_name}
use Rattle.grammar.specs.Tree.{Tree, literal, cell, indexed, tick, total, matching}
use Rattle.grammar.specs.Grammar.{tok}
use Rattle.grammar.specs.Symbols.{group_number, loosest, open_paren, close_paren, open_index, close_index, comma, Callee, of_one, of_two, of_choice}
use Rattle.grammar.specs.Symbols.{of_since, form_of, more_arguments, Arguments, one, more, call_tree}
use Rattle.grammar.specs.Parse.{ok, and_then, expect, expect_range, call_body, expression, primary, bracket}
use Rattle.grammar.specs.Parse.{arguments}
use Rattle.format_laws.specs.Formatted.{lexeme, function, unary_notation, binary_notation, separated, call_text, top, formatted}
use Rattle.format_writer.specs.private.Spelling.{Stands}
use Rattle.formatter.specs.private.Walk.{Typed, some, says, SaysExpression, SaysPrimary, SaysItems, last, more as more_of, SaysList}
use Rattle.formatter.specs.private.Walk.{empty, items}
use Rattle.formatter.proofs.Inversion.{through, met, entered, ranged}
use Rattle.formatter.proofs.Spelt.{name-spelt, cell-spelt, letter-spelt}

pub data PrimaryOf (s : List ℕ) (x : Tok) (xs : List Tok) (y : List ℕ) (g : ℕ) (r : List Tok) : Type 0 where
  leaf : token_class x.token < 4 → y ≡ lexeme s x.place → g ≡ 0 → xs ≡ r → PrimaryOf s x xs y g r
  headed : {z : List ℕ} {zs : List Tok} → 3 < token_class x.token → token_class x.token < 6 → (n q : ℕ) → xs ≡ tok (Symbol n) q ∷ zs → SaysList s zs z 0 r
      → y ≡ lexeme s x.place ++ (symbol_bytes n ++ z) → g ≡ 0 → PrimaryOf s x xs y g r
  grouped : token_class x.token ≡ 6 → (q : ℕ) → SaysExpression loosest s xs y g (tok (Symbol close_paren) q ∷ r) → PrimaryOf s x xs y g r

-- ---- a list of arguments
ok-tree : {A : Type 0} {t u : A} {r z : List Tok} → ok t r ≡ ok u z → (t ≡ u) × (r ≡ z)
ok-tree e = (cc, cc)

-- so many arguments after the first
data Many : ℕ → Arguments → Type 0 where
  single : (t : Tree) → Many 0 (one t)
  further : {m : ℕ} {us : Arguments} (t : Tree) → Many m us → Many (suc m) (more t us)

abbrev texts : List ℕ → Arguments → List (List ℕ)
texts s (one t) = formatted s t ∷ []
texts s (more t us) = formatted s t ∷ texts s us

record Listed (s : List ℕ) (m : ℕ) (us : Arguments) (ts r : List Tok) : Type 0 where
  many : Many m us
  says : SaysItems s ts (separated (texts s us) ++ ascii ")") r

-- the text of one more argument before others
join : (s : List ℕ) (t : Tree) (us : Arguments) → formatted s t ++ (ascii ", " ++ (separated (texts s us) ++ ascii ")")) ≡ separated
    (texts s (more t us)) ++ ascii ")"
join s t (one u) = sym (append_assoc (formatted s t) (ascii ", " ++ separated (texts s (one u))) (ascii ")"))
join s t (more u us) = sym (append_assoc (formatted s t) (ascii ", " ++ separated (texts s (more u us))) (ascii ")"))

listed : (s : List ℕ) (f d m : ℕ) (ts : List Tok) {us : Arguments} {r : List Tok} → arguments f d m ts ≡ ok us r → Listed s m us ts r
unfolding arguments
listed s zero d m ts e = let z : ◌≡◌ {A = ℕ} 0 1 = cc in absurd (omega arith)
listed s (suc f) d zero ts {us} {r} e =
    let h = through (expression f d loosest ts) (λ t z. expect close_paren z (λ q. ok (one t) q)) e in
    let c = met close_paren h.left (λ q. ok (one h.first) q) h.then in
    let o = ok-tree c.then in
    let q : expression f d loosest ts ≡ ok h.first (tok (Symbol close_paren) c.place ∷ r) = h.is
    ∙ ap (ok h.first) (c.is ∙ ap (λ (z : List Tok). tok (Symbol close_paren) c.place ∷ z) o.1) in
    subst (λ (vs : Arguments). Listed s 0 vs ts r) o.0 (record { many = single h.first; says = last f d close_paren c.place (λ z. omega arith) q })
listed s (suc f) d (suc m) ts {us} {r} e =
    let h = through (expression f d loosest ts) (λ t z. expect comma z (λ q. and_then (arguments f d m q) (λ vs p. ok (more t vs) p))) e in
    let c = met comma h.left (λ q. and_then (arguments f d m q) (λ vs p. ok (more h.first vs) p)) h.then in
    let a = through (arguments f d m c.left) (λ vs p. ok (more h.first vs) p) c.then in
    let o = ok-tree a.then in
    let rest = listed s f d m c.left (a.is ∙ ap (ok a.first) o.1) in
    let q : expression f d loosest ts ≡ ok h.first (tok (Symbol comma) c.place ∷ c.left) = h.is ∙ ap (ok h.first) c.is in
    subst (λ (vs : Arguments). Listed s (suc m) vs ts r) o.0
    (record {
      many = further h.first rest.many;
      says = subst (λ (z : List ℕ). SaysItems s ts z r) (join s h.first a.first)
          (more_of f d c.place q rest.says);
    })

-- ---- a range
cell-says : (s : List ℕ) (b : Bank) (i o q : ℕ) (zs : List Tok) → expression 4 0 loosest (tok (Cell b i) o ∷ tok (Symbol comma) q ∷ zs)
    ≡ ok (cell b i) (tok (Symbol comma) q ∷ zs)
unfolding expression group_number
cell-says s b i o q zs = refl

count-says : (s : List ℕ) (n : ℤ) (p c : ℕ) (zs : List Tok) → expression 4 0 loosest (tok (Number (Int n)) p ∷ tok (Symbol close_paren) c ∷ zs)
    ≡ ok (literal p (Int n)) (tok (Symbol close_paren) c ∷ zs)
unfolding expression group_number
count-says s n p c zs = refl

range-says : (s : List ℕ) (b : Bank) (i : ℕ) (n : ℤ) (o q p c : ℕ) (r : List Tok)
    → SaysItems s (tok (Cell b i) o ∷ tok (Symbol comma) q ∷ tok (Number (Int n)) p ∷ tok (Symbol close_paren) c ∷ r)
    (cell_name b i ++ (ascii ", " ++ (lexeme s p ++ ascii ")"))) r
unfolding formatted
range-says s b i n o q p c r = more_of 4 0 q (cell-says s b i o q _) (last 4 0 close_paren c (λ z. omega arith) (count-says s n p c r))

-- ---- a call
record CallOf (s : List ℕ) (p : ℕ) (ts : List Tok) (t : Tree) (r : List Tok) : Type 0 where
  bytes : List ℕ
  says : SaysList s ts bytes 0 r
  text : formatted s t ≡ lexeme s p ++ (ascii "(" ++ bytes)
  group : top t ≡ 0

-- the functions of values: none is written as a symbol
data Called : Callee → Type 0 where
  one_value : {o : UnaryOp} → unary_notation o ≡ function → Called (of_one o)
  two-values : {o : BinaryOp} → binary_notation o ≡ function → Called (of_two o)
  choosing : Called of_choice
  timing : Called of_since

called : (s : List ℕ) (p : ℕ) {c : Callee} {m : ℕ} {us : Arguments} → Called c → more_arguments c ≡ m → Many m us
    → (formatted s (call_tree c p us) ≡ call_text (lexeme s p) (texts s us)) × (top (call_tree c p us) ≡ 0)
unfolding formatted
called s p (one_value q) e (single t) = (rw q, refl)
called s p (one_value q) e (further t x) = absurd (omega arith)
called s p (two-values q) e (single t) = absurd (omega arith)
called s p (two-values q) e (further t (single u)) = (rw q, rw q)
called s p (two-values q) e (further t (further u x)) = absurd (omega arith)
called s p choosing e (single t) = absurd (omega arith)
called s p choosing e (further t (single u)) = absurd (omega arith)
called s p choosing e (further t (further u (single v))) = (refl, refl)
called s p choosing e (further t (further u (further v x))) = absurd (omega arith)
called s p timing e (single t) = (refl, refl)
called s p timing e (further t x) = absurd (omega arith)

module _ (s : List ℕ) (g : Function) (p e : ℕ) (h : Stands s (Name g) p e) (f d : ℕ) (ts : List Tok) {t : Tree} {r : List Tok} where
  plain-call : (c : Callee) → Called c → and_then (arguments f d (more_arguments c) ts) (λ us z. ok (call_tree c p us) z) ≡ ok t r → CallOf s p ts t r
  plain-call c w m =
      let a = through (arguments f d (more_arguments c) ts) (λ us z. ok (call_tree c p us) z) m in
      let o = ok-tree a.then in
      let l = listed s f d (more_arguments c) ts (a.is ∙ ap (ok a.first) o.1) in
      let k = called s p w refl l.many in
      record {
        bytes = separated (texts s a.first) ++ ascii ")";
        says = items l.says;
        text = ap (formatted s) (sym o.0) ∙ k.0;
        group = ap top
            (sym o.0) ∙ k.1;
      }

  clock-call : name_of g ≡ name_of TickMs → expect close_paren ts (λ z. ok tick z) ≡ ok t r → CallOf s p ts t r
  unfolding formatted
  clock-call n m =
      let c = met close_paren ts (λ z. ok tick z) m in
      let o = ok-tree c.then in
      let q : ts ≡ tok (Symbol close_paren) c.place ∷ r = c.is ∙ ap (λ (z : List Tok). tok (Symbol close_paren) c.place ∷ z) o.1 in
      record {
        bytes = ascii ")";
        says = empty c.place q;
        text = ap (formatted s) (sym o.0) ∙ ap (λ (z : List ℕ). z ++ ascii "()") (sym n ∙ sym (name-spelt s g p e h));
        group = ap top (sym o.0);
      }

  ranged-call : (o : TotalOp) → name_of g ≡ name_of (Total o) → expect_range ts (λ b i u n. total u o b i n) ≡ ok t r → CallOf s p ts t r
  unfolding formatted
  ranged-call o n m =
      let x = ranged ts (λ b i u n. total u o b i n) m in
      let name = sym n ∙ sym (name-spelt s g p e h) in
      let b = x.bank in
      let i = x.element in
      record {
        bytes = cell_name b i ++ (ascii ", " ++ (lexeme s x.p ++ ascii ")"));
        says = items (subst (λ (z : List Tok). SaysItems s z (cell_name b i ++ (ascii ", " ++ (lexeme s x.p ++ ascii ")"))) r) (sym x.is)
            (range-says s b i x.count x.o x.q x.p x.c r));
        text = ap (formatted s) x.tree ∙ ap (λ (z : List ℕ). z ++ (ascii "(" ++ (separated (cell_name b i ∷ lexeme s x.p ∷ []) ++ ascii ")"))) name
            ∙ ap (λ (z : List ℕ). lexeme s p ++ (ascii "(" ++ z)) (append_assoc (cell_name b i) (ascii ", " ++ lexeme s x.p) (ascii ")"));
        group = ap top x.tree;
      }

  matched-call : (o : MatchOp) → name_of g ≡ name_of (Match o) → and_then (expression f d loosest ts)
      (λ v z. expect comma z (λ q. expect_range q (λ b i u n. matching u o v b i n))) ≡ ok t r → CallOf s p ts t r
  unfolding formatted
  matched-call o n m =
      let a = through (expression f d loosest ts) (λ v z. expect comma z (λ q. expect_range q (λ b i u n. matching u o v b i n))) m in
      let c = met comma a.left (λ q. expect_range q (λ b i u n. matching u o a.first b i n)) a.then in
      let x = ranged c.left (λ b i u n. matching u o a.first b i n) c.then in
      let name = sym n ∙ sym (name-spelt s g p e h) in
      let b = x.bank in
      let i = x.element in
      let v = formatted s a.first in
      let range = cell_name b i ++ (ascii ", " ++ (lexeme s x.p ++ ascii ")")) in
      let tail : (cell_name b i ++ (ascii ", " ++ lexeme s x.p)) ++ ascii ")" ≡ range = append_assoc (cell_name b i) (ascii ", " ++ lexeme s x.p)
      (ascii ")") in
      let q : expression f d loosest ts ≡ ok a.first (tok (Symbol comma) c.place ∷ c.left) = a.is ∙ ap (ok a.first) c.is in
      let w : SaysItems s c.left range r = subst (λ (z : List Tok). SaysItems s z range r) (sym x.is)
      (range-says s b i x.count x.o x.q x.p x.c r) in
      record {
        bytes = v ++ (ascii ", " ++ range);
        says = items (more_of f d c.place q w);
        text = ap (formatted s) x.tree ∙ ap (λ (z : List ℕ). z ++ (ascii "(" ++ (separated (v ∷ cell_name b i ∷ lexeme s x.p ∷ []) ++ ascii ")"))) name
            ∙ ap (λ (z : List ℕ). lexeme s p ++ (ascii "(" ++ z)) (append_assoc v (ascii ", " ++ (cell_name b i ++ (ascii ", " ++ lexeme s x.p)))
            (ascii ")") ∙ ap (λ (z : List ℕ). v ++ (ascii ", " ++ z)) tail);
        group = ap top x.tree;
      }

call-of : (s : List ℕ) (g : Function) (p e : ℕ) → Stands s (Name g) p e → (f d : ℕ) (ts : List Tok) {t : Tree} {r : List Tok}
    → call_body (form_of g) p (λ m q. arguments f d m q) (λ q. expression f d loosest q) ts ≡ ok t r → CallOf s p ts t r
call-of s Abs p e h f d ts m = plain-call s Abs p e h f d ts (of_one U.Abs) (one_value refl) m
call-of s ToReal p e h f d ts m = plain-call s ToReal p e h f d ts (of_one U.ToReal) (one_value refl) m
call-of s ToInt p e h f d ts m = plain-call s ToInt p e h f d ts (of_one U.Trunc) (one_value refl) m
call-of s Trunc p e h f d ts m = plain-call s Trunc p e h f d ts (of_one U.Trunc) (one_value refl) m
call-of s Round p e h f d ts m = plain-call s Round p e h f d ts (of_one U.Round) (one_value refl) m
call-of s Frac p e h f d ts m = plain-call s Frac p e h f d ts (of_one U.Frac) (one_value refl) m
call-of s Max p e h f d ts m = plain-call s Max p e h f d ts (of_two (B.Choice Choose.Max)) (two-values refl) m
call-of s Min p e h f d ts m = plain-call s Min p e h f d ts (of_two (B.Choice Choose.Min)) (two-values refl) m
call-of s If p e h f d ts m = plain-call s If p e h f d ts of_choice choosing m
call-of s TickMs p e h f d ts m = clock-call s TickMs p e h f d ts refl m
call-of s Since p e h f d ts m = plain-call s Since p e h f d ts of_since timing m
call-of s (Total o) p e h f d ts m = ranged-call s (Total o) p e h f d ts o refl m
call-of s (Match o) p e h f d ts m = matched-call s (Match o) p e h f d ts o refl m

-- ---- a primary
bracketed : (f d n : ℕ) (ts : List Tok) {t : Tree} {r : List Tok} → bracket f d n ts ≡ ok t r
    → (k p : ℕ) × (expression k d loosest ts ≡ ok t (tok (Symbol n) p ∷ r))
unfolding bracket
bracketed zero d n ts e = let z : ◌≡◌ {A = ℕ} 0 1 = cc in absurd (omega arith)
bracketed (suc f) d n ts {t} {r} e =
    let h = through (expression f d loosest ts) (λ u z. expect n z (λ q. ok u q)) e in
    let c = met n h.left (λ q. ok h.first q) h.then in
    let o = ok-tree c.then in
    (f, c.place, h.is ∙ ap (λ (u : Tree). ok u h.left) o.0 ∙ ap (ok t) (c.is ∙ ap (λ (z : List Tok). tok (Symbol n) c.place ∷ z) o.1))

pub primary-of : (s : List ℕ) (u : Token) (p : ℕ) (xs : List Tok) {y : List ℕ} {g : ℕ} {r : List Tok} → Typed s (tok u p ∷ xs)
    → SaysPrimary s (tok u p ∷ xs) y g r → PrimaryOf s (tok u p) xs y g r
unfolding primary formatted
primary-of s u p xs k (says zero d e) = let z : ◌≡◌ {A = ℕ} 0 1 = cc in absurd (omega arith)
primary-of s (Number (Int z)) p xs k (says (suc f) d e) = let o = ok-tree e in leaf (lit< tt) (ap (formatted s) (sym o.0)) (ap top (sym o.0)) o.1
primary-of s (Number (Real z)) p xs k (says (suc f) d e) = let o = ok-tree e in leaf (lit< tt) (ap (formatted s) (sym o.0)) (ap top (sym o.0)) o.1
primary-of s (Cell b i) p xs (some a h k) (says (suc f) d e) = let o = ok-tree e in
    leaf (lit< tt) (ap (formatted s) (sym o.0) ∙ sym (cell-spelt s b i p a h)) (ap top (sym o.0)) o.1
primary-of s (Letter b) p xs (some a h k) (says (suc f) d {t} {r} e) =
    let n = entered d open_index xs (λ e r. and_then (bracket f e close_index r) (λ t q. ok (indexed b t) q)) e in
    let m = through (bracket f n.room close_index n.left) (λ t q. ok (indexed b t) q) n.then in
    let o = ok-tree m.then in
    let c = bracketed f n.room close_index n.left m.is in
    let v = formatted s m.first in
    let q : expression c.0 n.room loosest n.left ≡ ok m.first (tok (Symbol close_index) c.1 ∷ r) = c.2
    ∙ ap (λ (z : List Tok). ok m.first (tok (Symbol close_index) c.1 ∷ z)) o.1 in
    headed (lit< tt) (lit< tt) open_index n.place n.is (items (last c.0 n.room close_index c.1 (λ z. omega arith) q))
    (ap (formatted s) (sym o.0) ∙ ap (λ (z : List ℕ). z ++ (ascii "[" ++ (v ++ ascii "]"))) (sym (letter-spelt s b p a h))) (ap top (sym o.0))
primary-of s (Name g) p xs (some a h k) (says (suc f) d {t} {r} e) =
    let n = entered d open_paren xs (λ e r. call_body (form_of g) p (λ m q. arguments f e m q) (λ q. expression f e loosest q) r) e in
    let c = call-of s g p a h f n.room n.left n.then in
    headed (lit< tt) (lit< tt) open_paren n.place n.is c.says c.text c.group
primary-of s (Symbol m) p xs k (says (suc f) d {t} {r} e) =
    let n = entered d open_paren (tok (Symbol m) p ∷ xs) (λ e r. bracket f e close_paren r) e in
    let left : xs ≡ n.left = ap rest n.is in
    let c = bracketed f n.room close_paren n.left n.then in
    grouped refl c.1 (says c.0 n.room (ap (expression c.0 n.room loosest) left ∙ c.2))
  where
    rest : List Tok → List Tok
    rest [] = []
    rest (y ∷ ys) = ys
