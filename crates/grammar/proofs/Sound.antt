-- What the parser accepts is in the grammar, with the tree that it gives; and what it read before a refusal can be completed.
use mathlib.Core.Path.{◌≡◌, refl, sym, ap, ◌∙◌}
use mathlib.Core.Bool.{true, false}
use mathlib.Core.List.{List, [], ◌∷◌, ◌++◌, append_assoc, append-nil}
use Prim.Native.Nat.{ℕ, zero, suc, ◌+◌, ◌-◌, ◌≤◌}
use native.Mathlib.Omega.{arith}
use lib.Dec.{lit≤}
use lib.IntN.{ℤ, pos}
use Rattle.values.specs.declared.Value.TheVariants.{Int}
use Rattle.memory.specs.declared.Bank.{Bank}
use Rattle.memory.specs.declared.Bank.TheVariants.{D}
use Rattle.tokens.specs.declared.Function.{Function}
use Rattle.tokens.specs.declared.Token.{Token}
use Rattle.tokens.specs.declared.Token.TheVariants.{Number, Cell, Letter, Name, Symbol}
use Rattle.tokens.specs.Scan.{Tok}
use Rattle.grammar.specs.Tree.{Tree, literal, indexed, unary, tick, total, matching}
use Rattle.grammar.specs.Symbols.{group, loosest, open_paren, close_paren, open_index, close_index, comma, prefix_of, Form, plain as values, clock}
use Rattle.grammar.specs.Symbols.{ranged, matched, form_of, more_arguments, Arguments, one, more, call_tree}
use Rattle.grammar.specs.Grammar.{tok, Range, range, Derives, number, name, index, parenthesis, call, clocked, totalled, tested}
use Rattle.grammar.specs.Grammar.{DerivesArguments, last, next}
use Rattle.grammar.specs.Parse.{Result, binds, expect_range, call_body, expression, climb, operand, primary, bracket, arguments, most_open}
use Rattle.grammar.specs.Theorems.{is_opener, is_closer}
use Rattle.grammar.proofs.Tests.{Follow, before, follow-less, follow-any, binds-true}
use Rattle.grammar.proofs.Nesting.{Spans, nothing, passing, closing, along, opener, operator, prefix}
use Rattle.grammar.proofs.Levels.{lift, joined_tree, joined, signed}
use Rattle.grammar.proofs.Ends.{expression-ends}
use Rattle.grammar.proofs.Good.{Good, took, stop, dry, bind, wrap, plain, test, prefixes, expects, expects-cell, expects-count, enters, closes}

-- to complete with: the numeral 0, and arguments enough for any call
abbrev zero_tok : Tok
zero_tok = tok (Number (Int (pos 0))) 0

abbrev zero_tree : Tree
zero_tree = literal 0 (Int (pos 0))

zero_is : Derives loosest (zero_tok ∷ []) zero_tree
zero_is = lift 0 loosest (lit≤ tt) number

fill : (m : ℕ) → (v : List Tok) × (us : Arguments) × DerivesArguments m v us
fill zero = (zero_tok ∷ tok (Symbol close_paren) 0 ∷ [], one zero_tree, last 0 zero_is)
fill (suc m) =
    let h = fill m in
    (zero_tok ∷ tok (Symbol comma) 0 ∷ h.0, more zero_tree h.1, next 0 zero_is h.2)

-- an expression and the closing symbol n
data Closed (n : ℕ) : List Tok → Tree → Type 0 where
  closed : (q : ℕ) {w : List Tok} {t : Tree} → Derives loosest w t → Closed n (w ++ tok (Symbol n) q ∷ []) t

zero-closed : (n : ℕ) → Closed n (zero_tok ∷ tok (Symbol n) 0 ∷ []) zero_tree
zero-closed n = closed 0 zero_is

in-parentheses : {w : List Tok} {t : Tree} (p : ℕ) → Closed close_paren w t → Derives 0 (tok (Symbol open_paren) p ∷ w) t
in-parentheses p (closed q a) = parenthesis q a

in-brackets : {w : List Tok} {t : Tree} (b : Bank) (p q : ℕ) → Closed close_index w t
    → Derives 0 (tok (Letter b) p ∷ tok (Symbol open_index) q ∷ w) (indexed b t)
in-brackets b p q (closed r a) = index r a

-- a first cell, a count and the closing parenthesis, with the tree that k makes of them
data RangeOf (k : Bank → ℕ → ℕ → ℤ → Tree) : List Tok → Tree → Type 0 where
  range-of : {b : Bank} {i : ℕ} {n : ℤ} {u : ℕ} {w : List Tok} → Range b i n u w → RangeOf k w (k b i u n)

abbrev some_range : List Tok
some_range = tok (Cell D 0) 0 ∷ tok (Symbol comma) 0 ∷ zero_tok ∷ tok (Symbol close_paren) 0 ∷ []

some-range : Range D 0 (pos 0) 0 some_range
some-range = range 0 0 0 0

sound-range : (d : ℕ) (k : Bank → ℕ → ℕ → ℤ → Tree) (ts : List Tok) → Good (suc d) d (RangeOf k) ts (expect_range ts k)
sound-range d k ts =
    expects-cell ts _
    (λ b i o ys e. expects comma ys _
    (λ q zs e'. expects-count zs _
    (λ u n us e''. closes close_paren (tok (Cell b i) o ∷ tok (Symbol comma) q ∷ tok (Number (Int n)) u ∷ []) us (k b i u n) refl refl
    (passing refl refl (passing refl refl (passing refl refl nothing)))
    (e ∙ ap (λ (v : List Tok). tok (Cell b i) o ∷ v) (e' ∙ ap (λ (v : List Tok). tok (Symbol comma) q ∷ v) e'')) (λ r. range-of (range o q u r)))
    (stop (zero_tok ∷ tok (Symbol close_paren) 0 ∷ []) (record {
      read = tok (Cell b i) o ∷ tok (Symbol comma) q ∷ [];
      tree = k b i 0 (pos 0);
      split = e ∙ ap (λ (v : List Tok). tok (Cell b i) o ∷ v) e';
      whole = range-of (range o q 0 0);
      spans = passing refl refl (passing refl refl nothing);
    })))
    (stop (tok (Symbol comma) 0 ∷ zero_tok ∷ tok (Symbol close_paren) 0 ∷ []) (record {
      read = tok (Cell b i) o ∷ [];
      tree = k b i 0 (pos 0);
      split = e;
      whole = range-of (range o 0 0 0);
      spans = passing refl refl nothing;
    })))
    (stop some_range (record { read = []; tree = k D 0 0 (pos 0); split = refl; whole = range-of some-range; spans = nothing }))

-- what completes a call behind its parenthesis, by its form
fill-call : (g : Function) (p : ℕ) (o : Form) → form_of g ≡ o
    → (v : List Tok) × (t : Tree) × ((q : ℕ) → Derives 0 (tok (Name g) p ∷ tok (Symbol open_paren) q ∷ v) t)
fill-call g p (values c) e =
    let h = fill (more_arguments c) in
    (h.0, call_tree c p h.1, λ q. call e h.2)
fill-call g p clock e = (tok (Symbol close_paren) 0 ∷ [], tick, λ q. clocked 0 e)
fill-call g p (ranged o) e = (some_range, total 0 o D 0 (pos 0), λ q. totalled e some-range)
fill-call g p (matched o) e = (zero_tok ∷ tok (Symbol comma) 0 ∷ some_range, matching 0 o zero_tree D 0 (pos 0), λ q. tested 0 e zero_is some-range)

sound-call : {d : ℕ} (g : Function) (p q : ℕ) (ys all : List Tok) (read : ℕ → List Tok → Result Arguments) (whole : List Tok → Result Tree) (o : Form)
    → form_of g ≡ o
    → Spans d (tok (Symbol open_paren) q ∷ []) (suc d) → all ≡ tok (Name g) p ∷ tok (Symbol open_paren) q ∷ ys
    → ((m : ℕ) → Good (suc d) d (DerivesArguments m) ys (read m ys)) → Good (suc d) (suc d) (Derives loosest) ys (whole ys)
    → Good d d (Derives 0) all (call_body o p read whole ys)
sound-call g p q ys all read whole (values c) e s a h k =
    wrap (tok (Name g) p ∷ tok (Symbol open_paren) q ∷ []) (λ us. call_tree c p us) (h (more_arguments c)) (passing refl refl s) a (λ w us b. call e b)
sound-call g p q ys all read whole clock e s a h k =
    expects close_paren ys _
    (λ r zs i. took (tok (Name g) p ∷ tok (Symbol open_paren) q ∷ tok (Symbol close_paren) r ∷ [])
    (a ∙ ap (λ (z : List Tok). tok (Name g) p ∷ tok (Symbol open_paren) q ∷ z) i)
    (clocked r e) (passing refl refl (along s (closing refl refl nothing))))
    (stop (tok (Symbol close_paren) 0 ∷ []) (record {
      read = tok (Name g) p ∷ tok (Symbol open_paren) q ∷ [];
      tree = tick;
      split = a;
      whole = clocked 0 e;
      spans = passing refl refl s;
    }))
sound-call g p q ys all read whole (ranged o) e s a h k =
    plain (wrap (tok (Name g) p ∷ tok (Symbol open_paren) q ∷ []) (λ u. u) (sound-range _ (λ b i u n. total u o b i n) ys) (passing refl refl s) a given)
  where
    given : (w : List Tok) (u : Tree) → RangeOf (λ b i u n. total u o b i n) w u → Derives 0 (tok (Name g) p ∷ tok (Symbol open_paren) q ∷ w) u
    given w u (range-of r) = totalled e r
sound-call g p q ys all read whole (matched o) e s a h k =
    bind _ k (tok (Name g) p ∷ tok (Symbol open_paren) q ∷ []) (tok (Symbol comma) 0 ∷ some_range) (λ t. matching 0 o t D 0 (pos 0)) (passing refl refl s) a
    (λ w t b. tested 0 e b some-range)
    (λ w t r _ e' b s'. expects comma r _
    (λ c zs e''. plain (wrap (tok (Name g) p ∷ tok (Symbol open_paren) q ∷ (w ++ tok (Symbol comma) c ∷ [])) (λ u. u)
    (sound-range _ (λ b i u n. matching u o t b i n) zs)
    (passing refl refl (along s (along s' (passing refl refl nothing))))
    (a ∙ ap (λ (v : List Tok). tok (Name g) p ∷ tok (Symbol open_paren) q ∷ v)
    (e' ∙ ap (λ (v : List Tok). w ++ v) e'' ∙ sym (append_assoc w (tok (Symbol comma) c ∷ []) zs)))
    (given w t b c)))
    (stop (tok (Symbol comma) 0 ∷ some_range) (record {
      read = tok (Name g) p ∷ tok (Symbol open_paren) q ∷ w;
      tree = matching 0 o t D 0 (pos 0);
      split = a ∙ ap (λ (v : List Tok). tok (Name g) p ∷ tok (Symbol open_paren) q ∷ v) e';
      whole = tested 0 e b some-range;
      spans = passing refl refl (along s s');
    })))
  where
    given : (w : List Tok) (t : Tree) → Derives loosest w t → (c : ℕ) (v : List Tok) (u : Tree) → RangeOf (λ b i u n. matching u o t b i n) v u
        → Derives 0 ((tok (Name g) p ∷ tok (Symbol open_paren) q ∷ (w ++ tok (Symbol comma) c ∷ [])) ++ v) u
    given w t b c v u (range-of r) = simp append_assoc (tested c e b r)

mutual
  unfolding expression

  pub sound-expression : (f room d l : ℕ) (ts : List Tok) → room + d ≡ most_open → Good d d (Derives l) ts (expression f room l ts)
  sound-expression zero room d l ts m = dry
  sound-expression (suc f) room d l ts m =
      bind _ (sound-operand f room d ts m) [] [] (λ t. t) nothing refl (λ w t a. rw append-nil (lift 0 l (omega arith) a))
      (λ w t r _ e a s. sound-climb f room d l 0 t r ts w m (omega arith) e a s (follow-any r))

  -- after the tokens w, whose group g no operator that follows is tighter than
  sound-climb : (f room d l g : ℕ) (t : Tree) (ts all w : List Tok) → room + d ≡ most_open → g ≤ l → all ≡ w ++ ts → Derives g w t → Spans d w d → Follow g ts
      → Good d d (Derives l) all (climb f room l t ts)
  sound-climb zero room d l g t ts all w m le e a s h = dry
  sound-climb (suc f) room d l g t [] all w m le e a s h = took w e (lift g l le a) s
  sound-climb (suc f) room d l g t (x ∷ xs) all w m le e a s (before h) =
      test (binds l x.token)
      (λ b. let (lo, hi) = binds-true l x.token b in
      let a' : Derives (group x.token) w t = lift g (group x.token) (h lo) a in
      let p : Spans d (x ∷ []) d = operator x lo in
      bind _ (sound-expression f room d (group x.token - 1) xs m) (w ++ x ∷ []) [] (joined_tree x t) (along s p) (e ∙ sym (append_assoc w (x ∷ []) xs))
      (λ v u c. simp (append_assoc, append-nil) (lift (group x.token) l hi (joined x lo a' c)))
      (λ v u r q e' c s'. sound-climb f room d l (group x.token) (joined_tree x t u) r all (w ++ x ∷ v) m hi
      (e ∙ ap (λ (z : List Tok). w ++ x ∷ z) e' ∙ sym (append_assoc w (x ∷ v) r)) (joined x lo a' c) (along s (along p s'))
      (follow-less (omega (arith, lo)) (expression-ends f room (group x.token - 1) xs q))))
      (λ b. took w e (lift g l le a) s)

  sound-operand : (f room d : ℕ) (ts : List Tok) → room + d ≡ most_open → Good d d (Derives 0) ts (operand f room ts)
  sound-operand zero room d ts m = dry
  sound-operand (suc f) room d [] m = stop (zero_tok ∷ []) (record { read = []; tree = zero_tree; split = refl; whole = number; spans = nothing })
  sound-operand (suc f) room d (x ∷ xs) m =
      prefixes (prefix_of x.token) (λ o i. wrap (x ∷ []) (λ t. unary x.place o t) (sound-operand f room d xs m) (prefix x i) refl (λ w t a. signed x i a))
      (sound-primary f room d x.token x.place xs m)

  sound-primary : (f room d : ℕ) (k : Token) (p : ℕ) (xs : List Tok) → room + d ≡ most_open → Good d d (Derives 0) (tok k p ∷ xs) (primary f room (tok k p) xs)
  sound-primary zero room d k p xs m = dry
  sound-primary (suc f) room d (Number v) p xs m = took (tok (Number v) p ∷ []) refl number (passing refl refl nothing)
  sound-primary (suc f) room d (Cell b i) p xs m = took (tok (Cell b i) p ∷ []) refl name (passing refl refl nothing)
  sound-primary (suc f) room d (Letter b) p xs m =
      enters room open_index xs (tok (Letter b) p ∷ []) (zero_tok ∷ tok (Symbol close_index) 0 ∷ []) (indexed b zero_tree)
      _ refl m (passing refl refl nothing) refl
      (λ q. in-brackets b p q (zero-closed close_index))
      (λ q room' ys m' e. wrap (tok (Letter b) p ∷ tok (Symbol open_index) q ∷ []) (λ t. indexed b t) (sound-bracket f room' d close_index ys m' refl refl)
      (passing refl refl (opener open_index q room' refl m')) (ap (λ (z : List Tok). tok (Letter b) p ∷ z) e) (λ w t a. in-brackets b p q a))
  sound-primary (suc f) room d (Name g) p xs m =
      let c = fill-call g p (form_of g) refl in
      enters room open_paren xs (tok (Name g) p ∷ []) c.0 c.1 _ refl m (passing refl refl nothing) refl c.2
      (λ q room' ys m' e. sound-call g p q ys (tok (Name g) p ∷ xs) (λ n r. arguments f room' n r) (λ r. expression f room' loosest r)
      (form_of g) refl (opener open_paren q room' refl m')
      (ap (λ (z : List Tok). tok (Name g) p ∷ z) e)
      (λ n. sound-arguments f room' d n ys m') (sound-expression f room' (suc d) loosest ys m'))
  sound-primary (suc f) room d (Symbol n) p xs m =
      enters room open_paren (tok (Symbol n) p ∷ xs) [] (zero_tok ∷ tok (Symbol close_paren) 0 ∷ []) zero_tree _ refl m nothing refl
      (λ q. in-parentheses q (zero-closed close_paren))
      (λ q room' ys m' e. plain (wrap (tok (Symbol open_paren) q ∷ []) (λ t. t) (sound-bracket f room' d close_paren ys m' refl refl)
      (opener open_paren q room' refl m') e (λ w t a. in-parentheses q a)))

  sound-bracket : (f room d n : ℕ) (ts : List Tok) → room + suc d ≡ most_open → is_opener (tok (Symbol n) 0) ≡ false → is_closer (tok (Symbol n) 0) ≡ true
      → Good (suc d) d (Closed n) ts (bracket f room n ts)
  sound-bracket zero room d n ts m i j = dry
  sound-bracket (suc f) room d n ts m i j =
      bind _ (sound-expression f room (suc d) loosest ts m) [] (tok (Symbol n) 0 ∷ []) (λ t. t) nothing refl (λ w t a. closed 0 a)
      (λ w t r _ e a s. closes n w r t i j s e (λ p. closed p a))

  sound-arguments : (f room d n : ℕ) (ts : List Tok) → room + suc d ≡ most_open → Good (suc d) d (DerivesArguments n) ts (arguments f room n ts)
  sound-arguments zero room d n ts m = dry
  sound-arguments (suc f) room d zero ts m =
      bind _ (sound-expression f room (suc d) loosest ts m) [] (tok (Symbol close_paren) 0 ∷ []) one nothing refl (λ w t a. last 0 a)
      (λ w t r _ e a s. closes close_paren w r (one t) refl refl s e (λ p. last p a))
  sound-arguments (suc f) room d (suc n) ts m =
      let c = fill n in
      bind _ (sound-expression f room (suc d) loosest ts m) [] (tok (Symbol comma) 0 ∷ c.0) (λ t. more t c.1) nothing refl (λ w t a. next 0 a c.2)
      (λ w t r _ e a s. expects comma r _
      (λ p ys e'. wrap (w ++ tok (Symbol comma) p ∷ []) (λ us. more t us) (sound-arguments f room d n ys m) (along s (passing refl refl nothing))
      (e ∙ ap (λ (z : List Tok). w ++ z) e' ∙ sym (append_assoc w (tok (Symbol comma) p ∷ []) ys)) (λ v us b. simp append_assoc (next p a b)))
      (stop (tok (Symbol comma) 0 ∷ c.0) (record { read = w; tree = more t c.1; split = e; whole = next 0 a c.2; spans = s })))
