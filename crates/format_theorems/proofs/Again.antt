-- Every tree that a text has: its formatted text is read again as the same tree, with the same spellings.
use mathlib.Core.Path.{◌≡◌, refl, sym, ap, subst, ◌∙◌}
use mathlib.Core.Bool.{Bool, true, false, not, ◌||◌}
use mathlib.Core.List.{List, [], ◌∷◌, ◌++◌, append_assoc, append-nil}
use Prim.Native.Nat.{ℕ, suc, ◌+◌, ◌≤◌}
use native.Mathlib.Omega.{arith}
use lib.Dec.{eqb}
use lib.IntN.{ℤ}
use borrow.Author.Tests.{eqb-true}
use Rattle.values.specs.declared.Value.{Value}
use Rattle.operators.specs.declared.UnaryOp.{UnaryOp}
use Rattle.memory.specs.declared.Bank.{Bank}
use Rattle.totals.specs.declared.TotalOp.{TotalOp}
use Rattle.totals.specs.declared.MatchOp.{MatchOp}
use Rattle.tokens.specs.declared.Function.{Function}
use Rattle.tokens.specs.declared.Token.{Token}
use Rattle.tokens.specs.declared.Token.TheVariants.{Number, Cell, Letter, Name, Symbol}
use Rattle.tokens.specs.Scan.{Tok}
use Rattle.tokens.proofs.Tests.{no}
use Rattle.grammar.specs.Tree.{Tree, literal, cell, indexed, unary, tick, total, matching}
use Rattle.grammar.specs.Symbols.{group_number, open_paren, close_paren, open_index, close_index, comma, prefix_symbol, is, infix_tree, Arguments, one, more}
use Rattle.grammar.specs.Symbols.{Callee, plain, clock, ranged, matched, form_of, more_arguments, call_tree}
use Rattle.grammar.specs.Grammar.{tok, Range, range, Derives, number, name, index, parenthesis, call, clocked, totalled, tested, prefixed, up}
use Rattle.grammar.specs.Grammar.{infixed, last, next}
use Rattle.lines.specs.Printing.{letter_byte, cell_name}
use Rattle.format_laws.specs.Formatted.{lexeme, top, is_infix, is_other_infix, formatted, spellings}
use Rattle.format_laws.proofs.Nodes.{infix-law, prefix-text, prefix-spelled, all_spellings, later, call-law, top-most}
use Rattle.format_theorems.proofs.Words.{cell-spelling, letter-spelling}
use Rattle.format_theorems.proofs.Lexemes.{Spells, spelling}
use Rattle.format_theorems.proofs.Lexed.{kept, kept_name, kept_at}
use Rattle.format_theorems.proofs.Standing.{Standing, front, back, rest}
use Rattle.format_theorems.proofs.Standing as Standing
use Rattle.format_theorems.proofs.Reading.{Again, AgainAll, operand, anywhere, a-number, a-cell, an-index, a-prefix, an-infix, the_last}
use Rattle.format_theorems.proofs.Reading.{the-next, a_call, clock-function, total-function, match-function, named, a-clock, a-total, a-match}

-- ---- when an operand is bare
bare-right : (g : ℕ) → is_infix g ≡ false → g ≤ 0
bare-right g e = go (eqb g 0) refl e
  where
    go : (b : Bool) → eqb g 0 ≡ b → not b ≡ false → g ≤ 0
    go true q e = omega (arith, eqb-true g 0 q)
    go false q e = no (sym e)

bare-left : (h g : ℕ) → is_other_infix h g ≡ false → g ≤ h
bare-left h g e = go (eqb g 0) (eqb g h) refl refl e
  where
    go : (a b : Bool) → eqb g 0 ≡ a → eqb g h ≡ b → not (a || b) ≡ false → g ≤ h
    go true b q r e = omega (arith, eqb-true g 0 q)
    go false true q r e = omega (arith, eqb-true g h r)
    go false false q r e = no (sym e)

-- ---- the spelling of a token
spelled-of : {s : List ℕ} {x : Token} {p : ℕ} {z : List Tok} → Standing s (tok x p ∷ z) → ((n : ℕ) → x ≡ Symbol n → ⊥) → Spells x (lexeme s p)
spelled-of (Standing.sign {n = n} h) f = absurd (f n refl)
spelled-of (Standing.spelled n e h) f = e

number-there : {s : List ℕ} {v : Value} {p : ℕ} {z : List Tok} → Standing s (tok (Number v) p ∷ z) → Spells (Number v) (lexeme s p)
number-there h = spelled-of h (λ n e. let z : ◌≡◌ {A = ℕ} 0 1 = cc in omega arith)

cell-there : {s : List ℕ} {b : Bank} {i p : ℕ} {z : List Tok} → Standing s (tok (Cell b i) p ∷ z) → Spells (Cell b i) (cell_name b i)
cell-there {s} {b} {i} {p} h =
    let k : Spells (Cell b i) (lexeme s p) = spelled-of h (λ n e. let z : ◌≡◌ {A = ℕ} 0 1 = cc in omega arith) in
    subst (Spells (Cell b i)) (cell-spelling (spelling k)) k

letter-there : {s : List ℕ} {b : Bank} {p : ℕ} {z : List Tok} → Standing s (tok (Letter b) p ∷ z) → Spells (Letter b) (letter_byte b ∷ [])
letter-there {s} {b} {p} h =
    let k : Spells (Letter b) (lexeme s p) = spelled-of h (λ n e. let z : ◌≡◌ {A = ℕ} 0 1 = cc in omega arith) in
    subst (Spells (Letter b)) (letter-spelling (spelling k)) k

name-there : {s : List ℕ} {f : Function} {p : ℕ} {z : List Tok} → Standing s (tok (Name f) p ∷ z) → Spells (Name f) (lexeme s p)
name-there h = spelled-of h (λ n e. let z : ◌≡◌ {A = ℕ} 0 1 = cc in omega arith)

-- ---- each production
abbrev Holds : List ℕ → Tree → Type 0
Holds s t = Again s (top t) t (formatted s t)

holds_as : {s : List ℕ} {l : ℕ} {t : Tree} {x : List ℕ} → top t ≡ l → formatted s t ≡ x → Again s l t x → Holds s t
holds_as {s} {l} {t} {x} e f a = subst (λ (i : ℕ). Again s i t (formatted s t)) (sym e) (subst (λ (y : List ℕ). Again s l t y) (sym f) a)

module _ (s : List ℕ) where
  of_number : (v : Value) (p : ℕ) → Standing s (tok (Number v) p ∷ []) → Holds s (literal p v)
  unfolding formatted
  of_number v p h = a-number s v p (number-there h)

  of-cell : (b : Bank) (i p : ℕ) → Standing s (tok (Cell b i) p ∷ []) → Holds s (cell b i)
  unfolding formatted
  of-cell b i p h = a-cell s b i (cell-there h)

  of-index : (b : Bank) (p q r : ℕ) (w : List Tok) (t : Tree) → (Standing s w → Holds s t)
      → Standing s (tok (Letter b) p ∷ tok (Symbol open_index) q ∷ (w ++ tok (Symbol close_index) r ∷ [])) → Holds s (indexed b t)
  unfolding formatted
  of-index b p q r w t k h = an-index b (letter-there h) (anywhere (k (front w _ (rest (rest h)))))

  of-parenthesis : (p q : ℕ) (w : List Tok) (t : Tree) → (Standing s w → Holds s t)
      → Standing s (tok (Symbol open_paren) p ∷ (w ++ tok (Symbol close_paren) q ∷ [])) → Holds s t
  of-parenthesis p q w t k h = k (front w _ (rest h))

  of-call : (f : Function) (c : Callee) (p q : ℕ) (w : List Tok) (ts : Arguments) → form_of f ≡ plain c → (Standing s w → AgainAll s (more_arguments c) ts)
      → Standing s (tok (Name f) p ∷ tok (Symbol open_paren) q ∷ w) → Holds s (call_tree c p ts)
  of-call f c p q w ts e k h =
      let a = k (rest (rest h)) in
      let n = call-law s f c p ts e a.count in
      holds_as n.group n.text (a_call f c p e (name-there h) a)

  of-clock : (f : Function) (p q r : ℕ) → form_of f ≡ clock → Standing s (tok (Name f) p ∷ tok (Symbol open_paren) q ∷ tok (Symbol close_paren) r ∷ [])
      → Holds s tick
  unfolding formatted
  of-clock f p q r e h = a-clock s (named (clock-function f e) (name-there h))

  of-total : (f : Function) (o : TotalOp) (p q u : ℕ) (b : Bank) (i : ℕ) (n : ℤ) (w : List Tok) → form_of f ≡ ranged o → Range b i n u w
      → Standing s (tok (Name f) p ∷ tok (Symbol open_paren) q ∷ w) → Holds s (total u o b i n)
  unfolding formatted
  of-total f o p q _ b i n _ e (range c d u r) h =
      a-total s u o b i n (named (total-function f o e) (name-there h)) (cell-there (rest (rest h))) (number-there (rest (rest (rest (rest h)))))

  of-match : (f : Function) (o : MatchOp) (p q u r : ℕ) (b : Bank) (i : ℕ) (n : ℤ) (w v : List Tok) (t : Tree) → form_of f ≡ matched o
      → (Standing s w → Holds s t) → Range b i n u v
      → Standing s (tok (Name f) p ∷ tok (Symbol open_paren) q ∷ (w ++ tok (Symbol comma) r ∷ v)) → Holds s (matching u o t b i n)
  unfolding formatted
  of-match f o p q _ r b i n w _ t e k (range c d u l) h =
      let g = rest (back w _ (rest (rest h))) in
      a-match u o b i n (named (match-function f o e) (name-there h)) (cell-there g) (number-there (rest (rest g))) (anywhere (k (front w _ (rest (rest h)))))

  of-prefix : (n p : ℕ) (o : UnaryOp) (w : List Tok) (t : Tree) → prefix_symbol n ≡ is o → (Standing s w → Holds s t) → Standing s (tok (Symbol n) p ∷ w)
      → Holds s (unary p o t)
  of-prefix n p o w t e k h =
      holds_as refl (prefix-text s n p o t e) (a-prefix n p o e (operand (is_infix (top t)) (top-most t) (k (rest h)) (bare-right (top t))))

  of-infix : (l n p : ℕ) (w v : List Tok) (t u : Tree) → group_number n ≡ suc l → (Standing s w → Holds s t) → (Standing s v → Holds s u)
      → Standing s (w ++ tok (Symbol n) p ∷ v) → Holds s (infix_tree n p t u)
  of-infix l n p w v t u e k m h =
      let x = infix-law s n l p t u e in
      holds_as (x.group ∙ e) x.text
      (an-infix n l p e
      (operand (is_other_infix (group_number n) (top t)) (top-most t) (k (front w _ h)) (λ z. omega (arith, e, bare-left (group_number n) (top t) z)))
      (operand (is_infix (top u)) (top-most u) (m (rest (back w _ h))) (λ z. omega (arith, bare-right (top u) z))))

  of-last : (q : ℕ) (w : List Tok) (t : Tree) → (Standing s w → Holds s t) → Standing s (w ++ tok (Symbol close_paren) q ∷ []) → AgainAll s 0 (one t)
  of-last q w t k h = the_last (k (front w _ h))

  of-next : (m q : ℕ) (w v : List Tok) (t : Tree) (ts : Arguments) → (Standing s w → Holds s t) → (Standing s v → AgainAll s m ts)
      → Standing s (w ++ tok (Symbol comma) q ∷ v) → AgainAll s (suc m) (more t ts)
  of-next m q w v t ts k g h = the-next (k (front w _ h)) (g (rest (back w _ h)))

  pub holds : {l : ℕ} {w : List Tok} {t : Tree} → Derives l w t → Standing s w → Holds s t
  holds a = elim a as (λ l w t a. Standing s w → Holds s t) (λ m w ts a. Standing s w → AgainAll s m ts) [
    | number {v} {p} ↦ of_number v p
    | name {b} {i} {p} ↦ of-cell b i p
    | index {b} {p} {q} r {w} {t} (a → h) ↦ of-index b p q r w t h
    | parenthesis {p} q {w} {t} (a → h) ↦ of-parenthesis p q w t h
    | call {f} {c} {p} {q} {w} {ts} e (a → h) ↦ of-call f c p q w ts e h
    | clocked {f} {p} {q} r e ↦ of-clock f p q r e
    | totalled {f} {o} {p} {q} {u} {b} {i} {n} {w} e g ↦ of-total f o p q u b i n w e g
    | tested {f} {o} {p} {q} {u} r {b} {i} {n} {w} {v} {t} e (a → h) g ↦ of-match f o p q u r b i n w v t e h g
    | prefixed {n} {p} {o} {w} {t} e (a → h) ↦ of-prefix n p o w t e h
    | up {l} {w} {t} (a → h) ↦ h
    | infixed {l} n p {w} {v} {t} {u} e (a → h) (b → h') ↦ of-infix l n p w v t u e h h'
    | last q {w} {t} (a → h) ↦ of-last q w t h
    | next {m} q {w} {v} {t} {ts} (a → h) (b → h') ↦ of-next m q w v t ts h h'
  ]

-- ---- the spellings of a tree are those of its tokens
module _ (s : List ℕ) where
  kept_append : (w v : List Tok) → kept_at s (w ++ v) ≡ kept_at s w ++ kept_at s v
  kept_append [] v = refl
  kept_append (x ∷ w) v =
      ap (λ l. kept x.token (lexeme s x.place) ++ l) (kept_append w v)
      ∙ sym (append_assoc (kept x.token (lexeme s x.place)) (kept_at s w) (kept_at s v))

  abbrev Kept : List Tok → Tree → Type 0
  Kept w t = spellings s t ≡ kept_at s w

  record KeptAll (m : ℕ) (w : List Tok) (ts : Arguments) : Type 0 where
    count : later ts ≡ m
    all : all_spellings s ts ≡ kept_at s w

  -- before a symbol at the end
  kept-closed : (w : List Tok) (n q : ℕ) → kept_at s (w ++ tok (Symbol n) q ∷ []) ≡ kept_at s w
  kept-closed w n q = kept_append w (tok (Symbol n) q ∷ []) ∙ append-nil (kept_at s w)

  kept-call : (f : Function) (c : Callee) (p q : ℕ) (w : List Tok) (ts : Arguments) → form_of f ≡ plain c → KeptAll (more_arguments c) w ts
      → Kept (tok (Name f) p ∷ tok (Symbol open_paren) q ∷ w) (call_tree c p ts)
  kept-call f c p q w ts e h =
      (call-law s f c p ts e h.count).spelled ∙ ap (λ l. lexeme s p ∷ l) h.all ∙ ap (λ i. kept_name i (lexeme s p) ++ kept_at s w) (sym e)

  kept-range : (b : Bank) (i : ℕ) (n : ℤ) (u : ℕ) (w : List Tok) → Range b i n u w → kept_at s w ≡ lexeme s u ∷ []
  kept-range b i n _ _ (range o q p r) = refl

  kept-total : (f : Function) (o : TotalOp) (p q u : ℕ) (b : Bank) (i : ℕ) (n : ℤ) (w : List Tok) → form_of f ≡ ranged o → Range b i n u w
      → Kept (tok (Name f) p ∷ tok (Symbol open_paren) q ∷ w) (total u o b i n)
  unfolding spellings
  kept-total f o p q u b i n w e g = sym (kept-range b i n u w g) ∙ ap (λ i. kept_name i (lexeme s p) ++ kept_at s w) (sym e)

  kept-match : (f : Function) (o : MatchOp) (p q u r : ℕ) (b : Bank) (i : ℕ) (n : ℤ) (w v : List Tok) (t : Tree) → form_of f ≡ matched o → Kept w t
      → Range b i n u v
      → Kept (tok (Name f) p ∷ tok (Symbol open_paren) q ∷ (w ++ tok (Symbol comma) r ∷ v)) (matching u o t b i n)
  unfolding spellings
  kept-match f o p q u r b i n w v t e h g =
      ap (λ l. l ++ lexeme s u ∷ []) h ∙ ap (λ l. kept_at s w ++ l) (sym (kept-range b i n u v g)) ∙ sym (kept_append w (tok (Symbol comma) r ∷ v))
      ∙ ap (λ i. kept_name i (lexeme s p) ++ kept_at s (w ++ tok (Symbol comma) r ∷ v)) (sym e)

  kept-infix : (l n p : ℕ) (w v : List Tok) (t u : Tree) → group_number n ≡ suc l → Kept w t → Kept v u → Kept (w ++ tok (Symbol n) p ∷ v) (infix_tree n p t u)
  kept-infix l n p w v t u e h k =
      (infix-law s n l p t u e).spelled ∙ ap (λ x. x ++ spellings s u) h ∙ ap (λ x. kept_at s w ++ x) k ∙ sym (kept_append w (tok (Symbol n) p ∷ v))

  kept_next : (m q : ℕ) (w v : List Tok) (t : Tree) (ts : Arguments) → Kept w t → KeptAll m v ts → KeptAll (suc m) (w ++ tok (Symbol comma) q ∷ v) (more t ts)
  kept_next m q w v t ts h k =
      record {
        count = ap suc k.count;
        all = ap (λ x. x ++ all_spellings s ts) h ∙ ap (λ x. kept_at s w ++ x) k.all ∙ sym (kept_append w (tok (Symbol comma) q ∷ v));
      }

  kept-index : (b : Bank) (p q r : ℕ) (w : List Tok) (t : Tree) → Kept w t
      → Kept (tok (Letter b) p ∷ tok (Symbol open_index) q ∷ (w ++ tok (Symbol close_index) r ∷ [])) (indexed b t)
  unfolding spellings
  kept-index b p q r w t h = h ∙ sym (kept-closed w close_index r)

  kept-clock : (f : Function) (p q r : ℕ) → form_of f ≡ clock → Kept (tok (Name f) p ∷ tok (Symbol open_paren) q ∷ tok (Symbol close_paren) r ∷ []) tick
  unfolding spellings
  kept-clock f p q r e = ap (λ i. kept_name i (lexeme s p) ++ []) (sym e)

  kept-number : (v : Value) (p : ℕ) → Kept (tok (Number v) p ∷ []) (literal p v)
  unfolding spellings
  kept-number v p = refl

  kept-cell : (b : Bank) (i p : ℕ) → Kept (tok (Cell b i) p ∷ []) (cell b i)
  unfolding spellings
  kept-cell b i p = refl

  pub kept-tree : {l : ℕ} {w : List Tok} {t : Tree} → Derives l w t → spellings s t ≡ kept_at s w
  kept-tree a = elim a as (λ l w t a. Kept w t) (λ m w ts a. KeptAll m w ts) [
    | number {v} {p} ↦ kept-number v p
    | name {b} {i} {p} ↦ kept-cell b i p
    | index {b} {p} {q} r {w} {t} (a → h) ↦ kept-index b p q r w t h
    | parenthesis {p} q {w} {t} (a → h) ↦ h ∙ sym (kept-closed w close_paren q)
    | call {f} {c} {p} {q} {w} {ts} e (a → h) ↦ kept-call f c p q w ts e h
    | clocked {f} {p} {q} r e ↦ kept-clock f p q r e
    | totalled {f} {o} {p} {q} {u} {b} {i} {n} {w} e g ↦ kept-total f o p q u b i n w e g
    | tested {f} {o} {p} {q} {u} r {b} {i} {n} {w} {v} {t} e (a → h) g ↦ kept-match f o p q u r b i n w v t e h g
    | prefixed {n} {p} {o} {w} {t} e (a → h) ↦ prefix-spelled s n p o t e ∙ h
    | up {l} {w} {t} (a → h) ↦ h
    | infixed {l} n p {w} {v} {t} {u} e (a → h) (b → h') ↦ kept-infix l n p w v t u e h h'
    | last q {w} {t} (a → h) ↦ record { count = refl; all = h ∙ sym (kept-closed w close_paren q) }
    | next {m} q {w} {v} {t} {ts} (a → h) (b → h') ↦ kept_next m q w v t ts h h'
  ]
