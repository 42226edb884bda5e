-- What the word at a position of a table says of the tokens from there on.
use mathlib.Core.Path.{◌≡◌, refl, sym, ap, subst, ◌∙◌}
use mathlib.Core.Bool.{Bool, true, false, cond}
use mathlib.Core.List.{List, [], ◌∷◌}
use Prim.Native.Nat.{ℕ, suc, ◌+◌, ◌*◌, ◌≤◌, ◌<◌}
use native.Mathlib.Omega.{arith}
use lib.Dec.{eqb, ltb, lit<}
use lib.ListN.{length, set}
use borrow.Author.Tests.{ne_eqb, eqb-true, le-leb, lt-leb}
use Rattle.values.specs.declared.Kind.TheVariants.{Int, Real}
use Rattle.values.specs.declared.Value.TheVariants as Value
use Rattle.values.specs.declared.CompareOp.TheVariants as C'
use Rattle.values.specs.declared.ChoiceOp.TheVariants as Choose
use Rattle.operators.specs.declared.UnaryOp.{UnaryOp}
use Rattle.operators.specs.declared.UnaryOp.TheVariants as U
use Rattle.memory.specs.declared.Bank.{Bank}
use Rattle.memory.specs.declared.Bank.TheVariants.{X, C, «V», N, D, R}
use Rattle.memory.specs.Cells.{bank_kind}
use Rattle.memory.specs.Numbers.{bank_number}
use Rattle.totals.specs.declared.TotalOp.TheVariants as T'
use Rattle.totals.specs.declared.MatchOp.TheVariants as M'
use Rattle.tokens.specs.declared.Function.{Function}
use Rattle.tokens.specs.declared.Function.TheVariants.{Abs, ToReal, ToInt, Trunc, Round, Frac, Max, Min, If, TickMs, Since, Total, Match}
use Rattle.tokens.specs.declared.Token.{Token}
use Rattle.tokens.specs.declared.Token.TheVariants.{Number, Cell, Letter, Name, Symbol}
use Rattle.tokens.specs.Scan.{Tok}
use Rattle.tokens.specs.Words.{function_at}
use Rattle.token_table.specs.private.Table.{pack_token, function_number, word_class, word_operand, word_number, word_place, entry_of, word_at, tokens_from}
use Rattle.token_table.specs.private.Table.{Sound, TokenWord, blank, token, TokenWords}
use Rattle.token_table.proofs.Laws.{tok, token_class, token_operand, token_number, class-packed, operand-packed, number-packed, place-packed, unpacked}
use Rattle.token_table.proofs.Laws.{blank-end, from_is, from_end}
use Rattle.grammar.specs.Tree.{Tree, literal, cell, clear, tree_kind, diagnostic_of}
use Rattle.grammar.specs.Symbols.{group_number, group, is_symbol, Prefix, is, none, prefix_of}
use Rattle.grammar.specs.Parse.{ok, binds, primary}
use Rattle.tree_code.specs.Code.{code_of}
use Rattle.code.specs.Encode.{join_word}
use Rattle.draft.specs.private.Words.{unary_at, bank_at, leaf_opcode, is_mark, prefix_number, group_in, place_at}
use Rattle.draft.specs.private.Draft.{put_code}
use Rattle.draft.proofs.Marks.{low_half, mark-sound, group-sound, few-groups}
use Rattle.compiler.specs.private.Reading.{DraftHolds}

-- what comes next
abbrev pub head_is : ℕ → List Tok → Bool
head_is n [] = false
head_is n (x ∷ xs) = is_symbol n x.token

abbrev pub symbol_at : ℕ → ℕ → Tok
symbol_at n p = record { token = Symbol n; place = p }

-- the tokens from a position on begin with this one
pub record Splits (s : List ℕ) (at : ℕ) (x : Tok) : Type 0 where
  pub within : at < length s
  pub split : tokens_from s at ≡ x ∷ tokens_from s (at + 1)

-- ---- no token, or one that a text can have
pub data Look (s : List ℕ) (at : ℕ) : ℕ → Type 0 where
  nothing : tokens_from s at ≡ [] → Look s at 0
  stands : {t : Token} {p : ℕ} → Sound t → p < 65536 → Splits s at (tok t p) → Look s at (pack_token t p)

pub look : {s : List ℕ} {at w : ℕ} → TokenWords s → w ≡ word_at s at → Look s at w
look {s} {at} {w} h e = go w e (subst TokenWord (sym e) (h at))
  where
    go : (w : ℕ) → w ≡ word_at s at → TokenWord w → Look s at w
    go _ e blank = nothing (from_end s at (ap entry_of (sym e) ∙ blank-end))
    go _ e (token t p k lt) =
        let h = from_is s at (ap entry_of (sym e) ∙ unpacked k p lt) in
        let next : suc at ≡ at + 1 = omega arith in
        stands k lt (record { within = h.0; split = h.1 ∙ ap (λ (i : ℕ). tok t p ∷ tokens_from s i) next })

-- ---- a symbol that is asked for
mark-token : {t : Token} {p : ℕ} → Sound t → p < 65536 → (n : ℕ) → is_mark n (pack_token t p) ≡ is_symbol n t
mark-token {t} {p} k lt n = rw (low_half (pack_token t p), class-packed k p lt, operand-packed k p lt) (mark-sound k n)

pub mark : {s : List ℕ} {at w : ℕ} → Look s at w → (n : ℕ) → is_mark n w ≡ head_is n (tokens_from s at)
mark (nothing e) n = ne_eqb 0 (6 + 256 * n) (λ q. omega arith) ∙ ap (head_is n) (sym e)
mark (stands k lt h) n = mark-token k lt n ∙ ap (head_is n) (sym h.split)

pub record There (n : ℕ) (s : List ℕ) (at : ℕ) : Type 0 where
  pub place : ℕ
  pub splits : Splits s at (symbol_at n place)

-- a symbol that was asked for is there
pub there : (n : ℕ) (s : List ℕ) (at : ℕ) → TokenWords s → is_mark n (word_at s at) ≡ true → There n s at
there n s at t m = go (look {s = s} {at = at} t refl) m
  where
    asked : {t : Token} {p : ℕ} → Sound t → Splits s at (tok t p) → is_symbol n t ≡ true → There n s at
    asked (Sound.int z h) x e = let y : ◌≡◌ {A = ℕ} 0 1 = cc in absurd (omega arith)
    asked (Sound.real z h) x e = let y : ◌≡◌ {A = ℕ} 0 1 = cc in absurd (omega arith)
    asked (Sound.cell b i h) x e = let y : ◌≡◌ {A = ℕ} 0 1 = cc in absurd (omega arith)
    asked (Sound.letter b) x e = let y : ◌≡◌ {A = ℕ} 0 1 = cc in absurd (omega arith)
    asked (Sound.name f) x e = let y : ◌≡◌ {A = ℕ} 0 1 = cc in absurd (omega arith)
    asked {p = p} (Sound.symbol m h) x e = record { place = p; splits = subst (λ (i : ℕ). Splits s at (symbol_at i p)) (eqb-true m n e) x }

    go : {w : ℕ} → Look s at w → is_mark n w ≡ true → There n s at
    go (nothing e) m = absurd (let q = eqb-true 0 (6 + 256 * n) m in omega arith)
    go (stands k lt x) m = asked k x (sym (mark-token k lt n) ∙ m)

-- ---- a unary operator
abbrev pub head_sign : List Tok → Prefix
head_sign [] = none
head_sign (x ∷ xs) = prefix_of x.token

pub record Signed (s : List ℕ) (at : ℕ) (o : UnaryOp) (p : ℕ) : Type 0 where
  pub symbol : Token
  pub splits : Splits s at (tok symbol p)
  pub sign : prefix_of symbol ≡ is o

abbrev signed : Bool → Bool → Bool → ℕ
signed a b c = cond a 0 (cond b 1 (cond c 2 3))

sign-token : {t : Token} {p : ℕ} → Sound t → p < 65536 → prefix_number (pack_token t p) ≡ signed (is_symbol 5 t) (is_symbol 20 t) (is_symbol 21 t)
sign-token k lt = rw (mark-token k lt 5, mark-token k lt 20, mark-token k lt 21)

by_sign : (t : Token) → prefix_of t ≡ cond (is_symbol 5 t) (is U.Neg) (cond (is_symbol 20 t) (is U.Complement) (cond (is_symbol 21 t) (is U.Not) none))
by_sign (Number v) = refl
by_sign (Cell b i) = refl
by_sign (Letter b) = refl
by_sign (Name f) = refl
by_sign (Symbol n) = refl

some-sign : (a b c : Bool) → signed a b c < 3 → cond a (is U.Neg) (cond b (is U.Complement) (cond c (is U.Not) none)) ≡ is (unary_at (signed a b c))
some-sign true b c h = refl
some-sign false true c h = refl
some-sign false false true h = refl
some-sign false false false h = absurd (omega arith)

no_sign : (a b c : Bool) → signed a b c ≡ 3 → cond a (is U.Neg) (cond b (is U.Complement) (cond c (is U.Not) none)) ≡ none
no_sign true b c h = absurd (omega arith)
no_sign false true c h = absurd (omega arith)
no_sign false false true h = absurd (omega arith)
no_sign false false false h = refl

pub sign-there : {s : List ℕ} {at w : ℕ} → Look s at w → prefix_number w < 3 → Signed s at (unary_at (prefix_number w)) (word_place w)
sign-there (nothing e) h = absurd (omega arith)
sign-there (stands {t} {p} k lt x) h =
    let e = sign-token k lt in
    rw (place-packed k p lt, e) (record { symbol = t; splits = x; sign = by_sign t ∙ some-sign (is_symbol 5 t) (is_symbol 20 t) (is_symbol 21 t) (rw e at h) })

pub sign-none : {s : List ℕ} {at w : ℕ} → Look s at w → prefix_number w ≡ 3 → head_sign (tokens_from s at) ≡ none
sign-none (nothing e) h = ap head_sign e
sign-none (stands {t} k lt x) h =
    ap head_sign x.split ∙ by_sign t ∙ no_sign (is_symbol 5 t) (is_symbol 20 t) (is_symbol 21 t) (rw (sign-token k lt) at h)

-- ---- a binary operator of the group l or tighter
abbrev pub head_binds : ℕ → List Tok → Bool
head_binds l [] = false
head_binds l (x ∷ xs) = binds l x.token

pub record Operator (s : List ℕ) (at n p g : ℕ) : Type 0 where
  pub splits : Splits s at (symbol_at n p)
  pub few : n < 20
  pub group : group_number n ≡ g

group-token : {t : Token} {p : ℕ} → Sound t → p < 65536 → group_in (pack_token t p) ≡ group t
group-token {t} {p} k lt = rw (class-packed k p lt, operand-packed k p lt) (group-sound k)

pub operator-there : {s : List ℕ} {at w : ℕ} → Look s at w → (group_in w ≡ 0 → ⊥) → Operator s at (word_operand w) (word_place w) (group_in w)
operator-there (nothing e) z = absurd (z refl)
operator-there {s} {at} (stands {t} {p} k lt x) z = rw (group-token k lt, operand-packed k p lt, place-packed k p lt) (by k x (λ e. z (group-token k lt ∙ e)))
  where
    by : {t : Token} → Sound t → Splits s at (tok t p) → (group t ≡ 0 → ⊥) → Operator s at (token_operand t) p (group t)
    by (Sound.int z h) x n = absurd (n refl)
    by (Sound.real y h) x n = absurd (n refl)
    by (Sound.cell b i h) x n = absurd (n refl)
    by (Sound.letter b) x n = absurd (n refl)
    by (Sound.name f) x n = absurd (n refl)
    by (Sound.symbol m h) x n = record { splits = x; few = few-groups m n; group = refl }

pub no-operator : {s : List ℕ} {at w : ℕ} (l : ℕ) → Look s at w → group_in w ≡ 0 → head_binds l (tokens_from s at) ≡ false
no-operator l (nothing e) z = ap (head_binds l) e
no-operator l (stands k lt x) z = ap (head_binds l) x.split ∙ rw (sym (group-token k lt) ∙ z)

pub loose-operator : {s : List ℕ} {at w : ℕ} (l : ℕ) → Look s at w → (group_in w ≡ 0 → ⊥) → l < group_in w → head_binds l (tokens_from s at) ≡ false
loose-operator l (nothing e) z h = ap (head_binds l) e
loose-operator l (stands {t} k lt x) z h =
    let e = group-token k lt in
    let low : 1 ≤ group t = omega arith in
    let high : l < group t = omega arith in
    ap (head_binds l) x.split ∙ rw (le-leb 1 (group t) low, lt-leb (group t) l high)

-- ---- a primary, by its class
pub bank-back : (b : Bank) → (bank_at (bank_number b) ≡ b) × (bank_number b < 6)
bank-back X = (refl, lit< tt)
bank-back C = (refl, lit< tt)
bank-back «V» = (refl, lit< tt)
bank-back N = (refl, lit< tt)
bank-back D = (refl, lit< tt)
bank-back R = (refl, lit< tt)

function-back : (f : Function) → function_at (function_number f) ≡ f
function-back Abs = refl
function-back ToReal = refl
function-back ToInt = refl
function-back Trunc = refl
function-back Round = refl
function-back Frac = refl
function-back Max = refl
function-back Min = refl
function-back If = refl
function-back TickMs = refl
function-back Since = refl
function-back (Total T'.Sum) = refl
function-back (Total T'.Average) = refl
function-back (Total (T'.Choice Choose.Max)) = refl
function-back (Total (T'.Choice Choose.Min)) = refl
function-back (Match (M'.Count C'.Lt)) = refl
function-back (Match (M'.Count C'.Gt)) = refl
function-back (Match (M'.Count C'.Le)) = refl
function-back (Match (M'.Count C'.Ge)) = refl
function-back (Match (M'.Count C'.Eq)) = refl
function-back (Match (M'.Count C'.Ne)) = refl
function-back (Match (M'.Sum C'.Lt)) = refl
function-back (Match (M'.Sum C'.Gt)) = refl
function-back (Match (M'.Sum C'.Le)) = refl
function-back (Match (M'.Sum C'.Ge)) = refl
function-back (Match (M'.Sum C'.Eq)) = refl
function-back (Match (M'.Sum C'.Ne)) = refl

-- a literal or a cell with the operand n, the number x and the place p: the tree it is, and its word as the instruction
pub record Leaf (s : List ℕ) (at c n x p : ℕ) : Type 0 where
  pub token : Token
  pub splits : Splits s at (tok token p)
  pub plain : prefix_of token ≡ none
  pub few : n < 6
  pub tree : Tree
  pub reads : (f d : ℕ) (xs : List Tok) → primary (suc f) d (tok token p) xs ≡ ok tree xs
  pub means : (pc : ℕ) (o : List ℕ) → DraftHolds pc o (set o pc (join_word (leaf_opcode c n) x)) (pc + 1)
      (cond (eqb c 1) Int (cond (eqb c 2) Real (bank_kind (bank_at n)))) clear tree

-- what stands there, sorted by the class
pub data Primary (s : List ℕ) (at n x p : ℕ) : ℕ → Type 0 where
  end : tokens_from s at ≡ [] → Primary s at n x p 0
  leaf : {c : ℕ} → c < 4 → (c ≡ 0 → ⊥) → Leaf s at c n x p → Primary s at n x p c
  letter : n < 6 → Splits s at (tok (Letter (bank_at n)) p) → Primary s at n x p 4
  name : Splits s at (tok (Name (function_at n)) p) → Primary s at n x p 5
  symbol : Splits s at (tok (Symbol n) p) → Primary s at n x p 6

sorted : {s : List ℕ} {at p : ℕ} {t : Token} → Sound t → Splits s at (tok t p) → Primary s at (token_operand t) (token_number t) p (token_class t)
unfolding code_of tree_kind diagnostic_of primary put_code
sorted {p = p} (Sound.int z h) x =
    leaf {c = 1} (lit< tt) (λ e. omega arith) (record {
      token = Number (Value.Int z);
      splits = x;
      plain = refl;
      few = lit< tt;
      tree =
          literal p (Value.Int z);
      reads = λ f d xs. refl;
      means = λ pc o. record { kind = refl; wrong = refl; ends = refl; code = refl };
    })
sorted {p = p} (Sound.real y h) x =
    leaf {c = 2} (lit< tt) (λ e. omega arith) (record {
      token = Number (Value.Real y);
      splits = x;
      plain = refl;
      few = lit< tt;
      tree =
          literal p (Value.Real y);
      reads = λ f d xs. refl;
      means = λ pc o. record { kind = refl; wrong = refl; ends = refl; code = refl };
    })
sorted (Sound.cell b i h) x =
    let (e, few) = bank-back b in
    leaf {c = 3} (lit< tt) (λ e. omega arith) (record {
      token = Cell b i;
      splits = x;
      plain = refl;
      few = few;
      tree = cell b i;
      reads = λ f d xs. refl;
      means = λ pc o. record { kind = ap bank_kind (sym e); wrong = refl; ends = refl; code = refl };
    })
sorted {s} {at} {p} (Sound.letter b) x =
    let (e, few) = bank-back b in
    letter few (subst (λ (b : Bank). Splits s at (tok (Letter b) p)) (sym e) x)
sorted {s} {at} {p} (Sound.name f) x =
    name (subst (λ (f : Function). Splits s at (tok (Name f) p)) (sym (function-back f)) x)
sorted (Sound.symbol m h) x = symbol x

pub primary-there : {s : List ℕ} {at w : ℕ} → Look s at w → Primary s at (word_operand w) (word_number w) (word_place w) (word_class w)
primary-there (nothing e) = end e
primary-there (stands {t} {p} k lt x) = rw (class-packed k p lt, operand-packed k p lt, number-packed k p lt, place-packed k p lt) (sorted k x)

-- as the code has the operand and the class
pub primary-as : {s : List ℕ} {at w n c : ℕ} → Look s at w → n ≡ word_operand w → c ≡ word_class w → Primary s at n (word_number w) (word_place w) c
primary-as {s} {at} {w} {n} h a b = rw b (subst (λ (m : ℕ). Primary s at m (word_number w) (word_place w) (word_class w)) (sym a) (primary-there h))

module _ {s : List ℕ} {at n x p c : ℕ} (h : Primary s at n x p c) where
  pub at-end : c ≡ 0 → tokens_from s at ≡ []
  at-end e = go (subst (Primary s at n x p) e h)
    where
      go : Primary s at n x p 0 → tokens_from s at ≡ []
      go (end z) = z
      go (leaf l k z) = absurd (k refl)

  pub a-letter : c ≡ 4 → (n < 6) × Splits s at (tok (Letter (bank_at n)) p)
  a-letter e = go (subst (Primary s at n x p) e h)
    where
      go : Primary s at n x p 4 → (n < 6) × Splits s at (tok (Letter (bank_at n)) p)
      go (leaf l k z) = absurd (omega arith)
      go (letter l z) = (l, z)

  pub a-name : c ≡ 5 → Splits s at (tok (Name (function_at n)) p)
  a-name e = go (subst (Primary s at n x p) e h)
    where
      go : Primary s at n x p 5 → Splits s at (tok (Name (function_at n)) p)
      go (leaf l k z) = absurd (omega arith)
      go (name z) = z

  pub a-symbol : c ≡ 6 → Splits s at (tok (Symbol n) p)
  a-symbol e = go (subst (Primary s at n x p) e h)
    where
      go : Primary s at n x p 6 → Splits s at (tok (Symbol n) p)
      go (leaf l k z) = absurd (omega arith)
      go (symbol z) = z

  pub a-leaf : (c ≡ 0 → ⊥) → (c ≡ 4 → ⊥) → (c ≡ 5 → ⊥) → (c ≡ 6 → ⊥) → Leaf s at c n x p
  a-leaf = go h
    where
      go : {c : ℕ} → Primary s at n x p c → (c ≡ 0 → ⊥) → (c ≡ 4 → ⊥) → (c ≡ 5 → ⊥) → (c ≡ 6 → ⊥) → Leaf s at c n x p
      go (end z) a b d e = absurd (a refl)
      go (leaf l k z) a b d e = z
      go (letter l z) a b d e = absurd (b refl)
      go (name z) a b d e = absurd (d refl)
      go (symbol z) a b d e = absurd (e refl)

  pub is_leaf_lem : cond (eqb c 0) false (ltb c 4) ≡ true → Leaf s at c n x p
  is_leaf_lem e = a-leaf (other 0 refl) (other 4 refl) (other 5 refl) (other 6 refl)
    where
      other : (k : ℕ) → cond (eqb k 0) false (ltb k 4) ≡ false → c ≡ k → ⊥
      other k f q =
          let t : cond (eqb k 0) false (ltb k 4) ≡ true = subst (λ (i : ℕ). cond (eqb i 0) false (ltb i 4) ≡ true) q e in
          let z : ◌≡◌ {A = ℕ} 0 1 = cc in
          omega arith

-- ---- the place of what comes next
abbrev pub place_in : ℕ → List Tok → ℕ
place_in size [] = size
place_in size (x ∷ xs) = x.place

pub place-there : {s : List ℕ} {at w : ℕ} (size : ℕ) → Look s at w → place_at size w ≡ place_in size (tokens_from s at)
place-there size (nothing e) = ap (place_in size) (sym e)
place-there size (stands {t} {p} k lt x) = rw (class-packed k p lt, place-packed k p lt) (by k ∙ ap (place_in size) (sym x.split))
  where
    by : {t : Token} → Sound t → cond (eqb (token_class t) 0) size p ≡ p
    by (Sound.int z h) = refl
    by (Sound.real y h) = refl
    by (Sound.cell b i h) = refl
    by (Sound.letter b) = refl
    by (Sound.name f) = refl
    by (Sound.symbol m h) = refl

-- a token comes next, or none
pub some-there : {s : List ℕ} {at w : ℕ} → Look s at w → (word_class w ≡ 0 → ⊥) → (t : Token) × Splits s at (tok t (word_place w))
some-there (nothing e) z = absurd (z refl)
some-there (stands {t} {p} k lt x) z = (t, rw (place-packed k p lt) x)

pub none-there : {s : List ℕ} {at w : ℕ} → Look s at w → word_class w ≡ 0 → tokens_from s at ≡ []
none-there h z = at-end (primary-there h) z
