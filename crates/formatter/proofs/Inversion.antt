-- What a parser's success says of its steps.
use mathlib.Core.Path.{◌≡◌, refl, sym, ap, ◌∙◌}
use mathlib.Core.Bool.{true, false}
use mathlib.Core.List.{List, [], ◌∷◌}
use Prim.Native.Nat.{ℕ, zero, suc}
use native.Mathlib.Omega.{arith}
use lib.IntN.{ℤ}
use Rattle.values.specs.declared.Value.{Value}
use Rattle.values.specs.declared.Value.TheVariants.{Int, Real}
use Rattle.memory.specs.declared.Bank.{Bank}
use Rattle.tokens.specs.declared.Token.{Token}
use Rattle.tokens.specs.declared.Token.TheVariants.{Number, Cell, Letter, Name, Symbol}
use Rattle.tokens.specs.Scan.{Tok}
use Rattle.grammar.specs.Tree.{Tree}
use Rattle.grammar.specs.Grammar.{tok}
use Rattle.grammar.specs.Symbols.{is_symbol, comma, close_paren}
use Rattle.grammar.specs.Parse.{Result, ok, bad, deep, starved, and_then, expect, expect_count, expect_range, enter}
use Rattle.tokens.proofs.Tests.{by-test}
use Rattle.formatter.proofs.Words.{is-symbol}

-- one result after the other
pub record Through {X Y : Type 0} (q : Result X) (k : X → List Tok → Result Y) (y : Y) (r : List Tok) : Type 0 where
  pub first : X
  pub left : List Tok
  pub is : q ≡ ok first left
  pub then : k first left ≡ ok y r

pub through : {X Y : Type 0} (q : Result X) (k : X → List Tok → Result Y) {y : Y} {r : List Tok} → and_then q k ≡ ok y r → Through q k y r
through (ok x z) k e = record { first = x; left = z; is = refl; then = e }
through (bad z) k e = let z : ◌≡◌ {A = ℕ} 0 1 = cc in absurd (omega arith)
through (deep z) k e = let z : ◌≡◌ {A = ℕ} 0 1 = cc in absurd (omega arith)
through starved k e = let z : ◌≡◌ {A = ℕ} 0 1 = cc in absurd (omega arith)

-- a symbol that was expected
pub record Met {Y : Type 0} (n : ℕ) (ts : List Tok) (k : List Tok → Result Y) (y : Y) (r : List Tok) : Type 0 where
  pub place : ℕ
  pub left : List Tok
  pub is : ts ≡ tok (Symbol n) place ∷ left
  pub then : k left ≡ ok y r

pub met : {Y : Type 0} (n : ℕ) (ts : List Tok) (k : List Tok → Result Y) {y : Y} {r : List Tok} → expect n ts k ≡ ok y r → Met n ts k y r
met n [] k e = let z : ◌≡◌ {A = ℕ} 0 1 = cc in absurd (omega arith)
met {Y} n (x ∷ xs) k {y} {r} e = by-test (is_symbol n x.token) yes no_way
  where
    yes : is_symbol n x.token ≡ true → Met n (x ∷ xs) k y r
    yes t = record { place = x.place; left = xs; is = ap (λ (u : Token). tok u x.place ∷ xs) (is-symbol n x.token t); then = rw (t, expect) at e }

    no_way : is_symbol n x.token ≡ false → Met n (x ∷ xs) k y r
    no_way t = let b : bad (x ∷ xs) ≡ ok y r = rw (t, expect) at e in let z : ◌≡◌ {A = ℕ} 0 1 = cc in absurd (omega arith)

-- an opener, with room for it
pub record Entered {Y : Type 0} (n : ℕ) (ts : List Tok) (k : ℕ → List Tok → Result Y) (y : Y) (r : List Tok) : Type 0 where
  pub place : ℕ
  pub left : List Tok
  pub room : ℕ
  pub is : ts ≡ tok (Symbol n) place ∷ left
  pub then : k room left ≡ ok y r

pub entered : {Y : Type 0} (d n : ℕ) (ts : List Tok) (k : ℕ → List Tok → Result Y) {y : Y} {r : List Tok} → enter d n ts k ≡ ok y r → Entered n ts k y r
entered zero n ts k e = let m = met n ts (λ r. deep ts) e in let t = m.then in let z : ◌≡◌ {A = ℕ} 0 1 = cc in absurd (omega arith)
entered (suc d) n ts k e = let m = met n ts (λ r. k d r) e in record { place = m.place; left = m.left; room = d; is = m.is; then = m.then }

-- ---- a range
pub record Ranged (ts : List Tok) (k : Bank → ℕ → ℕ → ℤ → Tree) (t : Tree) (r : List Tok) : Type 0 where
  pub bank : Bank
  pub element : ℕ
  pub count : ℤ
  pub o : ℕ
  pub q : ℕ
  pub p : ℕ
  pub c : ℕ
  pub is : ts ≡ tok (Cell bank element) o ∷ tok (Symbol comma) q ∷ tok (Number (Int count)) p ∷ tok (Symbol close_paren) c ∷ r
  pub tree : t ≡ k bank element p count

pub ok-tree : {t u : Tree} {r z : List Tok} → ok t r ≡ ok u z → (t ≡ u) × (r ≡ z)
ok-tree e = (cc, cc)

counted : (b : Bank) (i o q : ℕ) (ts : List Tok) (k : Bank → ℕ → ℕ → ℤ → Tree) {t : Tree} {r : List Tok}
    → expect_count ts (λ p n s. expect close_paren s (λ v. ok (k b i p n) v)) ≡ ok t r
    → Ranged (tok (Cell b i) o ∷ tok (Symbol comma) q ∷ ts) k t r
counted b i o q [] k e = let z : ◌≡◌ {A = ℕ} 0 1 = cc in absurd (omega arith)
counted b i o q (x ∷ xs) k {t} {r} e = go x.token refl
  where
    impossible : {A : Type 0} → ◌≡◌ {A = Result Tree} (bad (x ∷ xs)) (ok t r) → A
    impossible w = let z : ◌≡◌ {A = ℕ} 0 1 = cc in absurd (omega arith)

    value : (v : Value) → x.token ≡ Number v → Ranged (tok (Cell b i) o ∷ tok (Symbol comma) q ∷ x ∷ xs) k t r
    value (Int n) m =
        let y = met close_paren xs (λ v. ok (k b i x.place n) v) (rw m at e) in
        let h = ok-tree y.then in
        record {
          bank = b;
          element = i;
          count = n;
          o = o;
          q = q;
          p = x.place;
          c = y.place;
          is = ap (λ (u : Token). tok (Cell b i) o ∷ tok (Symbol comma) q ∷ tok u x.place ∷ xs) m
              ∙ ap (λ (u : List Tok). tok (Cell b i) o ∷ tok (Symbol comma) q ∷ tok (Number (Int n)) x.place ∷ u)
              (y.is ∙ ap (λ (u : List Tok). tok (Symbol close_paren) y.place ∷ u) h.1);
          tree = sym h.0;
        }
    value (Real y) m = impossible (rw m at e)

    go : (u : Token) → x.token ≡ u → Ranged (tok (Cell b i) o ∷ tok (Symbol comma) q ∷ x ∷ xs) k t r
    go (Number v) m = value v m
    go (Cell a j) m = impossible (rw m at e)
    go (Letter a) m = impossible (rw m at e)
    go (Name g) m = impossible (rw m at e)
    go (Symbol n) m = impossible (rw m at e)

pub ranged : (ts : List Tok) (k : Bank → ℕ → ℕ → ℤ → Tree) {t : Tree} {r : List Tok} → expect_range ts k ≡ ok t r → Ranged ts k t r
ranged [] k e = let z : ◌≡◌ {A = ℕ} 0 1 = cc in absurd (omega arith)
ranged (x ∷ xs) k {t} {r} e = go x.token refl
  where
    impossible : {A : Type 0} → ◌≡◌ {A = Result Tree} (bad (x ∷ xs)) (ok t r) → A
    impossible w = let z : ◌≡◌ {A = ℕ} 0 1 = cc in absurd (omega arith)

    first : (b : Bank) (i : ℕ) → x.token ≡ Cell b i → Ranged (x ∷ xs) k t r
    first b i m =
        let y = met comma xs (λ q. expect_count q (λ p n s. expect close_paren s (λ v. ok (k b i p n) v))) (rw m at e) in
        let w = counted b i x.place y.place y.left k y.then in
        record {
          bank = w.bank;
          element = w.element;
          count = w.count;
          o = w.o;
          q = w.q;
          p = w.p;
          c = w.c;
          is = ap (λ (u : Token). tok u x.place ∷ xs) m ∙ ap (λ (u : List Tok). tok (Cell b i) x.place ∷ u) y.is ∙ w.is;
          tree = w.tree;
        }

    go : (u : Token) → x.token ≡ u → Ranged (x ∷ xs) k t r
    go (Number v) m = impossible (rw m at e)
    go (Cell b i) m = first b i m
    go (Letter a) m = impossible (rw m at e)
    go (Name g) m = impossible (rw m at e)
    go (Symbol n) m = impossible (rw m at e)
