-- With at most eight brackets open, the code of a formula holds at most 108 values.
use mathlib.Core.Path.{◌≡◌, refl, sym, ◌∙◌, subst}
use mathlib.Core.Bool.{Bool, true, false, cond, false≢true}
use mathlib.Core.List.{List, [], ◌∷◌, ◌++◌, append_assoc, append-nil}
use Prim.Native.Nat.{ℕ, zero, suc, ◌+◌, ◌-◌, ◌*◌, ◌≤◌, ◌<◌}
use native.Mathlib.Omega.{arith}
use lib.Dec.{eqb}
use lib.IntN.{ℤ}
use borrow.Author.Tests.{ne_eqb}
use Rattle.memory.specs.declared.Bank.{Bank}
use Rattle.tokens.specs.declared.Token.TheVariants.{Symbol}
use Rattle.tokens.specs.Scan.{Tok}
use Rattle.grammar.specs.Tree.{Tree}
use Rattle.grammar.specs.Symbols.{open_paren, close_paren, open_index, close_index, loosest, Callee, of_one, of_two, of_choice, of_since, more_arguments}
use Rattle.grammar.specs.Symbols.{call_tree, Arguments, argument, more}
use Rattle.grammar.specs.Grammar.{tok, Range, range, Derives, number, name, index, parenthesis, call, clocked, totalled, tested, prefixed, up}
use Rattle.grammar.specs.Grammar.{infixed, last, next, Formula}
use Rattle.grammar.specs.Parse.{most_open}
use Rattle.grammar.specs.Theorems.{is_opener, is_closer, Shallow, opens, goes_on}
use Rattle.tree_code.proofs.Need.{need}
use Rattle.tree_code.proofs.Nodes.{Infix, of_values, of-truths, infix-node, infix-plain, prefix-plain}

-- ---- one token
opened : {o : ℕ} {x : Tok} {w : List Tok} → is_opener x ≡ true → Shallow o (x ∷ w) → (o < most_open) × Shallow (suc o) w
opened e (opens q h s) = (h, s)
opened e (goes_on q s) = absurd (false≢true (sym q ∙ e))

passed : {o : ℕ} {x : Tok} {w : List Tok} → is_opener x ≡ false → Shallow o (x ∷ w) → Shallow (cond (is_closer x) (o - 1) o) w
passed e (opens q h s) = absurd (false≢true (sym e ∙ q))
passed e (goes_on q s) = s

-- a symbol before the brackets
over_plain : (n p o : ℕ) (w : List Tok) → n < open_paren → Shallow o (tok (Symbol n) p ∷ w) → Shallow o w
over_plain n p o w h s =
    let a : eqb n open_paren ≡ false = ne_eqb n open_paren (λ e. omega arith) in
    let b : eqb n open_index ≡ false = ne_eqb n open_index (λ e. omega arith) in
    let c : eqb n close_paren ≡ false = ne_eqb n close_paren (λ e. omega arith) in
    let d : eqb n close_index ≡ false = ne_eqb n close_index (λ e. omega arith) in
    rw (c, d) at (passed (rw (a, b)) s)

closed : (o : ℕ) {x : Tok} {w : List Tok} → is_opener x ≡ false → is_closer x ≡ true → Shallow (suc o) (x ∷ w) → Shallow o w
closed o {x} {w} e q s = let z : suc o - 1 ≡ o = omega arith in rw z at (subst (λ (b : Bool). Shallow (cond b (suc o - 1) (suc o)) w) q (passed e s))

-- ---- with o open before the tokens w, and as many after them
abbrev Low : ℕ → List Tok → Tree → Type 0
Low l w t = (o : ℕ) (v : List Tok) → Shallow o (w ++ v) → (need t ≤ l + 12 * (most_open - o) + 1) × Shallow o v

-- the arguments, and the parenthesis that closes them
abbrev Lows : ℕ → List Tok → Arguments → Type 0
Lows m w ts = (o : ℕ) (v : List Tok) → o < most_open → Shallow (suc o) (w ++ v) → ((k : ℕ) → k ≤ m → need (argument k ts) ≤ 12 * (most_open - o)) × Shallow o v

-- in a bracket, up to the token x that ends it
within : (w : List Tok) (t : Tree) → Low loosest w t → (o : ℕ) (x : Tok) (y v : List Tok) → o < most_open → Shallow (suc o) ((w ++ x ∷ y) ++ v)
    → (need t ≤ 12 * (most_open - o)) × Shallow (suc o) (x ∷ (y ++ v))
within w t h o x y v lt s = let r = h (suc o) (x ∷ (y ++ v)) (rw append_assoc at s) in (omega (arith, r.0), r.1)

call-need : (n : ℕ) (c : Callee) (p : ℕ) (ts : Arguments) → ((k : ℕ) → k ≤ more_arguments c → need (argument k ts) ≤ n) → need (call_tree c p ts) ≤ n + 1
unfolding need
call-need n (of_one o) p ts h = omega (arith, h 0 (omega arith))
call-need n (of_two o) p ts h = omega (arith, h 0 (omega arith), h 1 (omega arith))
call-need n of_choice p ts h = omega (arith, h 0 (omega arith), h 1 (omega arith), h 2 (omega arith))
call-need n of_since p ts h = omega (arith, h 0 (omega arith))

infix-need : {p b : ℕ} {t u r : Tree} (n : ℕ) → Infix p t u b r → need t ≤ suc n → need u ≤ n → need r ≤ suc n
unfolding need
infix-need n (of_values o) h g = omega arith
infix-need n (of-truths d) h g = omega arith

-- a first cell, a count and the parenthesis that closes them
over-range : (o : ℕ) {b : Bank} {i : ℕ} {n : ℤ} {u : ℕ} {w : List Tok} → Range b i n u w → (v : List Tok) → Shallow (suc o) (w ++ v) → Shallow o v
over-range o (range _ _ _ _) v s = closed o refl refl (passed refl (passed refl (passed refl s)))

low : {l : ℕ} {w : List Tok} {t : Tree} → Derives l w t → Low l w t
unfolding need
low d = elim d as (λ l w t d. Low l w t) (λ m w ts a. Lows m w ts) [
  | number ↦ λ o v s. (omega arith, passed refl s)
  | name ↦ λ o v s. (omega arith, passed refl s)
  | index r {w} {t} (d → h) ↦ λ o v s.
      let a = opened refl (passed refl s) in
      let b = within w t h o _ [] v a.0 a.1 in
      (omega (arith, b.0), closed o refl refl b.1)
  | parenthesis q {w} {t} (d → h) ↦ λ o v s.
      let a = opened refl s in
      let b = within w t h o _ [] v a.0 a.1 in
      (omega (arith, b.0), closed o refl refl b.1)
  | call {c = c} {p} {ts = ts} e (a → h) ↦ λ o v s.
      let a = opened refl (passed refl s) in
      let b = h o v a.0 a.1 in
      (omega (arith, call-need _ c p ts b.0), b.1)
  | clocked r e ↦ λ o v s.
      let a = opened refl (passed refl s) in
      (omega arith, closed o refl refl a.1)
  | totalled e g ↦ λ o v s.
      let a = opened refl (passed refl s) in
      (omega arith, over-range o g v a.1)
  | tested r {w = w} {v = x} {t = t} e (d → h) g ↦ λ o v s.
      let a = opened refl (passed refl s) in
      let b = within w t h o _ x v a.0 a.1 in
      (omega (arith, b.0), over-range o g v (passed refl b.1))
  | prefixed {n} {p} {o = u} {w} e (d → h) ↦ λ o v s. h o v (over_plain n p o (w ++ v) (prefix-plain n u e).low s)
  | up (d → h) ↦ λ o v s. let a = h o v s in (omega (arith, a.0), a.1)
  | infixed {l} n p {v = x} {t = t} {u = u} e (d → h) (d' → h') ↦ λ o v s.
      let a = h o (tok (Symbol n) p ∷ (x ++ v)) (rw append_assoc at s) in
      let b = h' o v (over_plain n p o (x ++ v) (infix-plain n l e).low a.1) in
      (omega (arith, infix-need (l + 12 * (most_open - o) + 1) (infix-node n p t u) (omega (arith, a.0)) b.0), b.1)
  | last q {w} {t} (d → h) ↦ λ o v lt s.
      let b = within w t h o _ [] v lt s in
      ((λ k g. b.0), closed o refl refl b.1)
  | next {m} q {w} {v = x} {t} {ts} (d → h) (a → h') ↦ λ o v lt s.
      let b = within w t h o _ x v lt s in
      let c = h' o v lt (passed refl b.1) in
      ((λ k. elim k as (λ j. j ≤ suc m → need (argument j (more t ts)) ≤ 12 * (most_open - o)) [ zero ↦ λ g. b.0 | suc j ↦ λ g. c.0 j (omega arith) ]), c.1)
]

pub height : {w : List Tok} {t : Tree} → Formula w t → Shallow 0 w → need t ≤ 108
height d s = omega (arith, (low d 0 [] (rw append-nil s)).0)
