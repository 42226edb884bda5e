-- The longest match in the table: it depends on three bytes only, what it finds stands at the front of the text, and no longer symbol does.
use mathlib.Core.Path.{◌≡◌, refl, sym, ap, ◌∙◌}
use mathlib.Core.Bool.{Bool, true, false, not, ◌&&◌, and-false}
use mathlib.Core.List.{List, [], ◌∷◌, ◌++◌}
use Prim.Native.Nat.{ℕ, zero, suc, ◌+◌, ◌-◌, ◌≤◌, ◌<◌}
use native.Mathlib.Nat.{sub_self, sub-zero, zero-add, add-zero}
use native.Mathlib.Omega.{arith}
use lib.Dec.{eqb, leb}
use lib.ListN.{length, get_or, take, drop, length-take, take-append-drop, length-append}
use lib.Seq.{drop-cons, get_or-drop, take-append_seam}
use borrow.Author.Tests.{leb-true, eqb-true, eqb-false, not-true}
use Rattle.memory.specs.Names.{is_digit}
use Rattle.tokens.specs.Bytes.{is_letter, is_space}
use Rattle.tokens.specs.Symbols.{symbols, symbol_count, symbol_bytes, equal_bytes, find_symbol, symbol_of, or_else, longest}
use Rattle.tokens.specs.Theorems.{Matches}
use Rattle.tokens.proofs.Tests.{by-test, both, no}
use Rattle.tokens.proofs.Same.{equal}

-- ---- three bytes
-- no symbol has a byte 0
no_third : (c d : ℕ) → symbol_of (c ∷ d ∷ 0 ∷ []) ≡ symbol_count
no_third c d = simp and-false

no_second : (c : ℕ) → symbol_of (c ∷ 0 ∷ []) ≡ symbol_count
no_second c = simp and-false

-- what is tried again is not found again
again : (z n m : ℕ) → z ≡ symbol_count → or_else n (or_else n m) ≡ or_else z (or_else n m)
again z n m e = rw e (by-test (eqb n symbol_count) (λ t. rw t) (λ t. rw t))

once : (y z n : ℕ) → y ≡ symbol_count → z ≡ symbol_count → or_else n (or_else n n) ≡ or_else y (or_else z n)
once y z n e f = rw (e, f) (by-test (eqb n symbol_count) (λ t. rw t) (λ t. rw t))

-- a byte 0 stands for each past the end
first_three : (c : ℕ) (cs : List ℕ) → longest (c ∷ cs) ≡ longest (c ∷ get_or cs 0 0 ∷ get_or cs 1 0 ∷ [])
first_three c [] =
    once (symbol_of (c ∷ 0 ∷ 0 ∷ [])) (symbol_of (c ∷ 0 ∷ [])) (symbol_of (c ∷ [])) (no_third c 0) (no_second c)
first_three c (d ∷ []) =
    again (symbol_of (c ∷ d ∷ 0 ∷ [])) (symbol_of (c ∷ d ∷ [])) (symbol_of (c ∷ [])) (no_third c d)
first_three c (d ∷ e ∷ es) = refl

pub three : (s : List ℕ) (i : ℕ) → i < length s → longest (drop i s) ≡ longest (get_or s i 0 ∷ get_or s (i + 1) 0 ∷ get_or s (i + 2) 0 ∷ [])
three s i h =
    let p : suc i + 0 ≡ i + 1 = omega arith in
    let q : suc i + 1 ≡ i + 2 = omega arith in
    rw (drop-cons s i 0 h, first_three (get_or s i 0) (drop (suc i) s), get_or-drop (suc i) s 0 0, get_or-drop (suc i) s 1 0, p, q)

-- ---- what is found
-- the place of cs in the list ss, counted from n, or the place past its end
data Place (n : ℕ) (ss : List (List ℕ)) (cs : List ℕ) (k : ℕ) : Type 0 where
  absent : k ≡ n + length ss → Place n ss cs k
  at : n ≤ k → k < n + length ss → get_or ss (k - n) [] ≡ cs → Place n ss cs k

next : (n : ℕ) (s : List ℕ) (ss : List (List ℕ)) (cs : List ℕ) (k : ℕ) → Place (suc n) ss cs k → Place n (s ∷ ss) cs k
next n s ss cs k (absent e) = absent (omega arith)
next n s ss cs k (at l h e) =
    let p : k - n ≡ suc (k - suc n) = omega arith in at (omega arith) (omega arith) (rw p e)

place : (n : ℕ) (ss : List (List ℕ)) (cs : List ℕ) → Place n ss cs (find_symbol n ss cs)
place n [] cs = absent (omega arith)
place n (s ∷ ss) cs =
    by-test (equal_bytes s cs)
    (λ t. rw t (at (omega arith) (omega arith) (rw (sub_self n) (equal s cs t))))
    (λ t. rw t (next n s ss cs (find_symbol (suc n) ss cs) (place (suc n) ss cs)))

-- n is no symbol, or one that the bytes cs begin with
pub data Front (cs : List ℕ) (n : ℕ) : Type 0 where
  none : n ≡ symbol_count → Front cs n
  symbol : n < symbol_count → (k : ℕ) → symbol_bytes n ≡ take (suc k) cs → Front cs n

tried : (cs : List ℕ) (k n : ℕ) → Place 0 symbols (take (suc k) cs) n → Front cs n
tried cs k n (absent e) = none (e ∙ zero-add _)
tried cs k n (at l h e) = symbol (omega arith) k (rw sub-zero at e)

or-else : (cs : List ℕ) (n m : ℕ) → Front cs n → Front cs m → Front cs (or_else n m)
or-else cs n m a b = by-test (eqb n symbol_count) (λ t. rw t b) (λ t. rw t a)

pub front : (cs : List ℕ) → Front cs (longest cs)
front cs =
    let at_most : (k : ℕ) → Front cs (symbol_of (take (suc k) cs)) = λ k. tried cs k _ (place 0 symbols (take (suc k) cs)) in
    or-else cs _ _ (at_most 2) (or-else cs _ _ (at_most 1) (at_most 0))

-- so it takes a byte of the text, and no more than there are
pub within : (cs : List ℕ) (n : ℕ) → Front cs n → length (symbol_bytes n) ≤ length cs
within cs n (none e) = rw e (omega arith)
within cs n (symbol h k e) = rw (e, length-take) (omega arith)

pub taken : (c : ℕ) (cs : List ℕ) (n : ℕ) → Front (c ∷ cs) n → (n ≡ symbol_count → ⊥) → 0 < length (symbol_bytes n)
taken c cs n (none e) h = absurd (h e)
taken c cs n (symbol l k e) h = rw e (omega arith)

-- ---- the table, by computing it
-- the test of an entry: one to three bytes, the first of which is no blank and starts no numeral and no word, and no entry before it has the same
entry : ℕ → List ℕ → Bool
entry n [] = false
entry n (c ∷ cs) = not (is_digit c) && (not (is_letter c) && (not (is_space c) && (leb (length cs) 2 && eqb (symbol_of (c ∷ cs)) n)))

entries : ℕ → List (List ℕ) → Bool
entries n [] = true
entries n (s ∷ ss) = entry n s && entries (suc n) ss

entry_at : (n : ℕ) (ss : List (List ℕ)) (k : ℕ) → entries n ss ≡ true → k < length ss → entry (n + k) (get_or ss k []) ≡ true
unfolding entries
entry_at n [] k e h = absurd (omega arith)
entry_at n (s ∷ ss) zero e h = rw add-zero (both (entry n s) _ e).0
entry_at n (s ∷ ss) (suc k) e h = let i : n + suc k ≡ suc n + k = omega arith in rw i (entry_at (suc n) ss k (both (entry n s) _ e).1 (omega arith))

passes : entries 0 symbols ≡ true
unfolding entries entry
passes = refl

pub record Entry (n : ℕ) : Type 0 where
  pub byte : ℕ
  pub bytes : List ℕ
  pub is : symbol_bytes n ≡ byte ∷ bytes
  pub no_digit : is_digit byte ≡ false
  pub no-letter : is_letter byte ≡ false
  pub no-space : is_space byte ≡ false
  pub short : length (symbol_bytes n) ≤ 3
  pub own : symbol_of (symbol_bytes n) ≡ n

pub in_table : (n : ℕ) → n < symbol_count → Entry n
unfolding entry
in_table n h = go (symbol_bytes n) refl (rw zero-add at (entry_at 0 symbols n passes h))
  where
    go : (s : List ℕ) → symbol_bytes n ≡ s → entry n s ≡ true → Entry n
    go [] q e = no e
    go (c ∷ cs) q e =
        let d = both (not (is_digit c)) _ e in
        let l = both (not (is_letter c)) _ d.1 in
        let b = both (not (is_space c)) _ l.1 in
        let f = both (leb (length cs) 2) _ b.1 in
        record {
          byte = c;
          bytes = cs;
          is = q;
          no_digit = not-true (is_digit c) d.0;
          no-letter = not-true (is_letter c) l.0;
          no-space = not-true (is_space c) b.0;
          short = rw q (omega (arith, leb-true (length cs) 2 f.0));
          own = ap symbol_of q ∙ eqb-true _ n f.1;
        }

pub some_byte : (n : ℕ) → n < symbol_count → 0 < length (symbol_bytes n)
some_byte n h = rw (in_table n h).is (omega arith)

-- ---- no longer symbol
found-bytes : (cs : List ℕ) (n : ℕ) → Place 0 symbols cs n → eqb n symbol_count ≡ false → symbol_bytes n ≡ cs
found-bytes cs n (absent e) t = absurd (eqb-false n symbol_count t (e ∙ zero-add _))
found-bytes cs n (at l h e) t = rw sub-zero at e

-- n is what is found of the first j bytes, where a symbol of k bytes stands: a symbol that is as long, unless j is less
record Tries (k j n : ℕ) : Type 0 where
  long : eqb n symbol_count ≡ false → k ≤ j → k ≤ length (symbol_bytes n)
  missed : eqb n symbol_count ≡ true → k ≡ j → ⊥

first_of : (k j n m : ℕ) → Tries k j n → k ≤ j → (k < j → k ≤ length (symbol_bytes m)) → k ≤ length (symbol_bytes (or_else n m))
first_of k j n m h le f =
    by-test (eqb n symbol_count)
    (λ t. rw t (f (let d = h.missed t in omega arith)))
    (λ t. rw t (h.long t le))

module _ (n : ℕ) (h : n < symbol_count) (r : List ℕ) where
  abbrev text : List ℕ
  text = symbol_bytes n ++ r

  abbrev size : ℕ
  size = length (symbol_bytes n)

  own_first : (j : ℕ) → size ≡ j → symbol_of (take j text) ≡ n
  own_first j e = ap (λ (i : ℕ). symbol_of (take i text)) (sym e) ∙ ap symbol_of (take-append_seam (symbol_bytes n) r) ∙ (in_table n h).own

  tries : (j : ℕ) → Tries size j (symbol_of (take j text))
  tries j = record {
    long = λ t le. rw (found-bytes (take j text) (symbol_of (take j text)) (place 0 symbols (take j text)) t, length-take, length-append) (omega arith);
    missed = λ t e. omega (arith, eqb-true (symbol_of (take j text)) symbol_count t, own_first j e);
  }

  last : (m : ℕ) → Tries size 1 m → size < 2 → size ≤ length (symbol_bytes m)
  last m f l = by-test (eqb m symbol_count) (λ t. let d = f.missed t in omega arith) (λ t. f.long t (omega arith))

  pub most : size ≤ length (symbol_bytes (longest text))
  most =
      first_of size 3 _ _ (tries 3) (in_table n h).short
      (λ l. first_of size 2 _ _ (tries 2) (omega arith)
      (λ k. last _ (tries 1) k))

pub front-matches : (cs : List ℕ) (n : ℕ) → Front cs n → (n ≡ symbol_count → ⊥) → (n < symbol_count) × Matches n cs
front-matches cs n (none e) h = absurd (h e)
front-matches cs n (symbol l k e) h = (l, (drop (suc k) cs, sym (take-append-drop (suc k) cs) ∙ ap (λ (w : List ℕ). w ++ drop (suc k) cs) (sym e)))
