-- Every token lies in the text, and so do the first bytes that are none.
use Rattle.std.specs.Prelude.{Result}
use mathlib.Core.Path.{◌≡◌, subst}
use mathlib.Core.Bool.{Bool}
use mathlib.Core.List.{List, [], ◌∷◌, ◌++◌}
use Prim.Native.Nat.{ℕ, ◌+◌, ◌≤◌, ◌<◌}
use native.Mathlib.Omega.{arith}
use lib.ListN.{length, length-append}
use Rattle.tokens.specs.Scan.{Tok, Scan, tokens, wrong, cons_token, scan}
use Rattle.tokens.specs.Theorems.{Starts, first, LongestLexeme, word, numeral, symbol, stray, Scans, end, token, stop}
use Rattle.tokens.proofs.Theorems.{token-theorems}
use Rattle.tokens.proofs.numerals.Runs.{run-starts}
use Rattle.tokens.proofs.symbols.Longest.{some_byte}
use Rattle.tokens.specs.declared.Token.{Token}

-- every place is below n
pub data Below (n : ℕ) : List Tok → Type 0 where
  nothing : Below n []
  more : {x : Tok} {xs : List Tok} → x.place < n → Below n xs → Below n (x ∷ xs)

data Inside (n : ℕ) : Scan → Type 0 where
  all : {ts : List Tok} → Below n ts → Inside n (tokens ts)
  one : {a p : ℕ} → p < n → Inside n (wrong a p)

inside-before : {n : ℕ} {z : Scan} (x : Tok) → x.place < n → Inside n z → Inside n (cons_token x z)
inside-before x l (all h) = all (more l h)
inside-before x l (one h) = one h

-- a lexeme has a byte
a_byte : {class : ℕ → Bool} (w : List ℕ) → Starts class w → 0 < length w
a_byte {class = class} [] x' = elim x' [ ]
a_byte (c ∷ cs) (first e) = omega arith

some : {w r : List ℕ} {j : (Result Token ℕ)} → LongestLexeme w r j → 0 < length w
some {w} (word h) = a_byte w h.starts
some {w} (numeral h) = a_byte w (run-starts h)
some (symbol n q h) = rw q (some_byte n h.known)
some (stray c q s l d n) = rw q (omega arith)

split-length : {s : List ℕ} (b w r : List ℕ) → s ≡ b ++ (w ++ r) → length s ≡ length b + (length w + length r)
split-length b w r q = rw q (simp length-append)

inside : {n p : ℕ} {s : List ℕ} {z : Scan} → Scans p s z → p + length s ≤ n → Inside n z
inside (end e) le = all nothing
inside (token b w r q e l h) le = inside-before _ (omega (arith, split-length b w r q, some l)) (inside h (omega (arith, split-length b w r q)))
inside {p = p} (stop b w r q e l) le = one {p = p + length b} (omega (arith, split-length b w r q, some l))

whole : (s : List ℕ) → Inside (length s) (scan s)
whole s = inside (token-theorems.scans s) (omega arith)

pub tokens-inside : (s : List ℕ) {ts : List Tok} → scan s ≡ tokens ts → Below (length s) ts
tokens-inside s {ts} e = go (subst (Inside (length s)) e (whole s))
  where
    go : Inside (length s) (tokens ts) → Below (length s) ts
    go (all h) = h

pub wrong-inside : (s : List ℕ) {a p : ℕ} → scan s ≡ wrong a p → p < length s
wrong-inside s {a} {p} e = go (subst (Inside (length s)) e (whole s))
  where
    go : Inside (length s) (wrong a p) → p < length s
    go (one h) = h
