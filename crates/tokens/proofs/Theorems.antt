-- The theorems about tokens: `scan` gives what the relation says, and the relation allows nothing else.
use Rattle.std.specs.Prelude.{Result, Ok, Err}
use mathlib.Core.Path.{◌≡◌, refl, sym, ap, subst, ◌∙◌}
use mathlib.Core.Logic.{◌⊎◌, inl, inr}
use mathlib.Core.Bool.{Bool, true, false, and-false}
use mathlib.Core.List.{List, [], ◌∷◌, ◌++◌, append-nil}
use Prim.Native.Nat.{ℕ, zero, suc, ◌+◌, ◌-◌, ◌≤◌, ◌<◌}
use native.Mathlib.Omega.{arith}
use lib.Dec.{eqb}
use lib.ListN.{length, take, drop, take-append-drop}
use lib.Seq.{drop-drop, drop-length, length-take-le, take-append_seam, drop-append_seam, take_at}
use borrow.Author.Tests.{lt-leb, eqb-true, eqb-false, ne_eqb}
use Rattle.memory.specs.Names.{is_digit}
use Rattle.memory.proofs.names.Decimals.{digit-range}
use Rattle.tokens.specs.declared.Token.{Token}
use Rattle.tokens.specs.declared.Token.TheVariants.{Symbol}
use Rattle.tokens.specs.Bytes.{byte_between, is_letter, is_space, is_word, run_len, all}
use Rattle.tokens.specs.Symbols.{symbol_count, symbol_bytes, symbol_of, longest}
use Rattle.tokens.specs.Numerals.{numeral_len, numeral_of}
use Rattle.tokens.specs.Words.{word_token}
use Rattle.tokens.specs.Scan.{Lexeme, Found, Wrong, End, lexeme, run_lexeme, numeral_lexeme, symbol_lexeme, lexeme_of, blanks, lexeme_at, Scan, cons_token}
use Rattle.tokens.specs.Theorems.{Starts, first, Stops, nothing, other, LongestRun, NumeralRun, Matches, LongestMatch, LongestLexeme, word}
use Rattle.tokens.specs.Theorems.{numeral, symbol, stray, Blank, Scans, end, token, stop, TokenTheorems}
use Rattle.tokens.proofs.Tests.{no, by-test, choose, either, within}
use Rattle.tokens.proofs.Runs.{run-most, run-every, run-stops, run_length}
use Rattle.tokens.proofs.Laws.{found, rest, enough, at-found, at-wrong, at-end}
use Rattle.tokens.proofs.numerals.Runs.{numeral-size, numeral-run, run-starts, run_len_lem}
use Rattle.tokens.proofs.numerals.Values.{real_literal}
use Rattle.tokens.proofs.symbols.Longest.{Front, front, in_table, some_byte, most, front-matches}

-- ---- classes of bytes
pub letter-range : (c : ℕ) → is_letter c ≡ true → 57 < c
letter-range c e = go (either (byte_between 65 90 c) (byte_between 97 122 c) e)
  where
    go : (byte_between 65 90 c ≡ true) ⊎ (byte_between 97 122 c ≡ true) → 57 < c
    go (inl u) = omega (arith, within 65 90 c u)
    go (inr l) = omega (arith, within 97 122 c l)

pub letter-no-digit : (c : ℕ) → is_letter c ≡ true → is_digit c ≡ false
letter-no-digit c e = rw (lt-leb c 57 (letter-range c e), and-false)

pub no-space : (c : ℕ) → 33 ≤ c → is_space c ≡ false
no-space c h = rw (ne_eqb c 32 (λ e. omega arith), ne_eqb c 9 (λ e. omega arith))

-- ---- the symbols
-- the longest match is the one symbol of which no longer one stands there, if there is any
matched : (n : ℕ) (r : List ℕ) → LongestMatch n r → longest (symbol_bytes n ++ r) ≡ n
matched n r h = go (longest (symbol_bytes n ++ r)) (front (symbol_bytes n ++ r)) (most n h.known r)
  where
    go : (m : ℕ) → Front (symbol_bytes n ++ r) m → length (symbol_bytes n) ≤ length (symbol_bytes m) → m ≡ n
    go m f le =
        let s : (m ≡ symbol_count → ⊥) = λ e. omega (arith, some_byte n h.known, ap (λ (k : ℕ). length (symbol_bytes k)) e) in
        let x = front-matches (symbol_bytes n ++ r) m f s in
        let same : length (symbol_bytes m) ≡ length (symbol_bytes n) = omega (arith, h.most m x.0 x.1) in
        let bytes : symbol_bytes n ≡ symbol_bytes m =
        sym (take-append_seam (symbol_bytes n) r) ∙ ap (take (length (symbol_bytes n))) x.1.1
        ∙ take_at (symbol_bytes m) x.1.0 (length (symbol_bytes n)) same in
        sym (in_table m x.0).own ∙ ap symbol_of (sym bytes) ∙ (in_table n h.known).own

unmatched : (cs : List ℕ) → ((n : ℕ) → n < symbol_count → Matches n cs → ⊥) → longest cs ≡ symbol_count
unmatched cs h =
    by-test (eqb (longest cs) symbol_count) (λ t. eqb-true (longest cs) symbol_count t)
    (λ t. let x = front-matches cs (longest cs) (front cs) (eqb-false (longest cs) symbol_count t) in absurd (h (longest cs) x.0 x.1))

-- ---- from the scan to the relation
-- what begins the bytes cs at the place p
data Lexed (cs : List ℕ) (p : ℕ) : Lexeme → Type 0 where
  good : (w r : List ℕ) {t : Token} → cs ≡ w ++ r → LongestLexeme w r (Ok t) → Lexed cs p (Found t p (p + length w))
  bad : (w r : List ℕ) {a : ℕ} → cs ≡ w ++ r → LongestLexeme w r (Err a) → Lexed cs p (Wrong a p)
  none : cs ≡ [] → Lexed cs p End

lexed-as : (cs w r : List ℕ) (p n : ℕ) (j : (Result Token ℕ)) → cs ≡ w ++ r → length w ≡ n → LongestLexeme w r j → Lexed cs p (lexeme p n j)
lexed-as cs w r p n (Ok t) q e l = rw (← e) (good w r q l)
lexed-as cs w r p n (Err a) q e l = bad w r q l

a-run : (start class : ℕ → Bool) (f : List ℕ → (Result Token ℕ)) (c : ℕ) (cs : List ℕ) (p : ℕ) → start c ≡ true → class c ≡ true
    → ((w r : List ℕ) → LongestRun start class w r → LongestLexeme w r (f w)) → Lexed (c ∷ cs) p (run_lexeme class f (c ∷ cs) p)
a-run start class f c cs p s e make =
    let n = run_len class (c ∷ cs) in
    let w = take n (c ∷ cs) in
    let begins : Starts start w = rw e (first s) in
    lexed-as (c ∷ cs) w (drop n (c ∷ cs)) p n (f w) (sym (take-append-drop n (c ∷ cs))) (length-take-le n (c ∷ cs) (run-most class (c ∷ cs)))
    (make w (drop n (c ∷ cs)) (record { starts = begins; every = run-every class (c ∷ cs); stops = run-stops class (c ∷ cs) }))

a-numeral : (c : ℕ) (cs : List ℕ) (p : ℕ) → is_digit c ≡ true → Lexed (c ∷ cs) p (numeral_lexeme (c ∷ cs) p)
a-numeral c cs p d =
    let n = numeral_len (c ∷ cs) in
    let w = take n (c ∷ cs) in
    lexed-as (c ∷ cs) w (drop n (c ∷ cs)) p n (numeral_of w) (sym (take-append-drop n (c ∷ cs))) (length-take-le n (c ∷ cs) (numeral-size c cs d).1)
    (numeral (numeral-run c cs d))

no-match : (cs : List ℕ) → longest cs ≡ symbol_count → (n : ℕ) → n < symbol_count → Matches n cs → ⊥
no-match cs e n h (r, q) = omega (arith, some_byte n h, most n h r, ap (λ (k : ℕ). length (symbol_bytes k)) (ap longest (sym q) ∙ e))

a-symbol : (c : ℕ) (cs : List ℕ) (p : ℕ) → is_space c ≡ false → is_letter c ≡ false → is_digit c ≡ false → Lexed (c ∷ cs) p (symbol_lexeme p (longest (c ∷ cs)))
a-symbol c cs p s l d = go (longest (c ∷ cs)) refl
  where
    go : (n : ℕ) → longest (c ∷ cs) ≡ n → Lexed (c ∷ cs) p (symbol_lexeme p n)
    go n e =
        choose (Lexed (c ∷ cs) p) (eqb n symbol_count) _ _
        (λ t. bad (c ∷ []) cs refl (stray c refl s l d (no-match (c ∷ cs) (e ∙ eqb-true n symbol_count t))))
        (λ t. let x = front-matches (c ∷ cs) n (subst (Front (c ∷ cs)) e (front (c ∷ cs))) (eqb-false n symbol_count t) in
        let r = x.1.0 in
        let q = x.1.1 in
        good (symbol_bytes n) r q (symbol n refl (record {
          known = x.0;
          most = λ m h y. omega (arith, most m h y.0, ap (λ (i : ℕ). length (symbol_bytes i)) (ap longest (sym y.1) ∙ ap longest (sym q) ∙ e));
        })))

lexed : (cs : List ℕ) (p : ℕ) → Stops is_space cs → Lexed cs p (lexeme_of cs p)
unfolding lexeme_of
lexed [] p nothing = none refl
lexed (c ∷ cs) p (other s) =
    choose (Lexed (c ∷ cs) p) (is_digit c) _ _ (λ d. a-numeral c cs p d)
    (λ d. choose (Lexed (c ∷ cs) p) (is_letter c) _ _ (λ l. a-run is_letter is_word word_token c cs p l (rw l) (λ w r h. word h))
    (λ l. a-symbol c cs p s l d))

-- the relation's constructors, with the number of blanks by another name
module _ {p : ℕ} {s : List ℕ} (b w r : List ℕ) (k : ℕ) (q : s ≡ b ++ (w ++ r)) (e : Blank b) (n : length b ≡ k) where
  a-token : {t : Token} {z : Scan} → LongestLexeme w r (Ok t) → Scans (p + k + length w) r z → Scans p s (cons_token (record { token = t; place = p + k }) z)
  a-token {t} {z} l =
      subst (λ (i : ℕ). Scans (p + i + length w) r z → Scans p s (cons_token (record { token = t; place = p + i }) z)) n (λ h. token b w r q e l h)

  a-stop : {a : ℕ} → LongestLexeme w r (Err a) → Scans p s (Scan.wrong a (p + k))
  a-stop {a} l = subst (λ (i : ℕ). Scans p s (Scan.wrong a (p + i))) n (stop b w r q e l)

module _ (s : List ℕ) (at : ℕ) where
  blank : Blank (take (blanks s at) (drop at s))
  blank = run-every is_space (drop at s)

  behind : drop (at + blanks s at) s ≡ drop (blanks s at) (drop at s)
  behind = sym (drop-drop (blanks s at) at s)

  whole : (x : List ℕ) → drop (at + blanks s at) s ≡ x → drop at s ≡ take (blanks s at) (drop at s) ++ x
  whole x q = sym (take-append-drop (blanks s at) (drop at s)) ∙ ap (λ (y : List ℕ). take (blanks s at) (drop at s) ++ y) (sym behind ∙ q)

  count : length (take (blanks s at) (drop at s)) ≡ blanks s at
  count = length-take-le (blanks s at) (drop at s) (run-most is_space (drop at s))

  next : (w r : List ℕ) → drop (at + blanks s at) s ≡ w ++ r → drop (at + blanks s at + length w) s ≡ r
  next w r q = sym (drop-drop (length w) (at + blanks s at) s) ∙ ap (drop (length w)) q ∙ drop-append_seam w r

  one-step : (l : Lexeme) → lexeme_at s at ≡ l → Lexed (drop (at + blanks s at) s) (at + blanks s at) l
      → ((e : ℕ) → at < e → e ≤ length s → Scans e (drop e s) (rest s e)) → Scans at (drop at s) (rest s at)
  one-step l m (good w r {t = t} q x) more =
      let h = found s at m in
      let e = at + blanks s at + length w in
      let tail = subst (λ (y : List ℕ). Scans e y (rest s e)) (next w r q) (more e (omega (arith, h.behind, h.some)) h.inside) in
      rw (at-found s at m) (a-token (take (blanks s at) (drop at s)) w r (blanks s at) (whole (w ++ r) q) blank count x tail)
  one-step l m (bad w r q x) more = rw (at-wrong s at m) (a-stop (take (blanks s at) (drop at s)) w r (blanks s at) (whole (w ++ r) q) blank count x)
  one-step l m (none q) more =
      let all-blank : drop at s ≡ take (blanks s at) (drop at s) = whole [] q ∙ append-nil _ in
      rw (at-end s at m) (end (subst Blank (sym all-blank) blank))

scans-from : (n : ℕ) (s : List ℕ) (at : ℕ) → length s - at < n → at ≤ length s → Scans at (drop at s) (rest s at)
scans-from zero s at h le = absurd (omega arith)
scans-from (suc n) s at h le =
    one-step s at (lexeme_at s at) refl (lexed _ _ (subst (Stops is_space) (sym (behind s at)) (run-stops is_space (drop at s))))
    (λ e lt in-text. scans-from n s e (omega arith) in-text)

-- ---- from the relation to the scan
run-lexeme : (class : ℕ → Bool) (f : List ℕ → (Result Token ℕ)) (w r : List ℕ) (p : ℕ) → all class w ≡ true → Stops class r
    → run_lexeme class f (w ++ r) p ≡ lexeme p (length w) (f w)
run-lexeme class f w r p e s = rw (run_length class w r e s, take-append_seam w r)

pub letter-lexeme : (c : ℕ) (cs : List ℕ) (p : ℕ) → is_letter c ≡ true → lexeme_of (c ∷ cs) p ≡ run_lexeme is_word word_token (c ∷ cs) p
unfolding lexeme_of
letter-lexeme c cs p l =
    let Is : Lexeme → Type 0 = λ x. x ≡ run_lexeme is_word word_token (c ∷ cs) p in
    choose Is (is_digit c) _ _ (λ d. no (sym (letter-no-digit c l) ∙ d)) (λ d. choose Is (is_letter c) _ _ (λ m. refl) (λ m. no (sym m ∙ l)))

pub digit-lexeme : (s : List ℕ) (p : ℕ) → Starts is_digit s → lexeme_of s p ≡ numeral_lexeme s p
unfolding lexeme_of
digit-lexeme [] p x' = elim x' [ ]
digit-lexeme (c ∷ cs) p (first d) = choose (λ (x : Lexeme). x ≡ numeral_lexeme (c ∷ cs) p) (is_digit c) _ _ (λ m. refl) (λ m. no (sym m ∙ d))

pub longer-start : (w r : List ℕ) → Starts is_digit w → Starts is_digit (w ++ r)
longer-start [] r x' = elim x' [ ]
longer-start (c ∷ cs) r (first d) = first d

word-lexeme : (w r : List ℕ) (p : ℕ) → Starts is_letter w → all is_word w ≡ true → Stops is_word r → lexeme_of (w ++ r) p ≡ lexeme p (length w) (word_token w)
word-lexeme [] r p x3 e s = elim x3 [ ]
word-lexeme (c ∷ cs) r p (first l) e s = letter-lexeme c (cs ++ r) p l ∙ run-lexeme is_word word_token (c ∷ cs) r p e s

numeral-lexeme : {w r : List ℕ} (p : ℕ) → NumeralRun w r → lexeme_of (w ++ r) p ≡ lexeme p (length w) (numeral_of w)
numeral-lexeme {w} {r} p h =
    digit-lexeme (w ++ r) p (longer-start w r (run-starts h))
    ∙ ap (λ (n : ℕ). lexeme p n (numeral_of (take n (w ++ r)))) (run_len_lem h) ∙ ap (λ (v : List ℕ). lexeme p (length w) (numeral_of v)) (take-append_seam w r)

pub symbol-lexeme : (c : ℕ) (cs : List ℕ) (p : ℕ) → is_digit c ≡ false → is_letter c ≡ false → lexeme_of (c ∷ cs) p ≡ symbol_lexeme p (longest (c ∷ cs))
unfolding lexeme_of
symbol-lexeme c cs p d l = rw (d, l)

table-lexeme : (n : ℕ) (r : List ℕ) (p : ℕ) → n < symbol_count → lexeme_of (symbol_bytes n ++ r) p ≡ symbol_lexeme p (longest (symbol_bytes n ++ r))
table-lexeme n r p h =
    let t = in_table n h in
    subst (λ (w : List ℕ). lexeme_of (w ++ r) p ≡ symbol_lexeme p (longest (w ++ r))) (sym t.is)
    (symbol-lexeme t.byte (t.bytes ++ r) p t.no_digit t.no-letter)

lexeme-of : {w r : List ℕ} {j : (Result Token ℕ)} → LongestLexeme w r j → (p : ℕ) → lexeme_of (w ++ r) p ≡ lexeme p (length w) j
lexeme-of {w} {r} (word h) p = word-lexeme w r p h.starts h.every h.stops
lexeme-of (numeral h) p = numeral-lexeme p h
lexeme-of {w} {r} (symbol n q h) p =
    let k : eqb n symbol_count ≡ false = ne_eqb n symbol_count (λ e. omega (arith, h.known)) in
    subst (λ (v : List ℕ). lexeme_of (v ++ r) p ≡ lexeme p (length v) (Ok (Symbol n))) (sym q)
    (table-lexeme n r p h.known ∙ ap (symbol_lexeme p) (matched n r h) ∙ rw k)
lexeme-of {w} {r} (stray c q s l d no_symbol) p =
    subst (λ (v : List ℕ). lexeme_of (v ++ r) p ≡ Wrong 4 p) (sym q) (symbol-lexeme c r p d l ∙ ap (symbol_lexeme p) (unmatched (c ∷ r) no_symbol))

-- no lexeme begins with a blank
word-front : (w r : List ℕ) → Starts is_letter w → Stops is_space (w ++ r)
word-front [] r x' = elim x' [ ]
word-front (c ∷ cs) r (first l) = other (no-space c (omega (arith, letter-range c l)))

numeral-front : (w r : List ℕ) → Starts is_digit w → Stops is_space (w ++ r)
numeral-front [] r x' = elim x' [ ]
numeral-front (c ∷ cs) r (first d) = other (no-space c (omega (arith, digit-range c d)))

no-blank : {w r : List ℕ} {j : (Result Token ℕ)} → LongestLexeme w r j → Stops is_space (w ++ r)
no-blank {w} {r} (word h) = word-front w r h.starts
no-blank {w} {r} (numeral h) = numeral-front w r (run-starts h)
no-blank {w} {r} (symbol n q h) = let t = in_table n h.known in subst (λ (v : List ℕ). Stops is_space (v ++ r)) (sym (q ∙ t.is)) (other t.no-space)
no-blank {w} {r} (stray c q s l d no_symbol) = subst (λ (v : List ℕ). Stops is_space (v ++ r)) (sym q) (other s)

module _ (s : List ℕ) (p : ℕ) (b w r : List ℕ) (q : drop p s ≡ b ++ (w ++ r)) where
  there : drop (p + length b) s ≡ w ++ r
  there = sym (drop-drop (length b) p s) ∙ ap (drop (length b)) q ∙ drop-append_seam b (w ++ r)

  after : drop (p + length b + length w) s ≡ r
  after = sym (drop-drop (length w) (p + length b) s) ∙ ap (drop (length w)) there ∙ drop-append_seam w r

  lexeme-at : {j : (Result Token ℕ)} → Blank b → LongestLexeme w r j → lexeme_at s p ≡ lexeme (p + length b) (length w) j
  lexeme-at e l =
      let k : blanks s p ≡ length b = ap (run_len is_space) q ∙ run_length is_space b (w ++ r) e (no-blank l) in
      ap (λ (i : ℕ). lexeme_of (drop (p + i) s) (p + i)) k ∙ ap (λ (x : List ℕ). lexeme_of x (p + length b)) there ∙ lexeme-of l (p + length b)

end-at : (s : List ℕ) (p : ℕ) → Blank (drop p s) → lexeme_at s p ≡ End
unfolding lexeme_of
end-at s p e =
    let k : blanks s p ≡ length (drop p s) = ap (run_len is_space) (sym (append-nil (drop p s))) ∙ run_length is_space (drop p s) [] e nothing in
    let z : drop (p + length (drop p s)) s ≡ [] = sym (drop-drop (length (drop p s)) p s) ∙ drop-length (drop p s) in
    ap (λ (i : ℕ). lexeme_of (drop (p + i) s) (p + i)) k ∙ ap (λ (x : List ℕ). lexeme_of x (p + length (drop p s))) z

only-from : {p : ℕ} {u : List ℕ} {z : Scan} → Scans p u z → (s : List ℕ) → drop p s ≡ u → z ≡ rest s p
only-from {p} (end e) s q = sym (at-end s p (end-at s p (subst Blank (sym q) e)))
only-from {p} (token b w r v e l h) s q =
    ap (cons_token _) (only-from h s (after s p b w r (q ∙ v))) ∙ sym (at-found s p (lexeme-at s p b w r (q ∙ v) e l))
only-from {p} (stop b w r v e l) s q = sym (at-wrong s p (lexeme-at s p b w r (q ∙ v) e l))

pub token-theorems : TokenTheorems
token-theorems =
    record {
      scans = λ s. scans-from (suc (length s)) s 0 (omega arith) (omega arith);
      only = λ s z h. only-from h s refl;
      real_literal = real_literal;
      enough = λ f s h. enough s 0 f (omega arith);
    }
