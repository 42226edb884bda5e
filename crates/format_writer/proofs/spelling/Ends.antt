-- Where the token that stands at a place ends: parts of a numeral, and what the scanner found there.
use Rattle.std.specs.Prelude.{Result, Ok, Err}
use mathlib.Core.Path.{◌≡◌, refl, sym, ap, ◌∙◌}
use mathlib.Core.Bool.{true, false, and-false}
use mathlib.Core.List.{List, [], ◌∷◌, map}
use Prim.Native.Nat.{ℕ, zero, suc, ◌+◌, ◌-◌, ◌≤◌, ◌<◌}
use native.Mathlib.Nat.{add-zero}
use native.Mathlib.Omega.{arith}
use lib.Dec.{eqb}
use lib.ListN.{length, get_or, take, drop, length-drop, get_or-map}
use lib.Seq.{drop-drop, get_or-drop, drop-cons}
use borrow.Author.Tests.{eq-eqb, ne_eqb}
use Rattle.memory.specs.Names.{is_digit, digits_of}
use Rattle.tokens.specs.declared.Token.{Token}
use Rattle.tokens.specs.declared.Token.TheVariants.{Symbol}
use Rattle.tokens.specs.Bytes.{is_letter, is_word, is_run, run_len}
use Rattle.tokens.specs.Numerals.{behind_digits, behind_part, behind_mantissa, is_sign, opens_exponent, tail_len, numeral_len, numeral_of}
use Rattle.tokens.specs.Symbols.{symbols, symbol_count, symbol_bytes, longest}
use Rattle.tokens.specs.Words.{word_token}
use Rattle.tokens.specs.Scan.{Found, lexeme, symbol_lexeme, lexeme_of}
use Rattle.tokens.specs.Theorems.{first}
use Rattle.tokens.proofs.Laws.{Lies, found}
use Rattle.tokens.proofs.Known.{Known, known}
use Rattle.tokens.proofs.Tests.{by-test, no}
use Rattle.tokens.proofs.Theorems.{digit-lexeme, letter-lexeme, symbol-lexeme}
use Rattle.format_writer.specs.private.Spelling.{StandsAt}

-- ---- a dot and digits
no_part : (cs : List ℕ) → (get_or cs 0 0 ≡ 46 → ⊥) → cs ≡ behind_part cs
no_part [] h = refl
no_part (c ∷ cs) h = rw (ne_eqb c 46 h)

empty-part : (cs : List ℕ) → length (digits_of (drop 1 cs)) ≡ 0 → cs ≡ behind_part cs
empty-part [] h = refl
empty-part (c ∷ cs) h = go (digits_of cs) refl h
  where
    go : (ds : List ℕ) → digits_of cs ≡ ds → length ds ≡ 0 → c ∷ cs ≡ behind_part (c ∷ cs)
    go [] e z = rw (e, and-false)
    go (d ∷ ds) e z = absurd (omega arith)

some-part : (cs : List ℕ) → get_or cs 0 0 ≡ 46 → (length (digits_of (drop 1 cs)) ≡ 0 → ⊥) → behind_digits (drop 1 cs) ≡ behind_part cs
some-part [] e h = absurd (h refl)
some-part (c ∷ cs) e h = go (digits_of cs) refl
  where
    go : (ds : List ℕ) → digits_of cs ≡ ds → behind_digits cs ≡ behind_part (c ∷ cs)
    go [] q = absurd (h (rw q))
    go (d ∷ ds) q = rw (eq-eqb c 46 e, q)

module _ (s : List ℕ) (at : ℕ) where
  here : get_or (drop at s) 0 0 ≡ get_or s at 0
  here = get_or-drop at s 0 0 ∙ ap (λ (i : ℕ). get_or s i 0) (add-zero at)

  pub part_none : {b : ℕ} → b ≡ get_or s at 0 → (b ≡ 46 → ⊥) → drop at s ≡ behind_part (drop at s)
  part_none q h = no_part (drop at s) (λ e. h (q ∙ sym here ∙ e))

  pub part-inside : {b : ℕ} → b ≡ get_or s at 0 → b ≡ 46 → at < length s
  part-inside q m = go s at (sym q ∙ m)
    where
      go : (s : List ℕ) (i : ℕ) → get_or s i 0 ≡ 46 → i < length s
      go [] zero e = absurd (omega arith)
      go [] (suc i) e = absurd (omega arith)
      go (c ∷ cs) zero e = omega arith
      go (c ∷ cs) (suc i) e = let k = go cs i e in omega arith

  -- digits behind the dot end at e
  module _ {e : ℕ} (ends : e ≡ at + 1 + length (digits_of (drop (at + 1) s))) where
    behind : digits_of (drop 1 (drop at s)) ≡ digits_of (drop (at + 1) s)
    behind = ap digits_of (drop-drop 1 at s)

    pub part-empty : e ≡ at + 1 → drop at s ≡ behind_part (drop at s)
    part-empty q = empty-part (drop at s) (ap length behind ∙ (let z : length (digits_of (drop (at + 1) s)) ≡ 0 = omega arith in z))

    pub part-some : {b : ℕ} → b ≡ get_or s at 0 → b ≡ 46 → (e ≡ at + 1 → ⊥) → drop e s ≡ behind_part (drop at s)
    part-some q m h =
        let some : (length (digits_of (drop 1 (drop at s))) ≡ 0 → ⊥) = λ z. h (let y = sym (ap length behind) ∙ z in omega arith) in
        ap (λ (i : ℕ). drop i s) ends ∙ sym (drop-drop (length (digits_of (drop (at + 1) s))) (at + 1) s)
        ∙ ap behind_digits (sym (drop-drop 1 at s)) ∙ some-part (drop at s) (here ∙ sym q ∙ m) some

-- ---- what follows a mantissa
opens : (x : List ℕ) → get_or x 0 0 ≡ 69 → is_sign (get_or x 1 0) ≡ true → opens_exponent x ≡ true
opens [] e s = no s
opens (c ∷ []) e s = no s
opens (c ∷ d ∷ x) e s = rw (eq-eqb c 69 e, s)

no_exponent : (x : List ℕ) → (get_or x 0 0 ≡ 69 → ⊥) → opens_exponent x ≡ false
no_exponent [] h = refl
no_exponent (c ∷ x) h = rw (ne_eqb c 69 h)

no_sign : (x : List ℕ) → is_sign (get_or x 1 0) ≡ false → opens_exponent x ≡ false
no_sign [] h = refl
no_sign (c ∷ x) h = rw (h, and-false)

module _ (s : List ℕ) (at : ℕ) where
  there : get_or (drop at s) 1 0 ≡ get_or s (at + 1) 0
  there = get_or-drop at s 1 0

  pub not-open : {b : ℕ} → b ≡ get_or s at 0 → (b ≡ 69 → ⊥) → false ≡ opens_exponent (drop at s)
  not-open q h = sym (no_exponent (drop at s) (λ m. h (q ∙ sym (here s at) ∙ m)))

  pub open-signed : {b c : ℕ} → b ≡ get_or s at 0 → b ≡ 69 → c ≡ get_or s (at + 1) 0 → is_sign c ≡ opens_exponent (drop at s)
  open-signed {c = c} q m p =
      by-test (is_sign c) (λ g. g ∙ sym (opens (drop at s) (here s at ∙ sym q ∙ m) (ap is_sign (there ∙ sym p) ∙ g)))
      (λ g. g ∙ sym (no_sign (drop at s) (ap is_sign (there ∙ sym p) ∙ g)))

  two-inside : (x : List ℕ) → opens_exponent x ≡ true → 2 ≤ length x
  two-inside [] o = no o
  two-inside (c ∷ []) o = no (sym (and-false (eqb c 69)) ∙ o)
  two-inside (c ∷ d ∷ x) o = omega arith

  -- a byte 0 past the end is no sign
  pub open-inside : opens_exponent (drop at s) ≡ true → at + 2 ≤ length s
  open-inside o = let k = two-inside (drop at s) o in let l = length-drop at s in omega arith

  pub tail-signed : {r : ℕ} → opens_exponent (drop at s) ≡ true → r ≡ at + 2 + run_len is_run (drop (at + 2) s) → r ≡ at + tail_len (drop at s)
  tail-signed o e =
      let d : drop 2 (drop at s) ≡ drop (at + 2) s = drop-drop 2 at s in
      rw (o, d) (omega arith)

  pub tail-plain : {r : ℕ} → opens_exponent (drop at s) ≡ false → r ≡ at + run_len is_run (drop at s) → r ≡ at + tail_len (drop at s)
  tail-plain o e = rw o e

-- ---- a numeral
pub numeral : (s : List ℕ) (at whole m r : ℕ) → at ≤ length s → whole ≡ at + length (digits_of (drop at s)) → whole ≤ m → m ≤ length s
    → drop m s ≡ behind_part (drop whole s) → r ≡ m + tail_len (drop m s)
    → r ≡ at + numeral_len (drop at s)
numeral s at whole m r h w l k p e =
    let d : drop m s ≡ behind_mantissa (drop at s) = p ∙ ap behind_part (ap (λ (i : ℕ). drop i s) w ∙ sym (drop-drop (length (digits_of (drop at s))) at s)) in
    let a = length-drop at s in
    let b : length (behind_mantissa (drop at s)) ≡ length s - m = ap length (sym d) ∙ length-drop m s in
    let t : r ≡ m + tail_len (behind_mantissa (drop at s)) = e ∙ ap (λ (x : List ℕ). m + tail_len x) d in
    omega (arith, a, b, t)

-- ---- the scanner's answer
pub judged-end : (p n : ℕ) (j : (Result Token ℕ)) {t : Token} {q e : ℕ} → lexeme p n j ≡ Found t q e → e ≡ p + n
judged-end p n (Ok u) m = cc
judged-end p n (Err a) m = let z : ◌≡◌ {A = ℕ} 0 1 = cc in absurd (omega arith)

symbol_end : (p n : ℕ) {t : Token} {q e : ℕ} → symbol_lexeme p n ≡ Found t q e → (t ≡ Symbol n) × (e ≡ p + length (symbol_bytes n))
symbol_end p n m =
    by-test (eqb n symbol_count) (λ b. let y = rw b at m in let z : ◌≡◌ {A = ℕ} 0 1 = cc in absurd (omega arith)) (λ b. let y = rw b at m in (cc, cc))

known-symbol : {t : Token} {n : ℕ} → Known t → t ≡ Symbol n → n < symbol_count
known-symbol (Known.number v h) e = let z : ◌≡◌ {A = ℕ} 0 1 = cc in absurd (omega arith)
known-symbol (Known.cell b i h) e = let z : ◌≡◌ {A = ℕ} 0 1 = cc in absurd (omega arith)
known-symbol (Known.letter b) e = let z : ◌≡◌ {A = ℕ} 0 1 = cc in absurd (omega arith)
known-symbol (Known.name f) e = let z : ◌≡◌ {A = ℕ} 0 1 = cc in absurd (omega arith)
known-symbol {n = n} (Known.sign m h) e = let q : m ≡ n = cc in omega arith

module _ {s : List ℕ} {p n : ℕ} (h : StandsAt s p n) where
  pub lies : Lies s p p h.end
  lies = found s p h.stands

  pub inside : p < length s
  inside = omega (arith, lies.some, lies.inside)

  abbrev pub front : List ℕ
  front = get_or s p 0 ∷ drop (suc p) s

  pub lexed : lexeme_of (get_or s p 0 ∷ drop (suc p) s) p ≡ Found h.token p h.end
  lexed = rw (← drop-cons s p 0 inside) (ap (λ (i : ℕ). lexeme_of (drop i s) i) lies.place ∙ h.stands)

  pub split : drop p s ≡ get_or s p 0 ∷ drop (suc p) s
  split = drop-cons s p 0 inside

  pub numeral-ends : {r : ℕ} → is_digit (get_or s p 0) ≡ true → r ≡ p + numeral_len (drop p s) → r ≡ h.end
  numeral-ends d e = e ∙ ap (λ (x : List ℕ). p + numeral_len x) split
      ∙ sym (judged-end p (numeral_len front) (numeral_of (take (numeral_len front) front)) (sym (digit-lexeme front p (first d)) ∙ lexed))

  pub word-ends : {r : ℕ} → is_digit (get_or s p 0) ≡ false → is_letter (get_or s p 0) ≡ true → r ≡ p + run_len is_word (drop p s) → r ≡ h.end
  word-ends d l e = e ∙ ap (λ (x : List ℕ). p + run_len is_word x) split
      ∙ sym (judged-end p (run_len is_word front) (word_token (take (run_len is_word front) front))
      (sym (letter-lexeme (get_or s p 0) (drop (suc p) s) p l) ∙ lexed))

  pub symbol-found : is_digit (get_or s p 0) ≡ false → is_letter (get_or s p 0) ≡ false
      → (h.token ≡ Symbol (longest (get_or s p 0 ∷ drop (suc p) s))) × (h.end ≡ p + length (symbol_bytes (longest (get_or s p 0 ∷ drop (suc p) s))))
  symbol-found d l = symbol_end p (longest front) (sym (symbol-lexeme (get_or s p 0) (drop (suc p) s) p d l) ∙ lexed)

  pub symbol-is : is_digit (get_or s p 0) ≡ false → is_letter (get_or s p 0) ≡ false → (h.token ≡ Symbol n) × (h.end ≡ p + length (symbol_bytes n))
  symbol-is d l =
      let f = symbol-found d l in
      let q = h.number _ f.0 in
      (f.0 ∙ ap Symbol q, f.1 ∙ ap (λ (m : ℕ). p + length (symbol_bytes m)) q)

  pub symbol-known : is_digit (get_or s p 0) ≡ false → is_letter (get_or s p 0) ≡ false → n < symbol_count
  symbol-known d l = known-symbol (known s p h.stands) (symbol-is d l).0

-- ---- the table of sizes
pub size_of : (n : ℕ) → get_or (map length symbols) n 0 ≡ length (symbol_bytes n)
size_of n = get_or-map length symbols n []
