-- Laws of the lexer for the layers above: where a lexeme lies, and how a scan goes on by one lexeme, whatever its fuel.
use Rattle.std.specs.Prelude.{Result, Ok, Err}
use mathlib.Core.Path.{◌≡◌, refl, sym, ap, ◌∙◌}
use mathlib.Core.Bool.{Bool, true, false}
use mathlib.Core.List.{List, [], ◌∷◌}
use Prim.Native.Nat.{ℕ, zero, suc, ◌+◌, ◌-◌, ◌≤◌, ◌<◌}
use native.Mathlib.Numerals.{add-one}
use native.Mathlib.Omega.{arith}
use lib.Dec.{eqb}
use lib.ListN.{length, get_or, take, drop, length-drop}
use lib.Seq.{drop-cons}
use borrow.Author.Tests.{eqb-false}
use Rattle.memory.specs.Names.{is_digit}
use Rattle.tokens.specs.declared.Token.{Token}
use Rattle.tokens.specs.declared.Token.TheVariants.{Symbol}
use Rattle.tokens.specs.Bytes.{is_letter, is_space, is_word, run_len}
use Rattle.tokens.specs.Symbols.{symbol_count, symbol_bytes, longest}
use Rattle.tokens.specs.Numerals.{numeral_len, numeral_of}
use Rattle.tokens.specs.Words.{word_token}
use Rattle.tokens.specs.Scan.{Lexeme, Found, Wrong, End, lexeme, run_lexeme, symbol_lexeme, lexeme_of, blanks, lexeme_at, Scan, tokens, wrong}
use Rattle.tokens.specs.Scan.{cons_token, scan_from}
use Rattle.tokens.proofs.Tests.{by-test, choose}
use Rattle.tokens.proofs.Runs.{run-most}
use Rattle.tokens.proofs.numerals.Runs.{numeral-size}
use Rattle.tokens.proofs.symbols.Longest.{Front, front, within, taken}

-- ---- where a lexeme lies
-- what begins the bytes cs at the place p takes a byte of them, and no more than there are
data Placed (cs : List ℕ) (p : ℕ) : Lexeme → Type 0 where
  good : (t : Token) (e : ℕ) → p < e → e ≤ p + length cs → Placed cs p (Found t p e)
  bad : (a : ℕ) → 0 < length cs → Placed cs p (Wrong a p)
  none : Placed cs p End

judged : (cs : List ℕ) (p n : ℕ) (r : (Result Token ℕ)) → 0 < n → n ≤ length cs → Placed cs p (lexeme p n r)
judged cs p n (Ok t) l h = good t (p + n) (omega arith) (omega arith)
judged cs p n (Err a) l h = bad a (omega arith)

a-run : (test : ℕ → Bool) (f : List ℕ → (Result Token ℕ)) (c : ℕ) (cs : List ℕ) (p : ℕ) → test c ≡ true → Placed (c ∷ cs) p (run_lexeme test f (c ∷ cs) p)
a-run test f c cs p e =
    let n = run_len test (c ∷ cs) in
    let some : 0 < n = rw e (omega arith) in
    judged (c ∷ cs) p n (f (take n (c ∷ cs))) some (run-most test (c ∷ cs))

a-symbol : (c : ℕ) (cs : List ℕ) (p n : ℕ) → Front (c ∷ cs) n → Placed (c ∷ cs) p (symbol_lexeme p n)
a-symbol c cs p n f =
    by-test (eqb n symbol_count)
    (λ t. rw t (bad 4 (omega arith)))
    (λ t. rw t (good (Symbol n) (p + length (symbol_bytes n)) (omega (arith, taken c cs n f (eqb-false n symbol_count t))) (omega (arith, within (c ∷ cs) n f))))

placed : (cs : List ℕ) (p : ℕ) → Placed cs p (lexeme_of cs p)
unfolding lexeme_of
placed [] p = none
placed (c ∷ cs) p =
    choose (Placed (c ∷ cs) p) (is_digit c) _ _ (λ d. let h = numeral-size c cs d in
    judged (c ∷ cs) p (numeral_len (c ∷ cs)) (numeral_of (take (numeral_len (c ∷ cs)) (c ∷ cs))) h.0 h.1)
    (λ _. choose (Placed (c ∷ cs) p) (is_letter c) _ _ (λ l. a-run is_word word_token c cs p (rw l))
    (λ _. a-symbol c cs p (longest (c ∷ cs)) (front (c ∷ cs))))

-- the lexeme found from a position lies from p to e: behind the blanks, and within the text
pub record Lies (s : List ℕ) (at p e : ℕ) : Type 0 where
  pub place : p ≡ at + blanks s at
  pub behind : at ≤ p
  pub some : p < e
  pub inside : e ≤ length s

good-there : (cs : List ℕ) (p : ℕ) (l : Lexeme) {t : Token} {q e : ℕ} → Placed cs p l → l ≡ Found t q e → (q ≡ p) × (p < e) × (e ≤ p + length cs)
good-there cs p l {e = d} (good t e h k) m = let x : e ≡ d = cc in (cc, omega arith, omega arith)
good-there cs p l (bad a h) m = let z : ◌≡◌ {A = ℕ} 0 1 = cc in absurd (omega arith)
good-there cs p l none m = let z : ◌≡◌ {A = ℕ} 0 1 = cc in absurd (omega arith)

bad-there : (cs : List ℕ) (p : ℕ) (l : Lexeme) {a q : ℕ} → Placed cs p l → l ≡ Wrong a q → (q ≡ p) × (0 < length cs)
bad-there cs p l (good t e h k) m = let z : ◌≡◌ {A = ℕ} 0 1 = cc in absurd (omega arith)
bad-there cs p l (bad a h) m = (cc, h)
bad-there cs p l none m = let z : ◌≡◌ {A = ℕ} 0 1 = cc in absurd (omega arith)

module _ (s : List ℕ) (at : ℕ) where
  here : Placed (drop (at + blanks s at) s) (at + blanks s at) (lexeme_at s at)
  here = placed (drop (at + blanks s at) s) (at + blanks s at)

  pub found : {t : Token} {p e : ℕ} → lexeme_at s at ≡ Found t p e → Lies s at p e
  found m =
      let h = good-there _ _ _ here m in
      let d = length-drop (at + blanks s at) s in
      record { place = h.0; behind = omega (arith, h.0); some = omega arith; inside = omega arith }

  pub wrong-at : {a p : ℕ} → lexeme_at s at ≡ Wrong a p → (p ≡ at + blanks s at) × (p < length s)
  wrong-at m =
      let h = bad-there _ _ _ here m in
      let d = length-drop (at + blanks s at) s in
      (h.0, omega (arith, h.0))

-- ---- a scan, lexeme by lexeme
-- what follows a lexeme, if the rest from its end on is known
abbrev onward : (ℕ → Scan) → Lexeme → Scan
onward rest (Found t p e) = cons_token (record { token = t; place = p }) (rest e)
onward rest (Wrong a p) = wrong a p
onward rest End = tokens []

look : (f : ℕ) (s : List ℕ) (l : Lexeme) → elim l as (λ _. Scan) [
  | Found t p e ↦ cons_token (record { token = t; place = p }) (scan_from f s e)
  | Wrong a p ↦ wrong a p
  | End ↦ tokens []
] ≡ onward (λ e. scan_from f s e) l
look f s (Found t p e) = refl
look f s (Wrong a p) = refl
look f s End = refl

step : (f : ℕ) (s : List ℕ) (at : ℕ) → scan_from (suc f) s at ≡ onward (λ e. scan_from f s e) (lexeme_at s at)
unfolding scan_from
step f s at = look f s (lexeme_at s at)

-- every lexeme takes a byte, so any fuel above the bytes that are left gives the same
pub same : (f g : ℕ) (s : List ℕ) (at : ℕ) → length s - at < f → length s - at < g → scan_from f s at ≡ scan_from g s at
same zero g s at h k = absurd (omega arith)
same (suc f) zero s at h k = absurd (omega arith)
same (suc f) (suc g) s at h k =
    step f s at
    ∙ go (lexeme_at s at) (λ e lt le. same f g s e (omega arith) (omega arith)) (λ t p e m. ((found s at m).behind, (found s at m).some, (found s at m).inside))
    ∙ sym (step g s at)
  where
    go : (l : Lexeme) → ((e : ℕ) → at < e → e ≤ length s → scan_from f s e ≡ scan_from g s e)
        → ((t : Token) (p e : ℕ) → l ≡ Found t p e → (at ≤ p) × (p < e) × (e ≤ length s)) → onward (λ e. scan_from f s e) l ≡ onward (λ e. scan_from g s e) l
    go (Found t p e) ih lies = let h = lies t p e refl in ap (cons_token (record { token = t; place = p })) (ih e (omega arith) (omega arith))
    go (Wrong a p) ih lies = refl
    go End ih lies = refl

-- the scan from a position on; `scan s` is the one from 0
abbrev pub rest : List ℕ → ℕ → Scan
rest s at = scan_from (suc (length s)) s at

-- ---- byte by byte: a blank is passed over, any other byte begins a lexeme
module _ (s : List ℕ) (at : ℕ) (h : at < length s) where
  pub at-blank : is_space (get_or s at 0) ≡ true → rest s at ≡ rest s (at + 1)
  at-blank e =
      let b : blanks s at ≡ suc (blanks s (at + 1)) = rw (drop-cons s at 0 h, e, add-one) in
      let k : at + blanks s at ≡ at + 1 + blanks s (at + 1) = omega (arith, b) in
      step (length s) s at ∙ ap (λ (p : ℕ). onward (λ e. scan_from (length s) s e) (lexeme_of (drop p s) p)) k ∙ sym (step (length s) s (at + 1))

  pub no-blank : is_space (get_or s at 0) ≡ false → at + blanks s at ≡ at
  no-blank e = let b : blanks s at ≡ 0 = rw (drop-cons s at 0 h, e) in omega (arith, b)

  pub at_once : is_space (get_or s at 0) ≡ false → lexeme_at s at ≡ lexeme_of (drop at s) at
  at_once e = ap (λ (p : ℕ). lexeme_of (drop p s) p) (no-blank e)

module _ (s : List ℕ) (at : ℕ) where
  pub enough : (f : ℕ) → length s - at < f → scan_from f s at ≡ rest s at
  enough f h = same f (suc (length s)) s at h (omega arith)

  pub at-found : {t : Token} {p e : ℕ} → lexeme_at s at ≡ Found t p e → rest s at ≡ cons_token (record { token = t; place = p }) (rest s e)
  at-found {t} {p} {e} m =
      let h = found s at m in
      step (length s) s at ∙ ap (onward (λ k. scan_from (length s) s k)) m
      ∙ ap (cons_token (record { token = t; place = p })) (same (length s) (suc (length s)) s e (omega arith) (omega arith))

  pub at-wrong : {a p : ℕ} → lexeme_at s at ≡ Wrong a p → rest s at ≡ wrong a p
  at-wrong m = step (length s) s at ∙ ap (onward (λ k. scan_from (length s) s k)) m

  pub at-end : lexeme_at s at ≡ End → rest s at ≡ tokens []
  at-end m = step (length s) s at ∙ ap (onward (λ k. scan_from (length s) s k)) m
