-- The lexeme of a numeral, by its mantissa and the byte that comes next.
use Rattle.std.specs.Prelude.{Result, Err}
use mathlib.Core.Path.{◌≡◌, refl, sym, ap, ◌∙◌}
use mathlib.Core.Bool.{Bool, true, false, ◌&&◌, cond, and-false, or-true}
use mathlib.Core.List.{List, [], ◌∷◌, ◌++◌, append-nil}
use Prim.Native.Nat.{ℕ, zero, suc, ◌+◌}
use native.Mathlib.Nat.{add-zero}
use native.Mathlib.Omega.{arith}
use lib.Dec.{eqb}
use lib.ListN.{length, get_or, take, drop}
use borrow.Author.Tests.{eqb-true}
use Rattle.memory.specs.Names.{is_digit, all_digits, digits_of, decimal_value}
use Rattle.tokens.specs.Bytes.{is_run, run_len, all}
use Rattle.tokens.specs.Numerals.{non_empty, decimal_digits, decimal_of, hex_of, is_hex_run, has_part, is_sign, without_sign, literal_of, numeral_of}
use Rattle.tokens.specs.Numerals.{opens_exponent, tail_len, numeral_len}
use Rattle.tokens.specs.Scan.{Wrong, lexeme, numeral_lexeme}
use Rattle.tokens.proofs.Tests.{by-test, both, no}
use Rattle.tokens.proofs.numerals.Mantissas.{Splits, whole, dotted, parts, shorter, take_past, length-is, literal, real-is, followed-is}
use Rattle.tokens.proofs.numerals.Mantissas.{dotted-is, not-all, runs}
use Rattle.tokens.specs.declared.Token.{Token}

-- ---- the byte that comes next
no-run-digit : (c : ℕ) → is_run c ≡ false → is_digit c ≡ false
no-run-digit c f = by-test (is_digit c) (λ d. no (sym f ∙ rw (d, or-true))) (λ d. d)

no-run-is : (c k : ℕ) → is_run k ≡ true → is_run c ≡ false → eqb c k ≡ false
no-run-is c k r f = by-test (eqb c k) (λ e. no (sym f ∙ ap is_run (eqb-true c k e) ∙ r)) (λ e. e)

no-run-part : (x : List ℕ) → is_run (get_or x 0 0) ≡ false → has_part x ≡ false
no-run-part [] f = refl
no-run-part (c ∷ cs) f = rw (no-run-is c 46 refl f)

no-tail : (x : List ℕ) → is_run (get_or x 0 0) ≡ false → tail_len x ≡ 0
no-tail [] f = refl
no-tail (c ∷ cs) f =
    let closed : opens_exponent (c ∷ cs) ≡ false = ap (λ (t : Bool). t && is_sign (get_or cs 0 0)) (no-run-is c 69 refl f) in
    rw (closed, f)

-- ---- any mantissa
lexeme-is : {m ds ps x : List ℕ} (p : ℕ) → Splits m ds ps x → numeral_lexeme (m ++ x) p ≡ lexeme p (length m + tail_len x) (numeral_of (m ++ take (tail_len x) x))
lexeme-is {m} {x = x} p s =
    ap (λ (n : ℕ). lexeme p n (numeral_of (take n (m ++ x)))) (length-is s)
    ∙ ap (λ (w : List ℕ). lexeme p (length m + tail_len x) (numeral_of w)) (take_past m x (tail_len x))

-- the mantissa is the whole run
alone : {m ds ps x : List ℕ} (p : ℕ) → Splits m ds ps x → is_run (get_or x 0 0) ≡ false → numeral_lexeme (m ++ x) p ≡ lexeme p (length m) (numeral_of m)
alone {m} {x = x} p s f = lexeme-is p s ∙ rw (no-tail x f, add-zero, append-nil)

pub decimal-lexeme : (ds x : List ℕ) (p : ℕ) → decimal_digits ds ≡ true → is_run (get_or x 0 0) ≡ false
    → numeral_lexeme (ds ++ x) p ≡ lexeme p (length ds) (decimal_of ds)
decimal-lexeme ds x p e f = alone {m = ds} {x = x} p (whole refl refl e (no-run-digit (get_or x 0 0) f) (no-run-part x f)) f ∙ rw e

pub part-lexeme : (m ds ps x : List ℕ) (p : ℕ) → m ≡ ds ++ (46 ∷ ps) → decimal_digits ds ≡ true → decimal_digits ps ≡ true → is_run (get_or x 0 0) ≡ false
    → numeral_lexeme (m ++ x) p ≡ lexeme p (length m) (literal_of (decimal_value (ds ++ ps)) (length (ds ++ ps)) (length ps) false 0)
part-lexeme m ds ps x p q e g f =
    let last = dotted-is m ds ps [] (parts (dotted q e g refl)) q e in
    alone {m = m} {ds = ds} {ps = ps} {x = x} p (dotted q e g (no-run-digit (get_or x 0 0) f)) f ∙ ap (lexeme p (length m)) (rw append-nil at last)

-- ---- refusals
-- a byte of the run that is no `E` follows
tail-is : (c : ℕ) (t : List ℕ) → is_run c ≡ true → eqb c 69 ≡ false → tail_len (c ∷ t) ≡ suc (run_len is_run t)
tail-is c t r n = rw (n, r)

strays : (c : ℕ) (ds ps t : List ℕ) → eqb c 69 ≡ false → literal ds ps (c ∷ t) ≡ Err 4
strays c ds ps t n = rw n

pub no-part-lexeme : (ds t : List ℕ) (p : ℕ) → decimal_digits ds ≡ true → non_empty (digits_of t) ≡ false → numeral_lexeme (ds ++ (46 ∷ t)) p ≡ Wrong 4 p
no-part-lexeme ds t p e f =
    let s : Splits ds ds [] (46 ∷ t) = whole refl refl e refl f in
    lexeme-is p s ∙ ap (lexeme p (length ds + suc (run_len is_run t))) (followed-is 46 (take (run_len is_run t) t) (shorter (suc (run_len is_run t)) s) refl)

pub after-part-lexeme : (m ds ps : List ℕ) (c : ℕ) (t : List ℕ) (p : ℕ) → m ≡ ds ++ (46 ∷ ps) → decimal_digits ds ≡ true → decimal_digits ps ≡ true
    → is_digit c ≡ false
    → is_run c ≡ true → eqb c 69 ≡ false → numeral_lexeme (m ++ (c ∷ t)) p ≡ Wrong 4 p
after-part-lexeme m ds ps c t p q e g d r n =
    let s : Splits m ds ps (c ∷ t) = dotted q e g d in
    lexeme-is p s
    ∙ ap (λ (k : ℕ). lexeme p (length m + k) (numeral_of (m ++ take k (c ∷ t)))) (tail-is c t r n)
    ∙ ap (lexeme p (length m + suc (run_len is_run t))) (dotted-is m ds ps (c ∷ take (run_len is_run t) t) (parts (shorter (suc (run_len is_run t)) s)) q e
    ∙ strays c ds ps (take (run_len is_run t) t) n)

-- ---- hexadecimal, or none
pub run_past : (ds x : List ℕ) → all is_run ds ≡ true → run_len is_run (ds ++ x) ≡ length ds + run_len is_run x
run_past [] x e = let z : 0 + run_len is_run x ≡ run_len is_run x = omega arith in sym z
run_past (d ∷ ds) x e =
    let h = both (is_run d) (all is_run ds) e in
    let z : suc (length ds) + run_len is_run x ≡ suc (length ds + run_len is_run x) = omega arith in
    rw (h.0, z, run_past ds x h.1)

other-is : (c : ℕ) (ds t : List ℕ) → Splits ds ds [] (c ∷ t) → is_digit c ≡ false → eqb c 69 ≡ false
    → numeral_of (ds ++ (c ∷ t)) ≡ cond (is_hex_run (ds ++ (c ∷ t))) (hex_of (drop 2 (ds ++ (c ∷ t)))) (Err 4)
other-is c ds t s d n =
    let r : Err 4 ≡ _ = sym (real-is (parts s) ∙ strays c ds [] t n) in
    rw (not-all ds c t d, and-false) (ap (cond (is_hex_run (ds ++ (c ∷ t))) (hex_of (drop 2 (ds ++ (c ∷ t))))) (sym r))

pub other-lexeme : (c : ℕ) (ds t : List ℕ) (p : ℕ) → decimal_digits ds ≡ true → is_digit c ≡ false → is_run c ≡ true → eqb c 69 ≡ false → eqb c 46 ≡ false
    → numeral_lexeme (ds ++ (c ∷ t)) p
    ≡ (let w = take (run_len is_run (ds ++ (c ∷ t))) (ds ++ (c ∷ t)) in lexeme p (run_len is_run (ds ++ (c ∷ t))) (cond (is_hex_run w) (hex_of (drop 2 w)) (Err 4)))
other-lexeme c ds t p e d r n k =
    let cs = ds ++ (c ∷ t) in
    let s : Splits ds ds [] (c ∷ t) = whole refl refl e d (rw k) in
    let l : numeral_len cs ≡ run_len is_run cs = length-is s ∙ rw (tail-is c t r n, run_past ds (c ∷ t) (runs ds (both (non_empty ds) (all_digits ds) e).1), r) in
    let w : take (run_len is_run cs) cs ≡ ds ++ (c ∷ take (run_len is_run t) t) =
    rw (run_past ds (c ∷ t) (runs ds (both (non_empty ds) (all_digits ds) e).1), r) (take_past ds (c ∷ t) (suc (run_len is_run t))) in
    let v = take (run_len is_run cs) cs in
    let g : numeral_of v ≡ cond (is_hex_run v) (hex_of (drop 2 v)) (Err 4) =
    rw w (other-is c ds (take (run_len is_run t) t) (shorter (suc (run_len is_run t)) s) d n) in
    ap (λ (i : ℕ). lexeme p i (numeral_of (take i cs))) l ∙ ap (lexeme p (run_len is_run cs)) g

-- ---- an exponent
abbrev pub sign_len : List ℕ → ℕ
sign_len [] = 0
sign_len (c ∷ cs) = cond (is_sign c) 1 0

-- the run behind `E` and a sign
abbrev pub exponent_run : List ℕ → List ℕ
exponent_run y = take (run_len is_run (without_sign y)) (without_sign y)

abbrev pub exponent_of : List ℕ → List ℕ → List ℕ → Result Token ℕ
exponent_of ds ps y =
    cond (decimal_digits (exponent_run y)) (literal_of (decimal_value (ds ++ ps)) (length (ds ++ ps)) (length ps) (eqb (get_or y 0 0) 45)
    (decimal_value (exponent_run y))) (Err 4)

no_minus : (c : ℕ) → is_sign c ≡ false → eqb c 45 ≡ false
no_minus c f = by-test (eqb c 45) (λ e. no (sym f ∙ rw (e, or-true))) (λ e. e)

-- a run that begins with no sign has none to take off
kept : (k c : ℕ) (t : List ℕ) → is_sign c ≡ false → (without_sign (take k (c ∷ t)) ≡ take k (c ∷ t)) × (eqb (get_or (take k (c ∷ t)) 0 0) 45 ≡ false)
kept zero c t f = (refl, refl)
kept (suc k) c t f = (rw f, no_minus c f)

exponent-tail : (ds ps y : List ℕ) → (tail_len (69 ∷ y) ≡ suc (sign_len y + run_len is_run (without_sign y)))
    × (literal ds ps (take (tail_len (69 ∷ y)) (69 ∷ y)) ≡ exponent_of ds ps y)
exponent-tail ds ps [] = (refl, refl)
exponent-tail ds ps (c ∷ t) = by-test (is_sign c) signed plain
  where
    signed : is_sign c ≡ true → (tail_len (69 ∷ c ∷ t) ≡ suc (sign_len (c ∷ t) + run_len is_run (without_sign (c ∷ t))))
        × (literal ds ps (take (tail_len (69 ∷ c ∷ t)) (69 ∷ c ∷ t)) ≡ exponent_of ds ps (c ∷ t))
    signed e =
        let k : 2 + run_len is_run t ≡ suc (suc (run_len is_run t)) = omega arith in
        let j : suc (1 + run_len is_run t) ≡ suc (suc (run_len is_run t)) = omega arith in
        (rw (e, k, j), rw (e, k, e))

    plain : is_sign c ≡ false → (tail_len (69 ∷ c ∷ t) ≡ suc (sign_len (c ∷ t) + run_len is_run (without_sign (c ∷ t))))
        × (literal ds ps (take (tail_len (69 ∷ c ∷ t)) (69 ∷ c ∷ t)) ≡ exponent_of ds ps (c ∷ t))
    plain f =
        let j : 0 + run_len is_run (c ∷ t) ≡ run_len is_run (c ∷ t) = omega arith in
        let h = kept (run_len is_run (c ∷ t)) c t f in
        (rw (f, j), rw (f, h.0, h.1, no_minus c f))

pub exponent-lexeme : {m ds ps : List ℕ} (y : List ℕ) (p : ℕ) → Splits m ds ps (69 ∷ y)
    → numeral_lexeme (m ++ (69 ∷ y)) p ≡ lexeme p (length m + suc (sign_len y + run_len is_run (without_sign y))) (exponent_of ds ps y)
exponent-lexeme {m} {ds} {ps} y p s =
    let t = exponent-tail ds ps y in
    lexeme-is p s ∙ ap (λ (k : ℕ). lexeme p (length m + k) (numeral_of (m ++ take (tail_len (69 ∷ y)) (69 ∷ y)))) t.0
    ∙ ap (lexeme p (length m + suc (sign_len y + run_len is_run (without_sign y)))) (front (tail_len (69 ∷ y)) t.0 ∙ t.1)
  where
    front : (k : ℕ) → k ≡ suc (sign_len y + run_len is_run (without_sign y)) → numeral_of (m ++ take k (69 ∷ y)) ≡ literal ds ps (take k (69 ∷ y))
    front zero q = absurd (omega arith)
    front (suc k) q = followed-is 69 (take k y) (shorter (suc k) s) refl
