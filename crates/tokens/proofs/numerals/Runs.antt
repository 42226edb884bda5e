-- The run of a numeral is the one that the relation `NumeralRun` says, and has a byte.
use mathlib.Core.Path.{◌≡◌, refl, sym, ap, subst, ◌∙◌}
use mathlib.Core.Logic.{⊎_elim}
use mathlib.Core.Bool.{true, false, ◌&&◌}
use mathlib.Core.List.{List, [], ◌∷◌, ◌++◌, append_assoc}
use Prim.Native.Nat.{ℕ, suc, ◌+◌, ◌≤◌, ◌<◌}
use native.Mathlib.Omega.{arith}
use lib.Dec.{eqb}
use lib.ListN.{length, get_or, take, drop, length-append, take-append-drop}
use lib.Seq.{take-append_seam, drop-append_seam, take_at, drop_at}
use borrow.Author.Tests.{eqb-true}
use Rattle.memory.specs.Names.{is_digit, all_digits, digits_of}
use Rattle.memory.proofs.names.Decimals.{digits-split, digits-only}
use Rattle.tokens.specs.Bytes.{is_run, run_len, all}
use Rattle.tokens.specs.Numerals.{non_empty, decimal_digits, behind_digits, behind_mantissa, is_sign, opens_exponent, tail_len, numeral_len}
use Rattle.tokens.specs.Theorems as Theorems
use Rattle.tokens.specs.Theorems.{Starts, first, Stops, nothing, other, LongestRun, Mantissa, NumeralRun, plain, past_sign}
use Rattle.tokens.proofs.Tests.{by-test, both, either, no}
use Rattle.tokens.proofs.Runs.{all_append, run-most, run-every, run-stops, run_length}
use Rattle.tokens.proofs.numerals.Mantissas.{Splits, whole, dotted, parts, digits-stop, take_past, length-is, runs}
use Rattle.tokens.proofs.numerals.Lexemes.{run_past}

-- ---- the mantissa that some bytes begin with
pub record Front (s : List ℕ) : Type 0 where
  pub mantissa : List ℕ
  pub digits : List ℕ
  pub part : List ℕ
  pub rest : List ℕ
  pub is : s ≡ mantissa ++ rest
  pub splits : Splits mantissa digits part rest

pub front : (c : ℕ) (cs : List ℕ) → is_digit c ≡ true → Front (c ∷ cs)
front c cs d = go (behind_digits (c ∷ cs)) (digits-split (c ∷ cs)) (digits-stop (c ∷ cs))
  where
    some : decimal_digits (digits_of (c ∷ cs)) ≡ true
    some = let n : non_empty (digits_of (c ∷ cs)) ≡ true = rw d in rw (n, digits-only (c ∷ cs))

    go : (y : List ℕ) → c ∷ cs ≡ digits_of (c ∷ cs) ++ y → is_digit (get_or y 0 0) ≡ false → Front (c ∷ cs)
    go [] q f = record { mantissa = digits_of (c ∷ cs); digits = digits_of (c ∷ cs); part = []; rest = []; is = q; splits = whole refl refl some refl refl }
    go (b ∷ t) q f =
        by-test (eqb b 46 && non_empty (digits_of t))
        (λ h. let k = both (eqb b 46) (non_empty (digits_of t)) h in
        let part = digits_of t in
        let rest = behind_digits t in
        let e : decimal_digits part ≡ true = rw (k.1, digits-only t) in
        let m = digits_of (c ∷ cs) ++ (46 ∷ part) in
        let there : b ∷ t ≡ 46 ∷ (part ++ rest) = rw (eqb-true b 46 k.0) (ap (λ (l : List ℕ). 46 ∷ l) (digits-split t)) in
        record {
          mantissa = m;
          digits = digits_of (c ∷ cs);
          part = part;
          rest = rest;
          is = q ∙ ap (λ (l : List ℕ). digits_of (c ∷ cs) ++ l) there
              ∙ sym (append_assoc (digits_of (c ∷ cs)) (46 ∷ part) rest);
          splits = dotted refl some e (digits-stop t);
        })
        (λ h. record { mantissa = digits_of (c ∷ cs); digits = digits_of (c ∷ cs); part = []; rest = b ∷ t; is = q; splits = whole refl refl some f h })

-- ---- a mantissa, by both descriptions
digits-start : (ds x : List ℕ) → decimal_digits ds ≡ true → Starts is_digit (ds ++ x)
digits-start [] x e = no e
digits-start (d ∷ ds) x e = first (both (is_digit d) (all_digits ds) e).0

module _ {m ds ps x : List ℕ} where
  mantissa-is : Splits m ds ps x → Mantissa m
  mantissa-is (whole q z e f n) = rw q (Theorems.whole ds e)
  mantissa-is (dotted q e g f) = rw q (Theorems.dotted ds ps e g)

  starts_is : Splits m ds ps x → (y : List ℕ) → Starts is_digit (m ++ y)
  starts_is (whole q z e f n) y = rw q (digits-start ds y e)
  starts_is (dotted q e g f) y = rw (q, append_assoc ds (46 ∷ ps) y) (digits-start ds (46 ∷ (ps ++ y)) e)

  all-run : Splits m ds ps x → all is_run m ≡ true
  all-run (whole q z e f n) = rw q (runs ds (both (non_empty ds) (all_digits ds) e).1)
  all-run (dotted q e g f) = rw q (all_append is_run ds (46 ∷ ps) (runs ds (both (non_empty ds) (all_digits ds) e).1)
      (runs ps (both (non_empty ps) (all_digits ps) g).1))

some-length : (s : List ℕ) → Starts is_digit s → 0 < length s
some-length [] x' = elim x' [ ]
some-length (c ∷ cs) (first e) = omega arith

-- before an `E`
record Whole (m x : List ℕ) : Type 0 where
  digits : List ℕ
  part : List ℕ
  splits : Splits m digits part x

before-e : {m : List ℕ} (y : List ℕ) → Mantissa m → Whole m (69 ∷ y)
before-e y (Theorems.whole ds e) = record { digits = ds; part = []; splits = whole refl refl e refl refl }
before-e y (Theorems.dotted ds ps e g) = record { digits = ds; part = ps; splits = dotted refl e g refl }

-- ---- how far the run goes
sign-cases : (c : ℕ) → is_sign c ≡ true → is_run c ≡ false
sign-cases c e = ⊎_elim (λ p. rw (eqb-true c 43 p)) (λ p. rw (eqb-true c 45 p)) (either (eqb c 43) (eqb c 45) e)

-- `E`, a sign and what follows
data Opened : List ℕ → Type 0 where
  opened : (c : ℕ) (t : List ℕ) → is_sign c ≡ true → Opened (69 ∷ c ∷ t)

opens : (x : List ℕ) → opens_exponent x ≡ true → Opened x
opens [] e = no e
opens (c ∷ []) e = no (both (eqb c 69) false e).1
opens (c ∷ d ∷ t) e = let h = both (eqb c 69) (is_sign d) e in rw (eqb-true c 69 h.0) (opened d t h.1)

signed-len : (c : ℕ) (t : List ℕ) → is_sign c ≡ true → tail_len (69 ∷ c ∷ t) ≡ suc (suc (run_len is_run t))
signed-len c t e = let z : 2 + run_len is_run t ≡ suc (suc (run_len is_run t)) = omega arith in rw (e, z)

tail-most : (x : List ℕ) → tail_len x ≤ length x
tail-most x = by-test (opens_exponent x) (λ e. go x (opens x e)) (λ e. rw e (run-most is_run x))
  where
    go : (y : List ℕ) → Opened y → tail_len y ≤ length y
    go y (opened c t e) = rw (signed-len c t e) (omega (arith, run-most is_run t))

size_of : {m ds ps x : List ℕ} → Splits m ds ps x → (0 < numeral_len (m ++ x)) × (numeral_len (m ++ x) ≤ length (m ++ x))
size_of {m} {x = x} s = rw (length-is s, length-append) (omega (arith, some-length (m ++ []) (starts_is s []), length-append m []), omega (arith, tail-most x))

pub numeral-size : (c : ℕ) (cs : List ℕ) → is_digit c ≡ true → (0 < numeral_len (c ∷ cs)) × (numeral_len (c ∷ cs) ≤ length (c ∷ cs))
numeral-size c cs d =
    let f = front c cs d in subst (λ (s : List ℕ). (0 < numeral_len s) × (numeral_len s ≤ length s)) (sym f.is) (size_of f.splits)

-- ---- from the rule to the relation
drop_past : (m x : List ℕ) (k : ℕ) → drop (length m + k) (m ++ x) ≡ drop k x
drop_past [] x k = ap (λ (i : ℕ). drop i x) (let z : 0 + k ≡ k = omega arith in z)
drop_past (c ∷ m) x k = let z : suc (length m) + k ≡ suc (length m + k) = omega arith in rw z (drop_past m x k)

no_sign : (r : List ℕ) → is_sign (get_or r 0 0) ≡ false → Stops is_sign r
no_sign [] f = nothing
no_sign (c ∷ cs) f = other f

-- the run of a mantissa and what follows it
module _ {m ds ps x : List ℕ} (s : Splits m ds ps x) where
  unsigned-run : opens_exponent x ≡ false → NumeralRun (m ++ take (run_len is_run x) x) (drop (run_len is_run x) x)
  unsigned-run f =
      plain
      (record {
        starts = starts_is s (take (run_len is_run x) x);
        every = all_append is_run m (take (run_len is_run x) x) (all-run s) (run-every is_run x);
        stops = run-stops is_run x;
      })
      (λ n k q. by n k q)
    where
      by : (n : List ℕ) → Mantissa n → m ++ take (run_len is_run x) x ≡ n ++ (69 ∷ []) → Stops is_sign (drop (run_len is_run x) x)
      by n k q =
          let r = drop (run_len is_run x) x in
          let h = before-e r k in
          let same : m ++ x ≡ n ++ (69 ∷ r) =
          ap (λ (l : List ℕ). m ++ l) (sym (take-append-drop (run_len is_run x) x)) ∙ sym (append_assoc m (take (run_len is_run x) x) r)
          ∙ ap (λ (l : List ℕ). l ++ r) q ∙ append_assoc n (69 ∷ []) r in
          let tail : x ≡ 69 ∷ r = sym (parts s).rest ∙ ap behind_mantissa same ∙ (parts h.splits).rest in
          no_sign r (rw tail at f)

  signed-run : (y : List ℕ) → Opened y → x ≡ y → NumeralRun (m ++ take (tail_len y) y) (drop (tail_len y) y)
  signed-run y (opened c t e) q = rw (signed-len c t e) (past_sign m c (take (run_len is_run t) t) (mantissa-is s) e (run-every is_run t) (run-stops is_run t))

  splits-run : NumeralRun (m ++ take (tail_len x) x) (drop (tail_len x) x)
  splits-run = by-test (opens_exponent x) (λ e. signed-run x (opens x e) refl) (λ e. rw e (unsigned-run e))

  cut-run : NumeralRun (take (numeral_len (m ++ x)) (m ++ x)) (drop (numeral_len (m ++ x)) (m ++ x))
  cut-run = rw (length-is s, take_past m x (tail_len x), drop_past m x (tail_len x)) splits-run

pub numeral-run : (c : ℕ) (cs : List ℕ) → is_digit c ≡ true → NumeralRun (take (numeral_len (c ∷ cs)) (c ∷ cs)) (drop (numeral_len (c ∷ cs)) (c ∷ cs))
numeral-run c cs d = let f = front c cs d in subst (λ (s : List ℕ). NumeralRun (take (numeral_len s) s) (drop (numeral_len s) s)) (sym f.is)
    (cut-run f.splits)

-- ---- and back
pub run-starts : {w r : List ℕ} → NumeralRun w r → Starts is_digit w
run-starts (plain h n) = h.starts
run-starts (past_sign m c v k e a s) = let h = before-e (c ∷ v) k in starts_is h.splits (69 ∷ c ∷ v)

stopped : (r : List ℕ) (c : ℕ) (t : List ℕ) → Stops is_sign r → r ≡ c ∷ t → is_sign c ≡ true → ⊥
stopped r c t nothing q e = let z : ◌≡◌ {A = ℕ} 0 1 = cc in omega arith
stopped r c t (other {c = b} f) q e = let z : b ≡ c = cc in no (sym (rw z at f) ∙ e)

-- the run cannot stop before a sign behind a mantissa and `E`
module _ {w r : List ℕ} (h : LongestRun is_digit is_run w r) (n : (m : List ℕ) → Mantissa m → w ≡ m ++ (69 ∷ []) → Stops is_sign r) where
  not_opened : {m ds ps x : List ℕ} → Splits m ds ps x → w ++ r ≡ m ++ x → Opened x → ⊥
  not_opened {m} s q (opened c t e) =
      let split : w ++ r ≡ (m ++ (69 ∷ [])) ++ (c ∷ t) = q ∙ sym (append_assoc m (69 ∷ []) (c ∷ t)) in
      let same : length w ≡ length (m ++ (69 ∷ [])) =
      sym (run_length is_run w r h.every h.stops) ∙ ap (run_len is_run) split
      ∙ run_length is_run (m ++ (69 ∷ [])) (c ∷ t) (all_append is_run m (69 ∷ []) (all-run s) refl) (other (sign-cases c e)) in
      let front : w ≡ m ++ (69 ∷ []) = sym (take-append_seam w r) ∙ ap (take (length w)) split ∙ take_at (m ++ (69 ∷ [])) (c ∷ t) (length w) (sym same) in
      let back : r ≡ c ∷ t = sym (drop-append_seam w r) ∙ ap (drop (length w)) split ∙ drop_at (m ++ (69 ∷ [])) (c ∷ t) (length w) (sym same) in
      stopped r c t (n m (mantissa-is s) front) back e

  plain-len : {m ds ps x : List ℕ} → Splits m ds ps x → w ++ r ≡ m ++ x → numeral_len (w ++ r) ≡ length w
  plain-len {m} {x = x} s q =
      by-test (opens_exponent x) (λ e. absurd (not_opened s q (opens x e)))
      (λ e. let t : tail_len x ≡ run_len is_run x = rw e in
      ap numeral_len q ∙ length-is s ∙ ap (λ (k : ℕ). length m + k) t ∙ sym (run_past m x (all-run s)) ∙ ap (run_len is_run) (sym q)
      ∙ run_length is_run w r h.every h.stops)

started : {w : List ℕ} (r : List ℕ) → Starts is_digit w → Front (w ++ r)
started r (first {c = c} {cs = cs} e) = front c (cs ++ r) e

pub run_len_lem : {w r : List ℕ} → NumeralRun w r → numeral_len (w ++ r) ≡ length w
run_len_lem {w} {r} (plain h n) = let f = started r h.starts in plain-len h n f.splits f.is
run_len_lem {r = r} (past_sign m c v k e a s) =
    let h = before-e (c ∷ (v ++ r)) k in
    let t : tail_len (69 ∷ c ∷ (v ++ r)) ≡ suc (suc (length v)) = signed-len c (v ++ r) e ∙ ap (λ (i : ℕ). suc (suc i)) (run_length is_run v r a s) in
    ap numeral_len (append_assoc m (69 ∷ c ∷ v) r) ∙ length-is h.splits ∙ ap (λ (i : ℕ). length m + i) t ∙ sym (length-append m (69 ∷ c ∷ v))
