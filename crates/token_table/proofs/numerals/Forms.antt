-- Numerals that are read at a position are what the definitions say of their runs.
use Rattle.std.specs.Prelude.{Result, Err}
use mathlib.Core.Path.{◌≡◌, refl, sym, ap, subst, ◌∙◌}
use mathlib.Core.Bool.{Bool, true, false, cond, and-false}
use mathlib.Core.List.{List, [], ◌∷◌, ◌++◌, append-nil, append_assoc}
use Prim.Native.Nat.{ℕ, zero, suc, ◌+◌, ◌-◌, ◌^◌, ◌≤◌, ◌<◌, min}
use native.Mathlib.Nat.{mod-eq_of_lt, add-zero}
use native.Mathlib.Numerals.{add-one}
use native.Mathlib.Omega.{arith}
use lib.Dec.{eqb, leb, lit<}
use lib.IntN.{pos}
use lib.ListN.{length, get_or, take, drop, length-append, length-take}
use lib.Seq.{drop-cons, drop-drop, get_or-drop}
use borrow.Author.Tests.{le-leb, lt-leb, leb-true, leb-false, ne_eqb, eqb-true}
use Rattle.values.specs.declared.Value.TheVariants.{Int}
use Rattle.memory.specs.Names.{is_digit, all_digits, digits_of, decimal_from, decimal_value, decimal_limit}
use Rattle.memory.proofs.names.Decimals.{digits-split, digits-only, cut}
use Rattle.tokens.specs.declared.Token.TheVariants.{Number}
use Rattle.tokens.specs.Bytes.{is_word, is_run, run_len}
use Rattle.tokens.specs.Numerals.{non_empty, decimal_digits, decimal_of, hex_of, is_hex_run, has_part, is_sign, without_sign, literal_of}
use Rattle.tokens.specs.Scan.{Wrong, lexeme, numeral_lexeme}
use Rattle.tokens.proofs.Tests.{by-test, both, no}
use Rattle.tokens.proofs.Runs.{run-most}
use Rattle.tokens.proofs.Readings.{decimals, append}
use Rattle.tokens.proofs.numerals.Mantissas.{Splits, whole, dotted, digits-stop}
use Rattle.tokens.proofs.numerals.Lexemes.{decimal-lexeme, part-lexeme, no-part-lexeme, after-part-lexeme, other-lexeme, exponent-lexeme, sign_len}
use Rattle.tokens.proofs.numerals.Lexemes.{exponent_run, exponent_of}
use Rattle.tokens.proofs.numerals.Values.{nine-digits}
use Rattle.token_table.specs.declared.numerals.Mantissa.{Mantissa}
use Rattle.token_table.specs.private.Table.{pack_fields}
use Rattle.token_table.specs.private.Lexing.{scanned_word, Lexes, found, MantissaAt, OtherNumeral}
use Rattle.token_table.proofs.Digits.{digit-run, inside, behind, run-digits, run_more}
use Rattle.token_table.proofs.Lexemes.{lexes-as, judged}
use Rattle.tokens.specs.declared.Token.{Token}

-- ---- bytes at a position
first-at : (s : List ℕ) (e : ℕ) → get_or (drop e s) 0 0 ≡ get_or s e 0
first-at s e = get_or-drop e s 0 0 ∙ ap (λ (k : ℕ). get_or s k 0) (add-zero e)

-- a byte that is not 0, and what is behind it
next-at : (s : List ℕ) (e c : ℕ) → get_or s e 0 ≡ c → 0 < c → drop e s ≡ c ∷ drop (e + 1) s
next-at s e c q h = drop-cons s e 0 (inside s e c (sym q) h) ∙ rw (q, add-one)

split_at : (s : List ℕ) (at : ℕ) {e : ℕ} → e ≡ at + length (digits_of (drop at s)) → drop at s ≡ digits_of (drop at s) ++ drop e s
split_at s at {e} q = digits-split (drop at s) ∙ ap (λ (l : List ℕ). digits_of (drop at s) ++ l)
    (drop-drop (length (digits_of (drop at s))) at s ∙ ap (λ (k : ℕ). drop k s) (sym q))

some-digits : (ds : List ℕ) → all_digits ds ≡ true → 0 < length ds → decimal_digits ds ≡ true
some-digits [] e h = absurd (omega arith)
some-digits (d ∷ ds) e h = e

no-digits : (ds : List ℕ) → length ds ≡ 0 → non_empty ds ≡ false
no-digits [] h = refl
no-digits (d ∷ ds) h = absurd (omega arith)

stop-at : (s : List ℕ) (at : ℕ) {e : ℕ} → e ≡ at + length (digits_of (drop at s)) → is_digit (get_or s e 0) ≡ false
stop-at s at {e} q =
    let z : drop e s ≡ drop (length (digits_of (drop at s))) (drop at s) = ap (λ (k : ℕ). drop k s) q ∙ sym (drop-drop (length (digits_of (drop at s))) at s) in
    ap is_digit (sym (first-at s e) ∙ ap (λ (l : List ℕ). get_or l 0 0) z) ∙ digits-stop (drop at s)

pub one_byte : (t : Bool) {n : ℕ} → n ≡ cond t 1 0 → n ≤ 1
one_byte true e = omega arith
one_byte false e = omega arith

-- ---- the word of a literal
-- a number and an exponent that were cut at the limit
cut-literal : (ds : List ℕ) (k : ℕ) (neg : Bool) (e : ℕ) → all_digits ds ≡ true
    → literal_of (min (decimal_value ds) decimal_limit) (length ds) k neg (min e decimal_limit) ≡ literal_of (decimal_value ds) (length ds) k neg e
cut-literal ds k neg e d =
    by-test (leb (length ds) 9)
    (λ t. let n : min (decimal_value ds) decimal_limit ≡ decimal_value ds = omega (arith, nine-digits ds d (leb-true (length ds) 9 t)) in
    by-test (leb e 20)
    (λ u. let x : min e decimal_limit ≡ e = omega (arith, leb-true e 20 u) in rw (n, x))
    (λ u. rw (u, and-false, lt-leb (min e decimal_limit) 20 (omega (arith, leb-false e 20 u)), and-false)))
    (λ t. rw t)

module _ {s : List ℕ} {at : ℕ} {m : Mantissa} (h : MantissaAt s at m) where
  all_digits_lem : all_digits (h.ds ++ h.ps) ≡ true
  all_digits_lem = go h.ds (both (non_empty h.ds) (all_digits h.ds) h.digits).1
    where
      go : (ds : List ℕ) → all_digits ds ≡ true → all_digits (ds ++ h.ps) ≡ true
      go [] e = h.part
      go (d ∷ ds) e = let b = both (is_digit d) (all_digits ds) e in rw b.0 (go ds b.1)

  some-whole : 0 < length h.ds
  some-whole = go h.ds h.digits
    where
      go : (ds : List ℕ) → decimal_digits ds ≡ true → 0 < length ds
      go [] e = no e
      go (d ∷ ds) e = omega arith

  pub literal-fits : (m.digits ≤ 9 → m.value < 2 ^ 32) × (m.places < m.digits)
  literal-fits = (
    λ l. let n = nine-digits (h.ds ++ h.ps) all_digits_lem (omega (arith, h.count)) in omega (arith, h.value),
    omega (arith, h.count, h.places, some-whole, length-append h.ds h.ps),
  )

  word-of : (neg : Bool) (e : ℕ) {v : ℕ} → v ≡ min e decimal_limit
      → literal_of m.value m.digits m.places neg v ≡ literal_of (decimal_value (h.ds ++ h.ps)) (length (h.ds ++ h.ps)) (length h.ps) neg e
  word-of neg e q = rw (q, h.value, h.count, h.places) (cut-literal (h.ds ++ h.ps) (length h.ps) neg e all_digits_lem)

  splits_of : (x : List ℕ) → is_digit (get_or x 0 0) ≡ false → has_part x ≡ false → Splits h.bytes h.ds h.ps x
  splits_of x f n = go h.ps h.form h.part
    where
      go : (ps : List ℕ) → h.bytes ≡ cond (non_empty ps) (h.ds ++ (46 ∷ ps)) h.ds → all_digits ps ≡ true → Splits h.bytes h.ds ps x
      go [] q e = whole q refl h.digits f n
      go (p ∷ ps) q e = dotted q h.digits e f

  -- ---- an exponent
  module _ (capital : get_or s m.end 0 ≡ 69) where
    abbrev tail : List ℕ
    tail = drop (m.end + 1) s

    there : drop at s ≡ h.bytes ++ (69 ∷ tail)
    there = h.splits ∙ ap (λ (l : List ℕ). h.bytes ++ l) (next-at s m.end 69 capital (lit< tt))

    pub within-e : m.end + 1 ≤ length s
    within-e = omega (arith, inside s m.end 69 (sym capital) (lit< tt))

    -- where the digits start
    pub first-within : {b f : ℕ} → b ≡ get_or s (m.end + 1) 0 → f ≡ m.end + 1 + cond (is_sign b) 1 0 → f ≤ length s
    first-within {b} {f} sign start =
        by-test (is_sign b) (λ t. let q : f ≡ m.end + 1 + 1 = rw t at start in omega (arith, inside s (m.end + 1) b sign (some-sign b t)))
        (λ t. let q : f ≡ m.end + 1 + 0 = rw t at start in omega (arith, within-e))
      where
        some-sign : (c : ℕ) → is_sign c ≡ true → 0 < c
        some-sign zero t = no t
        some-sign (suc c) t = omega arith

    module _ {b f v e : ℕ} (sign : b ≡ get_or s (m.end + 1) 0) (start : f ≡ m.end + 1 + cond (is_sign b) 1 0)
        (value : v ≡ min (decimal_from 0 (digits_of (drop f s))) decimal_limit) (ends : e ≡ f + length (digits_of (drop f s))) where
      first_tail : get_or tail 0 0 ≡ b
      first_tail = first-at s (m.end + 1) ∙ sym sign

      sign-is : (y : List ℕ) → (sign_len y ≡ cond (is_sign (get_or y 0 0)) 1 0) × (without_sign y ≡ drop (cond (is_sign (get_or y 0 0)) 1 0) y)
      sign-is [] = (refl, refl)
      sign-is (c ∷ cs) = by-test (is_sign c) (λ t. rw t (refl, refl)) (λ t. rw t (refl, refl))

      sign-size : sign_len tail ≡ cond (is_sign b) 1 0
      sign-size = (sign-is tail).0 ∙ ap (λ (c : ℕ). cond (is_sign c) 1 0) first_tail

      digits-at : without_sign tail ≡ drop f s
      digits-at =
          (sign-is tail).1 ∙ ap (λ (c : ℕ). drop (cond (is_sign c) 1 0) tail) first_tail ∙ drop-drop (cond (is_sign b) 1 0) (m.end + 1) s
          ∙ ap (λ (k : ℕ). drop k s) (sym start)

      abbrev run : List ℕ
      run = take (run_len is_run (drop f s)) (drop f s)

      run-there : exponent_run tail ≡ run
      run-there = ap (λ (l : List ℕ). take (run_len is_run l) l) digits-at

      lexed : numeral_lexeme (drop at s) at ≡ lexeme at (length h.bytes + suc (sign_len tail + run_len is_run (without_sign tail)))
          (exponent_of h.ds h.ps tail)
      lexed = ap (λ (l : List ℕ). numeral_lexeme l at) there ∙ exponent-lexeme tail at (splits_of (69 ∷ tail) refl refl)

      no_number : {w k : ℕ} → decimal_digits run ≡ false → ((p : ℕ) → Lexes (Wrong 4 p) w k) → Lexes (numeral_lexeme (drop at s) at) w k
      no_number n g = rw (lexed, run-there, n) (g at)

      empty-run : (k : ℕ) (u : List ℕ) → length (digits_of u) ≡ 0 → decimal_digits (take k u) ≡ false
      empty-run zero u q = refl
      empty-run (suc k) [] q = refl
      empty-run (suc k) (c ∷ cs) q = by-test (is_digit c) (λ t. absurd (let z : suc (length (digits_of cs)) ≡ 0 = rw t at q in omega arith)) (λ t. rw t)

      pub no_exponent : {w k : ℕ} → e ≡ f → ((p : ℕ) → Lexes (Wrong 4 p) w k) → Lexes (numeral_lexeme (drop at s) at) w k
      no_exponent q g = no_number (empty-run (run_len is_run (drop f s)) (drop f s) (omega (arith, ends))) g

      module _ {x : ℕ} (next : x ≡ get_or s e 0) where
        pub longer-exponent : {w k : ℕ} → is_run x ≡ true → ((p : ℕ) → Lexes (Wrong 4 p) w k) → Lexes (numeral_lexeme (drop at s) at) w k
        longer-exponent t g = no_number (rw (run_more is_run digit-run (drop f s) refl (rw (behind s f ends next) at t), and-false)) g

        pub exponent-run : {w : ℕ} → (e ≡ f → ⊥) → is_run x ≡ false → w ≡ scanned_word (literal_of m.value m.digits m.places (eqb b 45) v)
            → Lexes (numeral_lexeme (drop at s) at) w e
        exponent-run {w} n t q =
            let es = digits_of (drop f s) in
            let is : run ≡ es = run-digits is_run digit-run (drop f s) (rw (behind s f ends next) at t) in
            let count : run_len is_run (drop f s) ≡ length es = sym (length-take-run (drop f s)) ∙ ap length is in
            let good : decimal_digits (exponent_run tail) ≡ true = rw (run-there, is) (some-digits es (digits-only (drop f s)) (omega (arith, ends))) in
            let r = literal_of (decimal_value (h.ds ++ h.ps)) (length (h.ds ++ h.ps)) (length h.ps) (eqb b 45) (decimal_value es) in
            let judge : exponent_of h.ds h.ps tail ≡ r = rw (good, first_tail, run-there, is) in
            let size : at + (length h.bytes + suc (sign_len tail + run_len is_run (without_sign tail))) ≡ e =
            rw (digits-at, count, sign-size) (omega (arith, ends, start, h.ends)) in
            let word : w ≡ scanned_word r = q ∙ ap scanned_word (word-of (eqb b 45) (decimal_value es) value) in
            rw (lexed, judge) (lexes-as word (sym size) (judged at (length h.bytes + suc (sign_len tail + run_len is_run (without_sign tail))) r))
          where
            length-take-run : (u : List ℕ) → length (take (run_len is_run u) u) ≡ run_len is_run u
            length-take-run u = rw length-take (omega (arith, run-most is_run u))

-- ---- digits at a position
module _ (s : List ℕ) (at : ℕ) (within : at < length s) (digit : is_digit (get_or s at 0) ≡ true) where
  abbrev ds : List ℕ
  ds = digits_of (drop at s)

  first-digit : 0 < length ds
  first-digit = rw (drop-cons s at 0 within, digit) (omega arith)

  whole-digits : decimal_digits ds ≡ true
  whole-digits = some-digits ds (digits-only (drop at s)) first-digit

  module _ {v e : ℕ} (value : v ≡ min (decimal_from 0 ds) decimal_limit) (ends : e ≡ at + length ds) where
    -- ---- decimals
    module _ {x : ℕ} (next : x ≡ get_or s e 0) (f : is_word x ≡ false) (n : x ≡ 46 → ⊥) where
      decimal-is : numeral_lexeme (drop at s) at ≡ lexeme at (length ds) (decimal_of ds)
      decimal-is =
          let r : is_run (get_or (drop e s) 0 0) ≡ false = rw (first-at s e, ← next, f, ne_eqb x 46 n) in
          ap (λ (l : List ℕ). numeral_lexeme l at) (split_at s at ends) ∙ decimal-lexeme ds (drop e s) at whole-digits r

      pub too_large : {w k : ℕ} → 2147483647 < v → ((p : ℕ) → Lexes (Wrong 5 p) w k) → Lexes (numeral_lexeme (drop at s) at) w k
      too_large l g = rw (decimal-is, lt-leb (decimal_value ds) 2147483647 (omega (arith, value))) (g at)

      pub decimal-run : v ≤ 2147483647 → Lexes (numeral_lexeme (drop at s) at) (pack_fields 1 0 v 0) e
      decimal-run l =
          let k : decimal_value ds ≡ v = omega (arith, value) in
          let small : v < 2 ^ 32 = omega arith in
          rw (decimal-is, k, le-leb v 2147483647 l) (lexes-as (rw (mod-eq_of_lt small)) ends (found (Number (Int (pos v))) at (at + length ds)))

    -- ---- a mantissa without a dot
    pub whole-mantissa : e ≤ length s → MantissaAt s at (record { value = v; end = e; digits = e - at; places = 0 })
    whole-mantissa l =
        record {
          bytes = ds;
          ds = ds;
          ps = [];
          form = refl;
          digits = whole-digits;
          part = refl;
          splits = split_at s at ends;
          ends = ends;
          within = l;
          value = rw append-nil value;
          count = rw append-nil (omega arith);
          places = refl;
        }

    -- ---- a letter behind the digits
    pub other-run : {x : ℕ} → x ≡ get_or s e 0 → is_word x ≡ true → (x ≡ 69 → ⊥) → OtherNumeral s at
    other-run {x} next t n =
        let b = behind s at ends next in
        record { within = within; starts = digit; next = rw b at t; no_exponent = ne_eqb _ 69 (λ q. n (b ∙ q)) }

  -- ---- a dot behind the digits
  module _ {v dot : ℕ} (value : v ≡ min (decimal_from 0 ds) decimal_limit) (ends : dot ≡ at + length ds) (is-dot : get_or s dot 0 ≡ 46) where
    abbrev behind-dot : List ℕ
    behind-dot = drop (dot + 1) s

    dotted-text : drop at s ≡ ds ++ (46 ∷ behind-dot)
    dotted-text = split_at s at ends ∙ ap (λ (l : List ℕ). ds ++ l) (next-at s dot 46 is-dot (lit< tt))

    pub within-dot : dot + 1 ≤ length s
    within-dot = omega (arith, inside s dot 46 (sym is-dot) (lit< tt))

    module _ {w e : ℕ} (number : w ≡ min (decimal_from v (digits_of behind-dot)) decimal_limit) (stop : e ≡ dot + 1 + length (digits_of behind-dot)) where
      abbrev ps : List ℕ
      ps = digits_of behind-dot

      pub no_part : {k l : ℕ} → e ≡ dot + 1 → ((p : ℕ) → Lexes (Wrong 4 p) k l) → Lexes (numeral_lexeme (drop at s) at) k l
      no_part q g = rw (dotted-text, no-part-lexeme ds behind-dot at whole-digits (no-digits ps (omega (arith, stop)))) (g at)

      module _ (some : e ≡ dot + 1 → ⊥) where
        part-digits : decimal_digits ps ≡ true
        part-digits = some-digits ps (digits-only behind-dot) (omega (arith, stop))

        has_part_lem : non_empty ps ≡ true
        has_part_lem = (both (non_empty ps) (all_digits ps) part-digits).0

        abbrev bytes : List ℕ
        bytes = ds ++ (46 ∷ ps)

        split : drop at s ≡ bytes ++ drop e s
        split = dotted-text ∙ ap (λ (l : List ℕ). ds ++ (46 ∷ l)) (split_at s (dot + 1) stop) ∙ sym (append_assoc ds (46 ∷ ps) (drop e s))

        pub dotted-mantissa : e ≤ length s → MantissaAt s at (record { value = w; end = e; digits = e - at - 1; places = e - dot - 1 })
        dotted-mantissa l =
            record {
              bytes = bytes;
              ds = ds;
              ps = ps;
              form = rw has_part_lem;
              digits = whole-digits;
              part = digits-only behind-dot;
              splits = split;
              ends = rw length-append (omega (arith, stop, ends));
              within = l;
              value = number ∙ rw (value, append decimals 0 ds ps) (sym (cut (decimal_from 0 ds) ps));
              count = rw length-append (omega (arith, stop, ends));
              places = omega (arith, stop);
            }

        module _ {x : ℕ} (next : x ≡ get_or s e 0) where
          pub longer-part : {k l : ℕ} → is_run x ≡ true → (x ≡ 69 → ⊥) → ((p : ℕ) → Lexes (Wrong 4 p) k l) → Lexes (numeral_lexeme (drop at s) at) k l
          longer-part t n g =
              let there : drop e s ≡ x ∷ drop (e + 1) s = next-at s e x (sym next) (some_byte x t) in
              let d : is_digit x ≡ false = ap is_digit next ∙ stop-at s (dot + 1) stop in
              rw (split, there, after-part-lexeme bytes ds ps x (drop (e + 1) s) at refl whole-digits part-digits d t (ne_eqb x 69 n)) (g at)
            where
              some_byte : (c : ℕ) → is_run c ≡ true → 0 < c
              some_byte zero t = no t
              some_byte (suc c) t = omega arith

          pub real-run : (l : e ≤ length s) {k : ℕ} → is_run x ≡ false → k ≡ scanned_word (literal_of w (e - at - 1) (e - dot - 1) false 0)
              → Lexes (numeral_lexeme (drop at s) at) k e
          unfolding dotted-mantissa
          real-run l f q =
              let r = literal_of (decimal_value (ds ++ ps)) (length (ds ++ ps)) (length ps) false 0 in
              let lexed : numeral_lexeme (drop at s) at ≡ lexeme at (length bytes) r = ap (λ (u : List ℕ). numeral_lexeme u at) split
              ∙ part-lexeme bytes ds ps (drop e s) at refl whole-digits part-digits (rw (first-at s e, ← next, f)) in
              let size : at + length bytes ≡ e = rw length-append (omega (arith, stop, ends)) in
              rw lexed (lexes-as (q ∙ ap scanned_word (word-of (dotted-mantissa l) false 0 refl)) (sym size) (judged at (length bytes) r))

-- ---- a run that is neither decimal nor real
module _ (s : List ℕ) (at : ℕ) (o : OtherNumeral s at) where
  abbrev next-byte : ℕ
  next-byte = get_or (drop at s) (length (digits_of (drop at s))) 0

  pub rest-run : {e w : ℕ} {r : (Result Token ℕ)} → e ≡ at + run_len is_run (drop at s)
      → r ≡ (let u = take (e - at) (drop at s) in cond (is_hex_run u) (hex_of (drop 2 u)) (Err 4)) → w ≡ scanned_word r
      → Lexes (numeral_lexeme (drop at s) at) w e
  rest-run {e} {w} {r} ends is word =
      let cs = drop at s in
      let n = run_len is_run cs in
      let k : e - at ≡ n = omega arith in
      let t = drop (at + length (digits_of cs) + 1) s in
      let byte-is : get_or s (at + length (digits_of cs)) 0 ≡ next-byte = sym (get_or-drop at s (length (digits_of cs)) 0) in
      let split : cs ≡ digits_of cs ++ (next-byte ∷ t) = split_at s at refl
      ∙ ap (λ (l : List ℕ). digits_of cs ++ l) (next-at s (at + length (digits_of cs)) next-byte byte-is (some_byte next-byte o.next)) in
      let d : is_digit next-byte ≡ false = ap is_digit (sym byte-is) ∙ stop-at s at refl in
      let whole = some-digits (digits_of cs) (digits-only cs) (first-digit s at o.within o.starts) in
      let lexed : numeral_lexeme cs at ≡ (let u = take n cs in lexeme at n (cond (is_hex_run u) (hex_of (drop 2 u)) (Err 4))) =
      subst (λ (l : List ℕ). numeral_lexeme l at ≡ (let u = take (run_len is_run l) l in
      lexeme at (run_len is_run l) (cond (is_hex_run u) (hex_of (drop 2 u)) (Err 4)))) (sym split)
      (other-lexeme next-byte (digits_of cs) t at whole d (rw o.next) o.no_exponent (no-dot next-byte o.next)) in
      let q : r ≡ (let u = take n cs in cond (is_hex_run u) (hex_of (drop 2 u)) (Err 4)) = is
      ∙ ap (λ (i : ℕ). let u = take i cs in cond (is_hex_run u) (hex_of (drop 2 u)) (Err 4)) k in
      rw lexed (lexes-as word ends (rw (← q) (judged at n r)))
    where
      some_byte : (c : ℕ) → is_word c ≡ true → 0 < c
      some_byte zero t = no t
      some_byte (suc c) t = omega arith

      no-dot : (c : ℕ) → is_word c ≡ true → eqb c 46 ≡ false
      no-dot c t = by-test (eqb c 46) (λ e. no (sym (ap is_word (eqb-true c 46 e)) ∙ t)) (λ e. e)
