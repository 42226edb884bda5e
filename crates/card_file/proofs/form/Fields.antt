-- A line looked for by its key at a place, and what is known of one that was found. Assumes nothing.
use mathlib.Core.Path.{◌≡◌, refl, sym, ap, subst, ◌∙◌}
use mathlib.Core.Bool.{Bool, true, false, ◌&&◌, cond}
use mathlib.Core.List.{List, ◌∷◌, ◌++◌}
use Prim.Native.Nat.{ℕ, suc, ◌+◌, ◌-◌, ◌≤◌, ◌<◌}
use native.Mathlib.Nat.{zero-add}
use native.Mathlib.Omega.{arith}
use lib.Dec.{eqb, ltb}
use lib.ListN.{length, take, drop, length-append, length-drop}
use lib.Seq.{take_all, length-take-le, drop-drop, take-append_seam, drop-append_seam, drop-append-add}
use borrow.Author.Tests.{eqb-true, eqb-false, eq-eqb, ne_eqb, lt-ltb, le-ltb}
use Rattle.std.specs.Prelude.{Some, None}
use Rattle.words.proofs.Lists.{rest_of}
use Rattle.memory.specs.Names.{all_digits, digits_of, decimal_value, number_below, number_rule}
use Rattle.memory.proofs.names.Decimals.{digits-all, digits-not}
use Rattle.tokens.specs.Bytes.{run_len}
use Rattle.tokens.specs.Symbols.{equal_bytes}
use Rattle.tokens.proofs.Same.{unlike}
use Rattle.lines.specs.Lines.{except}
use Rattle.card_laws.specs.Lines.{ended, Field, field, wrong, to_end, rest_of_line, begins, field_of}
use Rattle.card_laws.specs.Cards.{card_key, card_number, is_check}
use Rattle.card_laws.proofs.Lines.{field_is}
use Rattle.card_file.specs.Spans.{length_in, number_in, line_number}

module _ (s : List ℕ) (at : ℕ) (key : List ℕ) where
  d : List ℕ
  d = drop at s

  pub short : length s - at < length key → None ≡ length_in (field_of key (drop at s))
  short h =
      let size : length (drop at s) ≡ length s - at = length-drop at s in
      let t : begins key (drop at s) ≡ false = ap (equal_bytes key) (take_all (length key) (drop at s) (omega arith))
      ∙ sym (unlike key (drop at s) (λ e. omega arith)) in
      rw t

  part : take (at + length key - at) (drop at s) ≡ take (length key) (drop at s)
  part = let e : at + length key - at ≡ length key = omega arith in rw e

  rest : take (length s - (at + length key)) (drop (at + length key) s) ≡ drop (length key) (drop at s)
  rest = rest_of s (at + length key) ∙ sym (drop-drop (length key) at s)

  pub other : false ≡ equal_bytes key (take (at + length key - at) (drop at s)) → None ≡ length_in (field_of key (drop at s))
  other e = let t : begins key (drop at s) ≡ false = sym (e ∙ ap (equal_bytes key) part) in rw t

  module _ (e : true ≡ equal_bytes key (take (at + length key - at) (drop at s))) {n : ℕ}
      (u : (n ≡ run_len (except 10) (take (length s - (at + length key)) (drop (at + length key) s)))
      × (n ≤ length (take (length s - (at + length key)) (drop (at + length key) s)))) where
    here : field_of key (drop at s) ≡ rest_of_line (drop (length key) (drop at s))
    here = let t : begins key (drop at s) ≡ true = sym (e ∙ ap (equal_bytes key) part) in rw t

    run : to_end (drop (length key) (drop at s)) ≡ n
    run = sym (u.0 ∙ ap (run_len (except 10)) rest)

    size : length (drop (length key) (drop at s)) ≡ length s - (at + length key)
    size = ap length (drop-drop (length key) at s) ∙ length-drop (at + length key) s

    pub unended : n ≡ length s - (at + length key) → None ≡ length_in (field_of key (drop at s))
    unended q =
        let f : ltb (to_end (drop (length key) (drop at s))) (length (drop (length key) (drop at s))) ≡ false =
        le-ltb (to_end (drop (length key) (drop at s))) (length (drop (length key) (drop at s))) (omega (arith, run, size)) in
        let g : rest_of_line (drop (length key) (drop at s)) ≡ wrong = rw f in
        sym (ap length_in (here ∙ g))

    pub found : (n ≡ length s - (at + length key) → ⊥) → Some n ≡ length_in (field_of key (drop at s))
    found q =
        let x : List ℕ = drop (length key) (drop at s) in
        let most : n ≤ length x = subst (λ (l : List ℕ). n ≤ length l) rest u.1 in
        let f : ltb (to_end x) (length x) ≡ true = lt-ltb (to_end x) (length x) (omega (arith, run, size, q)) in
        let g : rest_of_line x ≡ field (take (to_end x) x) (drop (suc (to_end x)) x) =
        ap (λ (t : Bool). cond t (field (take (to_end x) x) (drop (suc (to_end x)) x)) wrong) f in
        sym (ap length_in (here ∙ g) ∙ ap Some (length-take-le (to_end x) x (omega (arith, run)) ∙ run))

-- ---- a line that was found: its value of n bytes, and what follows its end
pub record FieldIn (key d : List ℕ) (n : ℕ) : Type 0 where
  pub value : List ℕ
  pub after : List ℕ
  pub is : field_of key d ≡ field value after
  pub size : length value ≡ n
  pub inside : length key + n + 1 ≤ length d
  pub text : take n (drop (length key) d) ≡ value
  pub rest : drop (length key + n + 1) d ≡ after

pub field_in : (key d : List ℕ) (n : ℕ) → Some n ≡ length_in (field_of key d) → FieldIn key d n
field_in key d n e = go (field_of key d) refl e
  where
    go : (x : Field) → field_of key d ≡ x → Some n ≡ length_in x → FieldIn key d n
    go wrong q w = absurd (let z : ◌≡◌ {A = ℕ} 0 1 = cc in omega arith)
    go (field v r) q w =
        let m : n ≡ length v = cc in
        let h : d ≡ key ++ ended v r = (field_is key d v r q).0 in
        let b : drop (length key) d ≡ ended v r = ap (drop (length key)) h ∙ drop-append_seam key (ended v r) in
        let o : length key + n + 1 ≡ length key + (length v + 1) = omega arith in
        record {
          value = v;
          after = r;
          is = q;
          size = sym m;
          inside = omega (arith, ap length h, length-append key (ended v r), length-append v (10 ∷ r));
          text = ap (take n) b ∙ ap (λ (k : ℕ). take k (ended v r)) m ∙ take-append_seam v (10 ∷ r);
          rest = ap (λ (k : ℕ). drop k d) o ∙ sym (drop-drop (length v + 1) (length key) d) ∙ ap (drop (length v + 1)) b ∙ drop-append-add v (10 ∷ r) 1;
        }

pub no_field : (key d : List ℕ) → None ≡ length_in (field_of key d) → field_of key d ≡ wrong
no_field key d e = go (field_of key d) e
  where
    go : (x : Field) → None ≡ length_in x → x ≡ wrong
    go wrong w = refl
    go (field v r) w = absurd (let z : ◌≡◌ {A = ℕ} 0 1 = cc in omega arith)

-- ---- the card's number, and its check
pub number_is : (s : List ℕ) {n : ℕ} → Some n ≡ number_rule 65 s → n ≡ card_number s
unfolding card_number
number_is s {n} e = by (number_below 65 s) e
  where
    by : (t : Bool) → Some n ≡ cond t (Some (decimal_value s)) None → n ≡ cond t (decimal_value s) 0
    by true f = cc
    by false f = absurd (let z : ◌≡◌ {A = ℕ} 0 1 = cc in omega arith)

pub no_number : (s : List ℕ) → None ≡ number_rule 65 s → 0 ≡ card_number s
unfolding card_number
no_number s e = by (number_below 65 s) e
  where
    by : (t : Bool) → None ≡ cond t (Some (decimal_value s)) None → 0 ≡ cond t (decimal_value s) 0
    by true f = absurd (let z : ◌≡◌ {A = ℕ} 0 1 = cc in omega arith)
    by false f = refl

pub wrong-length : (s : List ℕ) → (length s ≡ 5 → ⊥) → false ≡ is_check s
unfolding is_check
wrong-length s h = rw (ne_eqb (length s) 5 h)

pub check-digits : (s : List ℕ) {e : ℕ} → length s ≡ 5 → e ≡ 0 + length (digits_of (drop 0 s)) → eqb e 5 ≡ is_check s
unfolding is_check
check-digits s {e} h q = by (eqb (length (digits_of s)) 5) refl
  where
    k : e ≡ length (digits_of s)
    k = q ∙ zero-add (length (digits_of s))

    by : (t : Bool) → eqb (length (digits_of s)) 5 ≡ t → eqb e 5 ≡ (eqb (length s) 5 && all_digits s)
    by true f = rw (k, f, eq-eqb (length s) 5 h, (digits-all s (eqb-true (length (digits_of s)) 5 f ∙ sym h)).0)
    by false f = rw (k, f, eq-eqb (length s) 5 h, digits-not s (λ z. eqb-false (length (digits_of s)) 5 f (z ∙ h)))

-- ---- the number in the first line
pub no_line : (s : List ℕ) → None ≡ length_in (field_of card_key (drop 0 s)) → 0 ≡ line_number s
unfolding line_number
no_line s e = sym (ap number_in (no_field card_key s e))

pub line-in : (s : List ℕ) (n : ℕ) → Some n ≡ length_in (field_of card_key (drop 0 s)) → FieldIn card_key s n
line-in s n e = field_in card_key s n e

pub line-number : (s : List ℕ) (n : ℕ) → Some n ≡ length_in (field_of card_key (drop 0 s)) → card_number (take (5 + n - 5) (drop 5 s)) ≡ line_number s
unfolding line_number
line-number s n e =
    let f : FieldIn card_key s n = field_in card_key s n e in
    let k : 5 + n - 5 ≡ n = omega arith in
    ap (λ (m : ℕ). card_number (take m (drop 5 s))) k ∙ ap card_number f.text ∙ sym (ap number_in f.is)
