-- The lines of a listing, put one behind the other, and what the check says of the code. Assumes nothing.
use Rattle.std.specs.Prelude.{Option, Some, None}
use mathlib.Core.Path.{◌≡◌, refl, sym, ap, ◌∙◌}
use mathlib.Core.Bool.{false≢true}
use mathlib.Core.List.{List, [], ◌++◌, append-nil, append_assoc}
use Prim.Native.Nat.{ℕ, suc, ◌+◌, ◌-◌, ◌*◌, ◌≤◌, ◌<◌}
use native.Mathlib.Nat.{zero-add}
use native.Mathlib.Numerals.{add-one}
use native.Mathlib.Omega.{arith}
use lib.ListN.{length}
use lib.Seq.{length-sets}
use borrow.Author.Tests.{lt-ltb, le-ltb}
use Rattle.words.specs.Ascii.{ascii}
use Rattle.memory.specs.declared.Bank.{Bank}
use Rattle.memory.specs.Numbers.{bank_numbered, bank_number}
use Rattle.code.specs.declared.Instr.{Instr}
use Rattle.code.specs.declared.Instr.TheVariants.{Unknown}
use Rattle.code.specs.private.Classes.{number_of}
use Rattle.code.specs.Instructions.{word_of, range_bank, range_first, range_count, fetched, instruction_of, decode_at, decode_from, instructions}
use Rattle.code.proofs.Parts.{decode-fetched, decode-length, decode-at}
use Rattle.values.specs.declared.Kind.{Kind}
use Rattle.verifier.specs.Typing.{well_formed}
use Rattle.verifier.specs.Accepts.{instr_at, Accepts, CorrectVerdict}
use Rattle.verifier.proofs.Verdicts.{verdict-laws}
use Rattle.lines.specs.Printing.{decimal_text, cell_name}
use Rattle.lines.specs.private.Steps.{Puts}
use Rattle.lines.proofs.Stores.{then, as-text, none-put}
use Rattle.text_tables.specs.Tables.{row_at}
use Rattle.code_listing.specs.Listing.{range_text, instr_text, line_text, lines_from, listing_room, verdict_listed, listed}
use Rattle.code_listing.specs.private.Parts.{letter_of, cell_of, range_of, KnownCode}
use Rattle.code_listing.proofs.Texts.{letter-row}

-- ---- one line
pub line-is : (p : ℕ) (i : Instr) → ((decimal_text p ++ ascii " ") ++ instr_text p i) ++ ascii "\n" ≡ line_text p i
line-is p i =
    append_assoc (decimal_text p ++ ascii " ") (instr_text p i) (ascii "\n") ∙ append_assoc (decimal_text p) (ascii " ") (instr_text p i ++ ascii "\n")

pub range-is : (c d n : List ℕ) → ((ascii " " ++ c) ++ d) ++ n ≡ ascii " " ++ (c ++ (d ++ n))
range-is c d n = append_assoc (ascii " " ++ c) d n

-- ---- a bank by its number, as the code finds it
found : {x y : (Option Bank)} {k n : ℕ} → k ≡ n → x ≡ bank_numbered k → x ≡ y → bank_numbered n ≡ y
found a b e = sym (ap bank_numbered a) ∙ (sym b ∙ e)

module _ (w : ℕ) {x : (Option Bank)} {k : ℕ} (a : k ≡ number_of w) (q : x ≡ bank_numbered k) where
  pub cell-known : {b : Bank} → x ≡ Some b → {v : ℕ} → v ≡ word_of w → ascii "LOAD " ++ cell_name b v ≡ ascii "LOAD " ++ cell_of (bank_numbered (number_of w))
      (word_of w)
  cell-known {b} e r =
      ap (λ (v : ℕ). ascii "LOAD " ++ cell_name b v) r ∙ sym (ap (λ (y : (Option Bank)). ascii "LOAD " ++ cell_of y (word_of w)) (found a q e))

  pub cell-none : x ≡ None → ascii "LOAD " ++ [] ≡ ascii "LOAD " ++ cell_of (bank_numbered (number_of w)) (word_of w)
  cell-none e = sym (ap (λ (y : (Option Bank)). ascii "LOAD " ++ cell_of y (word_of w)) (found a q e))

  pub letter-known : {b : Bank} → x ≡ Some b → {v : ℕ} → v ≡ bank_number b
      → ascii "LOAD_INDEXED " ++ row_at v (ascii "X\nC\nV\nN\nD\nR") ≡ ascii "LOAD_INDEXED " ++ letter_of (bank_numbered (number_of w))
  letter-known {b} e r =
      ap (λ (v : ℕ). ascii "LOAD_INDEXED " ++ row_at v (ascii "X\nC\nV\nN\nD\nR")) r ∙ ap (λ (s : List ℕ). ascii "LOAD_INDEXED " ++ s) (letter-row b)
      ∙ sym (ap (λ (y : (Option Bank)). ascii "LOAD_INDEXED " ++ letter_of y) (found a q e))

  pub letter-none : x ≡ None → ascii "LOAD_INDEXED " ++ [] ≡ ascii "LOAD_INDEXED " ++ letter_of (bank_numbered (number_of w))
  letter-none e = sym (ap (λ (y : (Option Bank)). ascii "LOAD_INDEXED " ++ letter_of y) (found a q e))

module _ (w : ℕ) {x : (Option Bank)} {k : ℕ} (a : k ≡ range_bank w) (q : x ≡ bank_numbered k) where
  pub range-known : {b : Bank} → x ≡ Some b → {i n : ℕ} → i ≡ range_first w → n ≡ range_count w
      → ((ascii " " ++ cell_name b i) ++ ascii " ") ++ decimal_text n ≡ range_of (bank_numbered (range_bank w)) (range_first w) (range_count w)
  range-known {b} e {i} {n} f g =
      range-is (cell_name b i) (ascii " ") (decimal_text n) ∙ ap (λ (m : ℕ). range_text b i m) g ∙ ap (λ (m : ℕ). range_text b m (range_count w)) f
      ∙ sym (ap (λ (y : (Option Bank)). range_of y (range_first w) (range_count w)) (found a q e))

  pub range_none : x ≡ None → [] ≡ range_of (bank_numbered (range_bank w)) (range_first w) (range_count w)
  range_none e = sym (ap (λ (y : (Option Bank)). range_of y (range_first w) (range_count w)) (found a q e))

pub ranging-is : (table : List ℕ) (w : ℕ) {k v : ℕ} → k ≡ number_of w → v ≡ word_of w
    → row_at k table ++ range_of (bank_numbered (range_bank v)) (range_first v) (range_count v)
    ≡ row_at (number_of w) table ++ range_of (bank_numbered (range_bank (word_of w))) (range_first (word_of w)) (range_count (word_of w))
ranging-is table w {k} {v} a b =
    ap (λ (n : ℕ). row_at n table ++ range_of (bank_numbered (range_bank v)) (range_first v) (range_count v)) a
    ∙ ap (λ (u : ℕ). row_at (number_of w) table ++ range_of (bank_numbered (range_bank u)) (range_first u) (range_count u)) b

pub row_same : (table : List ℕ) {k n : ℕ} → k ≡ n → length (row_at k table) ≡ length (row_at n table)
row_same table e = ap (λ (m : ℕ). length (row_at m table)) e

-- ---- line by line: what is put, and the lines that are left behind it, are the whole
pub record Putting (old code : List ℕ) (n : ℕ) (now : List ℕ) (at place : ℕ) : Type 0 where
  pub text : List ℕ
  pub put : Puts old 0 now at text
  pub whole : text ++ lines_from place (decode_from code place (n - place)) ≡ lines_from 0 (decode_from code 0 n)
  pub short : at ≤ 32 * place
  pub inside : place ≤ n

pub start : (old code : List ℕ) (n : ℕ) → Putting old code n old 0 0
start old code n =
    let same : n - 0 ≡ n = omega arith in
    record { text = []; put = none-put old 0; whole = ap (λ (k : ℕ). lines_from 0 (decode_from code 0 k)) same; short = omega arith; inside = omega arith }

module _ {old code : List ℕ} {n : ℕ} {now : List ℕ} {at place : ℕ} (p : Putting old code n now at place) where
  pub long : length now ≡ length old
  long = ap length p.put.bytes ∙ length-sets old 0 p.text

  left_is : (m : ℕ) → lines_from place (decode_from code place (suc m)) ≡ line_text place (decode_at code place)
      ++ lines_from (suc place) (decode_from code (suc place) m)
  unfolding lines_from decode_from
  left_is m = refl

  more : (m : ℕ) → n - place ≡ suc m → (p.text ++ line_text place (decode_at code place)) ++ lines_from (suc place) (decode_from code (suc place) m)
      ≡ lines_from 0 (decode_from code 0 n)
  more m e =
      append_assoc p.text (line_text place (decode_at code place)) (lines_from (suc place) (decode_from code (suc place) m))
      ∙ ap (λ (s : List ℕ). p.text ++ s) (sym (left_is m))
      ∙ sym (ap (λ (k : ℕ). p.text ++ lines_from place (decode_from code place k)) e) ∙ p.whole

  pub next : {new : List ℕ} {at' w : ℕ} → place < n → w ≡ fetched code place → Puts now at new at' (line_text place (instruction_of w)) → at' ≤ at + 32
      → Putting old code n new at' (place + 1)
  next {new} {at'} {w} h e q r =
      let instr : instruction_of w ≡ decode_at code place = ap instruction_of e ∙ sym (decode-fetched code place) in
      let one : suc place ≡ place + 1 = sym (add-one place) in
      let m : n - place ≡ suc (n - (place + 1)) = omega arith in
      record {
        text = p.text ++ line_text place (decode_at code place);
        put = then p.put (as-text (ap (line_text place) instr) q);
        whole = sym (ap (λ (k : ℕ). (p.text ++ line_text place (decode_at code place)) ++ lines_from k (decode_from code k (n - (place + 1)))) one)
            ∙ more (n - (place + 1)) m;
        short = omega (arith, p.short);
        inside = omega arith;
      }

  nothing_left : lines_from place (decode_from code place 0) ≡ []
  unfolding lines_from decode_from
  nothing_left = refl

  pub end : n ≤ place → Puts old 0 now at (lines_from 0 (instructions code n)) × (at ≤ 32 * n)
  end h =
      let none : n - place ≡ 0 = omega arith in
      let all : p.text ≡ lines_from 0 (decode_from code 0 n) =
      sym (append-nil p.text) ∙ sym (ap (λ (s : List ℕ). p.text ++ s) nothing_left)
      ∙ sym (ap (λ (k : ℕ). p.text ++ lines_from place (decode_from code place k)) none) ∙ p.whole in
      (as-text all p.put, omega (arith, p.short, p.inside))

pub known-there : {code : List ℕ} {n place w : ℕ} → KnownCode code n → place < n → w ≡ fetched code place → instruction_of w ≡ Unknown → ⊥
known-there {code} {n} {place} k h e u = k.known place h (decode-fetched code place ∙ sym (ap instruction_of e) ∙ u)

-- ---- what the check says
module _ {code : List ℕ} {n : ℕ} {v : (Option Kind)} (c : CorrectVerdict code n v) where
  all_known : (k : Kind) → Accepts (instructions code n) k → KnownCode code n
  all_known k a =
      record {
        known = λ p h e.
            let l : p < length (instructions code n) = rw (decode-length code 0 n) h in
            let u : instr_at (instructions code n) p ≡ Unknown = decode-at code 0 n p h ∙ ap (decode_at code) (zero-add p) ∙ e in
            false≢true (sym (ap (well_formed (length (instructions code n) - suc p)) u) ∙ a.each p l);
      }

  pub accepted-known : (k : Kind) → v ≡ Some k → KnownCode code n × (n ≤ 2048)
  accepted-known k e =
      let a = c.sound k e in
      (all_known k a, omega (arith, a.few, decode-length code 0 n))

  listed_by : (room : ℕ) → listing_room ≤ room → verdict_listed (instructions code n) v ≡ listed room (instructions code n)
  listed_by room h =
      ap (verdict_listed (instructions code n)) (verdict-laws.determined code n v c)
      ∙ sym (rw (le-ltb room listing_room h) refl)

  pub good-is : (room : ℕ) (k : Kind) → listing_room ≤ room → v ≡ Some k
      → record { answer = 0; text = lines_from 0 (instructions code n) } ≡ listed room (instructions code n)
  good-is room k h e = sym (ap (verdict_listed (instructions code n)) e) ∙ listed_by room h

  pub bad-is : (room : ℕ) → listing_room ≤ room → v ≡ None → record { answer = 15; text = [] } ≡ listed room (instructions code n)
  bad-is room h e = sym (ap (verdict_listed (instructions code n)) e) ∙ listed_by room h

pub short-is : (room : ℕ) (c : List Instr) → room < listing_room → record { answer = 10; text = [] } ≡ listed room c
short-is room c h = rw (lt-ltb room listing_room h)
