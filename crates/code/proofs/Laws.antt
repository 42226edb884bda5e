-- Bytes and instructions correspond (`EncodeLaws`), and code of bytes decodes to instructions that can be encoded.
use Rattle.std.specs.Prelude.{Option}
use mathlib.Core.Path.{◌≡◌, refl, ap, ◌∙◌}
use mathlib.Core.Logic.{◌≢◌, ◌⊎◌, inl, inr}
use mathlib.Core.Bool.{Bool, true, false}
use mathlib.Core.List.{List}
use Prim.Native.Nat.{ℕ, ◌+◌, ◌*◌, ◌/◌, ◌%◌, ◌^◌, ◌≤◌, ◌<◌}
use native.Mathlib.Nat.{mod-eq_of_lt, lt_of_lt_of_le, le_trans}
use native.Mathlib.Omega.{arith}
use lib.Dec.{T, ltb, lit<, lit≤}
use lib.IntN.{ℤ, pos, negsuc}
use lib.ListN.{length, take, drop}
use lib.Seq.{take_all}
use lib.Ieee.{binary32, to_bits}
use lib.Ieee.Bits.{is_true, of_bits-to_bits, to_bits-lt}
use borrow.Author.Tests.{lt-ltb, ltb-true, ltb-false}
use Rattle.values.specs.Patterns.{low_bits}
use Rattle.values.specs.Integers.{in_range}
use Rattle.values.proofs.Ranges.{range-sfits}
use Rattle.values.proofs.patterns.Readings.{signed_low}
use Rattle.words.specs.Words.{little_endian, bytes_of}
use Rattle.words.specs.Laws.{Bytes}
use Rattle.words.proofs.Laws.{word_laws}
use Rattle.memory.specs.declared.Bank.{Bank}
use Rattle.memory.specs.declared.Bank.TheVariants.{X, C, «V», N, D, R}
use Rattle.memory.specs.Layout.{layout_of}
use Rattle.memory.specs.Numbers.{bank_number}
use Rattle.operators.specs.Tables.{unary_number, binary_number}
use Rattle.totals.specs.Totals.{good_range}
use Rattle.totals.specs.Numbers.{total_number, match_number}
use Rattle.totals.proofs.Laws.{total-laws}
use Rattle.code.specs.declared.Instr.{Instr}
use Rattle.code.specs.declared.Instr.TheVariants.{PushInt, Total, Match, Unknown}
use Rattle.code.specs.Instructions.{PUSH-INT, PUSH-REAL, JUMP, JUMP-IF-FALSE, JUMP-IF-TRUE, TICK, SINCE, LOAD, LOAD-INDEXED, UNARY, BINARY, TOTAL, MATCH}
use Rattle.code.specs.Instructions.{finite_only, load_indexed, range_bank, range_first, range_count, ranging, instruction, opcode_of, word_of}
use Rattle.code.specs.Instructions.{instruction_of, decode_at}
use Rattle.code.specs.private.Classes.{of_bank, of_unary, of_binary, of_total, of_match}
use Rattle.code.specs.Encode.{join_word, join_range, code_word, encode, Encodable, push-int, push-real, load, load-indexed, unary, binary, jump}
use Rattle.code.specs.Encode.{jump-if, push-tick, since, total, matching, EncodeLaws}
use Rattle.code.proofs.Finite.{finite-kept}
use Rattle.code.proofs.Numbers.{bank-back, unary-back, binary-back, bank-below, unary-below, binary-below, total-back, match_back, total-below}
use Rattle.code.proofs.Numbers.{match-below}
use Rattle.code.proofs.Page.{load-class, indexed-class, unary-class, binary-class, total-class, match-class}
use Rattle.code.proofs.Fetches.{eight-below}
use Rattle.code.proofs.Parts.{decode-beyond, decode-within}
use Rattle.code.proofs.Decodes.{Decodes, none, one, number-decodes}
use Rattle.totals.specs.declared.TotalOp.{TotalOp}
use Rattle.totals.specs.declared.MatchOp.{MatchOp}
use Rattle.operators.specs.declared.BinaryOp.{BinaryOp}
use Rattle.operators.specs.declared.UnaryOp.{UnaryOp}

-- ---- decoding undoes encoding
-- the number of an opcode and a word has them
pub joined-parts : (o w : ℕ) → o < 2 ^ 32 → instruction_of (join_word o w) ≡ instruction o w
joined-parts o w h =
    let opcode : opcode_of (join_word o w) ≡ o = omega arith in
    let word : word_of (join_word o w) ≡ w = omega arith in
    rw (opcode, word)

low_below : (z : ℤ) → low_bits 32 z < 2 ^ 32
low_below (pos n) = omega arith
low_below (negsuc n) = omega arith

pub elements-most : (b : Bank) → (layout_of b).elements ≤ 256
elements-most X = lit≤ tt
elements-most C = lit≤ tt
elements-most «V» = lit≤ tt
elements-most N = lit≤ tt
elements-most D = lit≤ tt
elements-most R = lit≤ tt

element-below : (b : Bank) (i : ℕ) → i < (layout_of b).elements → i < 2 ^ 32
element-below b i h = lt_of_lt_of_le h (le_trans (elements-most b) (lit≤ tt))

-- the word of a good range has its parts
range-decoded : (f : Bank → ℕ → ℕ → Instr) (b : Bank) (i n : ℕ) → T (good_range b i n) → ranging f (join_range (bank_number b) i n) ≡ f b i n
range-decoded f b i n g =
    let small = (total-laws.range_small b i n g).1 in
    let some = (total-laws.range_small b i n g).0 in
    let few = bank-below b in
    let bank : range_bank (join_range (bank_number b) i n) ≡ bank_number b = omega arith in
    let upper : join_range (bank_number b) i n / 2 ^ 8 ≡ i + 2 ^ 8 * n = omega arith in
    let lower : (i + 2 ^ 8 * n) % 2 ^ 8 ≡ i = omega arith in
    let first : range_first (join_range (bank_number b) i n) ≡ i = ap (λ (m : ℕ). m % 2 ^ 8) upper ∙ lower in
    let count : range_count (join_range (bank_number b) i n) ≡ n = omega arith in
    rw (bank, first, count, bank-back b, is_true (good_range b i n) g)

range-below : (b : Bank) (i n : ℕ) → T (good_range b i n) → join_range (bank_number b) i n < 2 ^ 32
range-below b i n g =
    let small = (total-laws.range_small b i n g).1 in
    let few = bank-below b in
    omega arith

pub word-decoded : (i : Instr) → Encodable i → instruction_of (code_word i) ≡ i
unfolding instruction
word-decoded _ (push-int z t) =
    joined-parts PUSH-INT (low_bits 32 z) (lit< tt) ∙ ap PushInt (signed_low 32 z (lit< tt) (range-sfits z (is_true (in_range z) t)).sfits)
word-decoded _ (push-real x S) =
    joined-parts PUSH-REAL (to_bits binary32 x) (lit< tt) ∙ ap finite_only (of_bits-to_bits binary32 x S.fit) ∙ finite-kept x S.real
word-decoded _ (load b i h) =
    let few = bank-below b in
    joined-parts (LOAD + bank_number b) i (omega arith) ∙ load-class (bank_number b) i (omega arith)
    ∙ rw (bank-back b, lt-ltb i (layout_of b).elements h)
word-decoded _ (load-indexed b) =
    let few = bank-below b in
    joined-parts (LOAD-INDEXED + bank_number b) 0 (omega arith) ∙ indexed-class (bank_number b) 0 (omega arith)
    ∙ ap (λ (n : (Option Bank)). of_bank load_indexed n 0) (bank-back b)
word-decoded _ (unary o) =
    let few = unary-below o in
    joined-parts (UNARY + unary_number o) 0 (omega arith) ∙ unary-class (unary_number o) 0 (omega arith)
    ∙ ap (λ (n : (Option UnaryOp)). of_unary n 0) (unary-back o)
word-decoded _ (binary o) =
    let few = binary-below o in
    joined-parts (BINARY + binary_number o) 0 (omega arith) ∙ binary-class (binary_number o) 0 (omega arith)
    ∙ ap (λ (n : (Option BinaryOp)). of_binary n 0) (binary-back o)
word-decoded _ (jump d h) = joined-parts JUMP d (lit< tt)
word-decoded _ (jump-if false d h) = joined-parts JUMP-IF-FALSE d (lit< tt)
word-decoded _ (jump-if true d h) = joined-parts JUMP-IF-TRUE d (lit< tt)
word-decoded _ push-tick = joined-parts TICK 0 (lit< tt)
word-decoded _ since = joined-parts SINCE 0 (lit< tt)
word-decoded _ (total o b i n g) =
    let few = total-below o in
    let w = join_range (bank_number b) i n in
    joined-parts (TOTAL + total_number o) w (omega arith) ∙ total-class (total_number o) w (omega arith)
    ∙ ap (λ (u : (Option TotalOp)). of_total u w) (total-back o) ∙ range-decoded (Total o) b i n g
word-decoded _ (matching o b i n g) =
    let few = match-below o in
    let w = join_range (bank_number b) i n in
    joined-parts (MATCH + match_number o) w (omega arith) ∙ match-class (match_number o) w (omega arith)
    ∙ ap (λ (u : (Option MatchOp)). of_match u w) (match_back o) ∙ range-decoded (Match o) b i n g

pub word_below : (i : Instr) → Encodable i → code_word i < 2 ^ 64
word_below _ (push-int z t) = let low = low_below z in omega arith
word_below _ (push-real x S) = let low = to_bits-lt binary32 x S.fit in omega arith
word_below _ (load b i h) = let few = bank-below b in let low = element-below b i h in omega arith
word_below _ (load-indexed b) = let few = bank-below b in omega arith
word_below _ (unary o) = let few = unary-below o in omega arith
word_below _ (binary o) = let few = binary-below o in omega arith
word_below _ (jump d h) = omega arith
word_below _ (jump-if false d h) = omega arith
word_below _ (jump-if true d h) = omega arith
word_below _ push-tick = omega arith
word_below _ since = omega arith
word_below _ (total o b i n g) = let few = total-below o in let low = range-below b i n g in omega arith
word_below _ (matching o b i n g) = let few = match-below o in let low = range-below b i n g in omega arith

decoded : (i : Instr) → Encodable i → decode_at (encode i) 0 ≡ i
decoded i e =
    decode-within (encode i) 0 (lit< tt)
    ∙ ap instruction_of (word_laws.decode_encode 8 (code_word i) ∙ mod-eq_of_lt (word_below i e))
    ∙ word-decoded i e

-- ---- encoding undoes decoding
part-decodes : (s : List ℕ) (p : ℕ) → Bytes s → p < length s / 8 → Decodes (little_endian (take 8 (drop (8 * p) s))) (decode_at s p)
part-decodes s p B h = rw (decode-within s p h) (number-decodes (little_endian (take 8 (drop (8 * p) s))) (eight-below s p B h))

encoded : (bs : List ℕ) → length bs ≡ 8 → Bytes bs → decode_at bs 0 ≢ Unknown → (encode (decode_at bs 0) ≡ bs) × Encodable (decode_at bs 0)
encoded bs h B n = whole (part-decodes bs 0 B (omega arith))
  where
    back : bytes_of 8 (little_endian (take 8 bs)) ≡ bs
    back = rw (take_all 8 bs (omega arith)) (rw h at (word_laws.encode_decode bs B))

    whole : Decodes (little_endian (take 8 bs)) (decode_at bs 0) → (encode (decode_at bs 0) ≡ bs) × Encodable (decode_at bs 0)
    whole d = by d n
      where
        by : {i : Instr} → Decodes (little_endian (take 8 bs)) i → i ≢ Unknown → (encode i ≡ bs) × Encodable i
        by none m = absurd (m refl)
        by (one e q) m = (ap (bytes_of 8) q ∙ back, e)

pub encode-laws : EncodeLaws
encode-laws = record { decoded = decoded; encoded = encoded }

-- ---- what is decoded
pub decode-encodable : (s : List ℕ) (p : ℕ) → Bytes s → Encodable (decode_at s p) ⊎ (decode_at s p ≡ Unknown)
decode-encodable s p B = by (ltb p (length s / 8)) refl
  where
    kept : {n : ℕ} {i : Instr} → Decodes n i → Encodable i ⊎ (i ≡ Unknown)
    kept none = inr refl
    kept (one e q) = inl e

    by : (t : Bool) → ltb p (length s / 8) ≡ t → Encodable (decode_at s p) ⊎ (decode_at s p ≡ Unknown)
    by true e = kept (part-decodes s p B (ltb-true p (length s / 8) e))
    by false e = inr (decode-beyond s p (ltb-false p (length s / 8) e))
