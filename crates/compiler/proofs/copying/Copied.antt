-- Words copied as bytes, a word after the other.
use mathlib.Core.Path.{◌≡◌, refl, sym, ap, ◌∙◌}
use mathlib.Core.List.{List, [], ◌∷◌, ◌++◌, append_assoc, append-nil}
use Prim.Native.Nat.{ℕ, suc, ◌+◌, ◌*◌, ◌/◌, ◌≤◌, ◌<◌}
use native.Mathlib.Nat.{add-zero, zero-add}
use native.Mathlib.Numerals.{add-one}
use native.Mathlib.Omega.{arith}
use lib.ListN.{length, get_or, set, take, drop, length-append}
use lib.Seq.{sets, sets-eq, take-suc, length-take-le}
use borrow.Rule.Slice.PartMut.{put_mid}
use Rattle.std.specs.Int.{w64, to_le_bytes}
use Rattle.std.proofs.lemmas.Slice.{put_mid-paste}
use Rattle.std.proofs.lemmas.List.Edits.{paste_all}
use Rattle.words.specs.Words.{bytes_of}
use Rattle.draft.specs.private.Draft.{word_bytes}

sets-append : (s : List ℕ) (i : ℕ) (a b : List ℕ) → sets s i (a ++ b) ≡ sets (sets s i a) (i + length a) b
sets-append s i [] b = ap (λ k. sets s k b) (sym (add-zero i))
sets-append s i (x ∷ a) b =
    let e : suc i + length a ≡ i + suc (length a) = omega arith in
    sets-append (set s i x) (suc i) a b ∙ ap (λ k. sets (sets s i (x ∷ a)) k b) e

bytes-append : (a b : List ℕ) → word_bytes (a ++ b) ≡ word_bytes a ++ word_bytes b
unfolding word_bytes
bytes-append [] b = refl
bytes-append (w ∷ a) b = rw (bytes-append a b) (sym (append_assoc (bytes_of 8 w) (word_bytes a) (word_bytes b)))

bytes_count : (a : List ℕ) → length (word_bytes a) ≡ 8 * length a
unfolding word_bytes
bytes_count [] = refl
bytes_count (w ∷ a) = length-append (bytes_of 8 w) (word_bytes a) ∙ rw (bytes_count a) (omega arith)

-- the bytes of a word by one division each
bytes-by : (w : ℕ) → to_le_bytes w64 w ≡ bytes_of 8 w
bytes-by w =
    let two : w / 65536 ≡ w / 256 / 256 = omega arith in
    let three : w / 16777216 ≡ w / 256 / 256 / 256 = omega arith in
    let four : w / 4294967296 ≡ w / 256 / 256 / 256 / 256 = omega arith in
    let five : w / 1099511627776 ≡ w / 256 / 256 / 256 / 256 / 256 = omega arith in
    let six : w / 281474976710656 ≡ w / 256 / 256 / 256 / 256 / 256 / 256 = omega arith in
    let seven : w / 72057594037927936 ≡ w / 256 / 256 / 256 / 256 / 256 / 256 / 256 = omega arith in
    rw (two, three, four, five, six, seven) refl

-- a part that is written whole
written : (t : List ℕ) (p k : ℕ) (bs : List ℕ) → k ≡ length bs → p + length bs ≤ length t → put_mid p k t bs ≡ sets t p bs
written t p k bs e h =
    put_mid-paste p k t bs bs (length bs) refl (sym e) refl ∙ paste_all t p bs (length bs) refl
    ∙ sym (append_assoc (take p t) bs (drop (p + length bs) t)) ∙ sym (sets-eq bs t p h)

module _ (d s : List ℕ) (i : ℕ) (h : i < length d) where
  one_more : sets (sets s 0 (word_bytes (take i d))) (8 * i) (bytes_of 8 (get_or d i 0)) ≡ sets s 0 (word_bytes (take (suc i) d))
  unfolding word_bytes
  one_more =
      let n : 0 + length (word_bytes (take i d)) ≡ 8 * i = zero-add _ ∙ bytes_count (take i d) ∙ ap (λ k. 8 * k) (length-take-le i d (omega arith)) in
      rw (
        take-suc d i 0 h,
        bytes-append (take i d) (get_or d i 0 ∷ []),
        append-nil (bytes_of 8 (get_or d i 0)),
        sets-append s 0 (word_bytes (take i d)) (bytes_of 8 (get_or d i 0)),
        n,
      )

  -- the first i words are there as bytes, and now the next
  pub copied_more : {t bs : List ℕ} {k : ℕ} → t ≡ sets s 0 (word_bytes (take i d)) → bs ≡ to_le_bytes w64 (get_or d i 0) → k ≡ 8
      → 8 * i + 8 ≤ length t → put_mid (8 * i) k t bs ≡ sets s 0 (word_bytes (take (i + 1) d))
  copied_more {t} {bs} {k} q e z room =
      let whole : bs ≡ bytes_of 8 (get_or d i 0) = e ∙ bytes-by (get_or d i 0) in
      let eight : length bs ≡ 8 = ap length whole in
      written t (8 * i) k bs (z ∙ sym eight) (omega (arith, eight, room))
      ∙ ap (sets t (8 * i)) whole
      ∙ ap (λ u. sets u (8 * i) (bytes_of 8 (get_or d i 0))) q
      ∙ one_more
      ∙ ap (λ n. sets s 0 (word_bytes (take n d))) (sym (add-one i))
