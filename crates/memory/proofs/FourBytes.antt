-- Numbers of up to four bytes as the code reads and writes them, by the library's four bytes of a word. Assumes nothing.
use mathlib.Core.Path.{◌≡◌, refl, sym, ap, ◌∙◌, subst}
use mathlib.Core.List.{List, [], ◌∷◌, ◌++◌, append_assoc}
use Prim.Native.Nat.{ℕ, zero, suc, ◌+◌, ◌-◌, ◌*◌, ◌/◌, ◌%◌, ◌^◌, ◌≤◌, ◌<◌}
use native.Mathlib.Omega.{arith}
use lib.ListN.{length, get_or, take, drop}
use lib.Seq.{drop-drop, sets, sets-eq}
use Rattle.words.specs.Words.{little_endian, bytes_of}
use Rattle.words.specs.Laws.{Bytes}
use Rattle.words.proofs.Laws.{word_laws}
use Rattle.memory.proofs.Runs.{run_length, run-bytes}

-- ---- read: the bytes, and zeros behind them
abbrev word : List ℕ → ℕ
word bs = get_or bs 0 0 + get_or bs 1 0 * 256 + get_or bs 2 0 * 65536 + get_or bs 3 0 * 16777216

abbrev filled : List ℕ → ℕ → List ℕ
filled bs n = bs ++ drop n (0 ∷ 0 ∷ 0 ∷ 0 ∷ [])

number : (bs : List ℕ) → length bs ≤ 4 → word (filled bs (length bs)) ≡ little_endian bs
number [] h = refl
number (a ∷ []) h = omega arith
number (a ∷ b ∷ []) h = omega arith
number (a ∷ b ∷ c ∷ []) h = omega arith
number (a ∷ b ∷ c ∷ d ∷ []) h = omega arith
number (a ∷ b ∷ c ∷ d ∷ e ∷ bs) h = absurd (omega arith)

module _ (s : List ℕ) (at n : ℕ) (small : n ≤ 4) (within : at + n ≤ length s) where
  pub read : (bs : List ℕ) → bs ≡ take (at + n - at) (drop at s) → word (filled bs n) ≡ little_endian (take n (drop at s))
  read bs e =
      let m : at + n - at ≡ n = omega arith in
      let is : bs ≡ take n (drop at s) = rw m at e in
      let k : length bs ≡ n = rw is (run_length s at n within) in
      subst (λ (j : ℕ). word (filled bs j) ≡ little_endian bs) k (number bs (omega (arith, k))) ∙ ap little_endian is

  pub bounded : {r : ℕ} → Bytes s → r ≡ little_endian (take n (drop at s)) → r < 256 ^ n
  bounded bytes e = rw e (rw (run_length s at n within) at (word_laws.below (take n (drop at s)) (run-bytes s at n bytes)))

-- ---- written: the lowest bytes of four
abbrev four : ℕ → List ℕ
four n = n % 256 ∷ n / 256 % 256 ∷ n / 65536 % 256 ∷ n / 16777216 % 256 ∷ []

lowest : (k n : ℕ) → k ≤ 4 → take k (four n) ≡ bytes_of k n
lowest zero n h = refl
lowest (suc zero) n h = refl
lowest (suc (suc zero)) n h = refl
lowest (suc (suc (suc zero))) n h =
    let e : n / 65536 ≡ n / 256 / 256 = omega arith in
    rw e
lowest (suc (suc (suc (suc zero)))) n h =
    let e : n / 65536 ≡ n / 256 / 256 = omega arith in
    let f : n / 16777216 ≡ n / 256 / 256 / 256 = omega arith in
    rw (e, f)
lowest (suc (suc (suc (suc (suc k))))) n h = absurd (omega arith)

pub written : (s : List ℕ) (at k n : ℕ) {bs ws : List ℕ} → k ≤ 4 → at + k ≤ length s → ws ≡ four n → bs ≡ take k ws
    → take at s ++ (bs ++ drop (at + k - at) (drop at s)) ≡ sets s at (bytes_of k n)
written s at k n {bs} {ws} small within w b =
    let is : bs ≡ bytes_of k n = b ∙ ap (take k) w ∙ lowest k n small in
    let size : length (bytes_of k n) ≡ k = word_laws.count k n in
    let m : at + k - at ≡ k = omega arith in
    let all = rw size at (sets-eq (bytes_of k n) s at (rw size within)) in
    rw (m, is)
    (ap (λ (r : List ℕ). take at s ++ (bytes_of k n ++ r)) (drop-drop k at s)
    ∙ sym (append_assoc (take at s) (bytes_of k n) (drop (at + k) s))
    ∙ sym all)
