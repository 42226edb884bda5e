-- What a buffer holds of a text that goes on: a byte, some bytes, parentheses around its last part.
use mathlib.Core.Path.{◌≡◌, sym, ap, subst, ◌∙◌}
use mathlib.Core.List.{List, [], ◌∷◌, ◌++◌, append_assoc, append-nil}
use Prim.Native.Nat.{ℕ, suc, ◌+◌, ◌-◌, ◌≤◌, ◌<◌}
use native.Mathlib.Numerals.{add-one}
use native.Mathlib.Omega.{arith}
use lib.ListN.{length, get_or, take, drop, set, length-append, length-set}
use lib.Seq.{take-suc, take-suc-set, length-take-le, take-take, take_at, drop_at, take-add, drop-cons, drop-set-lt}
use Rattle.words.specs.Ascii.{ascii, byte}
use Rattle.format_writer.specs.private.Scratch.{Holds, kept, lost, StartsBehind}

-- how long a text is that the buffer holds
held-length : {o : List ℕ} (buf : List ℕ) (n : ℕ) → n ≤ length buf → take n buf ≡ o → n ≡ length o
held-length buf n h e = sym (length-take-le n buf h) ∙ ap length e

pub starts-behind : {o buf : List ℕ} {n : ℕ} → Holds o buf n → (m : List ℕ) → length m ≡ length buf → StartsBehind o m n
starts-behind {buf = buf} {n = n} (kept h e) m q l = held-length buf n h e
starts-behind (lost h k) m q l = absurd (omega (arith, q))

-- ---- one byte more
module _ {o buf : List ℕ} {n : ℕ} (b : ℕ) where
  pub put-inside : n < length buf → Holds o buf n → Holds (o ++ (b ∷ [])) (set buf n b) (n + 1)
  put-inside l (kept h e) =
      let z : n + 1 ≤ length (set buf n b) = omega (arith, length-set buf n b) in
      kept z (rw add-one (take-suc-set buf n b l ∙ ap (λ (x : List ℕ). x ++ (b ∷ [])) e))
  put-inside l (lost h k) = absurd (omega arith)

  pub put-outside : length buf ≤ n → Holds o buf n → Holds (o ++ (b ∷ [])) buf (length buf + 1)
  put-outside l (kept h e) = let q = held-length buf n h e in let z = length-append o (b ∷ []) in lost (omega arith) (omega arith)
  put-outside l (lost h k) = let z = length-append o (b ∷ []) in lost (omega arith) (omega arith)

-- ---- some bytes
pub nothing_yet : {o buf : List ℕ} {n : ℕ} → Holds o buf n → Holds (o ++ []) buf n
nothing_yet {o} {buf} {n} h = subst (λ (x : List ℕ). Holds x buf n) (sym (append-nil o)) h

pub one_more : (o : List ℕ) {buf : List ℕ} {n : ℕ} (bytes : List ℕ) (k : ℕ) → k < length bytes → Holds (o ++ take k bytes ++ (get_or bytes k 0 ∷ [])) buf n
    → Holds (o ++ take (k + 1) bytes) buf n
one_more o {buf} {n} bytes k l h =
    let e : o ++ take k bytes ++ (get_or bytes k 0 ∷ []) ≡ o ++ take (k + 1) bytes =
    append_assoc o (take k bytes) (get_or bytes k 0 ∷ []) ∙ ap (λ (x : List ℕ). o ++ x)
    (sym (take-suc bytes k 0 l) ∙ ap (λ (i : ℕ). take i bytes) (sym (add-one k))) in
    subst (λ (x : List ℕ). Holds x buf n) e h

-- ---- a part moved by one byte: c is carried to the place i
abbrev pub Carries : List ℕ → ℕ → ℕ → ℕ → List ℕ → Type 0
Carries m c i n y = take i m ++ (c ∷ take (n - i) (drop i m)) ≡ y

pub carries-first : (m : List ℕ) (n a : ℕ) (o x : List ℕ) → n < length m → take n m ≡ o ++ x → a ≡ length o → (a ≤ n) × Carries m
    (byte "(") a n (o ++ (byte "(" ∷ x))
carries-first m n a o x h e q =
    let l : n ≡ length o + length x = sym (length-take-le n m (omega arith)) ∙ ap length e ∙ length-append o x in
    let le : a ≤ n = omega arith in
    let p : take a m ≡ o = sym (take-take a n m le) ∙ ap (take a) e ∙ take_at o x a (sym q) in
    let s : a + (n - a) ≡ n = omega arith in
    let w : take n m ≡ take a m ++ take (n - a) (drop a m) = ap (λ (i : ℕ). take i m) (sym s) ∙ take-add a (n - a) m in
    let d : take (n - a) (drop a m) ≡ x =
    sym (drop_at (take a m) (take (n - a) (drop a m)) a (length-take-le a m (omega arith))) ∙ ap (drop a) (sym w ∙ e) ∙ drop_at o x a (sym q) in
    (le, ap (λ (y : List ℕ). y ++ (byte "(" ∷ take (n - a) (drop a m))) p ∙ ap (λ (y : List ℕ). o ++ (byte "(" ∷ y)) d)

pub carries-on : (m : List ℕ) (n i c : ℕ) (y : List ℕ) → i < n → n < length m → Carries m c i n y → Carries (set m i c) (get_or m i 0) (i + 1) n y
carries-on m n i c y l h e =
    let d : drop i m ≡ get_or m i 0 ∷ drop (suc i) m = drop-cons m i 0 (omega arith) in
    let k : n - i ≡ suc (n - suc i) = omega arith in
    let part : take (n - i) (drop i m) ≡ get_or m i 0 ∷ take (n - suc i) (drop (suc i) m) = rw (d, k) in
    let a : take (suc i) (set m i c) ≡ take i m ++ (c ∷ []) = take-suc-set m i c (omega arith) in
    let b : drop (suc i) (set m i c) ≡ drop (suc i) m = drop-set-lt (suc i) m i c (omega arith) in
    rw (add-one, a, b, append_assoc) (ap (λ (z : List ℕ). take i m ++ (c ∷ z)) (sym part) ∙ e)

pub carries-last : (m : List ℕ) (n i c : ℕ) (y : List ℕ) → i ≤ n → n ≤ i → n < length m → Carries m c i n y → take (n + 1) (set m n c) ≡ y
carries-last m n i c y l g h e =
    let q : i ≡ n = omega arith in
    let z : n - n ≡ 0 = omega arith in
    let e' : take n m ++ (c ∷ take (n - n) (drop n m)) ≡ y = subst (λ (j : ℕ). Carries m c j n y) q e in
    rw add-one (take-suc-set m n c h ∙ rw z at e')

-- ---- parentheses
module _ (o x : List ℕ) where
  enclosed-length : length (o ++ (ascii "(" ++ (x ++ ascii ")"))) ≡ length (o ++ x) + 2
  enclosed-length =
      let a = length-append o (ascii "(" ++ (x ++ ascii ")")) in
      let b = length-append x (ascii ")") in
      let d = length-append o x in
      omega (arith, a, b, d)

  pub no_room : {buf : List ℕ} {n : ℕ} → length buf < n + 2 → Holds (o ++ x) buf n → Holds (o ++ (ascii "(" ++ (x ++ ascii ")"))) buf (length buf + 1)
  no_room {buf} {n} l (kept h e) = let q = held-length buf n h e in lost (omega (arith, enclosed-length)) (omega arith)
  no_room l (lost h k) = lost (omega (arith, enclosed-length)) (omega arith)

  -- after the part was moved
  pub moved : {buf m : List ℕ} {n start : ℕ} → n + 2 ≤ length buf → length m ≡ length buf → StartsBehind o buf start → Holds (o ++ x) buf n
      → ((p q : List ℕ) → take n buf ≡ p ++ q → start ≡ length p → take (n + 1) m ≡ p ++ (byte "(" ∷ q)) → Holds (o ++ (byte "(" ∷ x)) m (n + 1)
  moved {buf = buf} {n = n} l s b (kept h e) f = let q = held-length buf n h e in let z = length-append o x in
      kept (omega (arith, s)) (f o x e (b (omega arith)))
  moved l s b (lost h k) f = absurd (omega arith)

  pub closed : {m : List ℕ} {n : ℕ} → Holds (o ++ (byte "(" ∷ x) ++ (byte ")" ∷ [])) m n → Holds (o ++ (ascii "(" ++ (x ++ ascii ")"))) m n
  closed {m} {n} h = subst (λ (y : List ℕ). Holds y m n) (append_assoc o (byte "(" ∷ x) (byte ")" ∷ [])) h
