-- The words of a list's result, filled in one after the other. Assumes nothing.
use mathlib.Core.Path.{◌≡◌, refl, sym, ap, ◌∙◌}
use mathlib.Core.List.{List, [], ◌∷◌, ◌++◌, append_assoc, append-nil}
use Prim.Native.Nat.{ℕ, suc, ◌+◌, ◌-◌, ◌≤◌, ◌<◌}
use native.Mathlib.Omega.{arith}
use lib.ListN.{length, take, get_or, set, replicate, length-take}
use lib.Seq.{take-suc, take_all, set_at}

-- the first i answers stand behind the operation's own
pub record Filled (a : ℕ) (answers words : List ℕ) (i : ℕ) : Type 0 where
  pub low : i ≤ 40
  pub words_are : words ≡ (a ∷ take i answers) ++ replicate (40 - i) a

pub start : (a : ℕ) (answers : List ℕ) → Filled a answers (replicate 41 a) 0
start a answers = record { low = omega arith; words_are = refl }

pub next : {a i : ℕ} {answers words : List ℕ} → i < 40 → length answers ≡ 40 → Filled a answers words i
    → Filled a answers (set words (i + 1) (get_or answers i 0)) (i + 1)
next {a} {i} {answers} {words} h k f =
    let x = get_or answers i 0 in
    let front = a ∷ take i answers in
    let unused : List ℕ = replicate (40 - (i + 1)) a in
    let less : 40 - i ≡ suc (40 - (i + 1)) = omega arith in
    let here : i + 1 ≡ suc i = omega arith in
    let size : length front ≡ i + 1 = ap suc (length-take i answers) ∙ omega (arith, k) in
    record {
      low = omega arith;
      words_are =
          ap (λ (l : List ℕ). set l (i + 1) x) (f.words_are ∙ ap (λ (n : ℕ). front ++ replicate n a) less)
          ∙ set_at front a unused x (i + 1) size
          ∙ sym (append_assoc front (x ∷ []) unused)
          ∙ ap (λ (l : List ℕ). (a ∷ l) ++ unused) (sym (take-suc answers i 0 (omega (arith, k))) ∙ ap (λ (n : ℕ). take n answers) (sym here));
    }

pub end : {a i : ℕ} {answers words : List ℕ} → 40 ≤ i → length answers ≡ 40 → Filled a answers words i → words ≡ a ∷ answers
end {a} {i} {answers} {words} h k f =
    let none : 40 - i ≡ 0 = omega (arith, f.low) in
    f.words_are
    ∙ ap (λ (n : ℕ). (a ∷ take i answers) ++ replicate n a) none
    ∙ append-nil (a ∷ take i answers)
    ∙ ap (λ (l : List ℕ). a ∷ l) (take_all i answers (omega (arith, k)))

pub both : {a b : ℕ} {l m : List ℕ} → a ≡ b → l ≡ m → a ∷ l ≡ b ∷ m
both p q = cc
