-- Instructions put into a draft: one after another, and a jump that is filled in when what it skips is there.
use mathlib.Core.Path.{◌≡◌, refl, sym, ap, ◌∙◌}
use mathlib.Core.List.{List, [], ◌∷◌, ◌++◌, append_assoc}
use Prim.Native.Nat.{ℕ, suc, ◌+◌, ◌≤◌, ◌<◌}
use native.Mathlib.Nat.{add-zero}
use native.Mathlib.Omega.{arith}
use lib.ListN.{length, take, length-append, length-set}
use lib.Seq.{set_comm, take-suc-set}
use Rattle.code.specs.declared.Instr.{Instr}
use Rattle.code.specs.Encode.{code_word}
use Rattle.draft.specs.private.Draft.{code_words, put_instr, put_code}

-- ---- a row of instructions
pub put_next : (s : List ℕ) (p q : ℕ) (c d : List Instr) → q ≡ p + length c → put_code (put_code s p c) q d ≡ put_code s p (c ++ d)
unfolding put_code
put_next s p q [] d e = ap (λ k. put_code s k d) (e ∙ add-zero p)
put_next s p q (i ∷ c) d e = put_next (put_instr s p i) (suc p) q c d (omega arith)

put-before : (s : List ℕ) (p q : ℕ) (i : Instr) (c : List Instr) → p < q → put_instr (put_code s q c) p i ≡ put_code (put_instr s p i) q c
unfolding put_code
put-before s p q i [] h = refl
put-before s p q i (j ∷ c) h =
    put-before (put_instr s q j) p (suc q) i c (omega arith) ∙ ap (λ l. put_code l (suc q) c) (set_comm s q p (code_word j) (code_word i) (λ e. omega arith))

pub put_fill : (s : List ℕ) (p : ℕ) (i : Instr) (c : List Instr) → put_instr (put_code s (suc p) c) p i ≡ put_code s p (i ∷ c)
unfolding put_code
put_fill s p i c = put-before s p (suc p) i c (omega arith)

-- ---- the instructions c are in the draft from the place p up to q; nothing else has changed
pub record Lies (c : List Instr) (p q : ℕ) (s s' : List ℕ) : Type 0 where
  pub ends : q ≡ p + length c
  pub code : s' ≡ put_code s p c

pub lies-one : (i : Instr) {p : ℕ} {s s' : List ℕ} → s' ≡ put_instr s p i → Lies (i ∷ []) p (suc p) s s'
unfolding put_code
lies-one i e = record { ends = omega arith; code = e }

pub lies-add : (i : Instr) {p : ℕ} {s s' : List ℕ} → s' ≡ put_instr s p i → Lies (i ∷ []) p (p + 1) s s'
unfolding put_code
lies-add i e = record { ends = refl; code = e }

pub lies-then : {c d : List Instr} {p q r : ℕ} {s s₁ s₂ : List ℕ} → Lies c p q s s₁ → Lies d q r s₁ s₂ → Lies (c ++ d) p r s s₂
lies-then {c} {d} {p} {q} {r} {s} a b = record {
  ends = omega (arith, a.ends, b.ends, length-append c d);
  code = b.code ∙ ap (λ l. put_code l q d) a.code ∙ put_next s p q c d a.ends;
}

pub lies-filled : (i : Instr) {c : List Instr} {p q : ℕ} {s s₁ s₂ : List ℕ} → Lies c (suc p) q s s₁ → s₂ ≡ put_instr s₁ p i → Lies (i ∷ c) p q s s₂
lies-filled i {c} {p} {q} {s} a e = record { ends = omega (arith, a.ends); code = e ∙ ap (λ l. put_instr l p i) a.code ∙ put_fill s p i c }

-- ---- the words of a draft with room for them
take_put : (s : List ℕ) (p : ℕ) (c : List Instr) → p + length c ≤ length s → take (p + length c) (put_code s p c) ≡ take p s ++ code_words c
unfolding put_code
take_put s p [] h = let e : p + 0 ≡ p = omega arith in rw e (sym (append-none (take p s)))
  where
    append-none : (l : List ℕ) → l ++ [] ≡ l
    append-none [] = refl
    append-none (a ∷ l) = ap (λ k. a ∷ k) (append-none l)
take_put s p (i ∷ c) h =
    let e : p + suc (length c) ≡ suc p + length c = omega arith in
    let room : suc p + length c ≤ length (put_instr s p i) = omega (arith, length-set s p (code_word i)) in
    let here : p < length s = omega arith in
    rw e
    (take_put (put_instr s p i) (suc p) c room ∙ ap (λ l. l ++ code_words c) (take-suc-set s p (code_word i) here)
    ∙ append_assoc (take p s) (code_word i ∷ []) (code_words c))

pub words-put : (s : List ℕ) (c : List Instr) → length c ≤ length s → take (length c) (put_code s 0 c) ≡ code_words c
words-put s c h =
    let e : 0 + length c ≡ length c = omega arith in
    let room : 0 + length c ≤ length s = omega arith in
    rw e at (take_put s 0 c room)
