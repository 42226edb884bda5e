-- Levels of bytes whose brackets are closed: what they rise to, and that they leave as many open as they found.
use mathlib.Core.Path.{◌≡◌, refl, sym, ap, ◌∙◌}
use mathlib.Core.Bool.{Bool, true, false, not, ◌&&◌, ◌||◌, cond}
use mathlib.Core.List.{List, [], ◌∷◌, ◌++◌, append_assoc, append-nil}
use Prim.Native.Nat.{ℕ, suc, ◌+◌, ◌-◌, ◌≤◌, max}
use native.Mathlib.Omega.{arith}
use lib.Dec.{eqb}
use Rattle.words.specs.Ascii.{byte, ascii}
use Rattle.tokens.specs.Bytes.{all}
use Rattle.tokens.proofs.Tests.{both}
use Rattle.format_laws.specs.Formatted.{open_behind, levels_from, levels}

pub at_least : (d : ℕ) (x : List ℕ) → d ≤ levels_from d x
at_least d [] = omega arith
at_least d (c ∷ cs) = omega arith

-- a byte that is no bracket
abbrev pub is_no_bracket : ℕ → Bool
is_no_bracket c = not (eqb c (byte "(") || eqb c (byte "[")) && not (eqb c (byte ")") || eqb c (byte "]"))

no-bracket : (d c : ℕ) → is_no_bracket c ≡ true → open_behind d c ≡ d
no-bracket d c = go (eqb c (byte "(") || eqb c (byte "[")) (eqb c (byte ")") || eqb c (byte "]"))
  where
    go : (a b : Bool) → (not a && not b) ≡ true → cond a (suc d) (cond b (d - 1) d) ≡ d
    go true b e = let z : ◌≡◌ {A = ℕ} 0 1 = cc in absurd (omega arith)
    go false true e = let z : ◌≡◌ {A = ℕ} 0 1 = cc in absurd (omega arith)
    go false false e = refl

-- bytes without brackets change nothing
pub plain-levels : (x : List ℕ) → all is_no_bracket x ≡ true → (d : ℕ) (rest : List ℕ) → levels_from d (x ++ rest) ≡ levels_from d rest
plain-levels [] e d rest = refl
plain-levels (c ∷ cs) e d rest =
    let b = both (is_no_bracket c) (all is_no_bracket cs) e in
    let h : levels_from (open_behind d c) (cs ++ rest) ≡ levels_from d rest =
    ap (λ (k : ℕ). levels_from k (cs ++ rest)) (no-bracket d c b.0) ∙ plain-levels cs b.1 d rest in
    omega (arith, h, at_least d rest)

-- the brackets of x are closed, and levels x of them are open at once within it
pub record Balanced (x : List ℕ) : Type 0 where
  pub rises : (d : ℕ) (rest : List ℕ) → levels_from d (x ++ rest) ≡ max (d + levels x) (levels_from d rest)

pub plain-zero : (x : List ℕ) → all is_no_bracket x ≡ true → levels x ≡ 0
plain-zero x e = ap levels (sym (append-nil x)) ∙ plain-levels x e 0 []

pub plain-balanced : (x : List ℕ) → all is_no_bracket x ≡ true → Balanced x
plain-balanced x e = record { rises = λ d rest. omega (arith, plain-levels x e d rest, plain-zero x e, at_least d rest) }

module _ (x y : List ℕ) (h : Balanced x) (k : Balanced y) where
  pub levels-append : levels (x ++ y) ≡ max (levels x) (levels y)
  levels-append = omega (arith, h.rises 0 y)

  pub append-balanced : Balanced (x ++ y)
  append-balanced =
      record {
        rises = λ d rest.
            let e : levels_from d ((x ++ y) ++ rest) ≡ levels_from d (x ++ (y ++ rest)) = ap (levels_from d) (append_assoc x y rest) in
            omega (arith, e, h.rises d (y ++ rest), k.rises d rest, levels-append, at_least d rest);
      }

-- between two brackets
module _ (a b : ℕ) (x : List ℕ) (opens : (d : ℕ) → open_behind d a ≡ suc d) (closes : (d : ℕ) → open_behind d b ≡ d - 1) (h : Balanced x) where
  closing : (d : ℕ) (rest : List ℕ) → levels_from (suc d) (b ∷ rest) ≡ max (suc d) (levels_from d rest)
  closing d rest =
      let e : open_behind (suc d) b ≡ d = closes (suc d) ∙ omega arith in
      ap (λ (k : ℕ). max (suc d) (levels_from k rest)) e

  within : (d : ℕ) (rest : List ℕ) → levels_from d (a ∷ (x ++ (b ∷ rest))) ≡ max (d + suc (levels x)) (levels_from d rest)
  within d rest =
      let e : levels_from (open_behind d a) (x ++ (b ∷ rest)) ≡ levels_from (suc d) (x ++ (b ∷ rest)) = ap (λ (k : ℕ). levels_from k (x ++ (b ∷ rest))) (opens d) in
      omega (arith, e, h.rises (suc d) (b ∷ rest), closing d rest, at_least d rest)

  pub levels-enclosed : levels (a ∷ (x ++ (b ∷ []))) ≡ suc (levels x)
  levels-enclosed = omega (arith, within 0 [])

  pub enclosed-balanced : Balanced (a ∷ (x ++ (b ∷ [])))
  enclosed-balanced =
      record {
        rises = λ d rest.
            let e : levels_from d ((a ∷ (x ++ (b ∷ []))) ++ rest) ≡ levels_from d (a ∷ (x ++ (b ∷ rest))) =
            ap (λ l. levels_from d (a ∷ l)) (append_assoc x (b ∷ []) rest) in
            omega (arith, e, within d rest, levels-enclosed);
      }

-- in parentheses, and in the brackets of an index
pub parentheses-balanced : (x : List ℕ) → Balanced x → Balanced (ascii "(" ++ (x ++ ascii ")"))
parentheses-balanced x h = enclosed-balanced (byte "(") (byte ")") x (λ d. refl) (λ d. refl) h

pub levels-parentheses : (x : List ℕ) → Balanced x → levels (ascii "(" ++ (x ++ ascii ")")) ≡ suc (levels x)
levels-parentheses x h = levels-enclosed (byte "(") (byte ")") x (λ d. refl) (λ d. refl) h

pub index-balanced : (x : List ℕ) → Balanced x → Balanced (ascii "[" ++ (x ++ ascii "]"))
index-balanced x h = enclosed-balanced (byte "[") (byte "]") x (λ d. refl) (λ d. refl) h

pub levels-index : (x : List ℕ) → Balanced x → levels (ascii "[" ++ (x ++ ascii "]")) ≡ suc (levels x)
levels-index x h = levels-enclosed (byte "[") (byte "]") x (λ d. refl) (λ d. refl) h
