-- Results that stand for the parser's, put together as the parser puts its own together.
use mathlib.Core.Path.{◌≡◌, refl, sym, subst, ◌∙◌}
use mathlib.Core.Bool.{Bool, true, false}
use mathlib.Core.List.{List, [], ◌∷◌}
use Prim.Native.Nat.{ℕ, zero, suc, ◌+◌, ◌-◌, ◌≤◌}
use native.Mathlib.Omega.{arith}
use borrow.Author.Tests.{eq-eqb}
use Rattle.values.specs.declared.Kind.{Kind}
use Rattle.tokens.specs.Scan.{Tok}
use Rattle.token_table.specs.private.Table.{tokens_from}
use Rattle.grammar.specs.Tree.{Tree, Diagnostic}
use Rattle.grammar.specs.Symbols.{is_symbol}
use Rattle.grammar.specs.Parse.{Result, ok, bad, deep, starved, and_then, expect, enter}
use Rattle.grammar.proofs.Laws.{enter-some}
use Rattle.draft.specs.private.Results.{Read, Done, Bad, Deep, is_done}
use Rattle.compiler.specs.private.Reading.{DraftHolds, SameResult, same_done, same_bad, same_deep, Span, span_done, span_bad, span_deep, then_symbol}
use Rattle.compiler.proofs.reader.Looking.{Splits, head_is, symbol_at}

-- ---- a result that refuses
pub data Stopped : Read → Type 0 where
  at-bad : {i : ℕ} → Stopped (Bad i)
  at-deep : {i : ℕ} → Stopped (Deep i)

pub stopped : (r : Read) → is_done r ≡ false → Stopped r
stopped (Done j e k w) h = let z : ◌≡◌ {A = ℕ} 0 1 = cc in absurd (omega arith)
stopped (Bad i) h = at-bad
stopped (Deep i) h = at-deep

-- ---- a test of what a call answered
pub unmet : {r b : Bool} → r ≡ b → r ≡ false → b ≡ false
unmet e h = sym e ∙ h

pub met : {r b : Bool} → r ≡ b → r ≡ true → b ≡ true
met e h = sym e ∙ h

-- ---- how far reading got
pub span-earlier : {s : List ℕ} {a b pc : ℕ} {r : Read} → a ≤ b → Span s b pc r → Span s a pc r
span-earlier le (span_done {j = j} {e = e} a b c d) = span_done {j = j} {e = e} (omega arith) b c (omega arith)
span-earlier le (span_bad h) = span_bad h
span-earlier le (span_deep h) = span_deep h

pub span-stopped : {s : List ℕ} {a b p q : ℕ} {r : Read} → Stopped r → Span s a p r → Span s b q r
span-stopped at-bad (span_bad h) = span_bad h
span-stopped at-deep (span_deep h) = span_deep h

-- ---- what was read, and then more
module _ {s : List ℕ} {pc pc' : ℕ} {o o₁ o' o₂ : List ℕ} where
  pub bind_done : {j e : ℕ} {k : Kind} {w : Diagnostic} {r : Read} {q : Result Tree} (c : Tree → List Tok → Result Tree)
      → SameResult pc o o₁ s (Done j e k w) q → ((t : Tree) → DraftHolds pc o o₁ e k w t → SameResult pc' o' o₂ s r (c t (tokens_from s j)))
      → SameResult pc' o' o₂ s r (and_then q c)
  bind_done {r = r} c (same_done {t = t} m e) h = subst (λ (ts : List Tok). SameResult pc' o' o₂ s r (c t ts)) (sym e) (h t m)

  pub bind_stopped : {r : Read} {q : Result Tree} (c : Tree → List Tok → Result Tree) → Stopped r → SameResult pc o o₁ s r q
      → SameResult pc' o' o₂ s r (and_then q c)
  bind_stopped c at-bad (same_bad e) = same_bad e
  bind_stopped c at-deep (same_deep e) = same_deep e

-- ---- a symbol that was asked for
pub expect-past : {X : Type 0} {s : List ℕ} {at n p : ℕ} (c : List Tok → Result X) → Splits s at (symbol_at n p)
    → expect n (tokens_from s at) c ≡ c (tokens_from s (at + 1))
expect-past {n = n} c h = rw (h.split, expect, eq-eqb n n refl) refl

pub expect-other : {X : Type 0} (n : ℕ) (ts : List Tok) (c : List Tok → Result X) → head_is n ts ≡ false → expect n ts c ≡ bad ts
expect-other n [] c e = refl
expect-other n (x ∷ xs) c e = rw (expect, e) refl

pub and-then : {X : Type 0} (n : ℕ) (q : Result Tree) (c : Tree → List Tok → Result X)
    → and_then (then_symbol n q) c ≡ and_then q (λ t r. expect n r (λ z. c t z))
and-then n (ok t []) c = refl
and-then n (ok t (x ∷ xs)) c = go (is_symbol n x.token)
  where
    go : (b : Bool) → and_then {X = Tree} (elim b [ true ↦ ok t xs | false ↦ bad (x ∷ xs) ]) c ≡ elim b [ true ↦ c t xs | false ↦ bad (x ∷ xs) ]
    go true = refl
    go false = refl
and-then n (bad r) c = refl
and-then n (deep r) c = refl
and-then n starved c = refl

pub then-then : {X Y Z : Type 0} (q : Result X) (c : X → List Tok → Result Y) (g : Y → List Tok → Result Z)
    → and_then (and_then q c) g ≡ and_then q (λ x r. and_then (c x r) g)
then-then (ok x r) c g = refl
then-then (bad r) c g = refl
then-then (deep r) c g = refl
then-then starved c g = refl

expect-then : {X Y : Type 0} (n : ℕ) (ts : List Tok) (k : List Tok → Result X) (c : X → List Tok → Result Y)
    → and_then (expect n ts k) c ≡ expect n ts (λ r. and_then (k r) c)
expect-then n [] k c = refl
expect-then {X} {Y} n (x ∷ xs) k c = go (is_symbol n x.token)
  where
    go : (b : Bool) → and_then {X = X} {Y = Y} (elim b [ true ↦ k xs | false ↦ bad (x ∷ xs) ]) c ≡ elim b [ true ↦ and_then (k xs) c | false ↦ bad (x ∷ xs) ]
    go true = refl
    go false = refl

pub enter-then : {X Y : Type 0} (d n : ℕ) (ts : List Tok) (k : ℕ → List Tok → Result X) (c : X → List Tok → Result Y)
    → and_then (enter d n ts k) c ≡ enter d n ts (λ e r. and_then (k e r) c)
enter-then zero n ts k c = expect-then n ts (λ r. deep ts) c
enter-then (suc d) n ts k c = expect-then n ts (λ r. k d r) c

pub enter-inside : {X : Type 0} {s : List ℕ} {at n p : ℕ} (d : ℕ) (k : ℕ → List Tok → Result X) → Splits s at (symbol_at n p) → (d ≡ 0 → ⊥)
    → enter d n (tokens_from s at) k ≡ k (d - 1) (tokens_from s (at + 1))
enter-inside {s = s} {at = at} {n = n} d k h e = enter-some d n (tokens_from s at) k e ∙ expect-past (λ r. k (d - 1) r) h

pub enter-full : {X : Type 0} {s : List ℕ} {at n p : ℕ} (d : ℕ) (k : ℕ → List Tok → Result X) → Splits s at (symbol_at n p) → d ≡ 0
    → enter d n (tokens_from s at) k ≡ deep (tokens_from s at)
enter-full {s = s} {at = at} zero k h e = expect-past (λ r. deep (tokens_from s at)) h
enter-full (suc d) k h e = absurd (omega arith)

pub enter-other : {X : Type 0} (d n : ℕ) (ts : List Tok) (k : ℕ → List Tok → Result X) → head_is n ts ≡ false → enter d n ts k ≡ bad ts
enter-other zero n ts k e = expect-other n ts (λ r. deep ts) e
enter-other (suc d) n ts k e = expect-other n ts (λ r. k d r) e
