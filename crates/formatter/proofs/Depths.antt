-- Brackets open at once, byte by byte.
use mathlib.Core.Path.{◌≡◌, ap}
use mathlib.Core.Bool.{Bool, ◌||◌}
use mathlib.Core.List.{List, [], ◌∷◌}
use Prim.Native.Nat.{ℕ, suc, ◌+◌, ◌≤◌, ◌<◌, max}
use native.Mathlib.Omega.{arith}
use lib.Dec.{eqb}
use lib.ListN.{length, get_or, drop, drop_of_length-le}
use lib.Seq.{drop-cons}
use native.Mathlib.Numerals.{add-one}
use Rattle.words.specs.Ascii.{byte}
use Rattle.tokens.proofs.Tests.{by-test}
use Rattle.format_laws.specs.Formatted.{open_behind, levels_from}

abbrev Opens : ℕ → Bool
Opens c = eqb c (byte "(") || eqb c (byte "[")

abbrev Closes : ℕ → Bool
Closes c = eqb c (byte ")") || eqb c (byte "]")

pub open-most : (d c : ℕ) → open_behind d c ≤ d + 1
open-most d c =
    by-test (Opens c) (λ e. rw e (omega arith)) (λ e. by-test (Closes c) (λ f. rw (e, f) (omega arith)) (λ f. rw (e, f) (omega arith)))

-- the levels from a depth on are at least that deep
least : (d : ℕ) (s : List ℕ) → d ≤ levels_from d s
least d [] = omega arith
least d (c ∷ cs) = omega arith

pub depth-step : (s : List ℕ) (i m d : ℕ) {m' d' : ℕ} → i < length s → m' ≡ max m d' → d' ≡ open_behind d (get_or s i 0) → d ≤ m
    → max m' (levels_from d' (drop (i + 1) s)) ≡ max m (levels_from d (drop i s))
depth-step s i m d {m'} {d'} h p q r =
    let e = ap (λ (z : List ℕ). levels_from d z) (drop-cons s i 0 h) in
    let f : drop (i + 1) s ≡ drop (suc i) s = ap (λ (z : ℕ). drop z s) (add-one i) in
    rw (f, e) (omega (arith, p, ap (λ (z : ℕ). levels_from z (drop (suc i) s)) q, r, least d' (drop (suc i) s)))

pub depth-end : (s : List ℕ) (i m d : ℕ) → length s ≤ i → d ≤ m → m ≡ max m (levels_from d (drop i s))
depth-end s i m d h r = rw (drop_of_length-le s h) (omega arith)
