-- The earlier of two diagnostics is the lesser of their numbers, place times 16 plus answer; so it does not matter which of them comes first.
use mathlib.Core.Path.{◌≡◌, refl, ap, subst}
use mathlib.Core.Logic.{◌⊎◌, inl, inr}
use mathlib.Core.Bool.{Bool, true, false, ◌&&◌, ◌||◌, cond}
use Prim.Native.Nat.{ℕ, ◌/◌, ◌%◌, ◌≤◌, min}
use native.Mathlib.Omega.{arith}
use lib.Dec.{eqb, ltb, leb}
use borrow.Author.Tests.{ltb-true, ltb-false, eqb-true, eqb-false, leb-true, leb-false}
use Rattle.operators.specs.Kinds.{is_int, unary_takes, binary_takes}
use Rattle.totals.specs.Totals.{good_count}
use Rattle.grammar.specs.Tree.{Tree, literal, cell, indexed, unary, binary, logic, choice, tick, since, total, matching, tree_kind, Diagnostic}
use Rattle.grammar.specs.Tree.{clear, at, precedes, earlier, unless, wrong_kind_at, wrong_count_at, diagnostic_of}

abbrev pub numbered : ℕ → Diagnostic
numbered n = at (n / 16) (n % 16)

-- what the order says of the numbers
precedes-least : (m n : ℕ) → precedes (m / 16) (m % 16) (n / 16) (n % 16) ≡ true → m ≤ n
precedes-least m n = go (ltb (m / 16) (n / 16)) (eqb (m / 16) (n / 16)) (leb (m % 16) (n % 16)) refl refl refl
  where
    go : (x y z : Bool) → ltb (m / 16) (n / 16) ≡ x → eqb (m / 16) (n / 16) ≡ y → leb (m % 16) (n % 16) ≡ z → (x || y && z) ≡ true → m ≤ n
    go true y z a b c e = omega (arith, ltb-true (m / 16) (n / 16) a)
    go false true true a b c e = omega (arith, eqb-true (m / 16) (n / 16) b, leb-true (m % 16) (n % 16) c)
    go false true false a b c e = let i : ◌≡◌ {A = ℕ} 0 1 = cc in absurd (omega arith)
    go false false z a b c e = let i : ◌≡◌ {A = ℕ} 0 1 = cc in absurd (omega arith)

follows-least : (m n : ℕ) → precedes (m / 16) (m % 16) (n / 16) (n % 16) ≡ false → n ≤ m
follows-least m n = go (ltb (m / 16) (n / 16)) (eqb (m / 16) (n / 16)) (leb (m % 16) (n % 16)) refl refl refl
  where
    go : (x y z : Bool) → ltb (m / 16) (n / 16) ≡ x → eqb (m / 16) (n / 16) ≡ y → leb (m % 16) (n % 16) ≡ z → (x || y && z) ≡ false → n ≤ m
    go true y z a b c e = let i : ◌≡◌ {A = ℕ} 0 1 = cc in absurd (omega arith)
    go false true true a b c e = let i : ◌≡◌ {A = ℕ} 0 1 = cc in absurd (omega arith)
    go false true false a b c e = omega (arith, eqb-true (m / 16) (n / 16) b, leb-false (m % 16) (n % 16) c)
    go false false z a b c e = omega (arith, ltb-false (m / 16) (n / 16) a, eqb-false (m / 16) (n / 16) b)

pub earlier-least : (m n : ℕ) → earlier (numbered m) (numbered n) ≡ numbered (min m n)
earlier-least m n = go (precedes (m / 16) (m % 16) (n / 16) (n % 16)) refl
  where
    go : (x : Bool) → precedes (m / 16) (m % 16) (n / 16) (n % 16) ≡ x → cond x (numbered m) (numbered n) ≡ numbered (min m n)
    go true e = let h = precedes-least m n e in let i : m ≡ min m n = omega arith in ap numbered i
    go false e = let h = follows-least m n e in let i : n ≡ min m n = omega arith in ap numbered i

-- ---- the answers that a tree can show
data Late : Diagnostic → Type 0 where
  no_answer : Late clear
  six : {p a : ℕ} → a ≡ 6 → Late (at p a)
  nine : {p a : ℕ} → a ≡ 9 → Late (at p a)

late-cond : {x y : Diagnostic} (b : Bool) → Late x → Late y → Late (cond b x y)
late-cond true h k = h
late-cond false h k = k

late-earlier : (x y : Diagnostic) → Late x → Late y → Late (earlier x y)
late-earlier clear y h k = k
late-earlier (at p a) clear h k = h
late-earlier (at p a) (at q b) h k = late-cond (precedes p a q b) h k

late-kind : (b : Bool) (p : ℕ) → Late (unless b (wrong_kind_at p))
late-kind true p = no_answer
late-kind false p = nine refl

late-count : (b : Bool) (p : ℕ) → Late (unless b (wrong_count_at p))
late-count true p = no_answer
late-count false p = six refl

late : (t : Tree) → Late (diagnostic_of t)
unfolding diagnostic_of
late (literal p v) = no_answer
late (cell b i) = no_answer
late (indexed b t) = late t
late (unary p o t) = late-earlier _ _ (late-kind (unary_takes o (tree_kind t)) p) (late t)
late (binary p o t u) = late-earlier _ _ (late-kind (binary_takes o (tree_kind t) (tree_kind u)) p) (late-earlier _ _ (late t) (late u))
late (logic p d t u) = late-earlier _ _ (late t) (late u)
late (choice p c t u) = late-earlier _ _ (late c) (late-earlier _ _ (late t) (late u))
late tick = no_answer
late (since p t) = late-earlier _ _ (late-kind (is_int (tree_kind t)) p) (late t)
late (total p o b i n) = late-count (good_count b i n) p
late (matching p o t b i n) = late-earlier _ _ (late-count (good_count b i n) p) (late t)

pub shown-late : (t : Tree) {p a : ℕ} → diagnostic_of t ≡ at p a → (a ≡ 6) ⊎ (a ≡ 9)
shown-late t {p} {a} e = go (subst Late e (late t))
  where
    go : Late (at p a) → (a ≡ 6) ⊎ (a ≡ 9)
    go (six i) = inl i
    go (nine i) = inr i
