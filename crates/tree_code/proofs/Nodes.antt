-- What an operator makes of its operands, by class, and what kind of symbol it is.
use mathlib.Core.Path.{◌≡◌, refl, sym}
use mathlib.Core.Bool.{Bool, true, false, cond, ◌&&◌, ◌||◌, false≢true}
use Prim.Native.Nat.{ℕ, suc, ◌≤◌, ◌<◌}
use native.Mathlib.Omega.{arith}
use lib.Dec.{eqb, ltb, leb}
use lib.ListN.{length, get_or, get_or-eq_default}
use borrow.Author.Tests.{ltb-true, ltb-false, leb-true, eqb-true, ne_eqb}
use Rattle.operators.specs.declared.UnaryOp.{UnaryOp}
use Rattle.operators.specs.declared.UnaryOp.TheVariants as U
use Rattle.operators.specs.declared.BinaryOp.{BinaryOp}
use Rattle.operators.specs.declared.BinaryOp.TheVariants as B
use Rattle.operators.specs.Tables.{binary_ops}
use Rattle.tokens.specs.Symbols.{symbol_count, symbol_bytes}
use Rattle.tokens.proofs.Tests.{both}
use Rattle.grammar.specs.Tree.{Tree, binary, logic}
use Rattle.grammar.specs.Symbols.{minus, tilde, bang, open_paren, groups, group_number, prefix_symbol, is, none, infix_tree}
use Rattle.tokens.proofs.Below.{below, below_at}

-- the node of an operator whose symbol has so many bytes at the least
pub data Infix (p : ℕ) (t u : Tree) : ℕ → Tree → Type 0 where
  of_values : (o : BinaryOp) → Infix p t u 1 (binary p o t u)
  of-truths : (d : Bool) → Infix p t u 2 (logic p d t u)

abbrev pub width : ℕ → ℕ
width n = cond (ltb n 18) 1 2

pub infix-node : (n p : ℕ) (t u : Tree) → Infix p t u (width n) (infix_tree n p t u)
infix-node n p t u = go (ltb n 18)
  where
    go : (x : Bool) → Infix p t u (cond x 1 2) (cond x (binary p (get_or binary_ops n B.Power) t u) (logic p (eqb n 19) t u))
    go true = of_values (get_or binary_ops n B.Power)
    go false = of-truths (eqb n 19)

-- the symbol n is no bracket, and has k bytes or more
pub record Plain (n k : ℕ) : Type 0 where
  pub low : n < open_paren
  pub long : k ≤ length (symbol_bytes n)

-- ---- operators, by computing the table of symbols
entry : ℕ → Bool
entry n = eqb (group_number n) 0 || (ltb n open_paren && leb (width n) (length (symbol_bytes n)))

entries : below symbol_count entry ≡ true
unfolding below entry group_number
entries = refl

pub no-group : (n : ℕ) → symbol_count ≤ n → group_number n ≡ 0
unfolding group_number
no-group n h = get_or-eq_default groups 0 h

pub infix-plain : (n l : ℕ) → group_number n ≡ suc l → Plain n (width n)
unfolding entry
infix-plain n l e = go (ltb n symbol_count) refl
  where
    of_entry : (x : Bool) → (x || (ltb n open_paren && leb (width n) (length (symbol_bytes n)))) ≡ true → x ≡ false → Plain n (width n)
    of_entry true h q = absurd (false≢true (sym q))
    of_entry false h q = let b = both (ltb n open_paren) _ h in record { low = ltb-true n open_paren b.0; long = leb-true (width n) _ b.1 }

    go : (x : Bool) → ltb n symbol_count ≡ x → Plain n (width n)
    go true q = of_entry (eqb (group_number n) 0) (below_at entry symbol_count n entries (ltb-true n symbol_count q)) (ne_eqb (group_number n) 0 (λ z. omega arith))
    go false q = absurd (omega (arith, no-group n (ltb-false n symbol_count q)))

pub prefix-plain : (n : ℕ) (o : UnaryOp) → prefix_symbol n ≡ is o → Plain n 1
prefix-plain n o e = go (eqb n minus) (eqb n tilde) (eqb n bang) refl refl refl e
  where
    is_plain : (m : ℕ) → Plain m 1 → eqb n m ≡ true → Plain n 1
    is_plain m h q = let z : n ≡ m = eqb-true n m q in rw z h

    go : (x y z : Bool) → eqb n minus ≡ x → eqb n tilde ≡ y → eqb n bang ≡ z → cond x (is U.Neg) (cond y (is U.Complement) (cond z (is U.Not) none)) ≡ is o
        → Plain n 1
    go true y z p q r e = is_plain minus (record { low = omega arith; long = omega arith }) p
    go false true z p q r e = is_plain tilde (record { low = omega arith; long = omega arith }) q
    go false false true p q r e = is_plain bang (record { low = omega arith; long = omega arith }) r
    go false false false p q r e = let z : ◌≡◌ {A = ℕ} 0 1 = cc in absurd (omega arith)
