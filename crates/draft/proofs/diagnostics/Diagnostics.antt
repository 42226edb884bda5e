-- The earlier of two diagnostics is the lesser of their numbers, where one of them or both may be none.
use mathlib.Core.Path.{◌≡◌, refl, sym}
use mathlib.Core.Bool.{Bool, true, false, cond}
use Prim.Native.Nat.{ℕ, ◌+◌, ◌*◌, ◌/◌, ◌%◌, ◌<◌, min}
use native.Mathlib.Omega.{arith}
use lib.Dec.{ltb}
use borrow.Author.Tests.{lt-ltb, le-ltb, ltb-true, ltb-false}
use Rattle.token_table.specs.private.Table.{word_place}
use Rattle.grammar.specs.Tree.{clear, at, earlier}
use Rattle.grammar.proofs.Diagnostics.{numbered, earlier-least}
use Rattle.draft.specs.private.Results.{diagnosed}

pub lesser : (a b : ℕ) → diagnosed (min a b) ≡ earlier (diagnosed a) (diagnosed b)
lesser a b = go (ltb a 1048576) (ltb b 1048576) refl refl
  where
    go : (x y : Bool) → ltb a 1048576 ≡ x → ltb b 1048576 ≡ y → diagnosed (min a b) ≡ earlier (cond x (numbered a) clear) (cond y (numbered b) clear)
    go true true p q =
        let h = ltb-true a 1048576 p in
        rw (lt-ltb (min a b) 1048576 (omega arith)) (sym (earlier-least a b))
    go true false p q =
        let h = ltb-true a 1048576 p in
        let g = ltb-false b 1048576 q in
        let e : min a b ≡ a = omega arith in
        rw (e, p)
    go false true p q =
        let h = ltb-false a 1048576 p in
        let g = ltb-true b 1048576 q in
        let e : min a b ≡ b = omega arith in
        rw (e, q)
    go false false p q =
        let h = ltb-false a 1048576 p in
        let g = ltb-false b 1048576 q in
        rw (le-ltb (min a b) 1048576 (omega arith))

pub word-diagnosed : (w a : ℕ) → a < 16 → (n : ℕ) → n ≡ 16 * word_place w + a → diagnosed n ≡ at (word_place w) a
word-diagnosed w a h n e =
    let p : n / 16 ≡ word_place w = omega arith in
    let q : n % 16 ≡ a = omega arith in
    rw (lt-ltb n 1048576 (omega arith), p, q)
