-- The cycle of the walk: `expression`, `list`, `operand` and `primary` meet their contracts. Each answer cites the law for its way. The measure is the
-- words left, then the rank of the function.
use mathlib.Core.Path.{◌≡◌, refl, sym, ap, subst, ◌∙◌}
use native.Mathlib.Omega.{arith}
use Rattle.token_table.specs.private.Table.{word_class, word_at, tokens_from}
use Rattle.formatter.proofs.Steps.{operand-within}
use Rattle.formatter.proofs.Pieces.{by_word, inner-position, inner-some, operand-bare, operand-signed, first, grouped-some, group-writes}
use Rattle.formatter.proofs.Pieces.{leaf-writes, opener-stands, opener-within, list-position, list-some, headed-writes}
use Rattle.formatter.proofs.Lists.{close-within, close-stands, close-writes, first_some, list-starts, comma-within, next-position}
use Rattle.formatter.proofs.Lists.{next-some, list-goes-on, closer-within, closer-stands, list-ends}
use Rattle.formatter.proofs.Infixes.{operand-some, climb-starts, loop-none, loop-loose, operator-stands, operator-within}
use Rattle.formatter.proofs.Infixes.{right-position, right-some, climb-goes-on}
use Prim.Native.Nat.{ℕ, ◌≤◌, ◌<◌}
use Rattle.formatter.proofs.walk.+walk.Goals as goal

pub expression-operand-left-requires : goal.expression-operand-left-requires
expression-operand-left-requires t c = (
  omega (arith, c.decreases),
  (
    c.requires.0,
    c.requires.1,
    operand-some c.args.level c.args.text.now
        (tokens_from c.args.table.now c.args.at) c.requires.2,
  ),
)

pub expression-loop-left-init : goal.expression-loop-left-init
expression-loop-left-init t c = (refl, λ b n f. climb-starts c.requires.0 f)

pub expression-returns-then-g-eq0 : goal.expression-returns-then-g-eq0
expression-returns-then-g-eq0 t c =
    let k = c.loop-left.invariant.1 c.args.out.now c.operand-left.auto.out c.operand-left.ensures in
    loop-none k c.word_at-w.ensures c.group_in-g.ensures c.if-g-eq0.true

pub expression-returns-then-level-g : goal.expression-returns-then-level-g
expression-returns-then-level-g t c =
    let k = c.loop-left.invariant.1 c.args.out.now c.operand-left.auto.out c.operand-left.ensures in
    loop-loose k c.word_at-w.ensures c.group_in-g.ensures c.if-level-g.true

pub expression-left_end-end-requires : goal.expression-left_end-end-requires
expression-left_end-end-requires t c =
    let k = c.loop-left.invariant.1 c.args.out.now c.operand-left.auto.out c.operand-left.ensures in
    omega (arith, k.counted, c.loop-left.invariant.0, c.operand-left.auto.out)

pub expression-operator-start-requires : goal.expression-operator-start-requires
expression-operator-start-requires t c =
    let k = c.loop-left.invariant.1 c.args.out.now c.operand-left.auto.out c.operand-left.ensures in
    let high : c.group_in-g.result ≤ c.args.level =
    omega (arith, c.if-level-g.false) in (
      omega (arith, c.left_end-end.ensures.counted, c.left_end-end.auto.out),
      operator-stands k c.word_at-w.ensures
          c.group_in-g.ensures c.if-g-eq0.false high,
    )

pub expression-overflow_add-j : goal.expression-overflow_add-j
expression-overflow_add-j t c =
    let k = c.loop-left.invariant.1 c.args.out.now c.operand-left.auto.out c.operand-left.ensures in
    let high : c.group_in-g.result ≤ c.args.level =
    omega (arith, c.if-level-g.false) in
    let w = operator-within k c.word_at-w.ensures
    c.group_in-g.ensures
    c.if-g-eq0.false high in
    omega (arith, w)

pub expression-overflow_sub-g : goal.expression-overflow_sub-g
expression-overflow_sub-g t c = omega (arith, c.if-g-eq0.false)

pub expression-expression-right-requires : goal.expression-expression-right-requires
expression-expression-right-requires t c =
    let k = c.loop-left.invariant.1 c.args.out.now c.operand-left.auto.out c.operand-left.ensures in
    let high : c.group_in-g.result ≤ c.args.level =
    omega (arith, c.if-level-g.false) in
    let w = operator-within k c.word_at-w.ensures
    c.group_in-g.ensures
    c.if-g-eq0.false high in (
      omega (arith, c.decreases, k.ahead, w),
      (
        right-position k c.word_at-w.ensures c.group_in-g.ensures
            c.if-g-eq0.false high,
        omega (arith, c.operator-start.ensures.counted, c.operator-start.auto.out),
        right-some k c.word_at-w.ensures
            c.group_in-g.ensures
            c.if-g-eq0.false high c.requires.2,
      ),
    )

pub expression-operand_end-requires : goal.expression-operand_end-requires
expression-operand_end-requires t c = omega (
  arith,
  c.expression-right.ensures.counted,
  c.expression-right.auto.out,
)

pub expression-loop-left-smaller : goal.expression-loop-left-smaller
expression-loop-left-smaller t c =
    let k = c.loop-left.invariant.1 c.args.out.now c.operand-left.auto.out c.operand-left.ensures in
    omega (
      arith,
      c.expression-right.ensures.ahead,
      c.expression-right.ensures.within,
    )

pub expression-loop-left-preserved : goal.expression-loop-left-preserved
expression-loop-left-preserved t c =
    let high : c.group_in-g.result ≤ c.args.level = omega (
      arith,
      c.if-level-g.false,
    ) in
    let l₂ = c.operator-start.auto.out
    ∙ c.left_end-end.auto.out ∙ c.loop-left.invariant.0 in
    let l₃ = c.expression-right.auto.out ∙ l₂ in (
      c.operand_end.auto.out ∙ l₃,
      λ b n f. climb-goes-on (c.loop-left.invariant.1 b n f) c.word_at-w.ensures
          c.group_in-g.ensures c.if-g-eq0.false high (c.loop-left.invariant.0 ∙ n) (l₂ ∙ n) (l₃ ∙ n)
          c.left_end-end.ensures.by_index
          c.operator-start.ensures.by_index
          c.expression-right.ensures c.operand_end.ensures.counted
          c.operand_end.ensures.by_index,
    )

pub list-overflow_add-result : goal.list-overflow_add-result
list-overflow_add-result t c =
    let m = sym c.expected.ensures ∙ c.if-expected.true in
    omega (arith, close-within c.requires.0 m)

pub list-token-requires : goal.list-token-requires
list-token-requires t c =
    let m = sym c.expected.ensures ∙ c.if-expected.true in
    (c.requires.1, rw c.word_at-first.ensures (close-stands c.requires.0 m))

pub list-returns-then-expected : goal.list-returns-then-expected
list-returns-then-expected t c =
    let m = sym c.expected.ensures ∙ c.if-expected.true in
    close-writes c.requires.0 m c.token.ensures.counted
    (by_word c.args.text.now c.word_at-first.ensures c.token.ensures.by_index)

pub list-expression-item-requires : goal.list-expression-item-requires
list-expression-item-requires t c = (
  omega (arith, c.decreases),
  (
    c.requires.0,
    c.requires.1,
    first_some c.requires.0 (sym c.expected.ensures ∙ c.if-expected.false)
        c.requires.2,
  ),
)

pub list-loop-out-init : goal.list-loop-out-init
list-loop-out-init t c = (refl, λ b n f m p. list-starts p m f)

pub list-put_all-start-requires : goal.list-put_all-start-requires
list-put_all-start-requires t c =
    let k = c.loop-out.invariant.1 c.args.out.now c.expression-item.auto.out c.expression-item.ensures
    (sym c.expected.ensures
    ∙ c.if-expected.false) c.requires.0 in
    omega (arith, k.counted, c.loop-out.invariant.0, c.expression-item.auto.out)

pub list-overflow_add-item : goal.list-overflow_add-item
list-overflow_add-item t c =
    let k = c.loop-out.invariant.1 c.args.out.now c.expression-item.auto.out c.expression-item.ensures
    (sym c.expected.ensures
    ∙ c.if-expected.false) c.requires.0 in
    let m = sym c.expected-in-loop-out.ensures
    ∙ c.loop-out-test.true in
    omega (arith, comma-within k m)

pub list-expression-item-requires-in-loop-out : goal.list-expression-item-requires-in-loop-out
list-expression-item-requires-in-loop-out t c =
    let k = c.loop-out.invariant.1 c.args.out.now c.expression-item.auto.out c.expression-item.ensures
    (sym c.expected.ensures
    ∙ c.if-expected.false) c.requires.0 in
    let m = sym c.expected-in-loop-out.ensures
    ∙ c.loop-out-test.true in (
      omega (arith, c.decreases, k.ahead, comma-within k m),
      (
        next-position k m,
        omega (arith, c.put_all-start.ensures.counted, c.put_all-start.auto.out),
        next-some k m c.requires.2,
      ),
    )

pub list-loop-out-smaller : goal.list-loop-out-smaller
list-loop-out-smaller t c = omega (arith, c.expression-item-in-loop-out.ensures.ahead, c.expression-item-in-loop-out.ensures.within)

pub list-loop-out-preserved : goal.list-loop-out-preserved
list-loop-out-preserved t c =
    let m = sym c.expected-in-loop-out.ensures
    ∙ c.loop-out-test.true in
    let l₁ = c.put_all-start.auto.out ∙ c.loop-out.invariant.0 in (
      c.expression-item-in-loop-out.auto.out ∙ l₁,
      λ b n f d p. list-goes-on (c.loop-out.invariant.1 b n f d p) m (l₁ ∙ n)
          c.put_all-start.ensures.by_index c.expression-item-in-loop-out.ensures,
    )

pub list-overflow_add-result-2 : goal.list-overflow_add-result-2
list-overflow_add-result-2 t c =
    let k = c.loop-out.invariant.1 c.args.out.now c.expression-item.auto.out c.expression-item.ensures
    (sym c.expected.ensures
    ∙ c.if-expected.false) c.requires.0 in
    let m = sym c.expected-in-loop-out.ensures ∙ c.loop-out-test.false in
    omega (arith, closer-within k m c.requires.2)

pub list-token-requires-2 : goal.list-token-requires-2
list-token-requires-2 t c =
    let k = c.loop-out.invariant.1 c.args.out.now c.expression-item.auto.out c.expression-item.ensures
    (sym c.expected.ensures
    ∙ c.if-expected.false) c.requires.0 in
    let m = sym c.expected-in-loop-out.ensures ∙ c.loop-out-test.false in
    (omega (arith, k.counted, c.loop-out.invariant.0, c.expression-item.auto.out), rw c.word_at.ensures (closer-stands k m c.requires.2))

pub list-returns : goal.list-returns
list-returns t c =
    let k = c.loop-out.invariant.1 c.args.out.now c.expression-item.auto.out c.expression-item.ensures
    (sym c.expected.ensures
    ∙ c.if-expected.false) c.requires.0 in
    let m = sym c.expected-in-loop-out.ensures
    ∙ c.loop-out-test.false in
    list-ends k m c.requires.2 (omega (arith, c.token-2.ensures.counted, c.loop-out.invariant.0, c.expression-item.auto.out))
    (by_word c.args.text.now c.word_at.ensures c.token-2.ensures.by_index)

pub operand-signs_end-first-requires : goal.operand-signs_end-first-requires
operand-signs_end-first-requires t c = omega (arith, operand-within c.args.text.now c.args.table.now c.args.at c.requires.0 c.requires.2)

pub operand-signs-start-requires : goal.operand-signs-start-requires
operand-signs-start-requires t c = (c.requires.0, c.signs_end-first.ensures, c.requires.1)

pub operand-primary-inner-requires : goal.operand-primary-inner-requires
operand-primary-inner-requires t c =
    let g = c.signs_end-first.ensures in
    let w = c.signs-start.ensures in (
      omega (arith, c.decreases, g.ahead),
      (
        inner-position c.requires.0 g w c.requires.2,
        omega (arith, w.counted, c.signs-start.auto.out),
        inner-some c.requires.0 g w c.requires.2,
      ),
    )

pub operand-returns-then-first-at : goal.operand-returns-then-first-at
operand-returns-then-first-at t c = operand-bare c.requires.0
    c.signs_end-first.ensures
    c.signs-start.ensures
    c.signs-start.auto.out c.primary-inner.ensures c.if-first-at.true

pub operand-operand_end-requires : goal.operand-operand_end-requires
operand-operand_end-requires t c = omega (
  arith,
  c.primary-inner.ensures.counted,
  c.primary-inner.auto.out,
)

pub operand-returns : goal.operand-returns
operand-returns t c = operand-signed c.requires.0 c.signs_end-first.ensures c.signs-start.ensures
    c.signs-start.auto.out
    c.primary-inner.ensures c.if-first-at.false
    c.primary-inner.auto.out c.operand_end.ensures.counted
    c.operand_end.ensures.by_index

pub primary-overflow_add-at : goal.primary-overflow_add-at
primary-overflow_add-at t c =
    let f = first c.requires.0 c.requires.2 in
    omega (arith, f.here.within)

pub primary-expression-inner-requires : goal.primary-expression-inner-requires
primary-expression-inner-requires t c =
    let f = first c.requires.0 c.requires.2 in
    let class = sym (c.class_of-class.ensures ∙ ap word_class c.word_at-w.ensures) in
    (omega (arith, c.decreases, f.here.within), (f.here.next, c.requires.1, grouped-some c.requires.0 c.requires.2 (class ∙ c.if-class-eq-SYMBOL.true)))

pub primary-overflow_add-result : goal.primary-overflow_add-result
primary-overflow_add-result t c = omega (arith, c.expression-inner.ensures.within)

pub primary-returns-then-class-eq-SYMBOL : goal.primary-returns-then-class-eq-SYMBOL
primary-returns-then-class-eq-SYMBOL t c =
    let f = first c.requires.0 c.requires.2 in
    let class = sym (c.class_of-class.ensures
    ∙ ap word_class c.word_at-w.ensures) in
    group-writes c.requires.0 c.requires.2 (class ∙ c.if-class-eq-SYMBOL.true) c.expression-inner.ensures

pub primary-token-end-requires : goal.primary-token-end-requires
primary-token-end-requires t c =
    let f = first c.requires.0 c.requires.2 in
    (c.requires.1, rw c.word_at-w.ensures f.here.stands)

pub primary-overflow_add-result-then-class-lt-LETTER : goal.primary-overflow_add-result-then-class-lt-LETTER
primary-overflow_add-result-then-class-lt-LETTER t c =
    let f = first c.requires.0 c.requires.2 in
    omega (arith, f.here.within)

pub primary-returns-then-class-lt-LETTER : goal.primary-returns-then-class-lt-LETTER
primary-returns-then-class-lt-LETTER t c =
    let f = first c.requires.0 c.requires.2 in
    let class = sym (c.class_of-class.ensures
    ∙ ap word_class c.word_at-w.ensures) in
    leaf-writes c.requires.0 c.requires.2 (subst (λ (i : ℕ). i < 4) (sym class) c.if-class-lt-LETTER.true) c.token-end.ensures.counted
    (by_word c.args.text.now c.word_at-w.ensures
    c.token-end.ensures.by_index)

pub primary-overflow_add-at-2 : goal.primary-overflow_add-at-2
primary-overflow_add-at-2 t c =
    let f = first c.requires.0 c.requires.2 in
    omega (arith, f.here.within)

pub primary-token-start-requires : goal.primary-token-start-requires
primary-token-start-requires t c =
    let f = first c.requires.0 c.requires.2 in
    let class = sym (c.class_of-class.ensures
    ∙ ap word_class c.word_at-w.ensures) in
    let c₁ = subst (λ (i : ℕ). 4 ≤ i) (sym class) (omega (arith, c.if-class-lt-LETTER.false)) in
    let c₂ : (word_class (word_at c.args.table.now c.args.at) ≡ 6 → ⊥) =
    λ e. c.if-class-eq-SYMBOL.false (sym class ∙ e) in (
      omega (arith, c.token-end.ensures.counted, c.token-end.auto.out),
      rw c.word_at.ensures (opener-stands c.requires.0 c.requires.2 c₁ c₂),
    )

pub primary-overflow_add-at-3 : goal.primary-overflow_add-at-3
primary-overflow_add-at-3 t c =
    let f = first c.requires.0 c.requires.2 in
    let class = sym (c.class_of-class.ensures
    ∙ ap word_class c.word_at-w.ensures) in
    let c₁ = subst (λ (i : ℕ). 4 ≤ i) (sym class) (omega (arith, c.if-class-lt-LETTER.false)) in
    let c₂ : (word_class (word_at c.args.table.now c.args.at) ≡ 6 → ⊥) =
    λ e. c.if-class-eq-SYMBOL.false (sym class ∙ e) in
    omega (arith, opener-within c.requires.0 c.requires.2 c₁ c₂)

pub primary-list-requires : goal.primary-list-requires
primary-list-requires t c =
    let f = first c.requires.0 c.requires.2 in
    let class = sym (c.class_of-class.ensures
    ∙ ap word_class c.word_at-w.ensures) in
    let c₁ = subst (λ (i : ℕ). 4 ≤ i) (sym class) (omega (arith, c.if-class-lt-LETTER.false)) in
    let c₂ : (word_class (word_at c.args.table.now c.args.at) ≡ 6 → ⊥) =
    λ e. c.if-class-eq-SYMBOL.false (sym class ∙ e) in (
      omega (arith, c.decreases, opener-within c.requires.0 c.requires.2 c₁ c₂),
      (
        list-position c.requires.0 c.requires.2 c₁ c₂,
        omega (
          arith,
          c.token-start.ensures.counted,
          c.token-start.auto.out,
        ),
        list-some c.requires.0 c.requires.2 c₁ c₂,
      ),
    )

pub primary-returns : goal.primary-returns
primary-returns t c =
    let f = first c.requires.0 c.requires.2 in
    let class = sym (c.class_of-class.ensures ∙ ap word_class c.word_at-w.ensures) in
    let c₁ = subst (λ (i : ℕ). 4 ≤ i) (sym class) (omega (arith, c.if-class-lt-LETTER.false)) in
    let c₂ : (word_class (word_at c.args.table.now c.args.at) ≡ 6 → ⊥) =
    λ e. c.if-class-eq-SYMBOL.false (sym class ∙ e) in
    headed-writes c.requires.0 c.requires.2 c₁ c₂ (c.token-start.auto.out
    ∙ c.token-end.auto.out)
    (by_word c.args.text.now c.word_at-w.ensures c.token-end.ensures.by_index)
    (by_word c.args.text.now c.word_at.ensures
    c.token-start.ensures.by_index) c.list.ensures
