-- A word and the result that it stands for: its status says which, and its fields what that holds.
use mathlib.Core.Path.{◌≡◌, refl, ap, ◌∙◌}
use mathlib.Core.Bool.{Bool, true, false, cond}
use Prim.Native.Nat.{ℕ, ◌+◌, ◌*◌, ◌/◌, ◌%◌, ◌^◌, ◌≤◌, ◌<◌}
use native.Mathlib.Omega.{arith}
use lib.Dec.{eqb}
use borrow.Author.Tests.{eqb-true, eqb-false, eq-eqb, ne_eqb}
use Rattle.values.specs.declared.Kind.{Kind}
use Rattle.grammar.specs.Tree.{Diagnostic}
use Rattle.operators.specs.Kinds.{number_kind}
use Rattle.draft.specs.private.Results.{Read, Done, Bad, Deep, is_done, further, refusal, diagnosed, read_next, read_end, read_kind, read_wrong, read_of}

abbrev pub status : ℕ → ℕ
status r = r / 2 ^ 33 % 4

-- ---- the result of a status
pub made-done : (r : ℕ) {j e : ℕ} {k : Kind} {w : Diagnostic} → status r ≡ 0
    → read_next r ≡ j → read_end r ≡ e → read_kind r ≡ k → read_wrong r ≡ w → read_of r ≡ Done j e k w
unfolding read_of
made-done r s a b c d = rw (eq-eqb _ 0 s, a, b, c, d)

pub made-bad : (r : ℕ) {i : ℕ} → status r ≡ 1 → read_next r ≡ i → read_of r ≡ Bad i
unfolding read_of
made-bad r s a = let n : eqb (status r) 0 ≡ false = ne_eqb (status r) 0 (omega arith) in rw (n, eq-eqb _ 1 s, a)

pub made-deep : (r : ℕ) {i : ℕ} → 2 ≤ status r → read_next r ≡ i → read_of r ≡ Deep i
unfolding read_of
made-deep r s a =
    let n : eqb (status r) 0 ≡ false = ne_eqb (status r) 0 (omega arith) in
    let m : eqb (status r) 1 ≡ false = ne_eqb (status r) 1 (omega arith) in
    rw (n, m, a)

pub data Means (r : ℕ) : Read → Type 0 where
  done : status r ≡ 0 → Means r (Done (read_next r) (read_end r) (read_kind r) (read_wrong r))
  bad : status r ≡ 1 → Means r (Bad (read_next r))
  deep : 2 ≤ status r → Means r (Deep (read_next r))

pub means : (r : ℕ) → Means r (read_of r)
unfolding read_of
means r = by _ _ refl refl
  where
    by : (a b : Bool) → eqb (status r) 0 ≡ a → eqb (status r) 1 ≡ b
        → Means r (cond a (Done (read_next r) (read_end r) (read_kind r) (read_wrong r)) (cond b (Bad (read_next r)) (Deep (read_next r))))
    by true b p q = done (eqb-true _ 0 p)
    by false true p q = bad (eqb-true _ 1 q)
    by false false p q = let n = eqb-false (status r) 0 p in let m = eqb-false (status r) 1 q in deep (omega (arith, n, m))

-- ---- what the tests say
pub done-test : {r : ℕ} {x : Read} → Means r x → eqb (status r) 0 ≡ is_done x
done-test (done s) = eq-eqb _ 0 s
done-test {r} (bad s) = ne_eqb (status r) 0 (omega arith)
done-test {r} (deep s) = ne_eqb (status r) 0 (omega arith)

pub low-refusal : {r : ℕ} {x : Read} → Means r x → status r < 2 → 7 ≡ refusal x
low-refusal (done s) h = refl
low-refusal (bad s) h = refl
low-refusal (deep s) h = absurd (omega arith)

pub high-refusal : {r : ℕ} {x : Read} → Means r x → 2 ≤ status r → 8 ≡ refusal x
high-refusal (done s) h = absurd (omega arith)
high-refusal (bad s) h = absurd (omega arith)
high-refusal (deep s) h = refl

-- ---- what a result says of the fields
abbrev next_of : Read → ℕ
next_of (Done j e k w) = j
next_of (Bad i) = i
next_of (Deep i) = i

next_field : {r : ℕ} {x : Read} → Means r x → read_next r ≡ next_of x
next_field (done s) = refl
next_field (bad s) = refl
next_field (deep s) = refl

done-fields : {r : ℕ} {x : Read} → Means r x → is_done x ≡ true → x ≡ Done (read_next r) (read_end r) (read_kind r) (read_wrong r)
done-fields (done s) q = refl
done-fields (bad s) q = let z : ◌≡◌ {A = ℕ} 0 1 = cc in absurd (omega arith)
done-fields (deep s) q = let z : ◌≡◌ {A = ℕ} 0 1 = cc in absurd (omega arith)

pub done-is : (r : ℕ) → is_done (read_of r) ≡ true → read_of r ≡ Done (read_next r) (read_end r) (read_kind r) (read_wrong r)
done-is r = done-fields (means r)

pub next-is : (r : ℕ) {i : ℕ} → read_of r ≡ Bad i → read_next r ≡ i
next-is r q = next_field (means r) ∙ ap next_of q

pub deep_is : (r : ℕ) {i : ℕ} → read_of r ≡ Deep i → read_next r ≡ i
deep_is r q = next_field (means r) ∙ ap next_of q

pub done_next : (r : ℕ) {j e : ℕ} {k : Kind} {w : Diagnostic} → read_of r ≡ Done j e k w
    → (read_next r ≡ j) × (read_end r ≡ e) × (read_kind r ≡ k) × (read_wrong r ≡ w)
done_next r q = let h = done-is r (ap is_done q) in (cc, cc, cc, cc)

-- ---- one token further
module _ (r : ℕ) (h : read_next r < 65535) where
  further-next : read_next (r + 1) ≡ read_next r + 1
  unfolding read_next
  further-next = omega arith

  further-end : read_end (r + 1) ≡ read_end r
  unfolding read_next read_end
  further-end = omega arith

  further-status : status (r + 1) ≡ status r
  unfolding read_next
  further-status = omega arith

  further-kind : read_kind (r + 1) ≡ read_kind r
  unfolding read_next read_kind
  further-kind = let e : (r + 1) / 2 ^ 32 % 2 ≡ r / 2 ^ 32 % 2 = omega arith in ap number_kind e

  further-wrong : read_wrong (r + 1) ≡ read_wrong r
  unfolding read_next read_wrong
  further-wrong = let e : (r + 1) / 2 ^ 35 ≡ r / 2 ^ 35 = omega arith in ap diagnosed e

  pub further-is : read_of (r + 1) ≡ further (read_of r)
  further-is = by (means r)
    where
      by : {x : Read} → Means r x → read_of (r + 1) ≡ further x
      by (done s) = made-done (r + 1) (further-status ∙ s) further-next further-end further-kind further-wrong
      by (bad s) = made-bad (r + 1) (further-status ∙ s) further-next
      by (deep s) = made-deep (r + 1) (rw further-status s) further-next

-- ---- a word made of its fields
module _ (next end kind wrong : ℕ) (h : next < 65536) (l : end < 65536) (m : kind < 2) where
  abbrev pub packed : ℕ
  packed = next + 65536 * end + 4294967296 * kind + 34359738368 * wrong

  packed-next : read_next packed ≡ next
  unfolding read_next
  packed-next = omega arith

  packed-end : read_end packed ≡ end
  unfolding read_end
  packed-end = omega arith

  packed-kind : read_kind packed ≡ number_kind kind
  unfolding read_kind
  packed-kind = let e : packed / 2 ^ 32 % 2 ≡ kind = omega arith in ap number_kind e

  packed-wrong : read_wrong packed ≡ diagnosed wrong
  unfolding read_wrong
  packed-wrong = let e : packed / 2 ^ 35 ≡ wrong = omega arith in ap diagnosed e

  pub packed-is : read_of packed ≡ Done next end (number_kind kind) (diagnosed wrong)
  packed-is = let s : status packed ≡ 0 = omega arith in made-done packed s packed-next packed-end packed-kind packed-wrong

module _ (at : ℕ) (h : at < 65536) where
  pub packed-bad : read_of (at + 8589934592) ≡ Bad at
  unfolding read_next
  packed-bad = made-bad (at + 8589934592) (omega arith) (omega arith)

  pub packed-deep : read_of (at + 17179869184) ≡ Deep at
  unfolding read_next
  packed-deep = made-deep (at + 17179869184) (omega arith) (omega arith)
