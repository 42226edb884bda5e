-- The loop over binary operators: what was read so far, climbed on from here, is the whole expression's result.
use mathlib.Core.Path.{◌≡◌, refl, sym, ap, subst, ◌∙◌}
use mathlib.Core.Bool.{Bool, true, false, cond}
use mathlib.Core.List.{List, [], ◌∷◌}
use Prim.Native.Nat.{ℕ, zero, suc, ◌+◌, ◌-◌, ◌*◌, ◌≤◌, ◌<◌}
use native.Mathlib.Omega.{arith}
use lib.Dec.{ltb}
use lib.ListN.{length}
use borrow.Author.Tests.{le-leb}
use Rattle.values.specs.declared.Kind.{Kind}
use Rattle.tokens.specs.Scan.{Tok}
use Rattle.token_table.specs.private.Table.{word_operand, word_place, word_at, tokens_from, TokenWords}
use Rattle.grammar.specs.Tree.{Tree, Diagnostic, earlier}
use Rattle.grammar.specs.Symbols.{group_number, infix_tree}
use Rattle.grammar.specs.Parse.{Result, ok, and_then, expression, climb}
use Rattle.draft.specs.private.Results.{Read, Done, is_done, read_next, read_end, read_kind, read_wrong, read_of}
use Rattle.draft.specs.private.Words.{group_in}
use Rattle.draft.specs.private.Draft.{reserved, joined_code, joined_end, infix_kind, infix_wrong}
use Rattle.compiler.specs.private.Reading.{DraftHolds, SameResult, same_done, Span, span_done, ReaderAgrees}
use Rattle.draft.proofs.results.Fields.{done-is, done_next}
use Rattle.compiler.proofs.reader.Looking.{Splits, symbol_at, Look, look, head_binds, Operator, operator-there, no-operator, loose-operator}
use Rattle.compiler.proofs.reader.Binding.{Stopped, span-stopped, bind_stopped}
use Rattle.compiler.proofs.reader.Meaning.{means-infix}
use Rattle.compiler.proofs.reader.Steps.{being, as-done, moved, Bounds, bounds}
use Rattle.compiler.proofs.reader.Signing.{Operand}

abbrev pub Climbed : ℕ → ℕ → List ℕ → ℕ → ℕ → List ℕ → List ℕ → Read → Type 0
Climbed d l s at pc o o' r = ReaderAgrees (λ f ts. expression f d l ts) 3 s at pc o o' r

-- the result q is what climbing on from a tree gives, which was read up to j and written up to e
pub record Onward (d l : ℕ) (s : List ℕ) (pc : ℕ) (o o' : List ℕ) (j e : ℕ) (k : Kind) (w : Diagnostic) (q : Result Tree) : Type 0 where
  pub fuel : ℕ
  pub enough : (length s - j) * 8 + 1 ≤ fuel
  pub tree : Tree
  pub means : DraftHolds pc o o' e k w tree
  pub climbs : q ≡ climb fuel d l tree (tokens_from s j)

pub record Climbing (d l : ℕ) (s : List ℕ) (at pc : ℕ) (o o' : List ℕ) (j e : ℕ) (k : Kind) (w : Diagnostic) : Type 0 where
  pub span : Bounds s at pc j e
  pub onward : (f : ℕ) → (length s - at) * 8 + 3 ≤ f → Onward d l s pc o o' j e k w (expression f d l (tokens_from s at))

-- ---- the first operand
module _ (d l : ℕ) {s : List ℕ} {at pc : ℕ} {o o' : List ℕ} where
  pub climb-stopped : {r : Read} → Operand d s at pc o o' r → Stopped r → Climbed d l s at pc o o' r
  unfolding expression
  climb-stopped {r} x h = record { span = x.span; same = go }
    where
      go : (f : ℕ) → (length s - at) * 8 + 3 ≤ f → SameResult pc o o' s r (expression f d l (tokens_from s at))
      go zero le = absurd (omega arith)
      go (suc f) le = bind_stopped (λ t z. climb f d l t z) h (x.same f (omega arith))

  pub climb-starts : {j e : ℕ} {k : Kind} {w : Diagnostic} → Operand d s at pc o o' (Done j e k w) → Climbing d l s at pc o o' j e k w
  unfolding expression
  climb-starts {j} {e} {k} {w} x = record { span = bounds x.span; onward = go }
    where
      after : {q : Result Tree} (f : ℕ) → (length s - at) * 8 ≤ f → Bounds s at pc j e → SameResult pc o o' s (Done j e k w) q
          → Onward d l s pc o o' j e k w (and_then q (λ t z. climb f d l t z))
      after f le b (same_done {t = t} m q) = record { fuel = f; enough = omega arith; tree = t; means = m; climbs = ap (climb f d l t) q }

      go : (f : ℕ) → (length s - at) * 8 + 3 ≤ f → Onward d l s pc o o' j e k w (expression f d l (tokens_from s at))
      go zero le = absurd (omega arith)
      go (suc f) le = after f (omega arith) (bounds x.span) (x.same f (omega arith))

-- ---- an operator of the group g
pub reserved-few : (n : ℕ) → reserved n ≤ 1
reserved-few n = by (ltb n 18)
  where
    by : (b : Bool) → cond b 0 1 ≤ 1
    by true = omega arith
    by false = omega arith

few : (n : ℕ) → reserved n + cond (ltb n 18) 1 4 ≤ 8
few n = by (ltb n 18)
  where
    by : (b : Bool) → cond b 0 1 + cond b 1 4 ≤ 8
    by true = omega arith
    by false = omega arith

step : (d l : ℕ) {s : List ℕ} {j n g p : ℕ} → Splits s j (symbol_at n p) → group_number n ≡ g → 1 ≤ g → g ≤ l → (f : ℕ) (t : Tree)
    → climb (suc f) d l t (tokens_from s j) ≡ and_then (expression f d (g - 1) (tokens_from s (j + 1))) (λ u z. climb f d l (infix_tree n p t u) z)
unfolding climb
step d l {s} {j} {n} {g} {p} a group low high f t =
    let low' : 1 ≤ group_number n = rw group low in
    let high' : group_number n ≤ l = rw group high in
    rw (a.split, climb, le-leb 1 (group_number n) low', le-leb (group_number n) l high')
    (ap (λ (i : ℕ). and_then (expression f d (i - 1) (tokens_from s (j + 1))) (λ u z. climb f d l (infix_tree n p t u) z)) group)

module _ (d l : ℕ) {s : List ℕ} {at pc : ℕ} {o o₁ : List ℕ} {j e : ℕ} {k : Kind} {w : Diagnostic} (h : Climbing d l s at pc o o₁ j e k w)
    {n g p : ℕ} (a : Splits s j (symbol_at n p)) (group : group_number n ≡ g) (low : 1 ≤ g) (high : g ≤ l) where
  pub climb-right-stopped : {o₂ : List ℕ} {r : Read} → Climbed d (g - 1) s (j + 1) (e + reserved n) o₁ o₂ r → Stopped r → Climbed d l s at pc o o₂ r
  climb-right-stopped {o₂} {r} x stop = record {
    span = span-stopped stop x.span;
    same = λ f le. let y = h.onward f le in
        go y.fuel y.enough y.tree y.climbs;
  }
    where
      go : {q : Result Tree} (f : ℕ) → (length s - j) * 8 + 1 ≤ f → (t : Tree) → q ≡ climb f d l t (tokens_from s j) → SameResult pc o o₂ s r q
      go zero le t c = absurd (omega arith)
      go (suc f) le t c =
          subst (SameResult pc o o₂ s r) (sym (c ∙ step d l a group low high f t))
          (bind_stopped (λ u z. climb f d l (infix_tree n p t u) z) stop (x.same f (omega (arith, a.within))))

  pub climb-goes-on : {o₂ o₃ : List ℕ} {j' e' : ℕ} {k' : Kind} {w' : Diagnostic} → Climbed d (g - 1) s (j + 1) (e + reserved n) o₁ o₂ (Done j' e' k' w')
      → o₃ ≡ joined_code o₂ n e e'
      → Climbing d l s at pc o o₃ j' (joined_end n e') (infix_kind n k k') (earlier (infix_wrong n p k k') (earlier w w'))
  climb-goes-on {o₂} {o₃} {j'} {e'} {k'} {w'} x q = record {
    span = reach h.span (bounds x.span);
    onward = λ f le. let y = h.onward f le in
        go y.fuel y.enough y.tree y.means y.climbs;
  }
    where
      reach : Bounds s at pc j e → Bounds s (j + 1) (e + reserved n) j' e' → Bounds s at pc j' (joined_end n e')
      reach u v = record { ahead = omega arith; within = v.within; rises = omega arith; slack = omega (arith, few n) }

      On : Result Tree → Type 0
      On z = Onward d l s pc o o₃ j' (joined_end n e') (infix_kind n k k') (earlier (infix_wrong n p k k') (earlier w w')) z

      after : {z : Result Tree} (f : ℕ) (t : Tree) → DraftHolds pc o o₁ e k w t → (length s - j) * 8 ≤ f
          → SameResult (e + reserved n) o₁ o₂ s (Done j' e' k' w') z → On (and_then z (λ u z. climb f d l (infix_tree n p t u) z))
      after f t m le (same_done {t = u} i c) =
          let b = bounds x.span in
          record { fuel = f; enough = omega arith; tree = infix_tree n p t u; means = means-infix m n p i q; climbs = ap (climb f d l (infix_tree n p t u)) c }

      go : {z : Result Tree} (f : ℕ) → (length s - j) * 8 + 1 ≤ f → (t : Tree) → DraftHolds pc o o₁ e k w t → z ≡ climb f d l t (tokens_from s j) → On z
      go zero le t m c = absurd (omega arith)
      go (suc f) le t m c = subst On (sym (c ∙ step d l a group low high f t)) (after f t m (omega arith) (x.same f (omega (arith, a.within))))

-- ---- no operator comes next
halts : (f d l : ℕ) (t : Tree) (ts : List Tok) → head_binds l ts ≡ false → climb (suc f) d l t ts ≡ ok t ts
unfolding climb
halts f d l t [] e = refl
halts f d l t (x ∷ xs) e = rw (climb, e) refl

pub climb-stops : (d l : ℕ) {s : List ℕ} {at pc : ℕ} {o o' : List ℕ} {j e : ℕ} {k : Kind} {w : Diagnostic} → Climbing d l s at pc o o' j e k w
    → head_binds l (tokens_from s j) ≡ false → Climbed d l s at pc o o' (Done j e k w)
climb-stops d l {s} {at} {pc} {o} {o'} {j} {e} {k} {w} h b = record
    { span = reach h.span; same = λ f le. let y = h.onward f le in go y.fuel y.enough y.tree y.means y.climbs }
  where
    reach : Bounds s at pc j e → Span s at pc (Done j e k w)
    reach u = span_done u.ahead u.within u.rises u.slack

    go : {q : Result Tree} (f : ℕ) → (length s - j) * 8 + 1 ≤ f → (t : Tree) → DraftHolds pc o o' e k w t → q ≡ climb f d l t (tokens_from s j)
        → SameResult pc o o' s (Done j e k w) q
    go zero le t m c = absurd (omega arith)
    go (suc f) le t m c = subst (SameResult pc o o' s (Done j e k w)) (sym (c ∙ halts f d l t (tokens_from s j) b)) (same_done m refl)

-- ---- the words that the code has: what was read so far, the word behind it, and its group
abbrev pub Climb : ℕ → ℕ → List ℕ → ℕ → ℕ → List ℕ → List ℕ → ℕ → Type 0
Climb d l s at pc o o' left = Climbing d l s at pc o o' (read_next left) (read_end left) (read_kind left) (read_wrong left)

module _ (d l : ℕ) {s : List ℕ} {at pc : ℕ} {o o₁ : List ℕ} (left : ℕ) {i w g : ℕ} (h : Climb d l s at pc o o₁ left) (t : TokenWords s)
    (next : i ≡ read_next left) (word : w ≡ word_at s i) (group : g ≡ group_in w) where
  looks : Look s (read_next left) w
  looks = look t (word ∙ ap (λ (j : ℕ). word_at s j) next)

  pub loop-none : is_done (read_of left) ≡ true → g ≡ 0 → Climbed d l s at pc o o₁ (read_of left)
  loop-none done z = being (done-is left done) (climb-stops d l h (no-operator l looks (sym group ∙ z)))

  pub loop-loose : is_done (read_of left) ≡ true → (g ≡ 0 → ⊥) → l < g → Climbed d l s at pc o o₁ (read_of left)
  loop-loose done z lt = being (done-is left done) (climb-stops d l h (loose-operator l looks (λ e. z (group ∙ e)) (rw group at lt)))

  module _ (z : g ≡ 0 → ⊥) where
    pub loop-operator : Operator s (read_next left) (word_operand w) (word_place w) (group_in w)
    loop-operator = operator-there looks (λ e. z (group ∙ e))

    module _ (high : g ≤ l) {e : ℕ} (place : e ≡ read_end left + reserved (word_operand w)) {o₂ : List ℕ} where
      pub loop-stopped : {r : Read} → Climbed d (g - 1) s (i + 1) e o₁ o₂ r → Stopped r → Climbed d l s at pc o o₂ r
      loop-stopped x stop =
          let low : 1 ≤ g = omega arith in
          climb-right-stopped d l h loop-operator.splits (loop-operator.group ∙ sym group) low high (moved (ap (λ (j : ℕ). j + 1) next) place x) stop

      pub loop-joined : (right x : ℕ) {o₃ : List ℕ} → Climbed d (g - 1) s (i + 1) e o₁ o₂ (read_of right) → is_done (read_of right) ≡ true
          → read_of x ≡ Done (read_next right) (joined_end (word_operand w) (read_end right)) (infix_kind (word_operand w) (read_kind left) (read_kind right))
          (earlier (infix_wrong (word_operand w) (word_place w) (read_kind left) (read_kind right)) (earlier (read_wrong left) (read_wrong right)))
          → o₃ ≡ joined_code o₂ (word_operand w) (read_end left) (read_end right) → Climb d l s at pc o o₃ x
      loop-joined right x y done q c =
          let low : 1 ≤ g = omega arith in
          let (a, b, k, v) = done_next x q in
          let m = moved (ap (λ (j : ℕ). j + 1) next) place y in
          rw (a, b, k, v) (climb-goes-on d l h loop-operator.splits (loop-operator.group ∙ sym group) low high (as-done right done m) c)
