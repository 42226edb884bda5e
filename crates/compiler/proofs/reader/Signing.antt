-- Unary operators before a primary: from the last of them to the first, each makes an operand of the operand behind it.
use mathlib.Core.Path.{◌≡◌, refl, ap, subst, ◌∙◌}
use mathlib.Core.Bool.{cond}
use mathlib.Core.List.{List, [], ◌∷◌}
use Prim.Native.Nat.{ℕ, zero, suc, ◌+◌, ◌-◌, ◌*◌, ◌≤◌, ◌<◌}
use native.Mathlib.Numerals.{add-one}
use native.Mathlib.Omega.{arith}
use lib.Dec.{eqb}
use lib.ListN.{length, set}
use Rattle.values.specs.declared.Kind.{Kind}
use Rattle.values.specs.declared.Kind.TheVariants.{Int, Real}
use Rattle.operators.specs.declared.UnaryOp.{UnaryOp}
use Rattle.operators.specs.Kinds.{unary_kind, unary_takes}
use Rattle.memory.specs.Cells.{bank_kind}
use Rattle.tokens.specs.Scan.{Tok}
use Rattle.token_table.specs.private.Table.{word_place, word_at, tokens_from, TokenWords}
use Rattle.grammar.specs.Tree.{unary, Diagnostic, clear, earlier, unless, wrong_kind_at}
use Rattle.grammar.specs.Symbols.{none}
use Rattle.grammar.specs.Parse.{ok, and_then, operand}
use Rattle.code.specs.declared.Instr.TheVariants.{Unary}
use Rattle.code.specs.Encode.{join_word}
use Rattle.draft.specs.private.Results.{Read, Done}
use Rattle.draft.specs.private.Words.{unary_at, bank_at, leaf_opcode, prefix_number, Signs}
use Rattle.draft.specs.private.Draft.{put_instr, Unaries}
use Rattle.draft.specs.private.Draft as U
use Rattle.compiler.specs.private.Reading.{SameResult, same_done, Span, span_done, ReaderAgrees, primary_of}
use Rattle.compiler.proofs.reader.Looking.{look, head_sign, Signed, sign-there, sign-none, Leaf}
use Rattle.compiler.proofs.reader.Binding.{Stopped, span-earlier, bind_done, bind_stopped}
use Rattle.compiler.proofs.reader.Meaning.{means-unary}
use Rattle.compiler.proofs.reader.Steps.{Reading, leaf-reads, Bounds, bounds}

abbrev pub Operand : ℕ → List ℕ → ℕ → ℕ → List ℕ → List ℕ → Read → Type 0
Operand d s at pc o o' r = ReaderAgrees (λ f ts. operand f d ts) 2 s at pc o o' r

-- ---- no unary operator
plain : (f d : ℕ) (ts : List Tok) → head_sign ts ≡ none → operand (suc f) d ts ≡ primary_of f d ts
unfolding operand
plain f d [] e = refl
plain f d (x ∷ xs) e = rw (operand, e) refl

pub operand-plain : (d : ℕ) {s : List ℕ} {at pc : ℕ} {o o' : List ℕ} {r : Read} → head_sign (tokens_from s at) ≡ none → Reading d s at pc o o' r
    → Operand d s at pc o o' r
operand-plain d {s} {at} {pc} {o} {o'} {r} h x = record { span = x.span; same = go }
  where
    go : (f : ℕ) → (length s - at) * 8 + 2 ≤ f → SameResult pc o o' s r (operand f d (tokens_from s at))
    go zero le = absurd (omega arith)
    go (suc f) le = rw (plain f d (tokens_from s at) h) (x.same f (omega arith))

pub operand-leaf : (d : ℕ) {s : List ℕ} {at pc c n x p : ℕ} {o o' : List ℕ} (l : Leaf s at c n x p) → o' ≡ set o pc (join_word (leaf_opcode c n) x)
    → Operand d s at pc o o' (Done (at + 1) (pc + 1) (cond (eqb c 1) Int (cond (eqb c 2) Real (bank_kind (bank_at n)))) clear)
operand-leaf d {pc = pc} {o = o} l e = operand-plain d (ap head_sign l.splits.split ∙ l.plain) (leaf-reads d l e)

-- ---- one unary operator
sign-step : (d : ℕ) {s : List ℕ} {at p : ℕ} {a : UnaryOp} → Signed s at a p → (f : ℕ)
    → operand (suc f) d (tokens_from s at) ≡ and_then (operand f d (tokens_from s (at + 1))) (λ t r. ok (unary p a t) r)
unfolding operand
sign-step d z f = rw (z.splits.split, operand, z.sign) refl

module _ (d : ℕ) {s : List ℕ} {at p pc : ℕ} {o o₁ : List ℕ} {a : UnaryOp} (z : Signed s at a p) where
  sign-stopped : {r : Read} → Operand d s (suc at) pc o o₁ r → Stopped r → Operand d s at pc o o₁ r
  sign-stopped {r} y h = record { span = span-earlier (omega arith) y.span; same = go }
    where
      x : Operand d s (at + 1) pc o o₁ r
      x = rw add-one y

      go : (f : ℕ) → (length s - at) * 8 + 2 ≤ f → SameResult pc o o₁ s r (operand f d (tokens_from s at))
      go zero le = absurd (omega arith)
      go (suc f) le = rw (sign-step d z f) (bind_stopped (λ t r. ok (unary p a t) r) h (x.same f (omega (arith, z.splits.within))))

  sign-done : {j e : ℕ} {k : Kind} {w : Diagnostic} → Operand d s (suc at) pc o o₁ (Done j e k w)
      → Operand d s at pc o (put_instr o₁ e (Unary a)) (Done j (e + 1) (unary_kind a k) (earlier (unless (unary_takes a k) (wrong_kind_at p)) w))
  sign-done {j} {e} {k} {w} y = record { span = reach (bounds y.span); same = go }
    where
      x : Operand d s (at + 1) pc o o₁ (Done j e k w)
      x = rw add-one y

      reach : Bounds s (suc at) pc j e → Span s at pc (Done j (e + 1) (unary_kind a k) (earlier (unless (unary_takes a k) (wrong_kind_at p)) w))
      reach b = span_done {j = j} {e = e + 1} (omega arith) b.within (omega arith) (omega arith)

      go : (f : ℕ) → (length s - at) * 8 + 2 ≤ f → SameResult pc o (put_instr o₁ e (Unary a)) s
          (Done j (e + 1) (unary_kind a k) (earlier (unless (unary_takes a k) (wrong_kind_at p)) w)) (operand f d (tokens_from s at))
      go zero le = absurd (omega arith)
      go (suc f) le =
          rw (sign-step d z f) (bind_done (λ t r. ok (unary p a t) r) (x.same f (omega (arith, z.splits.within)))
          (λ t m. same_done (means-unary m p a refl) refl))

-- ---- all of them
up_to : {s : List ℕ} {first : ℕ} {o : List ℕ} {r : Read} {i : ℕ} {o' : List ℕ} {r' : Read} → Unaries s first o r i o' r' → i ≤ first
up_to U.none = omega arith
up_to (U.more v) = omega (arith, up_to v)

module _ (d : ℕ) {s : List ℕ} {at first pc : ℕ} {o o₁ : List ℕ} {r : Read} (t : TokenWords s) (h : Signs s at first) (x : Reading d s first pc o o₁ r) where
  last : Operand d s first pc o o₁ r
  last = operand-plain d (sign-none (look {s = s} {at = first} t refl) h.stops) x

  signed-at : (i : ℕ) → at ≤ i → i < first → Signed s i (unary_at (prefix_number (word_at s i))) (word_place (word_at s i))
  signed-at i a b = sign-there (look {s = s} {at = i} t refl) (h.each i a b)

  pub operand-stopped : Stopped r → Operand d s at pc o o₁ r
  operand-stopped stop = go (first - at) at (omega arith) (omega (arith, h.ahead))
    where
      go : (n i : ℕ) → at ≤ i → i + n ≡ first → Operand d s i pc o o₁ r
      go zero i a e = let q : first ≡ i = omega arith in subst (λ (k : ℕ). Operand d s k pc o o₁ r) q last
      go (suc n) i a e = sign-stopped d (signed-at i a (omega arith)) (go n (suc i) (omega arith) (omega arith)) stop

  pub operand-signed : {o₂ : List ℕ} {r' : Read} → Unaries s first o₁ r at o₂ r' → Operand d s at pc o o₂ r'
  operand-signed u = go u (omega arith)
    where
      go : {i : ℕ} {o₂ : List ℕ} {r' : Read} → Unaries s first o₁ r i o₂ r' → at ≤ i → Operand d s i pc o o₂ r'
      go U.none a = last
      go (U.more {i = i} v) a = sign-done d (signed-at i a (omega (arith, up_to v))) (go v (omega arith))
