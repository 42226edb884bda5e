-- A law for each way through `enclosed`, `bracket` and `primary`.
use mathlib.Core.Path.{◌≡◌, refl, sym, ap, subst, ◌∙◌}
use mathlib.Core.Bool.{Bool, true, false, cond}
use mathlib.Core.List.{List, []}
use Prim.Native.Nat.{ℕ, zero, suc, ◌+◌, ◌-◌, ◌*◌, ◌≤◌}
use native.Mathlib.Omega.{arith}
use lib.Dec.{eqb}
use lib.ListN.{length, set}
use Rattle.values.specs.declared.Kind.{Kind}
use Rattle.values.specs.declared.Kind.TheVariants.{Int, Real}
use Rattle.memory.specs.declared.Bank.{Bank}
use Rattle.memory.specs.Cells.{bank_kind}
use Rattle.tokens.specs.declared.Function.{Function}
use Rattle.tokens.specs.declared.Token.TheVariants.{Letter, Name, Symbol}
use Rattle.tokens.specs.Scan.{Tok}
use Rattle.token_table.specs.private.Table.{word_at, tokens_from, TokenWords}
use Rattle.token_table.proofs.Laws.{tok}
use Rattle.grammar.specs.Tree.{Tree, Diagnostic, clear, indexed}
use Rattle.grammar.specs.Symbols.{loosest, open_paren, close_paren, open_index, close_index}
use Rattle.grammar.specs.Parse.{Result, ok, and_then, expect, enter, expression, primary, bracket}
use Rattle.code.specs.declared.Instr.TheVariants.{LoadIndexed}
use Rattle.code.specs.Encode.{join_word}
use Rattle.draft.specs.private.Results.{Read, Done, Bad, Deep, is_done, further, read_next, read_end, read_kind, read_wrong, read_of}
use Rattle.draft.specs.private.Words.{bank_at, leaf_opcode, is_mark}
use Rattle.draft.specs.private.Draft.{put_instr}
use Rattle.compiler.specs.private.Reading.{DraftHolds, SameResult, same_done, same_bad, same_deep, Span, span_done, span_bad, span_deep}
use Rattle.compiler.specs.private.Reading.{ReaderAgrees, primary_of, then_symbol, call_of}
use Rattle.compiler.proofs.reader.Looking.{Splits, head_is, look, mark, There, there, Leaf}
use Rattle.compiler.proofs.reader.Binding.{Stopped, span-earlier, bind_done, bind_stopped, expect-past, expect-other, enter-then, enter-inside}
use Rattle.compiler.proofs.reader.Binding.{enter-full, enter-other}
use Rattle.draft.proofs.results.Fields.{done-is}
use Rattle.compiler.proofs.reader.Meaning.{means-indexed}

-- ---- the result of a function
module _ {p : ℕ → List Tok → Result Tree} {cost : ℕ} {s : List ℕ} {at pc : ℕ} {o o' : List ℕ} where
  pub being : {x y : Read} → x ≡ y → ReaderAgrees p cost s at pc o o' y → ReaderAgrees p cost s at pc o o' x
  being e h = subst (ReaderAgrees p cost s at pc o o') (sym e) h

  pub as-done : (r : ℕ) → is_done (read_of r) ≡ true → ReaderAgrees p cost s at pc o o' (read_of r)
      → ReaderAgrees p cost s at pc o o' (Done (read_next r) (read_end r) (read_kind r) (read_wrong r))
  as-done r h x = subst (ReaderAgrees p cost s at pc o o') (done-is r h) x

-- the position and the place as the code has them
pub moved : {p : ℕ → List Tok → Result Tree} {cost : ℕ} {s : List ℕ} {at at' pc pc' : ℕ} {o o' : List ℕ} {r : Read} → at ≡ at' → pc ≡ pc'
    → ReaderAgrees p cost s at pc o o' r → ReaderAgrees p cost s at' pc' o o' r
moved {p} {cost} {s} {at} {at'} {pc} {pc'} {o} {o'} {r} a b h =
    subst (λ (i : ℕ). ReaderAgrees p cost s i pc' o o' r) a (subst (λ (e : ℕ). ReaderAgrees p cost s at e o o' r) b h)

-- the numbers of a result that is done
pub record Bounds (s : List ℕ) (at pc j e : ℕ) : Type 0 where
  pub ahead : at + 1 ≤ j
  pub within : j ≤ length s
  pub rises : pc ≤ e
  pub slack : e + 8 * at ≤ pc + 8 * j

pub bounds : {s : List ℕ} {at pc j e : ℕ} {k : Kind} {w : Diagnostic} → Span s at pc (Done j e k w) → Bounds s at pc j e
bounds (span_done a b c d) = record { ahead = a; within = b; rises = c; slack = d }

pub reached : {s : List ℕ} {at pc : ℕ} (r : ℕ) → is_done (read_of r) ≡ true → Span s at pc (read_of r) → Bounds s at pc (read_next r) (read_end r)
reached {s} {at} {pc} r h x = bounds (subst (Span s at pc) (done-is r h) x)

-- ---- an expression, and the symbol n behind it
abbrev pub Expression : ℕ → List ℕ → ℕ → ℕ → List ℕ → List ℕ → Read → Type 0
Expression d s at pc o o' r = ReaderAgrees (λ f ts. expression f d loosest ts) 3 s at pc o o' r

abbrev pub Enclosed : ℕ → ℕ → List ℕ → ℕ → ℕ → List ℕ → List ℕ → Read → Type 0
Enclosed n d s at pc o o' r = ReaderAgrees (λ f ts. then_symbol n (expression f d loosest ts)) 3 s at pc o o' r

module _ (d n : ℕ) {s : List ℕ} {at pc : ℕ} {o o' : List ℕ} where
  pub enclosed-stopped : {r : Read} → Expression d s at pc o o' r → Stopped r → Enclosed n d s at pc o o' r
  enclosed-stopped x h = record { span = x.span; same = λ f le. bind_stopped (λ t q. expect n q (λ z. ok t z)) h (x.same f le) }

  module _ {j e : ℕ} {k : Kind} {w : Diagnostic} (x : Expression d s at pc o o' (Done j e k w)) (t : TokenWords s) where
    pub enclosed-past : is_mark n (word_at s j) ≡ true → Enclosed n d s at pc o o' (Done (j + 1) e k w)
    enclosed-past m =
        let h = there n s j t m in
        let b = bounds x.span in
        record {
          span = span_done {j = j + 1} {e = e} (omega arith) (omega (arith, h.splits.within)) b.rises (omega arith);
          same = λ f le. bind_done (λ t q. expect n q (λ z. ok t z)) (x.same f le) (λ t i. rw (expect-past (λ z. ok t z) h.splits) (same_done i refl));
        }

    pub enclosed-other : is_mark n (word_at s j) ≡ false → Enclosed n d s at pc o o' (Bad j)
    enclosed-other m =
        let h : head_is n (tokens_from s j) ≡ false = sym (mark (look {s = s} {at = j} t refl) n) ∙ m in
        record {
          span = span_bad (bounds x.span).within;
          same = λ f le. bind_done (λ t q. expect n q (λ z. ok t z)) (x.same f le)
              (λ t i. rw (expect-other n (tokens_from s j) (λ z. ok t z) h) (same_bad refl));
        }

-- the same of the words that the code has
module _ (d n : ℕ) {s : List ℕ} {at pc : ℕ} {o o' : List ℕ} (r : ℕ) {i : ℕ} {b : Bool} (t : TokenWords s) (h : Expression d s at pc o o' (read_of r))
    (done : is_done (read_of r) ≡ true) (e : i ≡ read_next r) (m : b ≡ is_mark n (word_at s i)) where
  pub enclosed-closed : {x : Read} → b ≡ true → x ≡ further (read_of r) → Enclosed n d s at pc o o' x
  enclosed-closed q z = being (z ∙ ap further (done-is r done)) (enclosed-past d n (as-done r done h) t
      (ap (λ (j : ℕ). is_mark n (word_at s j)) (sym e) ∙ sym m ∙ q))

  pub enclosed-open : {x : Read} → b ≡ false → x ≡ Bad i → Enclosed n d s at pc o o' x
  enclosed-open q z = being (z ∙ ap Bad e) (enclosed-other d n (as-done r done h) t (ap (λ (j : ℕ). is_mark n (word_at s j)) (sym e) ∙ sym m ∙ q))

-- ---- an opener, and what stands in its place
module _ (d n : ℕ) {s : List ℕ} {at pc : ℕ} {o o' : List ℕ} (k : ℕ → ℕ → List Tok → Result Tree) (t : TokenWords s) where
  pub shut-reads : at ≤ length s → is_mark n (word_at s at) ≡ false → ReaderAgrees (λ f ts. enter d n ts (k f)) 0 s at pc o o' (Bad at)
  shut-reads l m =
      let h : head_is n (tokens_from s at) ≡ false = sym (mark (look {s = s} {at = at} t refl) n) ∙ m in
      record { span = span_bad l; same = λ f le. rw (enter-other d n (tokens_from s at) (k f) h) (same_bad refl) }

  pub full-reads : at ≤ length s → is_mark n (word_at s at) ≡ true → d ≡ 0 → ReaderAgrees (λ f ts. enter d n ts (k f)) 0 s at pc o o' (Deep at)
  full-reads l m e = record { span = span_deep l; same = λ f le. rw (enter-full d (k f) (there n s at t m).splits e) (same_deep refl) }

pub bracket-inside : (d n c : ℕ) {s : List ℕ} {at pc : ℕ} {o o' : List ℕ} {r : Read} → TokenWords s → is_mark n (word_at s at) ≡ true → (d ≡ 0 → ⊥)
    → ReaderAgrees (λ f ts. then_symbol c (expression f (d - 1) loosest ts)) 3 s (at + 1) pc o o' r
    → ReaderAgrees (λ f ts. enter d n ts (λ e q. bracket f e c q)) 0 s at pc o o' r
unfolding bracket
bracket-inside d n c {s} {at} {pc} {o} {o'} {r} t m z x = record { span = span-earlier (omega arith) x.span; same = go }
  where
    h : There n s at
    h = there n s at t m

    go : (f : ℕ) → (length s - at) * 8 + 0 ≤ f → SameResult pc o o' s r (enter d n (tokens_from s at) (λ e q. bracket f e c q))
    go zero le = absurd (omega (arith, h.splits.within))
    go (suc f) le = rw (enter-inside d (λ e q. bracket (suc f) e c q) h.splits z) (x.same f (omega (arith, h.splits.within)))

-- ---- primary
abbrev pub Reading : ℕ → List ℕ → ℕ → ℕ → List ℕ → List ℕ → Read → Type 0
Reading d s at pc o o' r = ReaderAgrees (λ f ts. primary_of f d ts) 1 s at pc o o' r

abbrev pub Index : ℕ → List ℕ → ℕ → ℕ → List ℕ → List ℕ → Read → Type 0
Index d s at pc o o' r = ReaderAgrees (λ f ts. enter d open_index ts (λ e q. bracket f e close_index q)) 0 s at pc o o' r

letter-step : (d : ℕ) {s : List ℕ} {at p : ℕ} {b : Bank} → Splits s at (tok (Letter b) p) → (f : ℕ)
    → primary_of (suc f) d (tokens_from s at)
    ≡ and_then (enter d open_index (tokens_from s (at + 1)) (λ e q. bracket f e close_index q)) (λ t q. ok (indexed b t) q)
unfolding primary
letter-step d {s} {at} {b = b} h f = rw h.split (sym (enter-then d open_index (tokens_from s (at + 1)) (λ e q. bracket f e close_index q)
    (λ t q. ok (indexed b t) q)))

module _ (d : ℕ) {s : List ℕ} {at pc : ℕ} {o : List ℕ} where
  primary-leaf : {x : Tok} {k : Kind} {w : Diagnostic} {o' : List ℕ} (t : Tree) → Splits s at x
      → ((f : ℕ) (xs : List Tok) → primary (suc f) d x xs ≡ ok t xs) → DraftHolds pc o o' (pc + 1) k w t → Reading d s at pc o o' (Done (at + 1) (pc + 1) k w)
  primary-leaf {x} {k} {w} {o'} t h q m = record {
    span = span_done {j = at + 1} {e = pc + 1} (omega arith) (omega (arith, h.within)) (omega arith)
        (omega arith);
    same = go;
  }
    where
      go : (f : ℕ) → (length s - at) * 8 + 1 ≤ f → SameResult pc o o' s (Done (at + 1) (pc + 1) k w) (primary_of f d (tokens_from s at))
      go zero le = absurd (omega arith)
      go (suc f) le = rw (h.split, q f (tokens_from s (at + 1))) (same_done m refl)

  pub primary-end : at ≤ length s → tokens_from s at ≡ [] → Reading d s at pc o o (Bad at)
  primary-end l e = record { span = span_bad l; same = λ f le. rw e (same_bad (sym e)) }

  module _ {p : ℕ} {b : Bank} (h : Splits s at (tok (Letter b) p)) where
    pub letter-stopped : {o₁ : List ℕ} {r : Read} → Index d s (at + 1) pc o o₁ r → Stopped r → Reading d s at pc o o₁ r
    letter-stopped {o₁} {r} x stop = record { span = span-earlier (omega arith) x.span; same = go }
      where
        go : (f : ℕ) → (length s - at) * 8 + 1 ≤ f → SameResult pc o o₁ s r (primary_of f d (tokens_from s at))
        go zero le = absurd (omega arith)
        go (suc f) le = rw (letter-step d h f) (bind_stopped (λ t q. ok (indexed b t) q) stop (x.same f (omega (arith, h.within))))

    pub letter-done : {o₁ o₂ : List ℕ} {j e : ℕ} {k : Kind} {w : Diagnostic} → Index d s (at + 1) pc o o₁ (Done j e k w)
        → o₂ ≡ put_instr o₁ e (LoadIndexed b) → Reading d s at pc o o₂ (Done j (e + 1) (bank_kind b) w)
    letter-done {o₁} {o₂} {j} {e} {k} {w} x q = record { span = reach (bounds x.span); same = go }
      where
        reach : Bounds s (at + 1) pc j e → Span s at pc (Done j (e + 1) (bank_kind b) w)
        reach y = span_done {j = j} {e = e + 1} (omega arith) y.within (omega arith) (omega arith)

        go : (f : ℕ) → (length s - at) * 8 + 1 ≤ f → SameResult pc o o₂ s (Done j (e + 1) (bank_kind b) w) (primary_of f d (tokens_from s at))
        go zero le = absurd (omega arith)
        go (suc f) le = rw (letter-step d h f) (bind_done (λ t z. ok (indexed b t) z) (x.same f (omega (arith, h.within)))
            (λ t m. same_done (means-indexed m b q) refl))

  module _ {o' : List ℕ} {r : Read} where
    pub primary-name : {p : ℕ} {g : Function} → Splits s at (tok (Name g) p) → ReaderAgrees (λ f ts. call_of g p d f ts) 0 s (at + 1) pc o o' r
        → Reading d s at pc o o' r
    unfolding primary
    primary-name h x = record { span = span-earlier (omega arith) x.span; same = go }
      where
        go : (f : ℕ) → (length s - at) * 8 + 1 ≤ f → SameResult pc o o' s r (primary_of f d (tokens_from s at))
        go zero le = absurd (omega arith)
        go (suc f) le = rw h.split (x.same f (omega (arith, h.within)))

    pub primary-symbol : {p n : ℕ} → Splits s at (tok (Symbol n) p) → ReaderAgrees (λ f ts. enter d open_paren ts (λ e q. bracket f e close_paren q)) 0 s at
        pc o o' r → Reading d s at pc o o' r
    unfolding primary
    primary-symbol h x = record { span = x.span; same = go }
      where
        go : (f : ℕ) → (length s - at) * 8 + 1 ≤ f → SameResult pc o o' s r (primary_of f d (tokens_from s at))
        go zero le = absurd (omega arith)
        go (suc f) le = rw h.split (rw h.split at (x.same f (omega arith)))

pub leaf-reads : (d : ℕ) {s : List ℕ} {at pc c n x p : ℕ} {o o' : List ℕ} (l : Leaf s at c n x p) → o' ≡ set o pc (join_word (leaf_opcode c n) x)
    → Reading d s at pc o o' (Done (at + 1) (pc + 1) (cond (eqb c 1) Int (cond (eqb c 2) Real (bank_kind (bank_at n)))) clear)
leaf-reads d {pc = pc} {o = o} l e = primary-leaf d l.tree l.splits (λ f xs. l.reads f d xs) (rw e (l.means pc o))
