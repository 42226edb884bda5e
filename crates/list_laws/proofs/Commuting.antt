-- Two independent formulas change places: each finds the cells that it reads as they were, and their effects commute. What follows depends on the memory and
-- the lengths alone.
use mathlib.Core.Path.{◌≡◌, refl, sym, ap, subst, ◌∙◌}
use mathlib.Core.Bool.{true}
use mathlib.Core.List.{List, [], ◌∷◌, ◌++◌}
use Prim.Native.Nat.{ℕ}
use native.Mathlib.Decide.{ℕ_discrete}
use lib.ListN.{length}
use Rattle.memory.specs.declared.Bank.{Bank}
use Rattle.memory.specs.Layout.{image_size}
use Rattle.memory.specs.Cells.{read_rule}
use Rattle.memory.specs.Environment.{Environment, memory_at}
use Rattle.read_laws.specs.Theorems.{AlikeOn}
use Rattle.read_answers.proofs.Laws.{answer-theorems}
use Rattle.delivery.specs.declared.Answer.{Answer}
use Rattle.delivery.specs.declared.Answer.TheVariants.{Refused}
use Rattle.operations.specs.Operations.{report_of, Request, request, request_answer, request_memory}
use Rattle.operations.proofs.Requests.{no-memory}
use Rattle.list_laws.specs.Running.{Listed, Buffers, request_of, stepped, answered, after, answers_of}
use Rattle.list_laws.specs.Independence.{write_set, read_set, Disjoint, Independent, SameLengths}
use Rattle.list_laws.specs.Theorems.{exchanged}
use Rattle.list_laws.proofs.Effects.{Effect, effect_of, applied, does, effect-same, effect-alike, into, kept, swaps}
use Rattle.list_laws.proofs.Requests.{asked, independent-same, memory-same, step-lengths, answer-same}

pub same-again : {r s u : Buffers} → SameLengths r s → SameLengths s u → SameLengths r u
same-again h k = record { memory = h.memory ∙ k.memory; code = h.code ∙ k.code; index = h.index ∙ k.index }

pub same_back : {r s : Buffers} → SameLengths r s → SameLengths s r
same_back h = record { memory = sym h.memory; code = sym h.code; index = sym h.index }

pub independent : (e f : Listed) (r s : Buffers) → SameLengths r s → Independent (request_of e r) (request_of f r) → Independent (request_of e s) (request_of f s)
independent e f r s h n = independent-same (asked e r s h) (asked f r s h) n

module _ (tick : ℕ) where
  -- what f reads is as it was before e
  untouched : (e f : Listed) (s : Buffers) → Disjoint (read_set (request_of f s)) (write_set (request_of e s)) → (b : Bank) (i : ℕ)
      → read_set (request_of f s) b i ≡ true → read_rule (stepped tick e s).memory b i ≡ read_rule s.memory b i
  untouched e f s d b i r =
      ap (λ (m : List ℕ). read_rule m b i) (does tick s.memory (request_of e s))
      ∙ kept (into (memory_at tick s.memory) (request_of e s)) d s.memory b i r

  -- so e and then f does both effects
  both : (e f : Listed) (s : Buffers) → Disjoint (read_set (request_of f s)) (write_set (request_of e s))
      → (after tick (e ∷ f ∷ []) s).memory
      ≡ applied (applied s.memory (effect_of (memory_at tick s.memory) (request_of e s))) (effect_of (memory_at tick s.memory) (request_of f s))
  both e f s d =
      let m = s.memory in
      let n = (stepped tick e s).memory in
      let q = request_of f (stepped tick e s) in
      let alike : AlikeOn (read_set (request_of f s)) (memory_at tick n) (memory_at tick m) = record { cells = untouched e f s d; tick = refl } in
      does tick n q
      ∙ ap (applied n) (effect-same (memory_at tick n) (asked f (stepped tick e s) s (step-lengths tick e s)) ∙ effect-alike (request_of f s) alike)
      ∙ ap (λ (l : List ℕ). applied l (effect_of (memory_at tick m) (request_of f s))) (does tick m (request_of e s))

  -- and f answers as before e
  same_answer : (e f : Listed) (s : Buffers) → Disjoint (read_set (request_of f s)) (write_set (request_of e s))
      → answered tick f (stepped tick e s) ≡ answered tick f s
  same_answer e f s d = buffers ∙ memories (ℕ_discrete (length s.memory) image_size)
    where
      kept-lengths : SameLengths (stepped tick e s) s
      kept-lengths = step-lengths tick e s

      -- the answer on a memory, with the buffers as they were
      on : List ℕ → Answer
      on m = request_answer tick m (request f.target f.text m s.code s.index)

      buffers : answered tick f (stepped tick e s) ≡ on (stepped tick e s).memory
      buffers =
          answer-same tick (stepped tick e s).memory f.target f.text (stepped tick e s).code (stepped tick e s).index s.code s.index
          kept-lengths.code kept-lengths.index

      refused : (m : List ℕ) → (length m ≡ image_size → ⊥) → on m ≡ Refused 1 0
      refused m h = ap (request_answer tick m) (no-memory f.target f.text m s.code s.index h)

      memories : Dec (length s.memory ≡ image_size) → on (stepped tick e s).memory ≡ answered tick f s
      memories (yes h) =
          sym (answer-theorems.answer tick f.target f.text s.code s.index s.memory (stepped tick e s).memory
          (record { size = h; size' = kept-lengths.memory ∙ h; cells = λ b i r. sym (untouched e f s d b i r) }))
      memories (no h) = refused (stepped tick e s).memory (λ k. h (sym kept-lengths.memory ∙ k)) ∙ sym (refused s.memory h)

  pub commute : (e f : Listed) (s : Buffers) → Independent (request_of e s) (request_of f s)
      → ((after tick (e ∷ f ∷ []) s).memory ≡ (after tick (f ∷ e ∷ []) s).memory)
      × ((answered tick e (stepped tick f s) ≡ answered tick e s) × (answered tick f (stepped tick e s) ≡ answered tick f s))
  commute e f s n =
      let E = memory_at tick s.memory in
      let one = both e f s n.reads_second in
      let other = both f e s n.reads_first in (
        one ∙ swaps (into E (request_of e s)) (into E (request_of f s)) n.targets s.memory ∙ sym other,
        (same_answer f e s n.reads_first, same_answer e f s n.reads_second),
      )

  -- ---- what follows
  record Same (r s : Buffers) : Type 0 where
    memory : r.memory ≡ s.memory
    code : length r.code ≡ length s.code
    index : length r.index ≡ length s.index

  lengths : {r s : Buffers} → Same r s → SameLengths r s
  lengths h = record { memory = ap length h.memory; code = h.code; index = h.index }

  step_same : (e : Listed) (r s : Buffers) → Same r s → Same (stepped tick e r) (stepped tick e s)
  step_same e r s h =
      let all = same-again (step-lengths tick e r) (same-again (lengths h) (same_back (step-lengths tick e s))) in
      record {
        memory =
            ap (λ (m : List ℕ). request_memory tick m (request_of e r)) h.memory
            ∙ memory-same tick s.memory (asked e r s (lengths h));
        code = all.code;
        index = all.index;
      }

  answers-same : (e : Listed) (r s : Buffers) → Same r s → answered tick e r ≡ answered tick e s
  answers-same e r s h =
      ap (λ (m : List ℕ). request_answer tick m (request e.target e.text m r.code r.index)) h.memory
      ∙ answer-same tick s.memory e.target e.text r.code r.index s.code s.index h.code h.index

  follows : (es : List Listed) (r s : Buffers) → Same r s → ((after tick es r).memory ≡ (after tick es s).memory) × (answers_of tick es r ≡ answers_of tick es s)
  follows [] r s h = (h.memory, refl)
  follows (e ∷ es) r s h =
      let rest = follows es (stepped tick e r) (stepped tick e s) (step_same e r s h) in (
        rest.0,
        ap (λ (a : Answer). (report_of a).answer ∷ answers_of tick es (stepped tick e r)) (answers-same e r s h)
            ∙ ap (λ (l : List ℕ). (report_of (answered tick e s)).answer ∷ l) rest.1,
      )

  -- ---- in a list
  abbrev number : Answer → ℕ
  number a = (report_of a).answer

  exchanged-here : (ys : List Listed) (e f : Listed) (s : Buffers) → Independent (request_of e s) (request_of f s)
      → ((after tick (e ∷ f ∷ ys) s).memory ≡ (after tick (f ∷ e ∷ ys) s).memory)
      × (answers_of tick (f ∷ e ∷ ys) s ≡ exchanged 0 (answers_of tick (e ∷ f ∷ ys) s))
  exchanged-here ys e f s n =
      let either = commute e f s n in
      let r = stepped tick f (stepped tick e s) in
      let r' = stepped tick e (stepped tick f s) in
      let one : SameLengths r s = same-again (step-lengths tick f (stepped tick e s)) (step-lengths tick e s) in
      let other : SameLengths r' s = same-again (step-lengths tick e (stepped tick f s)) (step-lengths tick f s) in
      let all = same-again one (same_back other) in
      let rest = follows ys r r' (record { memory = either.0; code = all.code; index = all.index }) in (
        rest.0,
        ap (λ (a : Answer). number a ∷ number (answered tick e (stepped tick f s)) ∷ answers_of tick ys r') (sym either.1.1)
            ∙ ap (λ (a : Answer). number (answered tick f (stepped tick e s)) ∷ number a ∷ answers_of tick ys r') either.1.0
            ∙ ap (λ (l : List ℕ). number (answered tick f (stepped tick e s)) ∷ number (answered tick e s) ∷ l) (sym rest.1),
      )

  pub swapped : (xs ys : List Listed) (e f : Listed) (s : Buffers) → Independent (request_of e s) (request_of f s)
      → ((after tick (xs ++ e ∷ f ∷ ys) s).memory ≡ (after tick (xs ++ f ∷ e ∷ ys) s).memory)
      × (answers_of tick (xs ++ f ∷ e ∷ ys) s ≡ exchanged (length xs) (answers_of tick (xs ++ e ∷ f ∷ ys) s))
  swapped [] ys e f s n = exchanged-here ys e f s n
  swapped (x ∷ xs) ys e f s n =
      let rest = swapped xs ys e f (stepped tick x s) (independent e f s (stepped tick x s) (same_back (step-lengths tick x s)) n) in
      (rest.0, ap (λ (l : List ℕ). (report_of (answered tick x s)).answer ∷ l) rest.1)

  pub same_lengths : (es : List Listed) (s : Buffers) → SameLengths (after tick es s) s
  same_lengths [] s = record { memory = refl; code = refl; index = refl }
  same_lengths (e ∷ es) s = same-again (same_lengths es (stepped tick e s)) (step-lengths tick e s)
