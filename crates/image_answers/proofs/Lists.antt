-- A list of formulas on corresponding images, by induction over the list. Assumes nothing.
use mathlib.Core.Path.{◌≡◌, refl, ap, subst, ◌∙◌}
use mathlib.Core.Bool.{Bool, true, false, cond}
use mathlib.Core.List.{List, [], ◌∷◌, ◌++◌}
use Prim.Native.Nat.{ℕ, ◌-◌}
use lib.Dec.{ltb}
use lib.ListN.{length, replicate}
use Rattle.memory.specs.Layout.{packed}
use Rattle.images.specs.Bytewise.{bytewise}
use Rattle.delivery.specs.declared.Answer.{Answer}
use Rattle.operations.specs.Operations.{report_of, Request, request_in, request_answer_in, request_memory_in, request_code, request_index}
use Rattle.list_laws.specs.Running.{Listed, Buffers, ListRun, most_listed, request_of_in, answered_in, stepped_in, after_in, answers_of_in}
use Rattle.image_answers.specs.Answers.{Alike}
use Rattle.image_answers.specs.Lists.{CorrespondingBuffers, SameLists}
use Rattle.image_answers.proofs.Answers.{same-answers}

module _ (tick : ℕ) where
  asked : (e : Listed) (s t : Buffers) → CorrespondingBuffers s t → request_of_in bytewise e s ≡ request_of_in packed e t
  asked e s t c =
      same-answers.request e.target e.text s.memory t.memory s.code s.index c.memory
      ∙ ap (λ (k : List ℕ). request_in packed e.target e.text t.memory k s.index) c.code
      ∙ ap (request_in packed e.target e.text t.memory t.code) c.index

  alike : (e : Listed) (s t : Buffers) → CorrespondingBuffers s t
      → Alike (answered_in bytewise tick e s) (answered_in packed tick e t) (stepped_in bytewise tick e s).memory (stepped_in packed tick e t).memory
  alike e s t c =
      subst
      (λ (q : Request). Alike (answered_in bytewise tick e s) (request_answer_in packed tick t.memory q) (stepped_in bytewise tick e s).memory
      (request_memory_in packed tick t.memory q))
      (asked e s t c)
      (same-answers.compile-and-run tick (request_of_in bytewise e s) s.memory t.memory c.memory)

  steps : (e : Listed) (s t : Buffers) → CorrespondingBuffers s t → CorrespondingBuffers (stepped_in bytewise tick e s) (stepped_in packed tick e t)
  steps e s t c =
      record {
        memory = (alike e s t c).memory;
        code = ap (request_code s.code) (asked e s t c) ∙ ap (λ (k : List ℕ). request_code k (request_of_in packed e t)) c.code;
        index = ap (request_index s.index) (asked e s t c) ∙ ap (λ (k : List ℕ). request_index k (request_of_in packed e t)) c.index;
      }

  leaves : (es : List Listed) (s t : Buffers) → CorrespondingBuffers s t → CorrespondingBuffers (after_in bytewise tick es s) (after_in packed tick es t)
  leaves [] s t c = c
  leaves (e ∷ es) s t c = leaves es (stepped_in bytewise tick e s) (stepped_in packed tick e t) (steps e s t c)

  answers : (es : List Listed) (s t : Buffers) → CorrespondingBuffers s t → answers_of_in bytewise tick es s ≡ answers_of_in packed tick es t
  answers [] s t c = refl
  answers (e ∷ es) s t c =
      let rest = answers es (stepped_in bytewise tick e s) (stepped_in packed tick e t) (steps e s t c) in
      ap (λ (a : Answer). (report_of a).answer ∷ answers_of_in bytewise tick es (stepped_in bytewise tick e s)) (alike e s t c).answer
      ∙ ap (λ (l : List ℕ). (report_of (answered_in packed tick e t)).answer ∷ l) rest

  -- the operation, by whether the list is over forty
  abbrev ran_by : List Listed → Bool → Buffers → List ℕ → Buffers → ListRun
  ran_by es over s ns b =
      cond over (record { answer = 20; answers = replicate most_listed 0; buffers = s })
      (record { answer = 0; answers = ns ++ replicate (most_listed - length es) 0; buffers = b })

  module _ (es : List Listed) (s t : Buffers) (c : CorrespondingBuffers s t) where
    abbrev old : Bool → ListRun
    old over = ran_by es over s (answers_of_in bytewise tick es s) (after_in bytewise tick es s)

    abbrev new : Bool → ListRun
    new over = ran_by es over t (answers_of_in packed tick es t) (after_in packed tick es t)

    own_answer : (over : Bool) → (old over).answer ≡ (new over).answer
    own_answer true = refl
    own_answer false = refl

    forty : (over : Bool) → (old over).answers ≡ (new over).answers
    forty true = refl
    forty false = ap (λ (l : List ℕ). l ++ replicate (most_listed - length es) 0) (answers es s t c)

    left : (over : Bool) → CorrespondingBuffers (old over).buffers (new over).buffers
    left true = c
    left false = leaves es s t c

abbrev is_over : List Listed → Bool
is_over es = ltb most_listed (length es)

pub same_lists : SameLists
same_lists =
    record {
      formula = λ tick e s t c. (alike tick e s t c).answer;
      answer = λ tick es s t c. own_answer tick es s t c (is_over es);
      answers = λ tick es s t c. forty tick es s t c (is_over es);
      buffers = λ tick es s t c. left tick es s t c (is_over es);
    }
