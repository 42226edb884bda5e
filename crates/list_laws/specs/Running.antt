-- Running a list of formulas (paper 02, Ask 14): "One operation runs up to forty in turn, past their faults and refusals, and returns forty answers."
use Rattle.std.specs.Prelude.{cond, List, [], ◌∷◌, ◌++◌, ℕ, ◌-◌, ltb, length, take, drop, replicate}
use Rattle.memory.specs.Layout.{ImageLayout, packed}
use Rattle.delivery.specs.declared.Answer.{Answer}
use Rattle.operations.specs.Operations.{report_of, Request, request_in, request_answer_in, request_memory_in, request_code, request_index}

-- a formula of the list: the text of its target and its own
pub record Listed : Type 0 where
  pub target : List ℕ
  pub text : List ℕ

-- a table of four words a formula: place and length of its target, place and length of its expression, in the lent texts. Bytes beyond the texts are not
-- there; words behind the last whole four are not looked at
abbrev pub formulas_of : List ℕ → List ℕ → List Listed
formulas_of [] texts = []
formulas_of (p ∷ []) texts = []
formulas_of (p ∷ n ∷ []) texts = []
formulas_of (p ∷ n ∷ q ∷ []) texts = []
formulas_of (p ∷ n ∷ q ∷ k ∷ ws) texts = record { target = take n (drop p texts); text = take k (drop q texts) } ∷ formulas_of ws texts

-- what a formula finds and leaves: the image and both code buffers
pub record Buffers : Type 0 where
  pub memory : List ℕ
  pub code : List ℕ
  pub index : List ℕ

-- the operation's own answer, the forty answers, and what it leaves
pub record ListRun : Type 0 where
  pub answer : ℕ
  pub answers : List ℕ
  pub buffers : Buffers

abbrev pub most_listed : ℕ
most_listed = 40

-- ---- on an image of any layout
module _ (F : ImageLayout) where
  -- one formula, by compile-and-run
  abbrev pub request_of_in : Listed → Buffers → Request
  request_of_in e s = request_in F e.target e.text s.memory s.code s.index

  abbrev pub answered_in : ℕ → Listed → Buffers → Answer
  answered_in tick e s = request_answer_in F tick s.memory (request_of_in e s)

  abbrev pub stepped_in : ℕ → Listed → Buffers → Buffers
  stepped_in tick e s =
      record {
        memory = request_memory_in F tick s.memory (request_of_in e s);
        code = request_code s.code (request_of_in e s);
        index = request_index s.index (request_of_in e s);
      }

  -- "in turn, past their faults and refusals": each on what those before it left
  abbrev pub after_in : ℕ → List Listed → Buffers → Buffers
  after_in tick [] s = s
  after_in tick (e ∷ es) s = after_in tick es (stepped_in tick e s)

  abbrev pub answers_of_in : ℕ → List Listed → Buffers → List ℕ
  answers_of_in tick [] s = []
  answers_of_in tick (e ∷ es) s = (report_of (answered_in tick e s)).answer ∷ answers_of_in tick es (stepped_in tick e s)

  -- "Refusals: 20 for the whole operation, all forty answers 0 and nothing run, for a list over forty; an unused place's answer is 0."
  abbrev pub ran_list_in : ℕ → List Listed → Buffers → ListRun
  ran_list_in tick es s =
      cond (ltb most_listed (length es))
      (record { answer = 20; answers = replicate most_listed 0; buffers = s })
      (record { answer = 0; answers = answers_of_in tick es s ++ replicate (most_listed - length es) 0; buffers = after_in tick es s })

-- ---- on the box's image
abbrev pub request_of : Listed → Buffers → Request
request_of = request_of_in packed

abbrev pub answered : ℕ → Listed → Buffers → Answer
answered = answered_in packed

abbrev pub stepped : ℕ → Listed → Buffers → Buffers
stepped = stepped_in packed

abbrev pub after : ℕ → List Listed → Buffers → Buffers
after = after_in packed

abbrev pub answers_of : ℕ → List Listed → Buffers → List ℕ
answers_of = answers_of_in packed

abbrev pub ran_list : ℕ → List Listed → Buffers → ListRun
ran_list = ran_list_in packed

-- of a table and its texts
abbrev pub ran_table : ℕ → List ℕ → List ℕ → List ℕ → List ℕ → List ℕ → ListRun
ran_table tick places texts memory code index = ran_list tick (formulas_of places texts) (record { memory = memory; code = code; index = index })
