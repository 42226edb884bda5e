-- Paper 02, Ask 9: "show that every operation on corresponding images gives equal answers and corresponding images." proofs/Answers.antt proves the record.
use Rattle.std.specs.Prelude.{◌≡◌, List, ℕ}
use Rattle.values.specs.declared.Value.{Value}
use Rattle.memory.specs.Layout.{packed}
use Rattle.images.specs.Bytewise.{bytewise}
use Rattle.images.specs.Conversions.{Corresponds}
use Rattle.delivery.specs.declared.Answer.{Answer}
use Rattle.operations.specs.Operations.{run_answer_in, run_memory_in, evaluate_answer_in, given_answer_in, given_memory_in}
use Rattle.operations.specs.Operations.{Request, request_in, request_answer_in, request_memory_in}

-- two operations answer the same, value, place, count and cell included, and leave corresponding images
pub record Alike (a a' : Answer) (m n : List ℕ) : Type 0 where
  pub answer : a ≡ a'
  pub memory : Corresponds m n

-- m is an old image, n the packed one
pub record SameAnswers : Type 0 where
  pub run : (tick : ℕ) (code : List ℕ) (count : ℕ) (target index : List ℕ) (k : ℕ) (m n : List ℕ) → Corresponds m n
      → Alike (run_answer_in bytewise tick code count target index k m) (run_answer_in packed tick code count target index k n)
      (run_memory_in bytewise tick code count target index k m) (run_memory_in packed tick code count target index k n)
  -- evaluate writes nothing
  pub evaluate : (tick : ℕ) (code : List ℕ) (count : ℕ) (m n : List ℕ) → Corresponds m n
      → evaluate_answer_in bytewise tick code count m ≡ evaluate_answer_in packed tick code count n
  pub store : (tick : ℕ) (v : Value) (target index : List ℕ) (k : ℕ) (m n : List ℕ) → Corresponds m n
      → Alike (given_answer_in bytewise tick v target index k m) (given_answer_in packed tick v target index k n) (given_memory_in bytewise tick v target index k m)
      (given_memory_in packed tick v target index k n)
  -- compile-and-run: the same request or refusal, and so the same code bytes; then what it does
  pub request : (target text m n code index : List ℕ) → Corresponds m n
      → request_in bytewise target text m code index ≡ request_in packed target text n code index
  pub compile-and-run : (tick : ℕ) (q : Request) (m n : List ℕ) → Corresponds m n
      → Alike (request_answer_in bytewise tick m q) (request_answer_in packed tick n q) (request_memory_in bytewise tick m q) (request_memory_in packed tick n q)
