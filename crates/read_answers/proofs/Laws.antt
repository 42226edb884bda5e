-- `AnswerTheorems` and `StoredTheorems`, from their parts.
use Rattle.read_answers.specs.Answers.{AnswerTheorems}
use Rattle.read_answers.proofs.Runs.{element, asked, ran, evaluated, gave}
use Rattle.read_answers.proofs.Requests.{answer}
use Rattle.read_answers.proofs.Compiled.{ran_listed, evaluated_listed, answer_listed, of_formula}
pub use Rattle.read_answers.proofs.Stored.{stored-theorems}

pub answer-theorems : AnswerTheorems
answer-theorems =
    record {
      element = element;
      ran = ran;
      evaluated = evaluated;
      given = gave;
      answer = answer;
      asked = asked;
      ran_listed = λ tick code n target index k m m' a. ran_listed tick m m' code n target index k a;
      evaluated_listed = λ tick code n index k m m' a. evaluated_listed tick m m' code n index k a;
      answer_listed = λ tick target text code index m m' a. answer_listed tick m m' target text code index a;
      of_formula = of_formula;
    }
