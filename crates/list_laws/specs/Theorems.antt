-- Moving formulas and joining lists (paper 02, Ask 14). proofs/Laws.antt proves the record, at every tick: "the tick is the same for both".
use Rattle.std.specs.Prelude.{◌≡◌, List, [], ◌∷◌, ◌++◌, ℕ, zero, suc, ◌+◌, ◌-◌, ◌*◌, ◌≤◌, length, get_or, take, replicate}
use Rattle.memory.specs.declared.Bank.{Bank}
use Rattle.read_set.specs.Cells.{Cells, cell_list}
use Rattle.read_laws.specs.Theorems.{Listed as InList}
use Rattle.operations.specs.Operations.{report_of}
use Rattle.list_laws.specs.Running.{Listed, formulas_of, Buffers, request_of, stepped, answered, after, answers_of, most_listed, ListRun, ran_list}
use Rattle.list_laws.specs.Independence.{Disjoint, Independent, SameLengths, SameRequest}

-- the answers with those of the places n and n + 1 exchanged
abbrev pub exchanged : ℕ → List ℕ → List ℕ
exchanged zero (a ∷ b ∷ rest) = b ∷ a ∷ rest
exchanged zero (a ∷ []) = a ∷ []
exchanged zero [] = []
exchanged (suc n) (a ∷ rest) = a ∷ exchanged n rest
exchanged (suc n) [] = []

-- one list run, then another: the answers in turn, and what the second leaves
abbrev pub run_in_turn : ℕ → List Listed → List Listed → Buffers → ListRun
run_in_turn tick xs ys s =
    let one = ran_list tick xs s in
    let other = ran_list tick ys one.buffers in
    record {
      answer = 0;
      answers = take (length xs) one.answers ++ (take (length ys) other.answers ++ replicate (most_listed - (length xs + length ys)) 0);
      buffers = other.buffers;
    }

pub record ListTheorems (tick : ℕ) : Type 0 where
  -- "two formulas give the same memory, flags included, and the same two answers in either order": every byte; value, fault, count and cell of each
  pub commute : (e f : Listed) (s : Buffers) → Independent (request_of e s) (request_of f s)
      → ((after tick (e ∷ f ∷ []) s).memory ≡ (after tick (f ∷ e ∷ []) s).memory)
      × ((answered tick e (stepped tick f s) ≡ answered tick e s) × (answered tick f (stepped tick e s) ≡ answered tick f s))
  -- "to move formulas in the scan list without fear": in a list, whatever stands before and behind them
  pub swapped : (xs ys : List Listed) (e f : Listed) (s : Buffers) → Independent (request_of e s) (request_of f s)
      → ((after tick (xs ++ e ∷ f ∷ ys) s).memory ≡ (after tick (xs ++ f ∷ e ∷ ys) s).memory)
      × (answers_of tick (xs ++ f ∷ e ∷ ys) s ≡ exchanged (length xs) (answers_of tick (xs ++ e ∷ f ∷ ys) s))
  -- and so for the operation
  pub moved : (xs ys : List Listed) (e f : Listed) (s : Buffers) → Independent (request_of e s) (request_of f s)
      → ((ran_list tick (xs ++ e ∷ f ∷ ys) s).buffers.memory ≡ (ran_list tick (xs ++ f ∷ e ∷ ys) s).buffers.memory)
      × ((ran_list tick (xs ++ f ∷ e ∷ ys) s).answers ≡ exchanged (length xs) (ran_list tick (xs ++ e ∷ f ∷ ys) s).answers)
  -- "past their faults and refusals": each is run on what those before it left, whatever they answered
  pub each : (xs ys : List Listed) (e : Listed) (s : Buffers)
      → get_or (answers_of tick (xs ++ e ∷ ys) s) (length xs) 0 ≡ (report_of (answered tick e (after tick xs s))).answer
  -- "returns forty answers", always
  pub forty : (es : List Listed) (s : Buffers) → length (ran_list tick es s).answers ≡ most_listed
  -- "running two lists one after the other with the same tick is running them joined, in memory and in the answers in turn": both code buffers too
  pub joined : (xs ys : List Listed) (s : Buffers)
      → (after tick (xs ++ ys) s ≡ after tick ys (after tick xs s))
      × (answers_of tick (xs ++ ys) s ≡ answers_of tick xs s ++ answers_of tick ys (after tick xs s))
  -- of the operation: "where together they hold at most forty"
  pub lists : (xs ys : List Listed) (s : Buffers) → length xs + length ys ≤ most_listed → ran_list tick (xs ++ ys) s ≡ run_in_turn tick xs ys s
  -- joining tables joins lists
  pub tables : (a b texts : List ℕ) (k : ℕ) → length a ≡ 4 * k → formulas_of (a ++ b) texts ≡ formulas_of a texts ++ formulas_of b texts
  -- "by the list of Ask 11": two sets are disjoint where no cell stands in both lists
  pub by_lists : (f g : Cells) → ((b : Bank) (i : ℕ) → InList b i (cell_list f) → InList b i (cell_list g) → ⊥) → Disjoint f g
  -- whether a formula is refused, and what it asks for, depends on its texts and on lengths alone, which no formula changes;
  -- so independence may be asked of any buffers of these lengths
  pub asked : (e : Listed) (r s : Buffers) → SameLengths r s → SameRequest (request_of e r) (request_of e s)
  pub same_lengths : (es : List Listed) (s : Buffers) → SameLengths (after tick es s) s
  pub independent : (e f : Listed) (r s : Buffers) → SameLengths r s → Independent (request_of e r) (request_of f r)
      → Independent (request_of e s) (request_of f s)
