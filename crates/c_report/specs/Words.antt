-- The report of an answer as seven 32-bit words: answer, place, kind (0 integer, 1 real), the value's pattern, count, bank and element. A place is at most
-- 1,024, and a count, the index's included, at most 2 * 2,048 * 257, so their low 32 bits are all of them.
use Rattle.std.specs.Prelude.{List, [], ◌∷◌, ℕ, ◌%◌, ◌^◌}
use Rattle.memory.specs.Numbers.{bank_number}
use Rattle.delivery.specs.declared.Answer.{Answer}
use Rattle.operations.specs.declared.Report.{Report}
use Rattle.operations.specs.Operations.{report_of, kind_word, bits_of}

-- with a pattern that is given
abbrev pub words_with : Report → ℕ → List ℕ
words_with r bits = r.answer ∷ r.place % 2 ^ 32 ∷ kind_word r.value ∷ bits ∷ r.count % 2 ^ 32 ∷ bank_number r.bank ∷ r.element ∷ []

abbrev pub words_of : Report → List ℕ
words_of r = words_with r (bits_of r.value)

abbrev pub report_words : Answer → List ℕ
report_words a = words_of (report_of a)
