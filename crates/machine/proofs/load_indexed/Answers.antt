-- `load_indexed` meets its contract: the tests are those of `taking`, `if_zero` and `bank_numbered`.
use Rattle.std.specs.Prelude.{Option}
use mathlib.Core.Path.{sym, ap, ◌∙◌}
use Rattle.memory.specs.Numbers.{bank_numbered}
use Rattle.memory.specs.Environment.{memory_at}
use Rattle.code.specs.Instructions.{word_of}
use Rattle.code.specs.private.Classes.{number_of}
use Rattle.machine.proofs.Performs.{indexed, zero-indexed, spoilt, unspoilt, stuck-anyway, unknown-made, short-indexed, indexed-made}
use Rattle.machine.proofs.load_indexed.Goals as goal
use Rattle.memory.specs.declared.Bank.{Bank}

pub returns-then-h-lt1 : goal.returns-then-h-lt1
returns-then-h-lt1 c = λ t l.
    let a = c.args in
    let k = number_of a.w in
    let d = word_of a.w in
    c.stuck_step.ensures
    ∙ stuck-anyway a.reals (memory_at t a.image.now) a.h l a.v (indexed (bank_numbered k)) d (zero-indexed (bank_numbered k) d)
    (short-indexed a.reals (memory_at t a.image.now) a.h l a.v (bank_numbered k) c.if-h-lt1.true)

pub returns-then-word_of-ne0 : goal.returns-then-word_of-ne0
returns-then-word_of-ne0 c = λ t l.
    let a = c.args in
    let k = number_of a.w in
    let d = word_of a.w in
    c.stuck_step-then-word_of-ne0.ensures ∙ spoilt a.reals (memory_at t a.image.now) a.h l a.v (indexed (bank_numbered k)) d (zero-indexed (bank_numbered k) d)
    c.word_of.ensures c.if-word_of-ne0.true

pub returns-in-Some : goal.returns-in-Some
returns-in-Some c = λ t l.
    let a = c.args in
    let k = number_of a.w in
    let d = word_of a.w in
    let is = sym (rw c.number_of.ensures at
    c.bank_numbered.ensures) ∙ c.in-Some.is in
    unspoilt a.reals (memory_at t a.image.now) a.h l a.v (indexed (bank_numbered k)) d
    c.word_of.ensures
    c.if-word_of-ne0.false
    (indexed-made a.reals (memory_at t a.image.now) a.h l a.v k c.in-Some.b is
    c.if-h-lt1.false c.read_indexed_in.ensures c.outcome_step.ensures)

pub returns-in-None : goal.returns-in-None
returns-in-None c = λ t l.
    let a = c.args in
    let k = number_of a.w in
    let d = word_of a.w in
    let is = sym (rw c.number_of.ensures at
    c.bank_numbered.ensures) ∙ c.in-None.is in
    c.stuck_step-in-None.ensures
    ∙ stuck-anyway a.reals (memory_at t a.image.now) a.h l a.v (indexed (bank_numbered k)) d (zero-indexed (bank_numbered k) d)
    (unknown-made a.reals (memory_at t a.image.now) a.h l a.v (indexed (bank_numbered k) 0) (ap (λ (u : (Option Bank)). indexed u 0) is))
