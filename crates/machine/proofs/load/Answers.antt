-- `load` meets its contract: an arm for each bank of the list, that of R with reals alone.
use mathlib.Core.Path.{sym, ap, ◌∙◌}
use mathlib.Core.Bool.{Bool, false, ◌||◌}
use Rattle.memory.specs.declared.Bank.TheVariants.{X, C, «V», N, D, R}
use Rattle.memory.specs.Numbers.{bank_numbered}
use Rattle.memory.specs.Environment.{memory_at}
use Rattle.code.specs.Instructions.{word_of}
use Rattle.code.specs.private.Classes.{number_of}
use Rattle.machine.proofs.Barred.{or-true}
use Rattle.machine.proofs.Performs.{from-bank, from-reals}
use Rattle.machine.proofs.load.Goals as goal

pub returns-then-reals : goal.returns-then-reals
returns-then-reals c = λ t l r.
    let a = c.args in
    let k = number_of a.w in
    from-bank a.reals (memory_at t a.image.now) a.h l r k (word_of a.w) R (ap bank_numbered (sym
    c.number_of.ensures ∙ c.in-5.is)) (ap (λ (b : Bool). b || false) c.if-reals.true)
    (rw c.word_of-word.ensures at c.load_from-then-reals.ensures)

pub returns-in-0 : goal.returns-in-0
returns-in-0 c = λ t l r.
    let a = c.args in
    let k = number_of a.w in
    from-bank a.reals (memory_at t a.image.now) a.h l r k (word_of a.w) X (ap bank_numbered (sym
    c.number_of.ensures ∙ c.in-0.is)) (or-true a.reals)
    (rw c.word_of-word.ensures at c.load_from.ensures)

pub returns-in-1 : goal.returns-in-1
returns-in-1 c = λ t l r.
    let a = c.args in
    let k = number_of a.w in
    from-bank a.reals (memory_at t a.image.now) a.h l r k (word_of a.w) C (ap bank_numbered (sym
    c.number_of.ensures ∙ c.in-1.is)) (or-true a.reals)
    (rw c.word_of-word.ensures at c.load_from-in-1.ensures)

pub returns-in-2 : goal.returns-in-2
returns-in-2 c = λ t l r.
    let a = c.args in
    let k = number_of a.w in
    from-bank a.reals (memory_at t a.image.now) a.h l r k (word_of a.w) «V» (ap bank_numbered (sym
    c.number_of.ensures ∙ c.in-2.is)) (or-true a.reals)
    (rw c.word_of-word.ensures at c.load_from-in-2.ensures)

pub returns-in-3 : goal.returns-in-3
returns-in-3 c = λ t l r.
    let a = c.args in
    let k = number_of a.w in
    from-bank a.reals (memory_at t a.image.now) a.h l r k (word_of a.w) N (ap bank_numbered (sym
    c.number_of.ensures ∙ c.in-3.is)) (or-true a.reals)
    (rw c.word_of-word.ensures at c.load_from-in-3.ensures)

pub returns-in-4 : goal.returns-in-4
returns-in-4 c = λ t l r.
    let a = c.args in
    let k = number_of a.w in
    from-bank a.reals (memory_at t a.image.now) a.h l r k (word_of a.w) D (ap bank_numbered (sym
    c.number_of.ensures ∙ c.in-4.is)) (or-true a.reals)
    (rw c.word_of-word.ensures at c.load_from-in-4.ensures)

pub returns-else-reals : goal.returns-else-reals
returns-else-reals c = λ t l r.
    let a = c.args in
    let k = number_of a.w in
    c.stuck_step.ensures ∙ from-reals a.reals (memory_at t a.image.now) a.h l r k (word_of a.w) (ap bank_numbered (sym
    c.number_of.ensures ∙ c.in-5.is)) c.if-reals.false
