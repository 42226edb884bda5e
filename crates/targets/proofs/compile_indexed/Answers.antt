-- `compile_indexed` meets its contract: the bank, then the index.
use mathlib.Core.Path.{refl, sym, ap, ◌∙◌}
use native.Mathlib.Omega.{arith}
use Rattle.text.specs.Targets.{index_text}
use Rattle.profile_text.specs.Judge.{judge_in}
use Rattle.profile_text.specs.Targets.{bank_in}
use Rattle.compiler.specs.Compile.{coded_answer, coded_bytes}
use Rattle.targets.specs.Found.{enclosed_bank}
use Rattle.targets.proofs.Enclosing.{long-enough}
use Rattle.targets.proofs.Indexing.{between, no-bank, an-index, no_index, bank-full, with-room}
use borrow.Author.Rules.{rules}
use Rattle.targets.proofs.compile_indexed.Goals as goal

pub returns-in_err-bank : goal.returns-in_err-bank
returns-in_err-bank c =
    let pair = no-bank c.args.reals c.args.target.now
    c.args.code.now
    (ap (bank_in c.args.reals) (sym c.enclosed_bank.ensures)
    ∙ sym c.in_err-bank.ensures) in
    record { value = c.from_residual.ensures ∙ pair.0; code_after = pair.1 }

pub overflow_sub-end : goal.overflow_sub-end
overflow_sub-end c = omega (
  arith,
  long-enough c.args.target.now
      (bank-full c.args.reals
      (enclosed_bank c.args.target.now)
      (ap (bank_in c.args.reals) (sym c.enclosed_bank.ensures)
      ∙ sym c.in_ok-bank.ensures)),
)

pub slice_bounds-compile_in-count : goal.slice_bounds-compile_in-count
slice_bounds-compile_in-count c = omega (
  arith,
  long-enough c.args.target.now
      (bank-full c.args.reals
      (enclosed_bank c.args.target.now)
      (ap (bank_in c.args.reals) (sym c.enclosed_bank.ensures)
      ∙ sym c.in_ok-bank.ensures)),
)

pub slice_bounds-compile_in-start : goal.slice_bounds-compile_in-start
slice_bounds-compile_in-start c = omega (
  arith,
  long-enough c.args.target.now
      (bank-full c.args.reals
      (enclosed_bank c.args.target.now)
      (ap (bank_in c.args.reals) (sym c.enclosed_bank.ensures)
      ∙ sym c.in_ok-bank.ensures)),
)

pub returns-in-Ok : goal.returns-in-Ok
returns-in-Ok c =
    let pair = let q = with-room c.args.reals c.args.code.now
    _ c.requires
    ∙ ap (judge_in c.args.reals 1) (between c.args.target.now) in
    an-index c.args.reals
    c.args.target.now
    c.args.code.now
    (ap (bank_in c.args.reals) (sym c.enclosed_bank.ensures)
    ∙ sym c.in_ok-bank.ensures)
    (judge_in c.args.reals 1
    (index_text c.args.target.now)) refl (sym c.in-Ok.is ∙ c.compile_in.ensures.value ∙ ap coded_answer q)
    (c.compile_in.ensures.code_after
    ∙ ap (coded_bytes c.args.code.now) q) in
    record { value = pair.0; code_after = pair.1 }

pub returns-in-Err : goal.returns-in-Err
returns-in-Err c =
    let pair = let q = with-room c.args.reals
    c.args.code.now _
    c.requires
    ∙ ap (judge_in c.args.reals 1)
    (between c.args.target.now) in
    no_index c.args.reals
    c.args.target.now
    c.args.code.now
    (ap (bank_in c.args.reals)
    (sym c.enclosed_bank.ensures)
    ∙ sym c.in_ok-bank.ensures)
    (judge_in c.args.reals 1
    (index_text c.args.target.now))
    refl (sym c.in-Err.is ∙ c.compile_in.ensures.value ∙ ap coded_answer q)
    (c.compile_in.ensures.code_after ∙ ap
    (coded_bytes c.args.code.now) q) in
    record { value = pair.0; code_after = pair.1 }
