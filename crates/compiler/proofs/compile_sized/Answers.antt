-- `compiler::compile_sized` meets its contract: what did not fit has changed nothing, and the largest draft has room for every formula.
use mathlib.Core.Path.{◌≡◌, sym, ◌∙◌}
use native.Mathlib.Omega.{arith}
use lib.ListN.{length}
use Rattle.profile_text.specs.Judge.{judge_in}
use Rattle.compiler.proofs.Answers.{Told, kept, unchanged, all-fits}
use Rattle.compiler.proofs.compile_sized.Goals as goal
use Rattle.compiler.proofs.compile_sized.Goals.{Joined-text-lt512, then-text-lt512+else-not-is_longer, else-text-lt512}

-- where the ways meet the buffer is as it was
same : (c : Joined-text-lt512) → c.if-text-lt512.code ≡ c.args.code.now
same c =
    let a = c.args in
    let j = judge_in a.reals a.opened a.text.now in
    elim c.if-text-lt512.branch [
      | then-text-lt512+else-not-is_longer w ↦
          let h = w.compile_short-first.ensures in
          w.code-is ∙ unchanged j (length a.text.now) a.code.now _ w.compile_short-first.result (sym w.is_longer.ensures ∙ w.if-not-is_longer.false)
          (h.value, h.code_after)
      | else-text-lt512 w ↦ w.code-is
    ]

pub returns-then-not-is_longer : goal.returns-then-not-is_longer
returns-then-not-is_longer c =
    let a = c.args in
    let w = c.compile_short-first.ensures in
    let h = kept (judge_in a.reals a.opened a.text.now) (length a.text.now) a.code.now _ c.compile_short-first.result
    (sym c.is_longer.ensures ∙ c.if-not-is_longer.true) (w.value, w.code_after) in
    record { value = h.0; code_after = h.1 }

pub compile_within-requires : goal.compile_within-requires
compile_within-requires c =
    let q = same (goal.at.compile_within-requires c).Joined-text-lt512 in
    record {
      sized = (c.requires.0, omega (arith, c.requires.0.short), omega arith);
      most_in_bounds = (omega arith, omega arith, rw q c.requires.1);
    }

pub returns : goal.returns
returns c =
    let a = c.args in
    let w = c.compile_within.ensures in
    let h = all-fits a.reals a.opened a.text.now _ _ _ c.requires.0 (w.value, w.code_after) in
    let told : Told a.code.now (judge_in a.reals a.opened a.text.now) c.compile_within.result c.compile_within.new.code =
    rw (same (goal.at.returns c).Joined-text-lt512) at h in
    record { value = told.0; code_after = told.1 }
