-- `codes::compile_both` meets its contract: a bad target, a bad expression, or the code of both.
use Rattle.program.proofs.codes.Both.{bad_target, bad_text, both}
use Rattle.program.proofs.codes.compile_both.Goals as goal

pub returns-in_default : goal.returns-in_default
returns-in_default c = bad_target c.args.target.now c.args.text.now c.requires.1 c.compile_target-found.ensures.value c.in_default.not-Done

pub returns-in_default-judged : goal.returns-in_default-judged
returns-in_default-judged c =
    bad_text c.args.target.now c.args.text.now c.requires.1 c.compile_target-found.ensures.value c.in-Done.is c.requires.0 c.compile-judged.ensures.value
    c.in_default-judged.not-Done

pub returns : goal.returns
returns c =
    both c.args.target.now c.args.text.now c.requires.1 c.compile_target-found.ensures.value c.in-Done.is c.requires.0 c.compile-judged.ensures.value
    c.in-Done-judged.is c.compile-judged.ensures.code_after c.compile_target-found.ensures.index_after
