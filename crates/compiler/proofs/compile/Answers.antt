-- `compiler::compile` meets its contract: with reals compiling is what it was.
use Rattle.compiler.proofs.Answers.{told-full}
use Rattle.compiler.proofs.compile.Goals as goal

pub returns : goal.returns
returns c =
    let w = c.compile_in.ensures in
    let h = told-full c.args.text.now c.args.code.now (w.value, w.code_after) in
    record { value = h.0; code_after = h.1 }
