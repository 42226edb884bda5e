-- `compiler::compile_in` meets its contract: the size of the buffer is tested first, then the length of the text.
use native.Mathlib.Omega.{arith}
use Rattle.compiler.proofs.Answers.{small, enough, sized, not-sized, too_long}
use Rattle.compiler.proofs.compile_in.Goals as goal

pub returns-then-code-lt-LEAST_CODE : goal.returns-then-code-lt-LEAST_CODE
returns-then-code-lt-LEAST_CODE c =
    let a = c.args in
    let h = small a.reals a.opened a.text.now a.code.now (omega arith) in
    record { value = h.0; code_after = h.1 }

pub returns-then-not-is_sized : goal.returns-then-not-is_sized
returns-then-not-is_sized c =
    let a = c.args in
    let h = too_long a.reals a.opened a.text.now a.code.now (omega arith)
    (not-sized a.text.now c.is_sized.ensures c.if-not-is_sized.true a.reals a.opened) in
    record { value = h.0; code_after = h.1 }

pub compile_sized-requires : goal.compile_sized-requires
compile_sized-requires c = (sized c.args.text.now c.is_sized.ensures c.if-not-is_sized.false, omega arith)

pub returns : goal.returns
returns c =
    let a = c.args in
    let w = c.compile_sized.ensures in
    let h = enough a.reals a.opened a.text.now a.code.now (omega arith) _ _ (w.value, w.code_after) in
    record { value = h.0; code_after = h.1 }
