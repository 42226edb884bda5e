-- `reply::write_reply` meets its contract: the case is worked out, written to a buffer that has room for every reply, and handed over.
use mathlib.Core.Path.{◌≡◌, ap, ◌∙◌}
use Prim.Native.Nat.{◌≤◌}
use native.Mathlib.Omega.{arith}
use lib.ListN.{length, take, length-take}
use Rattle.program.specs.declared.case.Case.{Case}
use Rattle.program.specs.Reply.{reply_to, write_text, written_length}
use Rattle.program.proofs.reply.Whole.{text, inside, front}
use Rattle.program.proofs.Sizes.{prefix-length}
use Rattle.program.proofs.reply.write_reply.Goals as goal

pub put_reply-n-requires-clause-cell_inside : goal.put_reply-n-requires-clause-cell_inside
put_reply-n-requires-clause-cell_inside c =
    let a = c.args in
    let s : Case = record { memory = a.memory.now; target = a.target.now; text = a.text.now } in
    inside s c.blank_code-code.ensures.1 c.blank_code-index.ensures.1 c.compile_and_run-answer.ensures.value

pub slice_bounds-write_text-end : goal.slice_bounds-write_text-end
slice_bounds-write_text-end c = prefix-length c.put_reply-n.new.out c.put_reply-n.result (omega arith)

pub returns : goal.returns
returns c =
    let a = c.args in
    let s : Case = record { memory = a.memory.now; target = a.target.now; text = a.text.now } in
    let ran = c.compile_and_run-answer in
    let put = c.put_reply-n in
    let out = c.write_text in
    let e : take put.result put.new.out ≡ reply_to s =
    front put.ensures.puts put.ensures.upper_bound
    ∙ text s c.blank_code-code.ensures.1 c.blank_code-index.ensures.1 ran.ensures.value ran.ensures.memory_after in
    let short : length (take put.result put.new.out) ≤ 64 = rw length-take (omega (arith, put.ensures.upper_bound)) in
    record {
      count = out.ensures.value ∙ ap (written_length a.output.now) e;
      bytes = out.ensures.output_after ∙ ap (write_text a.output.now) e;
      short = rw e at short;
      there = out.ensures.has_prefix;
    }
