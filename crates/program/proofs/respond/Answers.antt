-- `program::respond` meets its contract: the input's case is replied to.
use Rattle.program.proofs.stream.Receiving.{replies}
use Rattle.program.proofs.respond.Goals as goal

pub returns : goal.returns
returns c =
    let all = replies c.args.input.now c.take_case-case.ensures c.reply.ensures in
    record { value = all.0; output_after = all.1.0; input_len_bound = all.1.1.0; has_prefix = all.1.1.1 }
