-- `reply::write_text` meets its contract.
use Rattle.program.proofs.reply.Endings.{no_room, room}
use Rattle.program.proofs.reply.write_text.Goals as goal

pub returns-then-output-bytes : goal.returns-then-output-bytes
returns-then-output-bytes c =
    let all = no_room c.args.output.now c.args.bytes.now c.if-output-bytes.true in
    record { value = all.0; output_after = all.1.0; has_prefix = all.1.1 }

pub returns : goal.returns
returns c =
    let all = room c.args.output.now c.args.bytes.now c.if-output-bytes.false c.put_all.ensures in
    record { value = all.0; output_after = all.1.0; has_prefix = all.1.1 }
