-- `put_instruction` meets its contract, class by class.
use Rattle.code_listing.proofs.Texts.{integer-is, single-is, jump-is, jump-false-is, jump-true-is, tick_is, since-is}
use Rattle.code_listing.proofs.Texts.{load_is, load_below, indexed-is, unary-is, binary-is, total-is, match_is, never}
use Rattle.code.specs.private.Classes.{number_of}
use Rattle.text_tables.proofs.Short.{row-length}
use Rattle.code_listing.specs.Listing.{unary_names, binary_names, total_names, match_names}
use Rattle.lines.proofs.Stores.{as-text}
use native.Mathlib.Omega.{arith}
use Rattle.code_listing.proofs.put_instruction.Goals as goal

pub put_load-requires-clause-w_bound : goal.put_load-requires-clause-w_bound
put_load-requires-clause-w_bound c = load_below c.args.place c.args.w c.class_of.ensures c.requires.fact.0 c.in-Load.is

pub put_row-requires : goal.put_row-requires
put_row-requires c = omega (arith, row-length 6 c.number_of-number.result unary_names tt)

pub put_row-requires-in-Binary : goal.put_row-requires-in-Binary
put_row-requires-in-Binary c = omega (arith, row-length 3 c.number_of-number.result binary_names tt)

pub put_ranging-requires-clause-table_len_bound : goal.put_ranging-requires-clause-table_len_bound
put_ranging-requires-clause-table_len_bound c = omega (arith, row-length 4 (number_of c.args.w) total_names tt)

pub put_ranging-requires-in-Match-clause-table_len_bound : goal.put_ranging-requires-in-Match-clause-table_len_bound
put_ranging-requires-in-Match-clause-table_len_bound c = row-length 9 (number_of c.args.w) match_names tt

pub returns-in-PushInt-clause-puts : goal.returns-in-PushInt-clause-puts
returns-in-PushInt-clause-puts c =
    as-text (integer-is c.args.place c.args.w c.class_of.ensures c.requires.fact.0 c.in-PushInt.is c.word_of.ensures) c.put_integer.ensures.puts

pub returns-in-PushReal-clause-puts : goal.returns-in-PushReal-clause-puts
returns-in-PushReal-clause-puts c =
    as-text (single-is c.args.place c.args.w c.class_of.ensures c.requires.fact.0 c.in-PushReal.is c.word_of-in-PushReal.ensures (omega arith))
    c.put_single.ensures.puts

pub returns-in-Jump-clause-puts : goal.returns-in-Jump-clause-puts
returns-in-Jump-clause-puts c =
    as-text (jump-is c.args.place c.args.w c.class_of.ensures c.requires.fact.0 c.in-Jump.is c.word_of-in-Jump.ensures) c.put_jump.ensures.puts

pub returns-in-JumpIfFalse-clause-puts : goal.returns-in-JumpIfFalse-clause-puts
returns-in-JumpIfFalse-clause-puts c =
    as-text (jump-false-is c.args.place c.args.w c.class_of.ensures c.requires.fact.0 c.in-JumpIfFalse.is c.word_of-in-JumpIfFalse.ensures)
    c.put_jump-in-JumpIfFalse.ensures.puts

pub returns-in-JumpIfTrue-clause-puts : goal.returns-in-JumpIfTrue-clause-puts
returns-in-JumpIfTrue-clause-puts c =
    as-text (jump-true-is c.args.place c.args.w c.class_of.ensures c.requires.fact.0 c.in-JumpIfTrue.is c.word_of-in-JumpIfTrue.ensures)
    c.put_jump-in-JumpIfTrue.ensures.puts

pub returns-in-Tick-clause-puts : goal.returns-in-Tick-clause-puts
returns-in-Tick-clause-puts c =
    as-text (tick_is c.args.place c.args.w c.class_of.ensures c.requires.fact.0 c.in-Tick.is) c.put_all.ensures

pub returns-in-Since-clause-puts : goal.returns-in-Since-clause-puts
returns-in-Since-clause-puts c =
    as-text (since-is c.args.place c.args.w c.class_of.ensures c.requires.fact.0 c.in-Since.is) c.put_all-in-Since.ensures

pub returns-in-Load-clause-puts : goal.returns-in-Load-clause-puts
returns-in-Load-clause-puts c =
    as-text (load_is c.args.place c.args.w c.class_of.ensures c.requires.fact.0 c.in-Load.is) c.put_load.ensures.puts

pub returns-in-LoadIndexed-clause-puts : goal.returns-in-LoadIndexed-clause-puts
returns-in-LoadIndexed-clause-puts c =
    as-text (indexed-is c.args.place c.args.w c.class_of.ensures c.requires.fact.0 c.in-LoadIndexed.is) c.put_indexed.ensures.puts

pub returns-in-Unary-clause-puts : goal.returns-in-Unary-clause-puts
returns-in-Unary-clause-puts c =
    as-text (unary-is c.args.place c.args.w c.class_of.ensures c.requires.fact.0 c.in-Unary.is c.number_of-number.ensures) c.put_row.ensures

pub returns-in-Unary-clause-upper_bound : goal.returns-in-Unary-clause-upper_bound
returns-in-Unary-clause-upper_bound c = omega (arith, c.put_row.ensures.end, row-length 6 c.number_of-number.result unary_names tt)

pub returns-in-Binary-clause-puts : goal.returns-in-Binary-clause-puts
returns-in-Binary-clause-puts c =
    as-text (binary-is c.args.place c.args.w c.class_of.ensures c.requires.fact.0 c.in-Binary.is c.number_of-number.ensures)
    c.put_row-in-Binary.ensures

pub returns-in-Binary-clause-upper_bound : goal.returns-in-Binary-clause-upper_bound
returns-in-Binary-clause-upper_bound c = omega (arith, c.put_row-in-Binary.ensures.end, row-length 3 c.number_of-number.result binary_names tt)

pub returns-in-Total-clause-puts : goal.returns-in-Total-clause-puts
returns-in-Total-clause-puts c =
    as-text (total-is c.args.place c.args.w c.class_of.ensures c.requires.fact.0 c.in-Total.is) c.put_ranging.ensures.puts

pub returns-in-Match-clause-puts : goal.returns-in-Match-clause-puts
returns-in-Match-clause-puts c =
    as-text (match_is c.args.place c.args.w c.class_of.ensures c.requires.fact.0 c.in-Match.is) c.put_ranging-in-Match.ensures.puts

pub returns-in-Unknown-clause-puts : goal.returns-in-Unknown-clause-puts
returns-in-Unknown-clause-puts c = absurd (never c.args.place c.args.w c.class_of.ensures c.requires.fact.0 c.in-Unknown.is)
