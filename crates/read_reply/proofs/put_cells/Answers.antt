-- `put_cells` meets its contract: the list has room for every cell, and its lines are put.
use native.Mathlib.Omega.{arith}
use Rattle.lines.proofs.Stores.{as-text}
use Rattle.read_reply.proofs.Lists.{room, part, numbers, lines, short}
use Rattle.read_reply.proofs.put_cells.Goals as goal

pub slice_bounds-list-end : goal.slice_bounds-list-end
slice_bounds-list-end c =
    room c.args.code.now c.args.n c.args.index.now c.args.k c.no_cells-list.result c.cells-found.new.list c.cells-found.result
    c.no_cells-list.ensures c.cells-found.ensures.value c.cells-found.ensures.list_after

pub slice_bounds-put_lines-end : goal.slice_bounds-put_lines-end
slice_bounds-put_lines-end c =
    part c.args.code.now c.args.n c.args.index.now c.args.k c.no_cells-list.result c.cells-found.new.list c.cells-found.result
    c.no_cells-list.ensures c.cells-found.ensures.value c.cells-found.ensures.list_after

pub put_lines-requires : goal.put_lines-requires
put_lines-requires c =
    let few_bytes = short c.args.code.now c.args.n c.args.index.now c.args.k c.no_cells-list.result c.cells-found.new.list c.cells-found.result
    c.no_cells-list.ensures c.cells-found.ensures.value c.cells-found.ensures.list_after in
    record {
      cell_numbers =
          numbers c.args.code.now c.args.n c.args.index.now c.args.k c.no_cells-list.result c.cells-found.new.list c.cells-found.result
          c.no_cells-list.ensures c.cells-found.ensures.value c.cells-found.ensures.list_after;
      list_in_bounds = omega (arith, few_bytes);
    }

pub returns : goal.returns
returns c =
    let few_bytes = short c.args.code.now c.args.n c.args.index.now c.args.k c.no_cells-list.result c.cells-found.new.list c.cells-found.result
    c.no_cells-list.ensures c.cells-found.ensures.value c.cells-found.ensures.list_after in
    record {
      puts = as-text (lines c.args.code.now c.args.n c.args.index.now c.args.k c.no_cells-list.result c.cells-found.new.list c.cells-found.result
          c.no_cells-list.ensures c.cells-found.ensures.value c.cells-found.ensures.list_after) c.put_lines.ensures.puts;
      upper_bound = omega (arith, few_bytes, c.put_lines.ensures.upper_bound);
    }
