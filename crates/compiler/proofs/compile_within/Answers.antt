-- `compiler::compile_within` meets its contract: the table has a word for each byte and one more, the draft one for each instruction.
use native.Mathlib.Omega.{arith}
use lib.ListN.{length-replicate}
use Rattle.token_table.proofs.Laws.{no-tokens}
use Rattle.compiler.proofs.compile_within.Goals as goal

pub compile_with-requires : goal.compile_with-requires
compile_with-requires g c =
    let m = c.requires.most_in_bounds in
    record {
      sized = simp length-replicate c.requires.sized;
      token_words = no-tokens g.row.N;
      most_in_bounds = simp length-replicate (m.0, omega (arith, m.0, m.1), m.2);
    }

pub returns : goal.returns
returns g c = c.compile_with.ensures
