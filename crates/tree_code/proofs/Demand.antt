-- Demand 3, on trees: the code of a formula's tree is right, accepted, short and quick, and holds what it takes.
use Prim.Native.Nat.{ℕ, ◌≤◌}
use mathlib.Core.Path.{◌≡◌}
use mathlib.Core.List.{List, []}
use native.Mathlib.Omega.{arith}
use Rattle.tokens.specs.Scan.{Tok}
use Rattle.grammar.specs.Tree.{Tree, tree_kind, clear, diagnostic_of}
use Rattle.grammar.specs.Grammar.{Formula}
use Rattle.grammar.specs.Theorems.{Shallow}
use Rattle.machine.specs.Machine.{max_height}
use Rattle.machine.proofs.Laws.{count_most}
use Rattle.verifier.specs.Accepts.{Accepts}
use Rattle.verifier.proofs.Safe.{safe}
use Rattle.tree_code.specs.Code.{code_of}
use Rattle.tree_code.specs.Demand.{least_bytes, Compiled, Demand}
use Rattle.tree_code.proofs.Well.{well}
use Rattle.tree_code.proofs.Need.{need}
use Rattle.tree_code.proofs.Correct.{whole}
use Rattle.tree_code.proofs.Accepted.{accepted}
use Rattle.tree_code.proofs.Laws.{code-some, worth-of-kind}
use Rattle.tree_code.proofs.Bound.{bound}
use Rattle.tree_code.proofs.Size.{small}
use Rattle.tree_code.proofs.Height.{height}

compiled : (w : List Tok) (t : Tree) (n : ℕ) → Formula w t → Shallow 0 w → diagnostic_of t ≡ clear → least_bytes w ≤ n → n ≤ 1024 → Compiled t n
compiled w t n formula shallow right long short =
    let low : need t ≤ max_height = omega (arith, height formula shallow) in
    let taken : Accepts (code_of t) (tree_kind t) = accepted (well t right) low (code-some t) (omega (arith, small formula)) in
    record {
      kind = λ E kinded. worth-of-kind E kinded t right;
      same = λ E kinded. whole E kinded (well t right) low;
      accepted = taken;
      stack = λ E kinded. safe.stack E (code_of t) (tree_kind t) kinded taken;
      short = omega (arith, small formula);
      quick = λ E. omega (arith, small formula, count_most E (code_of t) 0 [], bound t);
    }

pub demand : Demand
demand = record { compiled = compiled }
