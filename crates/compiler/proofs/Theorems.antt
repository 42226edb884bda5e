-- The theorems about compiling, from those about texts, trees and bytes.
use mathlib.Core.Path.{◌≡◌}
use mathlib.Core.List.{List}
use Prim.Native.Nat.{ℕ, ◌≤◌}
use native.Mathlib.Omega.{arith}
use lib.ListN.{length}
use Rattle.code.specs.Instructions.{instructions}
use Rattle.grammar.specs.Tree.{Tree}
use Rattle.text.specs.Judge.{accepted, judge_from}
use Rattle.text.specs.Theorems.{AcceptedFormula}
use Rattle.text.proofs.Theorems.{text-theorems, text-from}
use Rattle.tree_code.specs.Code.{code_of}
use Rattle.tree_code.specs.Demand.{Compiled}
use Rattle.compiler.specs.Compile.{coded_bytes, CompileTheoremsFrom, CompileTheorems}
use Rattle.tree_code.proofs.Demand.{demand}
use Rattle.compiler.proofs.Scanned.{known-tokens, least}
use Rattle.compiler.proofs.Encodable.{encodable}
use Rattle.compiler.proofs.Bytes.{read_back}

-- what is accepted behind open brackets is a formula of its own
module _ (d : ℕ) (s : List ℕ) (t : Tree) (q : judge_from d s ≡ accepted t) where
  formula : AcceptedFormula s t
  formula = (text-theorems.accepts s t).0 (text-from.fewer d 0 s t (omega arith) q)

  pub compiled : Compiled t (length s)
  compiled =
      let a = formula in
      let tokens = a.reads.scanned in
      demand.compiled a.toks t (length s) a.formula a.shallow a.faultless (least s a.toks tokens) a.reads.sized.short

  -- two instructions a byte, of 1,024 bytes at the most: eight bytes each are the 16,384 that a buffer must have
  pub short : length (code_of t) ≤ 2048
  short = omega (arith, compiled.short, formula.reads.sized.short)

  module _ (code : List ℕ) (room : 16384 ≤ length code) where
    there : instructions (coded_bytes code (accepted t)) (length (code_of t)) ≡ code_of t
    there =
        let known = known-tokens s formula.toks formula.reads.scanned in
        read_back code (encodable formula.formula known short) (omega (arith, short))

pub compile-theorems-from : (d : ℕ) → CompileTheoremsFrom d
compile-theorems-from d = record { there = λ s code t q room. there d s t q code room; demand = compiled d }

pub compile-theorems : CompileTheorems
compile-theorems = compile-theorems-from 0
