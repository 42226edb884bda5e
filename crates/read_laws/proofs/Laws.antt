-- `ReadTheorems`, from its parts.
use mathlib.Core.Path.{◌≡◌, refl, sym, ap, ◌∙◌}
use mathlib.Core.Bool.{Bool, true, false, ◌&&◌, cond}
use mathlib.Core.List.{List, []}
use Prim.Native.Nat.{ℕ, ◌<◌}
use native.Mathlib.Decide.{dec_lt}
use lib.Dec.{eqb, ltb}
use lib.ListN.{length}
use borrow.Author.Tests.{eq-eqb, ltb-true}
use Rattle.values.specs.declared.Fault.TheVariants.{IndexError}
use Rattle.values.specs.declared.Outcome.TheVariants.{Stopped}
use Rattle.memory.specs.declared.Bank.{Bank}
use Rattle.memory.specs.Layout.{ImageLayout, layout_of}
use Rattle.memory.specs.Cells.{cell_value, read_in}
use Rattle.memory.specs.Environment.{Environment, memory_in}
use Rattle.grammar.specs.Tree.{Tree}
use Rattle.tree_code.specs.Code.{code_of}
use Rattle.read_set.specs.Cells.{Cells, code_cells, cell_list}
use Rattle.read_laws.specs.Formulas.{tree_cells}
use Rattle.read_laws.specs.Theorems.{AlikeOn, AgreeOn, AgreeOnListed, ReadTheorems}
use Rattle.read_laws.proofs.Environments.{values, runs_same}
use Rattle.read_laws.proofs.Codes.{code-cells}
use Rattle.read_laws.proofs.Lists.{cells-listed, cells-rising, cells_same, cells-most, cells_fit}

-- images of the right size read alike where they hold the same number, or have no element
pub reads-alike : (L : ImageLayout) (m n : List ℕ) (b : Bank) (i : ℕ) → length m ≡ L.size → length n ≡ L.size
    → (i < (layout_of b).elements → L.get m b i ≡ L.get n b i) → read_in L m b i ≡ read_in L n b i
reads-alike L m n b i h h' same =
    rw (eq-eqb (length m) L.size h, eq-eqb (length n) L.size h') (by (ltb i (layout_of b).elements) refl)
  where
    by : (t : Bool) → ltb i (layout_of b).elements ≡ t
        → cond t (cell_value b (L.get m b i)) (Stopped IndexError) ≡ cond t (cell_value b (L.get n b i)) (Stopped IndexError)
    by true e = ap (cell_value b) (same (ltb-true i (layout_of b).elements e))
    by false e = refl

alike : {L : ImageLayout} {f : Cells} {m n : List ℕ} (tick : ℕ) → AgreeOn L f m n → AlikeOn f (memory_in L tick m) (memory_in L tick n)
alike tick a = record { cells = a.cells; tick = refl }

agrees : (L : ImageLayout) (f : Cells) (m n : List ℕ) → AgreeOnListed L (cell_list f) m n → AgreeOn L f m n
agrees L f m n a = record { size = a.size; size' = a.size'; cells = λ b i e. by b i e (dec_lt i (layout_of b).elements) }
  where
    by : (b : Bank) (i : ℕ) → f b i ≡ true → Dec (i < (layout_of b).elements) → read_in L m b i ≡ read_in L n b i
    by b i e (yes h) = a.cells b i ((cells-listed f b i).1 (e, h))
    by b i e (no h) = reads-alike L m n b i a.size a.size' (λ l. absurd (h l))

code_alike : {E F : Environment} (t : Tree) → AlikeOn (tree_cells t) E F → AlikeOn (code_cells (code_of t)) E F
code_alike t a = record { cells = λ b i e. a.cells b i (sym (code-cells b i t) ∙ e); tick = a.tick }

pub read-theorems : ReadTheorems
read-theorems =
    record {
      value = λ E F t a. values t a;
      run = λ E F c a. runs_same E F c 0 [] a;
      code = λ t b i. code-cells b i t;
      formula-run = λ E F t a. runs_same E F (code_of t) 0 [] (code_alike t a);
      memories = λ L tick f m n a. alike tick a;
      same_value = λ L tick t m n a. values t (alike tick a);
      same_run = λ L tick c m n a. runs_same (memory_in L tick m) (memory_in L tick n) c 0 [] (alike tick a);
      bytes = λ L f m n h h' same. record { size = h; size' = h'; cells = λ b i e. reads-alike L m n b i h h' (λ l. same b i e l) };
      listed = cells-listed;
      rising = cells-rising;
      agree_listed = agrees;
      same_list = cells_same;
      most = cells-most;
      fits = cells_fit;
    }
