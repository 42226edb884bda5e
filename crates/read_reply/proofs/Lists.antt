-- What `read_set::cells` leaves in a list that has room for every cell.
use mathlib.Core.Path.{◌≡◌, sym, ap, ◌∙◌, subst}
use mathlib.Core.List.{List}
use Prim.Native.Nat.{ℕ, ◌*◌, ◌≤◌}
use native.Mathlib.Omega.{arith}
use lib.ListN.{length, take}
use lib.Seq.{sets, length-take-le, length-sets}
use Rattle.code.specs.Instructions.{instructions}
use Rattle.read_set.specs.Cells.{Cells, union, code_cells, cell_numbers, read_by}
use Rattle.read_laws.proofs.Laws.{read-theorems}
use Rattle.read_reply.specs.Listing.{cell_lines}
use Rattle.read_reply.specs.private.Numbers.{number_lines, CellNumbers}
use Rattle.read_reply.proofs.Names.{lines-back, numbers-below}

module _ (code : List ℕ) (n : ℕ) (index : List ℕ) (k : ℕ) where
  abbrev both : Cells
  both = union (code_cells (instructions code n)) (code_cells (instructions index k))

  few : (r : ℕ) → r ≡ length (read_by code n index k) → r ≤ 1152
  few r e = omega (arith, read-theorems.most both)

  module _ (old new : List ℕ) (r : ℕ) (z : 1152 ≡ length old) (e : r ≡ length (read_by code n index k))
      (q : new ≡ sets old 0 (cell_numbers (read_by code n index k))) where
    pub listed : take r new ≡ cell_numbers (read_by code n index k)
    listed =
        ap (λ (x : ℕ). take x new) e ∙ ap (take (length (read_by code n index k))) q
        ∙ read-theorems.fits both old (omega arith)

    pub room : r ≤ length new
    room =
        let l : length new ≡ length old = ap length q ∙ length-sets old 0 (cell_numbers (read_by code n index k)) in
        omega (arith, few r e)

    pub part : r ≡ length (take r new)
    part = sym (length-take-le r new room)

    pub numbers : CellNumbers (take r new)
    numbers = subst CellNumbers (sym listed) (numbers-below both)

    pub lines : number_lines (take r new) ≡ cell_lines (read_by code n index k)
    lines = ap number_lines listed ∙ lines-back both

    pub short : 5 * length (take r new) ≤ 5760
    short = omega (arith, part, few r e)
