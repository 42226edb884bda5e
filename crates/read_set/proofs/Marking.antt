-- The loop over the code: what is left to mark, besides what is reached, is what the whole code reads.
use mathlib.Core.Path.{◌≡◌, refl, sym, ap, ◌∙◌, subst}
use mathlib.Core.Bool.{Bool, true, false, ◌||◌, cond, or-false, or_assoc}
use mathlib.Core.List.{List}
use Prim.Native.Nat.{ℕ, zero, suc, ◌+◌, ◌-◌, ◌/◌, ◌≤◌, ◌<◌}
use native.Mathlib.Numerals.{add-one}
use native.Mathlib.Omega.{arith}
use lib.Dec.{ltb}
use lib.ListN.{length}
use borrow.Author.Tests.{ltb-false}
use Rattle.memory.specs.declared.Bank.{Bank}
use Rattle.memory.specs.Layout.{layout_of}
use Rattle.code.specs.declared.Instr.{Instr}
use Rattle.code.specs.Instructions.{instruction_of, fetched, decode_at, decode_from, instructions}
use Rattle.code.proofs.Parts.{decode-fetched, decode-beyond}
use Rattle.read_set.specs.declared.Interval.{Interval}
use Rattle.read_set.specs.Cells.{Cells, instr_cells, code_cells, cell_count, cell_number}
use Rattle.read_set.specs.private.Intervals.{Numbers, Reads}
use Rattle.read_set.specs.private.Reaches.{lesser, is_reached, extended, Marks}
use Rattle.read_set.proofs.Reaches.{extended-reaches, extended-length}

-- of the first n instructions of the code s, those from p on are left
pub record Left (s : List ℕ) (n p : ℕ) (before rs : List ℕ) : Type 0 where
  pub long : length rs ≡ cell_count
  pub rest : (b : Bank) (j : ℕ) → j < (layout_of b).elements
      → (is_reached rs (cell_number b j) || code_cells (decode_from s p (n - p)) b j) ≡ (is_reached before (cell_number b j) || code_cells (instructions s n) b j)

module _ (s : List ℕ) (b : Bank) (j : ℕ) where
  next-cells : (p m : ℕ) → code_cells (decode_from s p (suc m)) b j ≡ (instr_cells (decode_at s p) b j || code_cells (decode_from s (suc p) m) b j)
  unfolding decode_from
  next-cells p m = refl

  no_cells : (p : ℕ) → code_cells (decode_from s p 0) b j ≡ false
  unfolding decode_from
  no_cells p = refl

  beyond-cells : (p m : ℕ) → length s / 8 ≤ p → code_cells (decode_from s p m) b j ≡ false
  beyond-cells p zero h = no_cells p
  beyond-cells p (suc m) h =
      next-cells p m ∙ ap (λ (i : Instr). instr_cells i b j || code_cells (decode_from s (suc p) m) b j) (decode-beyond s p h)
      ∙ beyond-cells (suc p) m (omega arith)

pub starts : (s : List ℕ) (n : ℕ) (rs : List ℕ) → length rs ≡ cell_count → Left s n 0 rs rs
starts s n rs h =
    let all : n - 0 ≡ n = omega arith in
    record { long = h; rest = λ b j l. ap (λ (m : ℕ). is_reached rs (cell_number b j) || code_cells (decode_from s 0 m) b j) all }

pub inside : {s before rs : List ℕ} {n p : ℕ} {f : Cells} {r : Interval} → Left s n p before rs → Numbers f r → r.first < length rs
inside {r = r} L x = subst (λ (k : ℕ). r.first < k) (sym L.long) x.inside

pub turn : {s before rs after : List ℕ} {n p w : ℕ} {r : Interval} → Left s n p before rs → p < n → w ≡ fetched s p → Reads (instruction_of w) r
    → after ≡ extended rs r.first r.count → Left s n (p + 1) before after
turn {s} {before} {rs} {after} {n} {p} {w} {r} L h e x q = rw (add-one p) next
  where
    others : Bank → ℕ → Bool
    others b j = code_cells (decode_from s (suc p) (n - suc p)) b j

    same : (b : Bank) (j : ℕ) → instr_cells (instruction_of w) b j ≡ instr_cells (decode_at s p) b j
    same b j = ap (λ (i : Instr). instr_cells i b j) (ap instruction_of e ∙ sym (decode-fetched s p))

    one_less : suc (n - suc p) ≡ n - p
    one_less = omega arith

    next : Left s n (suc p) before after
    next =
        record {
          long = ap length q ∙ extended-length rs r.first r.count ∙ L.long;
          rest = λ b j l.
              ap (λ (t : List ℕ). is_reached t (cell_number b j) || others b j) q
              ∙ ap (λ (t : Bool). t || others b j) (extended-reaches rs r.first r.count (inside L x) (cell_number b j)
              ∙ ap (λ (t : Bool). is_reached rs (cell_number b j) || t) (sym (x.numbers b j l) ∙ same b j))
              ∙ or_assoc (is_reached rs (cell_number b j)) (instr_cells (decode_at s p) b j) (others b j)
              ∙ ap (λ (t : Bool). is_reached rs (cell_number b j) || t) (sym (next-cells s b j p (n - suc p)))
              ∙ ap (λ (m : ℕ). is_reached rs (cell_number b j) || code_cells (decode_from s p m) b j) one_less
              ∙ L.rest b j l;
        }

-- ---- the end of the instructions that are there
pub lesser-left : (a b : ℕ) → lesser a b ≤ a
lesser-left a b = by (ltb a b) refl
  where
    by : (t : Bool) → ltb a b ≡ t → cond t a b ≤ a
    by true e = omega arith
    by false e = ltb-false a b e

pub ends : {s before after : List ℕ} {n p there : ℕ} → Left s n p before after → there ≡ lesser n (length s / 8) → there ≤ p
    → Marks (instructions s n) before after
ends {s} {before} {after} {n} {p} L q h =
    record {
      long = L.long;
      marked = λ b j l.
          sym (ap (λ (t : Bool). is_reached after (cell_number b j) || t) (over (ltb n (length s / 8)) (subst (λ (k : ℕ). k ≤ p) q h) b j)
          ∙ or-false (is_reached after (cell_number b j)))
          ∙ L.rest b j l;
    }
  where
    over : (t : Bool) → cond t n (length s / 8) ≤ p → (b : Bank) (j : ℕ) → code_cells (decode_from s p (n - p)) b j ≡ false
    over true l b j =
        let none : n - p ≡ 0 = omega arith in
        ap (λ (m : ℕ). code_cells (decode_from s p m) b j) none ∙ no_cells s b j p
    over false l b j = beyond-cells s b j p (n - p) l
