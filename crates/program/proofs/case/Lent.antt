-- What a line does to the case that buffers of the caller's own hold: skipped, the target, the expression, or a cell. Assumes nothing.
use mathlib.Core.Path.{◌≡◌, refl, ap, ◌∙◌}
use mathlib.Core.Bool.{true, false}
use mathlib.Core.List.{List}
use Prim.Native.Nat.{ℕ, suc, ◌+◌, ◌-◌, ◌≤◌}
use native.Mathlib.Omega.{arith}
use lib.ListN.{length, take, drop, length-drop}
use lib.Seq.{length-sets}
use Rattle.memory.specs.Names.{named_rule}
use Rattle.tokens.specs.Symbols.{equal_bytes}
use Rattle.lines.specs.Lines.{key_length}
use Rattle.lines.specs.private.Steps.{Puts}
use Rattle.program.specs.declared.case.Lengths.{Lengths}
use Rattle.program.specs.Cases.{target_key, expr_key, set_cell, after_line}
use Rattle.program.specs.Stream.{case_in, LengthsInside}
use Rattle.program.proofs.reply.Whole.{front}
use Rattle.program.proofs.case.Effects.{skipped, target_line, expr_line, cell-line}

module _ (m t x : List ℕ) (n : Lengths) (l : List ℕ) (in-target : length l ≤ length t) (in-text : length l ≤ length x) (inside : LengthsInside t x n)
    {k : ℕ} (u : (k ≡ key_length l) × (k ≤ length l)) where
  abbrev Does : List ℕ → List ℕ → List ℕ → Lengths → Type 0
  Does m' t' x' r = LengthsInside t' x' r × ((case_in m' t' x' r ≡ after_line (case_in m t x n) l) × (r.line ≡ 0))

  pub lent-skipped : k ≡ length l → Does m t x (record { target = n.target; text = n.text; line = 0 })
  lent-skipped h = (record { target = inside.target; text = inside.text }, (skipped (case_in m t x n) l u h, refl))

  module _ (h : k ≡ length l → ⊥) {v : List ℕ} (f : v ≡ drop (suc k) l) where
    short : length v ≤ length l
    short = rw (f, length-drop) (omega arith)

    pub lent-target : true ≡ equal_bytes (take k l) target_key → {t' : List ℕ} {e : ℕ} → Puts t 0 t' e v
        → Does m t' x (record { target = e; text = n.text; line = 0 })
    lent-target a {t'} {e} p =
        let z : length t' ≡ length t = ap length p.bytes ∙ length-sets t 0 v in
        let y : e ≤ length t = omega (arith, p.end, short) in
        (record { target = omega arith; text = inside.text }, (rw (front p y) (target_line (case_in m t x n) l u h f a), refl))

    pub lent-expr : false ≡ equal_bytes (take k l) target_key → true ≡ equal_bytes (take k l) expr_key → {x' : List ℕ} {e : ℕ} → Puts x 0 x' e v
        → Does m t x' (record { target = n.target; text = e; line = 0 })
    lent-expr a b {x'} {e} p =
        let z : length x' ≡ length x = ap length p.bytes ∙ length-sets x 0 v in
        let y : e ≤ length x = omega (arith, p.end, short) in
        (record { target = inside.target; text = omega arith }, (rw (front p y) (expr_line (case_in m t x n) l u h f a b), refl))

    pub lent-cell : false ≡ equal_bytes (take k l) target_key → false ≡ equal_bytes (take k l) expr_key → {m' : List ℕ}
        → m' ≡ set_cell m v (named_rule (take k l)) → Does m' t x (record { target = n.target; text = n.text; line = 0 })
    lent-cell a b g = (record { target = inside.target; text = inside.text }, (cell-line (case_in m t x n) l u h f a b g, refl))
