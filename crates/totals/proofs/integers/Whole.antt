-- Runs over the banks of integers: every cell of a good range can be read or none, and what is held stays an integer.
use mathlib.Core.Path.{◌≡◌, refl, sym, ap, ◌∙◌}
use mathlib.Core.Bool.{Bool, true, false, false≢true, and-true, cond}
use mathlib.Core.List.{List}
use Prim.Native.Nat.{ℕ, suc, ◌+◌, ◌-◌, ◌*◌, ◌^◌, ◌≤◌, ◌<◌}
use native.Mathlib.Omega.{arith}
use lib.Dec.{T, eqb, ltb}
use lib.IntN.{ℤ, pos, negsuc, nat_abs, ◌+ℤ◌, +ℤ_idr}
use lib.ListN.{length}
use borrow.Author.Tests.{lt-ltb, eqb-true}
use mir.Syntax.{w32, w64}
use mir.Val.{SFits, to_z, of_z}
use mir.ValLaws.{to_z-of_z}
use Rattle.reals.specs.declared.ArithOp.TheVariants.{Add}
use Rattle.values.specs.declared.Kind.TheVariants as K
use Rattle.values.specs.declared.Value.{Value}
use Rattle.values.specs.declared.Value.TheVariants.{Int}
use Rattle.values.specs.declared.Fault.TheVariants.{Overflow, IndexError}
use Rattle.values.specs.declared.ChoiceOp.{ChoiceOp}
use Rattle.values.specs.declared.CompareOp.{CompareOp}
use Rattle.values.specs.declared.Outcome.{Outcome}
use Rattle.values.specs.declared.Outcome.TheVariants.{Done, Stopped, WrongKind}
use Rattle.values.specs.Integers.{in_range, exact_int}
use Rattle.values.proofs.Ranges.{sfits-range, range-sfits, read_wide}
use Rattle.values.specs.Patterns.{signed_of}
use Rattle.values.proofs.integers.Sizes.{add-size}
use Rattle.values.proofs.integers.Results.{wide, fits}
use Rattle.words.specs.Laws.{Bytes}
use Rattle.operators.specs.Operators.{compare_rule}
use Rattle.memory.specs.declared.Bank.{Bank}
use Rattle.memory.specs.declared.Bank.TheVariants.{X, C, «V», N, D, R}
use Rattle.memory.specs.Layout.{image_size, layout_of, has_cell}
use Rattle.memory.specs.Cells.{bank_kind, bit_of, cell_value, read_rule}
use Rattle.totals.specs.declared.Step.{Step}
use Rattle.totals.specs.declared.Step.TheVariants as S
use Rattle.totals.specs.declared.Visited.{Visited}
use Rattle.totals.specs.Totals.{then, fold_cells, good_range}
use Rattle.totals.specs.private.Steps.{match_step, step_rule, run_over}
use Rattle.totals.specs.private.Integers.{is_wide, whole_in, taken_of, no_cells}
use Rattle.memory.proofs.Laws.{packed-laws}
use Rattle.totals.proofs.Within.{range-in}
use Rattle.totals.proofs.Middle.{Middle, stopped, ending, ending-done, middle-begin, middle-on, middle-stops, middle-unread, middle-ends, first-choice}

pub no-int : K.Real ≡ K.Int → ⊥
no-int q = let z : ◌≡◌ {A = ℕ} 0 1 = cc in omega arith

whole-cell : (b : Bank) (m : ℕ) → bank_kind b ≡ K.Int → cell_value b m ≡ Done (Int (whole_in (cell_value b m)))
whole-cell X m e = refl
whole-cell C m e = refl
whole-cell «V» m e = refl
whole-cell N m e = refl
whole-cell D m e = refl
whole-cell R m e = absurd (no-int e)

narrow-bit : (n : ℕ) → nat_abs (bit_of n) ≤ 65536
narrow-bit n = by (eqb n 0)
  where
    by : (t : Bool) → nat_abs (cond t (pos 0) (pos 1)) ≤ 65536
    by true = omega arith
    by false = omega arith

narrow_signed : (n : ℕ) → n < 65536 → nat_abs (signed_of 16 n) ≤ 65536
narrow_signed n l = by (ltb n 32768) refl
  where
    by : (t : Bool) → ltb n 32768 ≡ t → nat_abs (cond t (pos n) (negsuc (65536 - suc n))) ≤ 65536
    by true e = omega arith
    by false e = omega arith

narrow-cell : (b : Bank) (n : ℕ) → is_wide b ≡ false → n < 256 ^ (layout_of b).width → nat_abs (whole_in (cell_value b n)) ≤ 65536
narrow-cell X n w l = narrow-bit n
narrow-cell C n w l = narrow-bit n
narrow-cell «V» n w l = omega arith
narrow-cell N n w l = narrow_signed n l
narrow-cell D n w l = absurd (false≢true (sym w))
narrow-cell R n w l = absurd (false≢true (sym w))

-- ---- a run seen from the middle

module _ (s : Step) (read : ℕ → Outcome) (all : Visited) (i n : ℕ) where
  abbrev pub Held : ℤ → ℕ → Type 0
  Held a k = Middle read (step_rule s) Done all i n (Int a) k

  pub held-ends : {a : ℤ} {k : ℕ} → Held a k → n ≤ k → k ≤ n → record { result = Done (Int a); cells = n } ≡ all
  held-ends m l h = middle-ends read (step_rule s) Done all i n m l h

  -- the cell z is read
  module _ {a : ℤ} {k : ℕ} (m : Held a k) (l : k < n) (z : ℤ) (q : read (i + k) ≡ Done (Int z)) where
    pub holds : (w : ℤ) → step_rule s (Int a) (Int z) ≡ Done (Int w) → Held w (k + 1)
    holds w e = middle-on read (step_rule s) Done all i n m l (Int z) (Int w) q e

    -- the sum x leaves 32 bits
    pub leaves : (x : ℤ) → step_rule s (Int a) (Int z) ≡ exact_int x → in_range x ≡ false → record { result = Stopped Overflow; cells = k + 1 } ≡ all
    leaves x e f =
        middle-stops read (step_rule s) Done all i n m l (Stopped Overflow)
        (ap (λ (o : Outcome). then o (step_rule s (Int a))) q ∙ e ∙ rw f refl) (stopped Overflow)

    -- or does not
    pub stays : (x : ℤ) → step_rule s (Int a) (Int z) ≡ exact_int x → in_range x ≡ true → Held x (k + 1)
    stays x e f = holds x (e ∙ rw f refl)

-- ---- where a run begins, and what it makes of a cell

pub sum-begins : (read : ℕ → Outcome) (i n : ℕ) → ending Done 0 (fold_cells read (step_rule S.Add) (Int (pos 0)) i n) ≡ run_over S.Add K.Int read i n
unfolding run_over
sum-begins read i n = ending-done _

pub choice-begins : (o : ChoiceOp) (a : ℤ) (read : ℕ → Outcome) (i n : ℕ) → 1 ≤ n → ((c : Value) → read i ≡ Done c → Int a ≡ c)
    → ending Done 0 (fold_cells read (step_rule (S.Choose o)) (Int a) i n) ≡ run_over (S.Choose o) K.Int read i n
unfolding run_over
choice-begins o a read i n l h = ending-done _ ∙ first-choice o (Int a) K.Int read i n l h

pub match-begins : (c : Bool) (o : CompareOp) (v : Value) (read : ℕ → Outcome) (i n : ℕ)
    → ending Done 0 (fold_cells read (step_rule (match_step c o v)) (Int (pos 0)) i n) ≡ run_over (match_step c o v) K.Int read i n
unfolding run_over
match-begins true o v read i n = ending-done _
match-begins false o v read i n = ending-done _

module _ (c : Bool) (o : CompareOp) (v : Value) (a z : ℤ) where
  taken : compare_rule o (Int z) v ≡ true → step_rule (match_step c o v) (Int a) (Int z) ≡ exact_int (a +ℤ taken_of c z)
  taken e = go c
    where
      go : (c : Bool) → step_rule (match_step c o v) (Int a) (Int z) ≡ exact_int (a +ℤ taken_of c z)
      go true = rw e refl
      go false = rw e refl

  passed : compare_rule o (Int z) v ≡ false → SFits w32 a → step_rule (match_step c o v) (Int a) (Int z) ≡ Done (Int a)
  passed e F = go c
    where
      go : (c : Bool) → step_rule (match_step c o v) (Int a) (Int z) ≡ Done (Int a)
      go true = rw (e, +ℤ_idr a, sfits-range a F) refl
      go false = rw e refl

-- ---- sums at 64 bits, of integers of 32

pub wide-sum : (a z : ℤ) → SFits w32 a → SFits w32 z → SFits w64 (a +ℤ wide z)
wide-sum a z F G = rw (read_wide z G) (fits a z F G Add)

pub wide_back : (a z : ℤ) → SFits w32 a → SFits w32 z → to_z w64 (of_z w64 (a +ℤ wide z)) ≡ a +ℤ z
wide_back a z F G = rw (read_wide z G) (to_z-of_z w64 (a +ℤ z) (fits a z F G Add))

-- so many cells of narrow banks stay within 32 bits
pub narrow-range : (z : ℤ) → nat_abs z ≤ 16777216 → in_range z ≡ true
narrow-range (pos n) h = sfits-range (pos n) (record { sfits = omega arith })
narrow-range (negsuc n) h = sfits-range (negsuc n) (record { sfits = omega arith })

pub narrow-added : (a z : ℤ) (k : ℕ) → nat_abs a ≤ k * 65536 → nat_abs z ≤ 65536 → nat_abs (a +ℤ z) ≤ (k + 1) * 65536
narrow-added a z k h l = omega (arith, add-size a z)

pub narrow-sum : (a z : ℤ) (k : ℕ) → SFits w32 a → SFits w32 z → nat_abs a ≤ k * 65536 → nat_abs z ≤ 65536
    → nat_abs (to_z w64 (of_z w64 (a +ℤ wide z))) ≤ (k + 1) * 65536
narrow-sum a z k F G h l = rw (wide_back a z F G) (narrow-added a z k h l)

pub narrow-taken : (c : Bool) (z : ℤ) → nat_abs z ≤ 65536 → nat_abs (taken_of c z) ≤ 65536
narrow-taken true z h = omega arith
narrow-taken false z h = h

-- ---- a cell z of the IF forms

module _ (c : Bool) (o : CompareOp) (v : Value) (read : ℕ → Outcome) (all : Visited) (i n : ℕ) {a : ℤ} {k : ℕ}
    (m : Held (match_step c o v) read all i n a k) (r : in_range a ≡ true) (l : k < n) (z : ℤ) (q : read (i + k) ≡ Done (Int z)) where
  -- it passes and adds y
  module _ (p : compare_rule o (Int z) v ≡ true) (y : ℤ) (F : SFits w32 y) (e : y ≡ taken_of c z) where
    abbrev next : ℤ
    next = to_z w64 (of_z w64 (a +ℤ wide y))

    added : step_rule (match_step c o v) (Int a) (Int z) ≡ exact_int next
    added =
        taken c o v a z p ∙ ap (λ (x : ℤ). exact_int (a +ℤ x)) (sym e) ∙ ap exact_int (sym (wide_back a y (range-sfits a r) F))

    pub match-leaves : in_range next ≡ false → record { result = Stopped Overflow; cells = k + 1 } ≡ all
    match-leaves f = leaves (match_step c o v) read all i n m l z q next added f

    pub match-stays : in_range next ≡ true → Held (match_step c o v) read all i n next (k + 1)
    match-stays f = stays (match_step c o v) read all i n m l z q next added f

  pub match-passes : compare_rule o (Int z) v ≡ false → Held (match_step c o v) read all i n a (k + 1)
  match-passes p = holds (match_step c o v) read all i n m l z q a (passed c o v a z p (range-sfits a r))

-- ---- the cells of a good range

module _ (image : List ℕ) (b : Bank) (i n : ℕ) (g : T (good_range b i n)) where
  has : (k : ℕ) → k < n → has_cell image b (i + k) ≡ eqb (length image) image_size
  has k l =
      let h = range-in (layout_of b).elements i n g in
      rw (lt-ltb (i + k) (layout_of b).elements (omega (arith, h.1))) (and-true (eqb (length image) image_size))

  -- as the last cell is there, so is each
  alike : {t : Bool} → has_cell image b (i + (n - 1)) ≡ t → (k : ℕ) → k < n → has_cell image b (i + k) ≡ t
  alike e k l = let h = range-in (layout_of b).elements i n g in has k l ∙ sym (has (n - 1) (omega (arith, h.0))) ∙ e

  pub all_there : has_cell image b (i + (n - 1)) ≡ true → (k : ℕ) → k < n → T (has_cell image b (i + k))
  all_there e k l = rw (alike e k l) tt

  pub all_read : bank_kind b ≡ K.Int → has_cell image b (i + (n - 1)) ≡ true → (k : ℕ) → k < n
      → read_rule image b (i + k) ≡ Done (Int (whole_in (read_rule image b (i + k))))
  all_read w e k l = rw (alike e k l) (whole-cell b _ w)

  pub all-narrow : Bytes image → is_wide b ≡ false → has_cell image b (i + (n - 1)) ≡ true → (k : ℕ) → k < n
      → nat_abs (whole_in (read_rule image b (i + k))) ≤ 65536
  all-narrow bytes w e k l =
      let h = range-in (layout_of b).elements i n g in
      rw (alike e k l)
      (narrow-cell b _ w
      (packed-laws.get_below image b (i + k) (eqb-true (length image) image_size (sym (has k l) ∙ alike e k l)) (omega (arith, h.1)) bytes))

  pub none_read : has_cell image b (i + (n - 1)) ≡ false → read_rule image b (i + 0) ≡ Stopped IndexError
  none_read e = let h = range-in (layout_of b).elements i n g in rw (alike e 0 (omega (arith, h.0)))

  -- what a run comes to that begins at v, where the image has no cell
  pub none-held : has_cell image b (i + (n - 1)) ≡ false → (s : Step) (v : Value) (all : Visited)
      → ending Done 0 (fold_cells (read_rule image b) (step_rule s) v i n) ≡ all → no_cells ≡ all
  none-held e s v all q =
      let h = range-in (layout_of b).elements i n g in
      middle-unread (read_rule image b) (step_rule s) Done all i n (middle-begin (read_rule image b) (step_rule s) Done all i n v q) (omega (arith, h.0))
      (Stopped IndexError) (none_read e) (stopped IndexError)

  pub choice-none : has_cell image b (i + (n - 1)) ≡ false → (o : ChoiceOp) → no_cells ≡ run_over (S.Choose o) K.Int (read_rule image b) i n
  choice-none e o =
      let h = range-in (layout_of b).elements i n g in
      let z : i + 0 ≡ i = omega arith in
      none-held e (S.Choose o) (Int (pos 0)) _ (choice-begins o (pos 0) (read_rule image b) i n h.0
      (λ c q. absurd (not_done c (sym (rw z at (none_read e)) ∙ q))))
    where
      is_done : Outcome → Bool
      is_done (Done v) = true
      is_done (Stopped f) = false
      is_done WrongKind = false

      not_done : (c : Value) → Stopped IndexError ≡ Done c → ⊥
      not_done c q = false≢true (ap is_done q)

  pub choice-held : bank_kind b ≡ K.Int → has_cell image b (i + (n - 1)) ≡ true → (o : ChoiceOp) (a : ℤ) → a ≡ whole_in (read_rule image b i)
      → Held (S.Choose o) (read_rule image b) (run_over (S.Choose o) K.Int (read_rule image b) i n) i n a 0
  choice-held w e o a q =
      let h = range-in (layout_of b).elements i n g in
      let z : i + 0 ≡ i = omega arith in
      let r : read_rule image b i ≡ Done (Int a) =
      ap (λ (j : ℕ). read_rule image b j) (sym z) ∙ all_read w e 0 (omega (arith, h.0)) ∙ ap (λ (j : ℕ). Done (Int (whole_in (read_rule image b j)))) z
      ∙ ap (λ (y : ℤ). Done (Int y)) (sym q) in
      middle-begin (read_rule image b) (step_rule (S.Choose o)) Done _ i n (Int a)
      (choice-begins o a (read_rule image b) i n h.0 (λ c p. ap value (sym r ∙ p)))
    where
      value : Outcome → Value
      value (Done v) = v
      value (Stopped f) = Int (pos 0)
      value WrongKind = Int (pos 0)
