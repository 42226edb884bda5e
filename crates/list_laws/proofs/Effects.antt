-- A request has one effect: a value goes to a cell that is written, or a flag is set, or nothing. It depends on the cells that are read alone, and effects of
-- independent requests commute, by the laws of the memory.
use Rattle.std.specs.Prelude.{Result, Ok, Err}
use mathlib.Core.Path.{◌≡◌, refl, sym, ap, subst, ◌∙◌}
use mathlib.Core.Logic.{inl, inr}
use mathlib.Core.Bool.{Bool, true, false, ◌&&◌, cond}
use mathlib.Core.List.{List}
use Prim.Native.Nat.{ℕ, ◌<◌}
use native.Mathlib.Omega.{arith}
use native.Mathlib.Decide.{ℕ_discrete, dec_lt}
use lib.Dec.{eqb, ltb}
use lib.ListN.{length, set, get_or, length-set}
use borrow.Author.Tests.{ltb-true, le-ltb}
use Rattle.values.specs.declared.Value.{Value}
use Rattle.values.specs.declared.Fault.{Fault}
use Rattle.values.specs.declared.Fault.TheVariants.{OutOfRange, IndexError}
use Rattle.values.specs.declared.Outcome.{Outcome}
use Rattle.values.specs.declared.Outcome.TheVariants as Outcome
use Rattle.memory.specs.declared.Bank.{Bank}
use Rattle.memory.specs.declared.Bank.TheVariants.{X, C, «V», N, D, R}
use Rattle.memory.specs.Numbers.{bank_number, banks}
use Rattle.memory.specs.Layout.{image_size, layout_of}
use Rattle.memory.specs.Cells.{position_rule, read_rule}
use Rattle.memory.specs.Store.{is_finite, with_flag, store_image}
use Rattle.memory.specs.Environment.{Environment, memory_at}
use Rattle.memory.specs.Laws.{Distinct}
use Rattle.memory.proofs.Laws.{memory-laws}
use Rattle.grammar.specs.Tree.{Tree}
use Rattle.grammar.specs.Eval.{eval}
use Rattle.text.specs.Targets.{Target, to_cell, to_indexed, no_target}
use Rattle.machine.specs.declared.Ended.{Ended}
use Rattle.machine.specs.declared.Ended.TheVariants as Ended
use Rattle.machine.specs.Machine.{end_of}
use Rattle.read_set.specs.Cells.{Cells, same_bank, cell_list}
use Rattle.read_set.proofs.Intervals.{bank-same}
use Rattle.read_laws.specs.Formulas.{tree_cells, target_cells}
use Rattle.read_laws.specs.Theorems.{AlikeOn, Listed as InList}
use Rattle.read_laws.proofs.Environments.{first, second, cell_same}
use Rattle.read_laws.proofs.Laws.{read-theorems}
use Rattle.read_answers.proofs.Laws.{answer-theorems}
use Rattle.operations.specs.Operations.{Destination, cell, fault, lost, at_element, reached, destination_of, Arrival, arrival_of, arrived_memory, memory_after}
use Rattle.operations.specs.Operations.{Request, stores, stops, request_memory}
use Rattle.list_laws.specs.Independence.{target_writes, write_set, read_set, Disjoint, SameRequest, both_store, both_stop}

pub data Effect : Type 0 where
  puts : Bank → ℕ → Value → Effect
  flags : Fault → Effect
  leaves : Effect

abbrev arriving : Value → Destination → Effect
arriving v (cell b i) = cond (ltb i (layout_of b).elements) (puts b i v) (flags IndexError)
arriving v (fault f) = flags f
arriving v lost = leaves

abbrev ending : Destination → Ended → Effect
ending d (Ended.Done v) = cond (is_finite v) (arriving v d) (flags OutOfRange)
ending d (Ended.Stopped f) = flags f
ending d Ended.Stuck = leaves

abbrev pub effect_of : Environment → Request → Effect
effect_of E (stores g t code index) = ending (destination_of E g) (end_of (eval E t))
effect_of E (stops a p) = leaves

abbrev pub applied : List ℕ → Effect → List ℕ
applied m (puts b i v) = store_image m b i v
applied m (flags f) = with_flag m f
applied m leaves = m

-- ---- a request does what its effect does
outside : (t : Bool) {A : Type 0} (x y : A) → cond (t && false) x y ≡ y
outside true x y = refl
outside false x y = refl

does-arriving : (m : List ℕ) (v : Value) (d : Destination) → arrived_memory m v d ≡ applied m (arriving v d)
does-arriving m v (cell b i) = by (ltb i (layout_of b).elements) refl
  where
    by : (t : Bool) → ltb i (layout_of b).elements ≡ t → store_image m b i v ≡ applied m (cond t (puts b i v) (flags IndexError))
    by true q = refl
    by false q = rw q (outside (eqb (length m) image_size) _ _)
does-arriving m v (fault f) = refl
does-arriving m v lost = refl

does-ending : (m : List ℕ) (a : Arrival) (x : Ended) → memory_after m a x ≡ applied m (ending a.destination x)
does-ending m a (Ended.Done v) = by (is_finite v)
  where
    by : (t : Bool) → cond t (arrived_memory m v a.destination) (with_flag m OutOfRange) ≡ applied m (cond t (arriving v a.destination) (flags OutOfRange))
    by true = does-arriving m v a.destination
    by false = refl
does-ending m a (Ended.Stopped f) = refl
does-ending m a Ended.Stuck = refl

pub does : (tick : ℕ) (m : List ℕ) (q : Request) → request_memory tick m q ≡ applied m (effect_of (memory_at tick m) q)
does tick m (stores g t code index) = does-ending m (arrival_of tick index m g) (end_of (eval (memory_at tick m) t))
does tick m (stops a p) = refl

-- ---- it depends on the target, the tree and the cells that are read alone
pub effect-same : {p q : Request} (E : Environment) → SameRequest p q → effect_of E p ≡ effect_of E q
effect-same E (both_store g t code index code' index') = refl
effect-same E (both_stop a p) = refl

pub effect-alike : {E F : Environment} (q : Request) → AlikeOn (read_set q) E F → effect_of E q ≡ effect_of F q
effect-alike {E} {F} (stores g t code index) a =
    ap (λ (d : Destination). ending d (end_of (eval E t))) (answer-theorems.element E F g (second (tree_cells t) (target_cells g) a))
    ∙ ap (λ (o : Outcome). ending (destination_of F g) (end_of o)) (read-theorems.value E F t (first (tree_cells t) (target_cells g) a))
effect-alike (stops a p) h = refl

-- ---- it goes to a cell that is written
pub data Into (f : Cells) : Effect → Type 0 where
  into-cell : (b : Bank) (i : ℕ) (v : Value) → i < (layout_of b).elements → f b i ≡ true → Into f (puts b i v)
  into-flag : (g : Fault) → Into f (flags g)
  into-none : Into f leaves

bank-reached : (c : Bank) (x : Ended) (b : Bank) (i : ℕ) → reached c x ≡ cell b i → same_bank c b ≡ true
bank-reached c (Ended.Done v) b i e = by (position_rule c v) e
  where
    by : (p : (Result ℕ Fault)) → at_element c p ≡ cell b i → same_bank c b ≡ true
    by (Ok j) e = let q : c ≡ b = cc in rw q (bank-same b)
    by (Err f) e = let z : ◌≡◌ {A = ℕ} 0 1 = cc in absurd (omega arith)
bank-reached c (Ended.Stopped f) b i e = let z : ◌≡◌ {A = ℕ} 0 1 = cc in absurd (omega arith)
bank-reached c Ended.Stuck b i e = let z : ◌≡◌ {A = ℕ} 0 1 = cc in absurd (omega arith)

lands : (E : Environment) (g : Target) (b : Bank) (i : ℕ) → destination_of E g ≡ cell b i → target_writes g b i ≡ true
lands E (to_cell c j) b i e =
    let p : c ≡ b = cc in
    let q : j ≡ i = cc in
    rw (p, q) (cell_same b i)
lands E (to_indexed c t) b i e = rw (bank-reached c (end_of (eval E t)) b i e) refl
lands E no_target b i e = let z : ◌≡◌ {A = ℕ} 0 1 = cc in absurd (omega arith)

arriving-into : (f : Cells) (v : Value) (d : Destination) → ((b : Bank) (i : ℕ) → d ≡ cell b i → f b i ≡ true) → Into f (arriving v d)
arriving-into f v (cell b i) h = by (ltb i (layout_of b).elements) refl
  where
    by : (t : Bool) → ltb i (layout_of b).elements ≡ t → Into f (cond t (puts b i v) (flags IndexError))
    by true q = into-cell b i v (ltb-true i (layout_of b).elements q) (h b i refl)
    by false q = into-flag IndexError
arriving-into f v (fault g) h = into-flag g
arriving-into f v lost h = into-none

ending-into : (f : Cells) (d : Destination) (x : Ended) → ((b : Bank) (i : ℕ) → d ≡ cell b i → f b i ≡ true) → Into f (ending d x)
ending-into f d (Ended.Done v) h = by (is_finite v)
  where
    by : (t : Bool) → Into f (cond t (arriving v d) (flags OutOfRange))
    by true = arriving-into f v d h
    by false = into-flag OutOfRange
ending-into f d (Ended.Stopped g) h = into-flag g
ending-into f d Ended.Stuck h = into-none

pub into : (E : Environment) (q : Request) → Into (write_set q) (effect_of E q)
into E (stores g t code index) = ending-into (target_writes g) (destination_of E g) (end_of (eval E t)) (lands E g)
into E (stops a p) = into-none

-- ---- cells of disjoint sets are distinct
pub by_lists : (f g : Cells) → ((b : Bank) (i : ℕ) → InList b i (cell_list f) → InList b i (cell_list g) → ⊥) → Disjoint f g
by_lists f g h b i l p q = h b i ((read-theorems.listed f b i).1 (p, l)) ((read-theorems.listed g b i).1 (q, l))

number-back : (b : Bank) → get_or banks (bank_number b) X ≡ b
number-back X = refl
number-back C = refl
number-back «V» = refl
number-back N = refl
number-back D = refl
number-back R = refl

distinct : {f g : Cells} → Disjoint f g → (b : Bank) (i : ℕ) (c : Bank) (j : ℕ) → j < (layout_of c).elements → g b i ≡ true → f c j ≡ true → Distinct b i c j
distinct {f} {g} d b i c j l h k = by (ℕ_discrete (bank_number b) (bank_number c)) (ℕ_discrete i j)
  where
    by : Dec (bank_number b ≡ bank_number c) → Dec (i ≡ j) → Distinct b i c j
    by (no n) x = inl (λ e. n (ap bank_number e))
    by (yes e) (no n) = inr n
    by (yes e) (yes w) =
        let q : b ≡ c = sym (number-back b) ∙ ap (λ (n : ℕ). get_or banks n X) e ∙ number-back c in
        absurd (d c j l k (subst (λ (n : ℕ). g c n ≡ true) w (subst (λ (x : Bank). g x i ≡ true) q h)))

-- ---- what is read after an effect elsewhere
absent : (m : List ℕ) (c : Bank) (j : ℕ) → (j < (layout_of c).elements → ⊥) → read_rule m c j ≡ Outcome.Stopped IndexError
absent m c j h = rw (le-ltb j (layout_of c).elements (omega (arith, h))) (outside (eqb (length m) image_size) _ _)

pub kept : {f g : Cells} {x : Effect} → Into g x → Disjoint f g → (m : List ℕ) (c : Bank) (j : ℕ) → f c j ≡ true → read_rule (applied m x) c j ≡ read_rule m c j
kept {f} {g} (into-cell b i v l h) d m c j r = by (dec_lt j (layout_of c).elements)
  where
    by : Dec (j < (layout_of c).elements) → read_rule (store_image m b i v) c j ≡ read_rule m c j
    by (yes k) = memory-laws.read_other m b i c j v (distinct d b i c j k h r)
    by (no k) = absent (store_image m b i v) c j k ∙ sym (absent m c j k)
kept (into-flag a) d m c j r = memory-laws.read_flagged m a c j
kept into-none d m c j r = refl

-- ---- effects commute
opposite : {f g : Cells} → Disjoint f g → Disjoint g f
opposite d b i l h k = d b i l k h

pub swaps : {f g : Cells} {x y : Effect} → Into f x → Into g y → Disjoint f g → (m : List ℕ) → applied (applied m x) y ≡ applied (applied m y) x
swaps (into-cell b i v l h) (into-cell c j w k r) d m = memory-laws.stores_commute m b i v c j w (distinct (opposite d) b i c j k h r)
swaps (into-cell b i v l h) (into-flag a) d m = memory-laws.store_flag_commute m b i v a
swaps (into-cell b i v l h) into-none d m = refl
swaps (into-flag a) (into-cell c j w k r) d m = sym (memory-laws.store_flag_commute m c j w a)
swaps (into-flag a) (into-flag b) d m = memory-laws.flags_commute m a b
swaps (into-flag a) into-none d m = refl
swaps into-none n d m = refl

-- ---- the image keeps its length
flag-length : (m : List ℕ) (f : Fault) → length (with_flag m f) ≡ length m
flag-length m f = by (eqb (length m) image_size) _
  where
    by : (t : Bool) (k : ℕ) → length (cond t (set m k 1) m) ≡ length m
    by true k = length-set m k 1
    by false k = refl

pub applied-length : (m : List ℕ) (x : Effect) → length (applied m x) ≡ length m
applied-length m (puts b i v) = memory-laws.same_length m b i v
applied-length m (flags f) = flag-length m f
applied-length m leaves = refl
