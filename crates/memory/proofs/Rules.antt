-- Reading and storing in an image of any layout that keeps `LayoutLaws`. Assumes nothing.
use Rattle.std.specs.Prelude.{Ok}
use mathlib.Core.Path.{◌≡◌, refl, sym, ap, ◌∙◌}
use mathlib.Core.Logic.{◌≢◌}
use mathlib.Core.Bool.{Bool, true, false, cond}
use mathlib.Core.List.{List}
use Prim.Native.Nat.{ℕ, ◌<◌}
use native.Mathlib.Decide.{ℕ_discrete}
use native.Mathlib.Nat.{mod-eq_of_lt}
use lib.Dec.{T}
use lib.Ieee.Bits.{is_true}
use lib.ListN.{length, get_or, set}
use lib.Seq.{get_or-set_same, get_or-set_other}
use Rattle.values.specs.declared.Value.{Value}
use Rattle.values.specs.declared.Fault.{Fault}
use Rattle.values.specs.declared.Fault.TheVariants.{IndexError}
use Rattle.values.specs.declared.Outcome.TheVariants as Outcome
use Rattle.operators.specs.Laws.{Proper}
use Rattle.memory.specs.declared.Bank.{Bank}
use Rattle.memory.specs.Layout.{layout_of, ImageLayout, has_cell_in}
use Rattle.memory.specs.Cells.{cell_value, read_in}
use Rattle.memory.specs.Store.{encode_cell, with_flag_in, store_in}
use Rattle.memory.specs.Laws.{Distinct, Representable, LayoutLaws, MemoryLaws}
use Rattle.memory.proofs.Places.{has-size, has-element}
use Rattle.memory.proofs.Effects.{Effect, after, storing, Writes, writes, apart, apart-flag}
use Rattle.memory.proofs.Effects as Effects
use Rattle.memory.proofs.Readings.{read-kind, indexed-kind, read_proper, indexed_proper}
use Rattle.memory.proofs.store.Encodings.{holdable, below}
use Rattle.memory.proofs.Representations.{represents}

module _ (F : ImageLayout) (L : LayoutLaws F) where
  -- ---- the length
  flagged-length : (s : List ℕ) (f : Fault) → length (with_flag_in F s f) ≡ length s
  flagged-length s f = by (ℕ_discrete (length s) F.size)
    where
      by : Dec (length s ≡ F.size) → length (with_flag_in F s f) ≡ length s
      by (yes e) = ap length (Effects.flagged F L s f e) ∙ Effects.after-length F L s (Effect.flag f)
      by (no h) = ap length (Effects.not-flagged F L s f h)

  same_length : (s : List ℕ) (b : Bank) (i : ℕ) (v : Value) → length (store_in F s b i v) ≡ length s
  same_length s b i v = by (ℕ_discrete (length s) F.size)
    where
      by : Dec (length s ≡ F.size) → length (store_in F s b i v) ≡ length s
      by (yes e) = ap length (Effects.stored F L s b i v e) ∙ Effects.after-length F L s (storing b i v)
      by (no h) = ap length (Effects.not-stored F L s b i v h)

  -- ---- what is read
  read_kept : (s t : List ℕ) (c : Bank) (j : ℕ) → length t ≡ length s → (length s ≡ F.size → j < (layout_of c).elements → F.get t c j ≡ F.get s c j)
      → read_in F t c j ≡ read_in F s c j
  read_kept s t c j l h = rw l (by (has_cell_in F s c j) (λ g. h (has-size F s c j g) (has-element F s c j g)))
    where
      by : (x : Bool) → (T x → F.get t c j ≡ F.get s c j)
          → cond x (cell_value c (F.get t c j)) (Outcome.Stopped IndexError) ≡ cond x (cell_value c (F.get s c j)) (Outcome.Stopped IndexError)
      by true u = ap (cell_value c) (u tt)
      by false u = refl

  read_flagged : (s : List ℕ) (f : Fault) (c : Bank) (j : ℕ) → read_in F (with_flag_in F s f) c j ≡ read_in F s c j
  read_flagged s f c j =
      read_kept s (with_flag_in F s f) c j (flagged-length s f) (λ e g. ap (λ (t : List ℕ). F.get t c j) (Effects.flagged F L s f e) ∙ L.get_flag s f c j e g)

  read_other : (s : List ℕ) (b : Bank) (i : ℕ) (c : Bank) (j : ℕ) (v : Value) → Distinct b i c j → read_in F (store_in F s b i v) c j ≡ read_in F s c j
  read_other s b i c j v d =
      read_kept s (store_in F s b i v) c j (same_length s b i v)
      (λ e g. ap (λ (t : List ℕ). F.get t c j) (Effects.stored F L s b i v e) ∙ by e g (writes b i v))
    where
      by : length s ≡ F.size → j < (layout_of c).elements → {x : Effect} → Writes b i x → F.get (after F s x) c j ≡ F.get s c j
      by e g (Writes.cell {n} {h} {k}) = L.get_other s b i n c j e h g k d
      by e g (Writes.flag {f}) = L.get_flag s f c j e g

  read_stored : (s : List ℕ) (b : Bank) (i : ℕ) (v : Value) (p : ℕ) → T (has_cell_in F s b i) → Proper v → encode_cell b v ≡ Ok p
      → read_in F (store_in F s b i v) b i ≡ cell_value b p
  read_stored s b i v p h q e =
      let put : store_in F s b i v ≡ F.put s b i p = rw (is_true (has_cell_in F s b i) h, e) in
      let got = L.get_put s b i p (has-size F s b i h) (has-element F s b i h) (holdable b v p e) ∙ mod-eq_of_lt (below b v p q e) in
      rw (put, L.put_length s b i p, is_true (has_cell_in F s b i) h, got)

  read_back : (s : List ℕ) (b : Bank) (i : ℕ) (v : Value) → T (has_cell_in F s b i) → Representable b v → read_in F (store_in F s b i v) b i ≡ Outcome.Done v
  read_back s b i v h r =
      let p = represents r in
      read_stored s b i v p.pattern h p.proper p.written ∙ p.read

  -- ---- the flags
  flag_set : (s : List ℕ) (f : Fault) → length s ≡ F.size → get_or (with_flag_in F s f) (F.flag f) 0 ≡ 1
  flag_set s f e = rw (Effects.flagged F L s f e) (get_or-set_same s (F.flag f) 1 0 (rw e (L.flag_inside f)))

  flag_other : (s : List ℕ) (f g : Fault) → g ≢ f → get_or (with_flag_in F s f) (F.flag g) 0 ≡ get_or s (F.flag g) 0
  flag_other s f g n = by (ℕ_discrete (length s) F.size)
    where
      by : Dec (length s ≡ F.size) → get_or (with_flag_in F s f) (F.flag g) 0 ≡ get_or s (F.flag g) 0
      by (yes e) = rw (Effects.flagged F L s f e) (get_or-set_other s (F.flag f) (F.flag g) 1 0 (λ q. n (L.flag_apart g f q)))
      by (no h) = rw (Effects.not-flagged F L s f h)

  -- ---- what is written to distinct places commutes
  stores_commute : (s : List ℕ) (b : Bank) (i : ℕ) (v : Value) (c : Bank) (j : ℕ) (w : Value) → Distinct b i c j
      → store_in F (store_in F s b i v) c j w ≡ store_in F (store_in F s c j w) b i v
  stores_commute s b i v c j w d = by (ℕ_discrete (length s) F.size)
    where
      twice : length s ≡ F.size → (a : Bank) (k : ℕ) (x : Value) (e : Bank) (l : ℕ) (y : Value)
          → store_in F (store_in F s a k x) e l y ≡ after F (after F s (storing a k x)) (storing e l y)
      twice z a k x e l y =
          Effects.stored F L (store_in F s a k x) e l y (same_length s a k x ∙ z)
          ∙ ap (λ (t : List ℕ). after F t (storing e l y)) (Effects.stored F L s a k x z)

      by : Dec (length s ≡ F.size) → store_in F (store_in F s b i v) c j w ≡ store_in F (store_in F s c j w) b i v
      by (yes e) = twice e b i v c j w ∙ Effects.commute F L s e (apart (writes b i v) (writes c j w) d) ∙ sym (twice e c j w b i v)
      by (no h) = rw (Effects.not-stored F L s b i v h, Effects.not-stored F L s c j w h, Effects.not-stored F L s b i v h)

  store_flag_commute : (s : List ℕ) (b : Bank) (i : ℕ) (v : Value) (f : Fault) → with_flag_in F (store_in F s b i v) f ≡ store_in F (with_flag_in F s f) b i v
  store_flag_commute s b i v f = by (ℕ_discrete (length s) F.size)
    where
      by : Dec (length s ≡ F.size) → with_flag_in F (store_in F s b i v) f ≡ store_in F (with_flag_in F s f) b i v
      by (yes e) =
          Effects.flagged F L (store_in F s b i v) f (same_length s b i v ∙ e) ∙ ap (λ (t : List ℕ). set t (F.flag f) 1) (Effects.stored F L s b i v e)
          ∙ Effects.commute F L s e (apart-flag (storing b i v) f)
          ∙ sym
          (Effects.stored F L (with_flag_in F s f) b i v (flagged-length s f ∙ e) ∙ ap (λ (t : List ℕ). after F t (storing b i v)) (Effects.flagged F L s f e))
      by (no h) = rw (Effects.not-stored F L s b i v h, Effects.not-flagged F L s f h, Effects.not-stored F L s b i v h)

  flags_commute : (s : List ℕ) (f g : Fault) → with_flag_in F (with_flag_in F s f) g ≡ with_flag_in F (with_flag_in F s g) f
  flags_commute s f g = by (ℕ_discrete (length s) F.size)
    where
      twice : length s ≡ F.size → (x y : Fault) → with_flag_in F (with_flag_in F s x) y ≡ set (set s (F.flag x) 1) (F.flag y) 1
      twice e x y = Effects.flagged F L (with_flag_in F s x) y (flagged-length s x ∙ e) ∙ ap (λ (t : List ℕ). set t (F.flag y) 1) (Effects.flagged F L s x e)

      by : Dec (length s ≡ F.size) → with_flag_in F (with_flag_in F s f) g ≡ with_flag_in F (with_flag_in F s g) f
      by (yes e) = twice e f g ∙ Effects.commute F L s e (apart-flag (Effect.flag f) g) ∙ sym (twice e g f)
      by (no h) = rw (Effects.not-flagged F L s f h, Effects.not-flagged F L s g h, Effects.not-flagged F L s f h)

  pub memory-laws-of : MemoryLaws F
  memory-laws-of =
      record {
        read_stored = read_stored;
        read_other = read_other;
        read_flagged = read_flagged;
        holdable = holdable;
        same_length = same_length;
        read_proper = λ s b i h. read_proper F L s b h i;
        read-kind = read-kind F;
        indexed_proper = λ s b v h. indexed_proper F L s b h v;
        indexed-kind = indexed-kind F;
        read_back = read_back;
        flag_set = flag_set;
        flag_other = flag_other;
        stores_commute = stores_commute;
        store_flag_commute = store_flag_commute;
        flags_commute = flags_commute;
      }
