-- Real sums: an infinity stays, so the sum settled at each cell is the sum settled once.
use mathlib.Core.Path.{◌≡◌, refl, sym, ap, subst, ◌∙◌}
use mathlib.Core.Bool.{Bool}
use mathlib.Core.List.{List, [], ◌∷◌}
use Prim.Native.Nat.{ℕ, suc, ◌+◌}
use native.Mathlib.Omega.{arith}
use lib.Dec.{T}
use lib.ListN.{length}
use lib.Ieee.{Float, nan, inf, fin, binary32, add}
use lib.Ieee.Scale.{finite}
use Rattle.reals.specs.declared.ArithOp.TheVariants.{Add}
use Rattle.values.specs.declared.Value.{Value}
use Rattle.values.specs.declared.Value.TheVariants.{Int, Real}
use Rattle.values.specs.declared.Outcome.{Outcome}
use Rattle.values.specs.declared.Fault.TheVariants.{Overflow}
use Rattle.values.specs.declared.Outcome.TheVariants.{Done, Stopped}
use Rattle.values.specs.Singles.{settle}
use Rattle.operators.specs.Operators.{as_real, arith_rule}
use Rattle.totals.specs.declared.Visited.{Visited}
use Rattle.totals.specs.Totals.{then, visiting, fold_cells}
use Rattle.totals.specs.Laws.{added_up, AllFinite, AllRead}

-- one finite single more
kept-infinity : (s : Bool) (x : Float) → T (finite x) → add binary32 (inf s) x ≡ inf s
unfolding add
kept-infinity s nan t = absurd t
kept-infinity s (inf r) t = absurd t
kept-infinity s (fin r m e) t = refl

pub infinite_stays : (s : Bool) (xs : List Float) → AllFinite xs → added_up (inf s) xs ≡ inf s
infinite_stays s [] AllFinite.none = refl
infinite_stays s (x ∷ xs) (AllFinite.more t h) = ap (λ (y : Float). added_up y xs) (kept-infinity s x t) ∙ infinite_stays s xs h

nan-stays : (xs : List Float) → added_up nan xs ≡ nan
unfolding add
nan-stays [] = refl
nan-stays (x ∷ xs) = nan-stays xs

pub real-added : (s : Float) (c : Value) → arith_rule Add (Real s) c ≡ settle (add binary32 s (as_real c))
real-added s (Int z) = refl
real-added s (Real x) = refl

module _ (read : ℕ → Outcome) where
  abbrev Sum : Float → ℕ → ℕ → Outcome
  Sum s i n = (fold_cells read (arith_rule Add) (Real s) i n).result

  one_more : (s : Float) (i n : ℕ) (c : Value) → read i ≡ Done c
      → Sum s i (suc n) ≡ (visiting (settle (add binary32 s (as_real c))) (λ v. fold_cells read (arith_rule Add) v (suc i) n)).result
  unfolding fold_cells
  one_more s i n c q =
      ap (λ (r : Outcome). (visiting (then r (arith_rule Add (Real s))) (λ v. fold_cells read (arith_rule Add) v (suc i) n)).result) q
      ∙ ap (λ (r : Outcome). (visiting r (λ v. fold_cells read (arith_rule Add) v (suc i) n)).result) (real-added s c)

  -- from a sum that is still finite
  pub settled-from : (s : Float) (i : ℕ) (xs : List Float) → T (finite s) → AllRead read i xs → AllFinite xs → Sum s i (length xs) ≡ settle (added_up s xs)
  unfolding fold_cells
  settled-from (fin r m e) i [] t AllRead.none AllFinite.none = refl
  settled-from nan i [] t AllRead.none AllFinite.none = absurd t
  settled-from (inf r) i [] t AllRead.none AllFinite.none = absurd t
  settled-from s i (_ ∷ xs) t (AllRead.more {c} q h) (AllFinite.more u g) =
      one_more s i (length xs) c q ∙ go (add binary32 s (as_real c)) (λ y. settled-from y (suc i) xs)
    where
      go : (y : Float) → ((z : Float) → T (finite z) → AllRead read (suc i) xs → AllFinite xs → Sum z (suc i) (length xs) ≡ settle (added_up z xs))
          → (visiting (settle y) (λ v. fold_cells read (arith_rule Add) v (suc i) (length xs))).result ≡ settle (added_up y xs)
      go nan ih = ap settle (sym (nan-stays xs))
      go (inf b) ih = ap settle (sym (infinite_stays b xs g))
      go (fin b m e) ih = ih (fin b m e) tt h g

  -- the sum becomes infinite at the cell c, with n cells behind it
  pub stops-from : (s : Float) (i : ℕ) (xs : List Float) (c : Value) (b : Bool) (n : ℕ) → AllRead read i xs → AllFinite xs → T (finite (added_up s xs))
      → read (i + length xs) ≡ Done c → add binary32 (added_up s xs) (as_real c) ≡ inf b
      → fold_cells read (arith_rule Add) (Real s) i (suc (length xs + n)) ≡ record { result = Stopped Overflow; cells = suc (length xs) }
  unfolding fold_cells
  stops-from s i [] c b n AllRead.none AllFinite.none t q e =
      let z : i ≡ i + 0 = omega arith in
      let rest : Value → Visited = λ v. fold_cells read (arith_rule Add) v (suc i) (0 + n) in
      ap (λ (r : Outcome). visiting (then r (arith_rule Add (Real s))) rest) (ap read z ∙ q)
      ∙ ap (λ (r : Outcome). visiting r rest) (real-added s c ∙ ap settle e)
  stops-from s i (_ ∷ xs) c b n (AllRead.more {c = d} q h) (AllFinite.more u g) t r e =
      let z : suc (length xs) + n ≡ suc (length xs + n) = omega arith in
      let w : suc i + length xs ≡ i + suc (length xs) = omega arith in
      ap (λ (m : ℕ). fold_cells read (arith_rule Add) (Real s) i (suc m)) z
      ∙ ap (λ (o : Outcome). visiting (then o (arith_rule Add (Real s))) rest) q
      ∙ ap (λ (o : Outcome). visiting o rest) (real-added s d)
      ∙ go (add binary32 s (as_real d)) t e (λ y v k. stops-from y (suc i) xs c b n h g v (ap read w ∙ r) k)
    where
      rest : Value → Visited
      rest v = fold_cells read (arith_rule Add) v (suc i) (suc (length xs + n))

      go : (y : Float) → T (finite (added_up y xs)) → add binary32 (added_up y xs) (as_real c) ≡ inf b
          → ((z : Float) → T (finite (added_up z xs)) → add binary32 (added_up z xs) (as_real c) ≡ inf b
          → rest (Real z) ≡ record { result = Stopped Overflow; cells = suc (length xs) })
          → visiting (settle y) rest ≡ record { result = Stopped Overflow; cells = suc (suc (length xs)) }
      go nan v w ih = absurd (subst (λ (z : Float). T (finite z)) (nan-stays xs) v)
      go (inf a) v w ih = absurd (subst (λ (z : Float). T (finite z)) (infinite_stays a xs g) v)
      go (fin a m k) v w ih = ap (λ (x : Visited). record { result = x.result; cells = suc x.cells }) (ih (fin a m k) v w)
