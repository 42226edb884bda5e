-- Lists one after the other: by induction on the first.
use mathlib.Core.Path.{◌≡◌, refl, sym, ap, ◌∙◌}
use mathlib.Core.Bool.{Bool, true, false}
use mathlib.Core.List.{List, [], ◌∷◌, ◌++◌, append_assoc}
use Prim.Native.Nat.{ℕ, zero, suc, ◌+◌, ◌-◌, ◌*◌, ◌≤◌}
use native.Mathlib.Omega.{arith}
use lib.Dec.{ltb}
use lib.ListN.{length, get_or, take, drop, replicate, length-append, length-replicate}
use lib.Seq.{take_at}
use borrow.Author.Tests.{le-ltb, ltb-false}
use Rattle.operations.specs.Operations.{report_of}
use Rattle.list_laws.specs.Running.{Listed, formulas_of, Buffers, stepped, answered, after, answers_of, most_listed, ListRun, ran_list}
use Rattle.list_laws.specs.Theorems.{run_in_turn}

module _ (tick : ℕ) where
  pub answers-length : (es : List Listed) (s : Buffers) → length (answers_of tick es s) ≡ length es
  answers-length [] s = refl
  answers-length (e ∷ es) s = omega (arith, answers-length es (stepped tick e s))

  pub forty : (es : List Listed) (s : Buffers) → length (ran_list tick es s).answers ≡ most_listed
  forty es s = by (ltb most_listed (length es)) refl
    where
      by : (t : Bool) → ltb most_listed (length es) ≡ t → length (ran_list tick es s).answers ≡ most_listed
      by true q = rw q
      by false q =
          let few : length es ≤ most_listed = ltb-false most_listed (length es) q in
          let size = length-append (answers_of tick es s) (replicate (most_listed - length es) 0) in
          rw q (omega (arith, few, size, answers-length es s, length-replicate {A = ℕ} (most_listed - length es) 0))

  pub each : (xs ys : List Listed) (e : Listed) (s : Buffers)
      → get_or (answers_of tick (xs ++ e ∷ ys) s) (length xs) 0 ≡ (report_of (answered tick e (after tick xs s))).answer
  each [] ys e s = refl
  each (x ∷ xs) ys e s = each xs ys e (stepped tick x s)

  pub joined : (xs ys : List Listed) (s : Buffers)
      → (after tick (xs ++ ys) s ≡ after tick ys (after tick xs s))
      × (answers_of tick (xs ++ ys) s ≡ answers_of tick xs s ++ answers_of tick ys (after tick xs s))
  joined [] ys s = (refl, refl)
  joined (x ∷ xs) ys s =
      let rest = joined xs ys (stepped tick x s) in
      (rest.0, ap (λ (l : List ℕ). (report_of (answered tick x s)).answer ∷ l) rest.1)

  -- of at most forty
  abbrev done : List ℕ → Buffers → ListRun
  done answers s = record { answer = 0; answers = answers; buffers = s }

  abbrev ran : List Listed → Buffers → ListRun
  ran es s = done (answers_of tick es s ++ replicate (most_listed - length es) 0) (after tick es s)

  ran-is : (es : List Listed) (s : Buffers) → length es ≤ most_listed → ran_list tick es s ≡ ran es s
  ran-is es s h = rw (le-ltb most_listed (length es) h)

  used : (es : List Listed) (s : Buffers) (l : List ℕ) → take (length es) (answers_of tick es s ++ l) ≡ answers_of tick es s
  used es s l = take_at (answers_of tick es s) l (length es) (answers-length es s)

  -- the answers that are used, and the zeros behind them
  in-turn : (xs ys : List Listed) (s : Buffers) (zeros : List ℕ) (one other : ListRun) → one ≡ ran xs s → other ≡ ran ys (after tick xs s)
      → done (take (length xs) one.answers ++ (take (length ys) other.answers ++ zeros)) other.buffers
      ≡ done (answers_of tick xs s ++ (answers_of tick ys (after tick xs s) ++ zeros)) (after tick ys (after tick xs s))
  in-turn xs ys s zeros one other p q =
      let r = after tick xs s in
      ap (λ (x : ListRun). done (take (length xs) x.answers ++ (take (length ys) other.answers ++ zeros)) other.buffers) p
      ∙ ap (λ (x : ListRun). done (take (length xs) (ran xs s).answers ++ (take (length ys) x.answers ++ zeros)) x.buffers) q
      ∙ ap (λ (l : List ℕ). done (l ++ (take (length ys) (ran ys r).answers ++ zeros)) (after tick ys r)) (used xs s (replicate (most_listed - length xs) 0))
      ∙ ap (λ (l : List ℕ). done (answers_of tick xs s ++ (l ++ zeros)) (after tick ys r)) (used ys r (replicate (most_listed - length ys) 0))

  pub lists : (xs ys : List Listed) (s : Buffers) → length xs + length ys ≤ most_listed → ran_list tick (xs ++ ys) s ≡ run_in_turn tick xs ys s
  lists xs ys s h =
      let total : length (xs ++ ys) ≡ length xs + length ys = length-append xs ys in
      let r = after tick xs s in
      let zeros : List ℕ = replicate (most_listed - (length xs + length ys)) 0 in
      let first : ran_list tick xs s ≡ ran xs s = ran-is xs s (omega arith) in
      let second : ran_list tick ys (ran_list tick xs s).buffers ≡ ran ys r =
      ap (λ (x : ListRun). ran_list tick ys x.buffers) first ∙ ran-is ys r (omega arith) in
      ran-is (xs ++ ys) s (omega (arith, total))
      ∙ ap (λ (n : ℕ). done (answers_of tick (xs ++ ys) s ++ replicate (most_listed - n) 0) (after tick (xs ++ ys) s)) total
      ∙ ap (λ (l : List ℕ). done (l ++ zeros) (after tick (xs ++ ys) s)) (joined xs ys s).1
      ∙ ap (done ((answers_of tick xs s ++ answers_of tick ys r) ++ zeros)) (joined xs ys s).0
      ∙ ap (λ (l : List ℕ). done l (after tick ys r)) (append_assoc (answers_of tick xs s) (answers_of tick ys r) zeros)
      ∙ sym (in-turn xs ys s zeros (ran_list tick xs s) (ran_list tick ys (ran_list tick xs s).buffers) first second)

pub tables : (a b texts : List ℕ) (k : ℕ) → length a ≡ 4 * k → formulas_of (a ++ b) texts ≡ formulas_of a texts ++ formulas_of b texts
tables [] b texts k h = refl
tables (p ∷ []) b texts k h = absurd (omega arith)
tables (p ∷ n ∷ []) b texts k h = absurd (omega arith)
tables (p ∷ n ∷ q ∷ []) b texts k h = absurd (omega arith)
tables (p ∷ n ∷ q ∷ l ∷ a) b texts zero h = absurd (omega arith)
tables (p ∷ n ∷ q ∷ l ∷ a) b texts (suc k) h =
    ap (λ (es : List Listed). record { target = take n (drop p texts); text = take l (drop q texts) } ∷ es) (tables a b texts k (omega arith))
