-- One turn after the other: the formulas before stand run, with their answers in the first places.
use mathlib.Core.Path.{◌≡◌, refl, sym, ap, subst, ◌∙◌}
use mathlib.Core.List.{List, [], ◌∷◌, ◌++◌, append-nil, append_assoc}
use Prim.Native.Nat.{ℕ, suc, ◌+◌, ◌-◌, ◌*◌, ◌/◌, ◌≤◌, ◌<◌}
use native.Mathlib.Omega.{arith}
use lib.ListN.{length, take, drop, get_or, set, replicate, length-append, length-drop}
use lib.Seq.{drop-drop, set_at}
use borrow.Author.Tests.{lt-ltb, le-ltb}
use Rattle.delivery.specs.declared.Answer.{Answer}
use Rattle.operations.specs.Operations.{report_of}
use Rattle.list_laws.specs.Running.{Listed, formulas_of, Buffers, stepped, answered, after, answers_of, most_listed, ListRun, ran_list}
use Rattle.list_laws.specs.Independence.{SameLengths}
use Rattle.list_laws.proofs.Laws.{list-theorems}
use Rattle.list_laws.proofs.Joining.{answers-length}

-- ---- the table
first-four : (ws texts : List ℕ) → 4 ≤ length ws
    → formulas_of ws texts
    ≡ record { target = take (get_or ws 1 0) (drop (get_or ws 0 0) texts); text = take (get_or ws 3 0) (drop (get_or ws 2 0) texts) } ∷ formulas_of (drop 4 ws) texts
first-four [] texts h = absurd (omega arith)
first-four (p ∷ []) texts h = absurd (omega arith)
first-four (p ∷ n ∷ []) texts h = absurd (omega arith)
first-four (p ∷ n ∷ q ∷ []) texts h = absurd (omega arith)
first-four (p ∷ n ∷ q ∷ k ∷ ws) texts h = refl

too_few : (ws texts : List ℕ) → length ws < 4 → formulas_of ws texts ≡ []
too_few [] texts h = refl
too_few (p ∷ []) texts h = refl
too_few (p ∷ n ∷ []) texts h = refl
too_few (p ∷ n ∷ q ∷ []) texts h = refl
too_few (p ∷ n ∷ q ∷ k ∷ ws) texts h = absurd (omega arith)

count-is : (ws texts : List ℕ) → length (formulas_of ws texts) ≡ length ws / 4
count-is [] texts = refl
count-is (p ∷ []) texts = refl
count-is (p ∷ n ∷ []) texts = refl
count-is (p ∷ n ∷ q ∷ []) texts = refl
count-is (p ∷ n ∷ q ∷ k ∷ ws) texts = omega (arith, count-is ws texts)

-- the formula k as it is cut out of the texts, by its four words
abbrev IsCut : List ℕ → List ℕ → ℕ → List ℕ → Type 0
IsCut ws texts i t = t ≡ take (get_or ws (i + 1) 0) (drop (get_or ws i 0) texts)

next-listed : (places texts : List ℕ) (k : ℕ) {t e : List ℕ} → k < length places / 4
    → IsCut (drop (4 * k) places) texts 0 t → IsCut (drop (4 * k) places) texts 2 e
    → formulas_of (drop (4 * k) places) texts ≡ record { target = t; text = e } ∷ formulas_of (drop (4 * (k + 1)) places) texts
next-listed places texts k {t} {e} h p q =
    let four : 4 * k + 4 ≡ 4 * (k + 1) = omega arith in
    first-four (drop (4 * k) places) texts (omega (arith, length-drop (4 * k) places))
    ∙ both (sym p) (sym q) (ap (λ (l : List ℕ). formulas_of l texts) (drop-drop 4 (4 * k) places ∙ ap (λ (i : ℕ). drop i places) four))
  where
    both : {t t' e e' : List ℕ} {l l' : List Listed} → t ≡ t' → e ≡ e' → l ≡ l'
        → ◌≡◌ {A = List Listed} (record { target = t; text = e } ∷ l) (record { target = t'; text = e' } ∷ l')
    both p q r = cc

-- the answer of one formula, and what it leaves
abbrev Stepped : ℕ → Listed → Buffers → Answer → List ℕ → List ℕ → List ℕ → Type 0
Stepped tick e s a m c i = (a ≡ answered tick e s) × ((m ≡ (stepped tick e s).memory) × ((c ≡ (stepped tick e s).code) × (i ≡ (stepped tick e s).index)))

-- ---- k formulas were run
module _ (tick : ℕ) (places texts : List ℕ) (s : Buffers) where
  pub record Ran (k : ℕ) (answers : List ℕ) (r : Buffers) : Type 0 where
    pub before : List Listed
    pub whole : formulas_of places texts ≡ before ++ formulas_of (drop (4 * k) places) texts
    pub count : length before ≡ k
    pub left : r ≡ after tick before s
    pub answers-are : answers ≡ answers_of tick before s ++ replicate (most_listed - k) 0

  pub start : Ran 0 (replicate 40 0) s
  start = record { before = []; whole = refl; count = refl; left = refl; answers-are = refl }

  pub next : {k n : ℕ} {t e answers m c i m' c' i' : List ℕ} {a : Answer} → k < length places / 4 → length places / 4 ≤ 40
      → Ran k answers (record { memory = m; code = c; index = i })
      → IsCut (drop (4 * k) places) texts 0 t → IsCut (drop (4 * k) places) texts 2 e
      → Stepped tick (record { target = t; text = e }) (record { memory = m; code = c; index = i }) a m' c' i' → n ≡ (report_of a).answer
      → Ran (k + 1) (set answers k n) (record { memory = m'; code = c'; index = i' })
  next {k} {n} {t} {e} {answers} {m} {c} {i} {m'} {c'} {i'} {a} h few before u v p w =
      let x : Listed = record { target = t; text = e } in
      let r : Buffers = record { memory = m; code = c; index = i } in
      let r' : Buffers = record { memory = m'; code = c'; index = i' } in
      let q : r' ≡ stepped tick x r = three p.1.0 p.1.1.0 p.1.1.1 in
      let xs = before.before in
      let more = (list-theorems tick).joined xs (x ∷ []) s in
      let unused : List ℕ = replicate (most_listed - (k + 1)) 0 in
      let zeros : replicate (most_listed - k) 0 ≡ 0 ∷ unused = ap (λ (j : ℕ). replicate j 0) (less h few) in
      let number : n ≡ (report_of (answered tick x (after tick xs s))).answer =
      w ∙ ap (λ (b : Answer). (report_of b).answer) (p.0 ∙ ap (answered tick x) before.left) in
      record {
        before = xs ++ (x ∷ []);
        whole =
            before.whole
            ∙ ap (λ (l : List Listed). xs ++ l) (next-listed places texts k h u v)
            ∙ sym (append_assoc xs (x ∷ []) (formulas_of (drop (4 * (k + 1)) places) texts));
        count = length-append xs (x ∷ []) ∙ ap (λ (j : ℕ). j + 1) before.count;
        left = q ∙ ap (stepped tick x) before.left ∙ sym more.0;
        answers-are =
            ap (λ (l : List ℕ). set l k n) (before.answers-are ∙ ap (λ (l : List ℕ). answers_of tick xs s ++ l) zeros)
            ∙ set_at (answers_of tick xs s) 0 unused n k (answers-length tick xs s ∙ before.count)
            ∙ ap (λ (j : ℕ). answers_of tick xs s ++ j ∷ unused) number
            ∙ sym (append_assoc (answers_of tick xs s) ((report_of (answered tick x (after tick xs s))).answer ∷ []) unused)
            ∙ ap (λ (l : List ℕ). l ++ unused) (sym more.1);
      }
    where
      three : {m m' c c' i i' : List ℕ} → m ≡ m' → c ≡ c' → i ≡ i'
          → ◌≡◌ {A = Buffers} (record { memory = m; code = c; index = i }) (record { memory = m'; code = c'; index = i' })
      three p q r = cc

      less : k < length places / 4 → length places / 4 ≤ 40 → most_listed - k ≡ suc (most_listed - (k + 1))
      less h m = omega arith

  -- the buffers keep their lengths
  pub long : {k : ℕ} {answers : List ℕ} {r : Buffers} → Ran k answers r → SameLengths r s
  long i = subst (λ (b : Buffers). SameLengths b s) (sym i.left) ((list-theorems tick).same_lengths i.before s)

  -- ---- the result
  pub gives : {n : ℕ} {answers m c i : List ℕ}
      → ran_list tick (formulas_of places texts) s ≡ record { answer = n; answers = answers; buffers = record { memory = m; code = c; index = i } }
      → let x = ran_list tick (formulas_of places texts) s in
      (n ≡ x.answer) × ((answers ≡ x.answers) × ((m ≡ x.buffers.memory) × ((c ≡ x.buffers.code) × (i ≡ x.buffers.index))))
  gives e = (
    ap (λ (x : ListRun). x.answer) (sym e),
    (
      ap (λ (x : ListRun). x.answers) (sym e),
      (ap (λ (x : ListRun). x.buffers.memory) (sym e), (ap (λ (x : ListRun). x.buffers.code) (sym e), ap (λ (x : ListRun). x.buffers.index) (sym e))),
    ),
  )

  abbrev done : List ℕ → Buffers → ListRun
  done answers r = record { answer = 0; answers = answers; buffers = r }

  pub over : 40 < length places / 4 → ran_list tick (formulas_of places texts) s ≡ record { answer = 20; answers = replicate 40 0; buffers = s }
  over h = rw (lt-ltb 40 (length (formulas_of places texts)) (omega (arith, count-is places texts)))

  pub end : {k : ℕ} {answers : List ℕ} {r : Buffers} → length places / 4 ≤ 40 → length places / 4 ≤ k → Ran k answers r
      → ran_list tick (formulas_of places texts) s ≡ record { answer = 0; answers = answers; buffers = r }
  end {k} {answers} {r} m h i =
      let none : formulas_of (drop (4 * k) places) texts ≡ [] = too_few (drop (4 * k) places) texts (omega (arith, length-drop (4 * k) places)) in
      let all : formulas_of places texts ≡ i.before = i.whole ∙ ap (λ (l : List Listed). i.before ++ l) none ∙ append-nil i.before in
      let few : length i.before ≤ 40 = omega (arith, count-is places texts, ap length all) in
      ap (λ (es : List Listed). ran_list tick es s) all
      ∙ fits i.before few
      ∙ ap (λ (j : ℕ). done (answers_of tick i.before s ++ replicate (most_listed - j) 0) (after tick i.before s)) i.count
      ∙ ap (λ (l : List ℕ). done l (after tick i.before s)) (sym i.answers-are)
      ∙ ap (done answers) (sym i.left)
    where
      fits : (es : List Listed) → length es ≤ 40
          → ran_list tick es s ≡ record { answer = 0; answers = answers_of tick es s ++ replicate (most_listed - length es) 0; buffers = after tick es s }
      fits es h = rw (le-ltb 40 (length es) h)
